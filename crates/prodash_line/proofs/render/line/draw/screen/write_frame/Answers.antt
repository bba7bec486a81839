use Rattle.std.proofs.Common.{◌+◌, ◌++◌, take, append-nil, ap, sym, ◌∙◌, arith}
use Rattle.std.specs.Prelude.{true, false}
use Rattle.std.proofs.lemmas.Result.{err_from_is_err_and}
use Rattle.prodash_line.proofs.ScreenTaken.{takes_more, piece_of}
use Rattle.prodash_line.proofs.render.line.draw.screen.write_frame.Goals as goal

pub returns-in_err-done-clause-err : goal.returns-in_err-done-clause-err
returns-in_err-done-clause-err g c =
    let p = err_from_is_err_and c.from_residual.result c.from_residual.ensures.1 in
    let h = c.in_err-done.ensures.err in
    let t = takes_more (g.S.Screen.state c.args.screen.now).bytes (g.S.Screen.state c.loop-done.screen).bytes (g.S.Screen.state c.put.new.self).bytes c.args.frame.now _ c.loop-done.done c.min-size.result h.0
    c.loop-done.invariant.within c.loop-done.invariant.taken (omega arith) (piece_of c.loop-done.done c.min-size.result c.args.frame.now) h.1 h.2 in
    rw p.1 (record {
      some = grind (arith, c.loop-done-test.true);
      prefix = (c.loop-done.done + h.0, t.0, t.1);
      idle = λ b. let was = c.loop-done.invariant.was_broken b in
          (c.in_err-done.ensures.stays was.0).1 ∙ c.loop-done.invariant.taken ∙ ap (λ n. (g.S.Screen.state c.args.screen.now).bytes ++ take n c.args.frame.now) was.1 ∙ append-nil _;
      broken = sym {a = true} c.in_err-done.ensures.exact;
    })

pub loop-done-preserved : goal.loop-done-preserved
loop-done-preserved g c =
    let h = c.in_ok-done.ensures in
    let t = takes_more (g.S.Screen.state c.args.screen.now).bytes (g.S.Screen.state c.loop-done.screen).bytes (g.S.Screen.state c.put.new.self).bytes c.args.frame.now _ c.loop-done.done c.min-size.result c.in_ok-done.field-0
    c.loop-done.invariant.within c.loop-done.invariant.taken (omega arith) (piece_of c.loop-done.done c.min-size.result c.args.frame.now) h.ok.0 h.ok.1 in
    record {
      within = t.0;
      taken = t.1;
      is_broken = λ _. sym {a = false} h.exact;
      was_broken = λ b. let s = (h.stays (c.loop-done.invariant.was_broken b).0).0 in let e = h.exact in absurd (grind (arith, s, e));
    }
