use Rattle.std.proofs.Common.{rules, ◌≡◌, ◌≤◌, ℕ, ◌+◌, ◌-◌, arith, refl, ap, sym, ◌∙◌, Some}
use Rattle.std.specs.Prelude.{slice_get}
use Rattle.std.proofs.lemmas.Option.{slice_get_read, slice_get_within}
use Rattle.prodash_base.specs.Rows.{row_of}
use Rattle.prodash_line.specs.Frames.{first_width}
use Rattle.prodash_line.specs.plumbing.KeptLines.{drawn_in}
use Rattle.prodash_line.specs.plumbing.LineCopying.{gone_of}
use Rattle.prodash_line.proofs.KeptLines.{written_over}
use Rattle.prodash_line.proofs.LineCopying.{byte_left, first_left}
use Rattle.prodash_line.proofs.render.line.draw.line_copier.LineCopier.size_of.Goals as goal

pub returns : goal.returns
returns c =
    let copier = c.args.self.now in
    let size = c.in_ok-size.size in
    let found = c.in_ok-row.ensures.lookup in
    let row = c.in_ok-row.row.now in
    let line = c.in_ok-line.line.now in
    let start : ℕ = c.args.start in
    let is : slice_get copier.lines.1 0 ≡ Some line = ap (λ ls. slice_get ls 0) (sym c.left.ensures) ∙ sym c.in_ok-line.ensures.value in
    let some = slice_get_within copier.lines.1 0 line is in
    let gone : ℕ = gone_of copier in
    let same : c.args.gone ≡ gone = c.requires.gone in
    let first = c.requires.left in
    let before : gone ≤ start = omega (arith, same, first) in
    let end : ℕ = start + size.length in
    let after = c.in_ok-after.ensures.lookup in
    let feed : slice_get copier.bytes.1 (end - gone) ≡ Some 10 =
    ap (λ k. slice_get copier.bytes.1 (end - k)) (sym same) ∙ ap (λ bs. slice_get bs (end - c.args.gone)) (sym c.left-2.ensures)
    ∙ slice_get_read c.left-2.result.now _ (end - c.args.gone) c.in_ok-after.after.now refl after.3.0 after.1 ∙ ap Some c.if-after-ne10.false in
    let within = slice_get_within copier.bytes.1 (end - gone) 10 feed in
    record {
      row = row;
      found = slice_get_read c.args.rows.now _ c.args.n row refl found.3.0 found.1;
      line = record {
        line = omega (arith, some);
        bound = (let b = c.in_ok-size.ensures.start in let l = c.in_ok-size.ensures.length in omega (arith, b, l));
        fits = omega (arith, within, before);
        written = λ options midpoint left.
            let own = c.in_ok-size.ensures.line options midpoint left.whole (first_left options midpoint (drawn_in copier.before) copier.lines.1 copier.bytes.1 copier.end line left is) in
            let byte = byte_left options midpoint (drawn_in copier.before) copier.lines.1 copier.bytes.1 copier.end end 10 left (let le : gone ≤ end = omega (arith, before) in le) feed in
            let wide : first_width c.args.widths.now ≤ size.width = (let first = c.split_first_width-old_width.ensures.first in let w = c.in_ok-size.ensures.wide in omega (arith, first, w)) in
            written_over options midpoint (row_of row) (first_width c.args.widths.now) left.whole start end size own refl byte wide;
      };
      index = search rules;
    }
