-- proofs/render/line/draw/line_copier/LineCopier/copy_run/Answers.antt
use Rattle.std.proofs.Common.{arith, rules, ◌≡◌, ◌<◌, ℕ, List, [], ◌∷◌, ◌+◌, ◌-◌, ◌++◌, length, take, None, ap, subst, sym, ◌∙◌, append_assoc, length-append, length-take-le}
use Rattle.std.proofs.lemmas.List.{append-nil}
use Rattle.std.proofs.lemmas.Option.{slice_get_within}
use Rattle.prodash_base.specs.Rows.{row_of}
use Rattle.prodash_line.specs.Frames.{first_width}
use Rattle.prodash_line.specs.declared.render.line.draw.latest_rows.RowLine.{RowLine}
use Rattle.prodash_line.specs.plumbing.KeptLines.{bytes_over, drawn_in, kept_line, untimed_line}
use Rattle.prodash_line.specs.plumbing.LineCopying.{IsLeft}
use Rattle.prodash_line.specs.plumbing.WrittenRows.{KeepsRun, left_at}
use Rattle.prodash_line.proofs.KeptLines.{run_more}
use Rattle.prodash_line.proofs.LineCopying.{left_below, left_run, run_skipped}
use Rattle.prodash_line.proofs.WrittenRows.{run_written}
use Rattle.prodash_line.proofs.render.line.draw.line_copier.LineCopier.copy_run.Goals as goal

pub loop-size-init : goal.loop-size-init
loop-size-init c =
    let new = c.go_on.new.self in
    let skips = c.go_on.ensures in
    let start : ℕ = c.gone-start.result in
    let none : start - start ≡ 0 = omega arith in
    let sum = c.saturating_add.ensures in
    let most = c.max-most.ensures in
    let left : length c.left.result.now ≡ length new.bytes.1 = ap length c.left.ensures in
    let fits = c.if-is_err.ensures.negation in
    let tried = c.try_from.ensures in
    let small : c.max-most.result < 4294967296 = search (rules, tried, fits) in
    record {
      written = c.len-written.ensures;
      start = c.gone-start.ensures;
      room = omega (arith, sum, most, left, small);
      begins = omega arith;
      ends = omega arith;
      index = omega arith;
      left = skips.left;
      run = run_skipped c.args.tracker.now c.args.levels c.args.rows.now (c.args.at.index, c.args.at.widths.now) c.args.self.now new c.args.drawn.now (new.bytes.0 ++ take (start - start) new.bytes.1) skips
          (ap (λ (k : ℕ). new.bytes.0 ++ take k new.bytes.1) none ∙ append-nil new.bytes.0 ∙ skips.bytes);
    }

pub loop-size-preserved : goal.loop-size-preserved
loop-size-preserved c =
    let found = c.in-Some.ensures in
    let size = c.in-Some.size in
    let known = c.loop-size.invariant in
    let copier = c.loop-size.self in
    let rows = c.args.rows.now in
    let start : ℕ = c.gone-start.result in
    let end : ℕ = c.loop-size.end in
    let n : ℕ = c.loop-size.n in
    let widths = c.loop-size.left.now in
    let replaced = c.replace_first.ensures in
    let fits = found.line.fits in
    let begins = known.begins in
    let ends = known.ends in
    let is_start = known.start in
    let index = known.index in
    let written = copier.bytes.0 ++ take (end - start) copier.bytes.1 in
    let run = length-take-le (end - start) copier.bytes.1 ends in
    let sum = length-append copier.bytes.0 (take (end - start) copier.bytes.1) in
    let before = known.written in
    let placed : length written ≡ c.len-written.result + (end - start) = omega (arith, before, run, sum) in
    let next : ℕ = end + (size.length + 1) in
    let more = take (next - start) copier.bytes.1 in
    record {
      written = before;
      start = is_start;
      room = known.room;
      begins = omega (arith, begins);
      ends = omega (arith, fits, is_start, begins);
      index = omega (arith, index);
      left = λ options midpoint h.
          subst (λ (ls : List RowLine). IsLeft options midpoint (drawn_in copier.before) ls copier.bytes.1 copier.end) (sym (ap (λ (ls : List RowLine × List RowLine). ls.1) replaced))
          (left_below options midpoint (drawn_in copier.before) copier.lines.1 copier.bytes.1 copier.end 1 (known.left options midpoint h));
      run = λ scene untimed levels left.
          let o = scene.options in
          let m = scene.past.now.midpoint in
          let h = known.left o m left in
          let own = found.line.written o m h in
          let part = bytes_over o (first_width widths) (untimed_line o m (row_of found.row, None)) in
          let far : next ≡ end + length part = ap (λ (k : ℕ). end + k) own.long in
          let longer : copier.bytes.0 ++ more ≡ written ++ part =
          ap (λ (t : List ℕ). copier.bytes.0 ++ t) (left_run o m (drawn_in copier.before) copier.lines.1 copier.bytes.1 copier.end start next h is_start
          ∙ run_more h.whole part start end next begins own.place far
          ∙ ap (λ (t : List ℕ). t ++ part) (sym (left_run o m (drawn_in copier.before) copier.lines.1 copier.bytes.1 copier.end start end h is_start)))
          ∙ sym (append_assoc copier.bytes.0 (take (end - start) copier.bytes.1) part) in
          subst (λ (ls : List RowLine). KeepsRun scene rows (left_at rows c.args.tracker.now (c.args.at.index, c.args.at.widths.now) c.args.self.now.bytes.0 c.args.drawn.now)
          (left_at rows c.args.tracker.now (n + 1, c.split_first_width.result.1.now) (copier.bytes.0 ++ more) (record c.loop-size.drawn { widths = c.push.new.self; midpoint = c.max-drawn.result }))
          c.args.self.now.lines.0 ls)
          (ap (λ (s : ℕ). copier.lines.0 ++ kept_line n s size ∷ []) placed ∙ ap (λ (line : RowLine). copier.lines.0 ++ line ∷ []) (sym c.new-line.ensures)
          ∙ sym (ap (λ (ls : List RowLine × List RowLine). ls.0) replaced))
          (run_written scene rows _ n widths c.split_first_width.result.1.now written (copier.bytes.0 ++ more) c.loop-size.drawn (record c.loop-size.drawn { widths = c.push.new.self; midpoint = c.max-drawn.result })
          c.args.self.now.lines.0 copier.lines.0 c.args.tracker.now found.row size untimed (levels ∙ search rules) (search rules) found.found own.own longer
          c.split_first_width.ensures.others c.in_ok-push.ensures.items (search rules) (search rules) (search rules)
          (known.run scene untimed levels left));
    }

pub loop-size-smaller : goal.loop-size-smaller
loop-size-smaller c =
    let found = c.in-Some.ensures in
    let within = slice_get_within c.args.rows.now c.loop-size.n found.row found.found in
    omega (arith, within)

pub new-line-requires-clause-start : goal.new-line-requires-clause-start
new-line-requires-clause-start c =
    let ends = c.loop-size.invariant.ends in
    let room = c.loop-size.invariant.room in
    omega (arith, ends, room)

pub new-line-requires-clause-length : goal.new-line-requires-clause-length
new-line-requires-clause-length c =
    let fits = c.in-Some.ensures.line.fits in
    let start = c.loop-size.invariant.start in
    let begins = c.loop-size.invariant.begins in
    let room = c.loop-size.invariant.room in
    omega (arith, fits, start, begins, room)

pub returns-clause-run : goal.returns-clause-run
returns-clause-run c = λ scene untimed levels left.
    let at = left_at c.args.rows.now c.args.tracker.now (c.args.at.index, c.args.at.widths.now) c.args.self.now.bytes.0 c.args.drawn.now in
    subst (λ (t : List ℕ). KeepsRun scene c.args.rows.now at (left_at c.args.rows.now c.args.tracker.now (c.loop-size.n, c.loop-size.left.now) t c.loop-size.drawn) c.args.self.now.lines.0 c.loop-size.self.lines.0)
    (ap (λ (bs : List ℕ × List ℕ). bs.0) (sym c.write_left.ensures)) (c.loop-size.invariant.run scene untimed levels left)
