use Rattle.std.proofs.Common.{rules, ◌≡◌, ℕ, List, ◌∷◌, [], ◌++◌, append-nil, ap, subst, sym, ◌∙◌, append_assoc}
use Rattle.prodash_line.specs.DrawnLines.{layout_of}
use Rattle.prodash_line.specs.Frames.{row_start}
use Rattle.prodash_line.specs.Lines.{Line, columns_of}
use Rattle.prodash_line.specs.Signs.{spelling}
use Rattle.prodash_line.specs.plumbing.OverwriteBytes.{overwrite_line_bytes}
use Rattle.prodash_line.specs.plumbing.RowWriting.{DrawsRow}
use Rattle.prodash_line.specs.plumbing.FrameWriting.{measured_line}
use Rattle.prodash_line.proofs.render.line.draw.frame.write_row.Goals as goal

abbrev line : goal.In_ok-push → Line
line c = measured_line c.args.scene.now c.args.row.now c.args.measured

written : (c : goal.In_ok-push) → DrawsRow c.args.scene.now.options c.args.scene.now.past.now.midpoint c.args.row.now c.args.measured c.args.out.now c.push_row.new.out
written c = subst (λ (n : ℕ). DrawsRow c.args.scene.now.options n c.args.row.now c.args.measured c.args.out.now c.push_row.new.out) c.midpoint-midpoint.ensures c.in_ok-own_midpoint.ensures.line

pub returns-clause-bytes : goal.returns-clause-bytes
returns-clause-bytes c =
    let out = c.args.out.now.bytes in
    let start = spelling (row_start (layout_of c.args.scene.now.options)) in
    let own = overwrite_line_bytes 0 (line c) in
    (c.in_ok-end_line_over.ensures.bytes _ _ _ (written c)).bytes ∙ append_assoc out start own ∙ ap (λ (t : List ℕ). out ++ (start ++ t)) (sym (append-nil own))

pub returns-clause-drawn : goal.returns-clause-drawn
returns-clause-drawn c =
    let wide : c.in_ok-end_line_over.field-0 ≡ columns_of (line c) = c.in_ok-end_line_over.ensures.width _ _ _ (written c) in
    record {
      widths = c.in_ok-push.ensures.items ∙ ap (λ (n : ℕ). c.args.drawn.now.widths.items ++ n ∷ []) wide;
      midpoint = search rules;
      rows_erased = search rules;
      action = search rules;
    }
