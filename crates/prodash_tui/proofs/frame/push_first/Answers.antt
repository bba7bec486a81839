use Rattle.std.proofs.Common.{rules, ◌≡◌, ◌++◌, ap, ◌∙◌}
use Rattle.prodash_tui.specs.Frames.{first_frame}
use Rattle.prodash_tui.specs.Grids.{Sheet}
use Rattle.prodash_tui.specs.Signs.{spelling}
use Rattle.prodash_tui.specs.plumbing.Appended.{first_signs}
use Rattle.prodash_tui.specs.plumbing.GridInside.{sheet}
use Rattle.prodash_tui.proofs.SpelledSigns.{over_blank_grid}
use Rattle.prodash_tui.proofs.frame.push_first.Goals as goal

pub returns-clause-ok : goal.returns-clause-ok
returns-clause-ok c =
    let out = c.args.out.now.items in
    let g = c.after.inside in
    let appended : c.undo_if_refused.new.out.items ≡ out ++ spelling (first_signs g.rows.items) = search rules in
    appended
    ∙ ap (λ signs. out ++ spelling signs) (over_blank_grid (sheet g) (record { high = c.after.invariant.high; each = c.after.invariant.each }))
    ∙ ap (λ (after : Sheet). out ++ spelling (first_frame after)) c.after.view_is
