use Rattle.std.proofs.Common.{◌≡◌, ℕ, sym, subst}
use Rattle.std.specs.Prelude.{IfOk, OnOk}
use Rattle.prodash_tui.specs.Boards.{Board, frame_signs, framed, tree_in_frame}
use Rattle.prodash_tui.specs.plumbing.Appended.{Spells}
use Rattle.prodash_tui.proofs.dashboard.Dashboard.draw_frame.Goals as goal

pub returns-clause-ok : goal.returns-clause-ok
returns-clause-ok c =
    let signs = λ (s : Board). frame_signs s c.args.contents.now in
    subst (λ (s : Board). Spells c.draw_on-drawn.result c.args.out.now.items (signs s) c.draw_on-drawn.new.out.items) c.take_grid.ensures.same c.draw_on-drawn.ensures.ok

pub returns-clause-drawn : goal.returns-clause-drawn
returns-clause-drawn c =
    let contents = c.args.contents.now in
    let drawn = subst (λ (s : Board). OnOk c.draw_on-drawn.result (c.draw_on-drawn.new.self ≡ framed s contents)) c.take_grid.ensures.same c.draw_on-drawn.ensures.drawn in
    subst (λ (t : Board). OnOk c.draw_on-drawn.result (t ≡ framed c.args.self.now contents)) (sym c.self.view_is) drawn

pub returns-clause-tree : goal.returns-clause-tree
returns-clause-tree c =
    let contents = c.args.contents.now in
    subst (λ (s : Board). IfOk c.draw_on-drawn.result (λ (n : ℕ). n ≡ tree_in_frame s contents)) c.take_grid.ensures.same c.draw_on-drawn.ensures.tree
