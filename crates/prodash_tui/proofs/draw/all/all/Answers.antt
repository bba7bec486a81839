use Rattle.std.proofs.Common.{◌≡◌, Bool, true, false, cond, List, ℕ, length, sym, ap, ◌∙◌, subst}
use Rattle.std.specs.Prelude.{OnOk, string_bytes}
use Rattle.prodash_core.specs.declared.render.tui.event.Rect.{Rect}
use Rattle.prodash_core.specs.declared.render.tui.state.State.{State}
use Rattle.prodash_tui.specs.declared.draw.bounds.Bounds.{Bounds}
use Rattle.prodash_tui.specs.declared.draw.input.Input.{Input}
use Rattle.prodash_tui.specs.Dashboards.{bounds_of, is_small, with_panes, with_task_pane, with_window}
use Rattle.prodash_tui.specs.Grids.{Sheet}
use Rattle.prodash_tui.proofs.draw.all.all.Goals as goal

-- the window of a dashboard
abbrev window_of : State → Input → Rect → Sheet → Sheet
window_of s input area g = with_window (bounds_of s (length input.messages.now) area).window (string_bytes s.title) g

window_as : (b c : Bounds) (title other : List ℕ) (g drawn : Sheet) → drawn ≡ with_window b.window title g → b ≡ c → title ≡ other → drawn ≡ with_window c.window other g
window_as b c title other g drawn e f t = e ∙ ap (λ (x : Bounds). with_window x.window title g) f ∙ ap (λ (l : List ℕ). with_window c.window l g) t

-- a choice by a test that is known
chosen : (t u : Bool) (x y : Sheet) → t ≡ u → cond u x y ≡ cond t x y
chosen t u x y e = ap (λ (b : Bool). cond b x y) (sym e)

pub returns-then-is_small-clause-ok : goal.returns-then-is_small-clause-ok
returns-then-is_small-clause-ok c =
    let s = c.args.state.now in
    let input = c.args.input.now in
    let b = bounds_of s (length input.messages.now) c.args.bound in
    let window = window_of s input c.args.bound c.args.grid.now in
    let drawn = window_as c.bounds_of-bounds.result b c.as_str.result.now (string_bytes s.title) c.args.grid.now c.draw_window.new.grid c.draw_window.ensures c.bounds_of-bounds.ensures c.as_str.ensures.value in
    let small : is_small b.window ≡ true = sym (c.is_small.ensures ∙ ap (λ (x : Bounds). is_small x.window) c.bounds_of-bounds.ensures) ∙ c.if-is_small.true in
    drawn ∙ chosen (is_small b.window) true window (with_panes (with_task_pane c.args.rates.now input s.task_offset) s input b window) small

pub returns-clause-ok : goal.returns-clause-ok
returns-clause-ok c =
    let s = c.args.state.now in
    let input = c.args.input.now in
    let b = bounds_of s (length input.messages.now) c.args.bound in
    let window = window_of s input c.args.bound c.args.grid.now in
    let drawn = window_as c.bounds_of-bounds.result b c.as_str.result.now (string_bytes s.title) c.args.grid.now c.draw_window.new.grid c.draw_window.ensures c.bounds_of-bounds.ensures c.as_str.ensures.value in
    let large : is_small b.window ≡ false = sym (c.is_small.ensures ∙ ap (λ (x : Bounds). is_small x.window) c.bounds_of-bounds.ensures) ∙ c.if-is_small.false in
    let all = ap (λ (x : Bounds). with_panes (with_task_pane c.args.rates.now input s.task_offset) s input x c.draw_window.new.grid) c.bounds_of-bounds.ensures
    ∙ ap (with_panes (with_task_pane c.args.rates.now input s.task_offset) s input b) drawn
    ∙ chosen (is_small b.window) false window (with_panes (with_task_pane c.args.rates.now input s.task_offset) s input b window) large in
    subst (λ (g : Sheet). OnOk c.draw_panes.result (c.draw_panes.new.grid ≡ g)) all c.draw_panes.ensures.ok
