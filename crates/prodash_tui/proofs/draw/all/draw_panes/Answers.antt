use Rattle.std.proofs.Common.{◌≡◌, List, ℕ, ap, ◌∙◌}
use Rattle.std.specs.Prelude.{string_bytes}
use Rattle.prodash_base.specs.Rows.{rows_of}
use Rattle.prodash_core.specs.declared.render.tui.event.Rect.{Rect}
use Rattle.prodash_core.specs.declared.render.tui.state.State.{State}
use Rattle.prodash_tui.specs.declared.draw.bounds.Bounds.{Bounds}
use Rattle.prodash_tui.specs.declared.draw.input.Input.{Input}
use Rattle.prodash_tui.specs.Dashboards.{headline_bound, with_information_in, with_messages_in, with_panes, with_task_pane}
use Rattle.prodash_tui.specs.Grids.{Sheet}
use Rattle.prodash_tui.specs.Headlines.{headline_text, with_headline}
use Rattle.prodash_tui.proofs.draw.all.draw_panes.Goals as goal

-- the text of the headline
abbrev text_of : State → Input → List ℕ
text_of s input = headline_text s.interrupt_mode input.nanoseconds_per_frame input.time.now (rows_of input.rows.now)

-- the headline, the tasks, the messages and the information, one after another
one_after_another : (tasks : Rect → Sheet → Sheet) (s : State) (input : Input) (b : Bounds) (g headed tasked listed drawn : Sheet)
    → headed ≡ with_headline (headline_bound b.window (string_bytes s.title)) (text_of s input) g
    → tasked ≡ tasks b.tasks headed
    → listed ≡ with_messages_in b.messages b.window s.message_offset input.messages.now tasked
    → drawn ≡ with_information_in b.information s.information.items listed
    → drawn ≡ with_panes tasks s input b g
one_after_another tasks s input b g headed tasked listed drawn e f h i =
    i
    ∙ ap (with_information_in b.information s.information.items)
    (h ∙ ap (with_messages_in b.messages b.window s.message_offset input.messages.now) (f ∙ ap (tasks b.tasks) e))

pub returns-clause-ok : goal.returns-clause-ok
returns-clause-ok c =
    let s = c.args.state.now in
    let input = c.args.input.now in
    let b = c.args.bounds.now in
    let g = c.args.grid.now in
    let behind : c.headline_bound-behind.result ≡ headline_bound b.window (string_bytes s.title) = c.headline_bound-behind.ensures ∙ ap (headline_bound b.window) c.as_str.ensures.value in
    let headed : c.headline.new.grid ≡ with_headline (headline_bound b.window (string_bytes s.title)) (text_of s input) g =
    c.in_ok-headline.ensures.ok ∙ ap (λ (r : Rect). with_headline r (text_of s input) g) behind in
    let listed : c.draw_messages.new.grid ≡ with_messages_in b.messages b.window s.message_offset input.messages.now c.draw_tasks.new.grid = c.in_ok-draw_messages.ensures.ok in
    let drawn : c.draw_information.new.grid ≡ with_information_in b.information s.information.items c.draw_messages.new.grid =
    c.draw_information.ensures ∙ ap (λ lines. with_information_in b.information lines c.draw_messages.new.grid) c.as_slice.ensures.value in
    one_after_another (with_task_pane c.args.rates.now input s.task_offset) s input b g c.headline.new.grid c.draw_tasks.new.grid c.draw_messages.new.grid c.draw_information.new.grid
    headed c.in_ok-scroll.ensures.ok listed drawn
