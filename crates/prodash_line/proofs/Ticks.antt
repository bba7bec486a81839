-- What the renderer keeps of an accepted frame.
use Rattle.std.proofs.Common.{◌≡◌, ℕ, Bool, true, false, ◌&&◌, if◌then◌else◌, List, Option, Some, refl, ap, ◌∙◌}
use Rattle.prodash_base.specs.Rings.{keep_last}
use Rattle.prodash_base.specs.FrameTrackers.{FrameTracker}
use Rattle.prodash_base.specs.Rows.{PathRow}
use Rattle.prodash_base.specs.declared.messages.Message.{Message}
use Rattle.prodash_base.specs.declared.refusal.Refusal.{Refusal}
use Rattle.prodash_line.specs.declared.render.line.draw.action.Action.TheVariants.{Leave, Redraw}
use Rattle.prodash_line.specs.declared.render.line.draw.input.Answer.TheVariants as answers
use Rattle.prodash_line.specs.declared.render.line.draw.input.Input.TheVariants.{Tick, Resize}
use Rattle.prodash_line.specs.declared.render.line.draw.action.Composed.{Composed}
use Rattle.prodash_line.specs.declared.render.line.draw.action.Drawn.{Drawn}
use Rattle.prodash_line.specs.Renderer.{Renderer, is_cursor_hidden, ended_after, latest_rows, resized, action_at, answer_of, next_renderer}
use Rattle.prodash_line.specs.Tracking.{kept_of, tracked}
use Rattle.prodash_line.specs.plumbing.Observing.{tracker_by}
use Rattle.prodash_line.specs.plumbing.FrameWriting.{Leaves, LeavesTick, keeping, remembering}

-- of a tick
pub remembers : (p past : Renderer) (t composed kept : Option FrameTracker) (at : ℕ) (show : Bool) (seen : List PathRow × List Message × ℕ) (frame : Composed)
    → past ≡ record p { cursor_hidden = is_cursor_hidden p } → LeavesTick (tracked p t) (Tick at show (Some seen)) frame composed → kept_of kept ≡ tracker_by frame.drawn.action composed seen.0
    → tracked (remembering frame seen.0 seen.2 past) kept ≡ next_renderer (tracked p t) (Tick at show (Some seen))
remembers p past t composed kept at show seen frame is h k =
    let options = ap (λ (x : Renderer). x.options) is in
    let widths = ap (λ s. s.widths) h.drawn.state in
    let midpoint = ap (λ s. s.midpoint) h.drawn.state in
    let tracker = k ∙ ap (λ s. s.tracker) h.drawn.state in
    let timer = h.timer in
    let erased = ap (λ s. s.rows_erased) h.drawn.state in
    let cursor = ap (λ (x : Renderer). x.cursor_hidden) is in
    let ended = ap (λ (x : Renderer). ended_after frame.drawn.action x.ended) is ∙ ap (λ action. ended_after action p.ended) h.drawn.action in
    λ i. record {
      options = options i;
      widths = widths i;
      midpoint = midpoint i;
      last_rows = Some seen.0;
      origin_widths = h.origin_widths i;
      seen = Some seen.2;
      tracker = tracker i;
      timer = timer i;
      rows_erased = erased i;
      cursor_hidden = cursor i;
      ended = ended i;
    }

-- a resize ends no renderer
ends_none : (b : Bool) (ended : Option Refusal) → ended ≡ ended_after (if b then Redraw else Leave) ended
ends_none true ended = refl
ends_none false ended = refl

answer_drawn : (b : Bool) → answers.Drawn ≡ answer_of (if b then Redraw else Leave)
answer_drawn true = refl
answer_drawn false = refl

pub drawn_at : (r : Renderer) (at : ℕ) (show : Bool) (columns height : ℕ) → answers.Drawn ≡ answer_of (action_at r (Resize at show columns height))
drawn_at r at show columns height = answer_drawn (show && r.options.output_is_terminal)

-- of a resize
pub resizes : (p past : Renderer) (t composed kept : Option FrameTracker) (at : ℕ) (show : Bool) (columns height : ℕ) (drawn : Drawn)
    → past ≡ record p { cursor_hidden = is_cursor_hidden p } → Leaves (tracked p t) (Resize at show columns height) drawn composed
    → kept_of kept ≡ tracker_by drawn.action composed (latest_rows past.last_rows)
    → tracked (keeping drawn (resized past columns height)) kept ≡ next_renderer (tracked p t) (Resize at show columns height)
resizes p past t composed kept at show columns height drawn is h k =
    let options = ap (λ (x : Renderer). record x.options { terminal_dimensions = (columns, height) }) is in
    let widths = ap (λ s. s.widths) h.state in
    let midpoint = ap (λ s. s.midpoint) h.state in
    let last_rows = ap (λ (x : Renderer). x.last_rows) is in
    let origins = ap (λ (x : Renderer). keep_last height x.origin_widths) is in
    let seen = ap (λ (x : Renderer). x.seen) is in
    let tracker = k ∙ ap (λ (x : Renderer). tracker_by drawn.action composed (latest_rows x.last_rows)) is ∙ ap (λ s. s.tracker) h.state in
    let timer = ap (λ (x : Renderer). x.timer) is in
    let erased = ap (λ s. s.rows_erased) h.state in
    let cursor = ap (λ (x : Renderer). x.cursor_hidden) is in
    let ended = ap (λ (x : Renderer). x.ended) is ∙ ends_none (show && p.options.output_is_terminal) p.ended in
    λ i. record {
      options = options i;
      widths = widths i;
      midpoint = midpoint i;
      last_rows = last_rows i;
      origin_widths = origins i;
      seen = seen i;
      tracker = tracker i;
      timer = timer i;
      rows_erased = erased i;
      cursor_hidden = cursor i;
      ended = ended i;
    }
