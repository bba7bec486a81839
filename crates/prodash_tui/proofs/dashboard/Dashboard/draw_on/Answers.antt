use Rattle.std.proofs.Common.{◌≡◌, ℕ, List, ◌++◌, Option, Some, None, Result, Ok, Err, refl, ap, ◌∙◌}
use Rattle.std.specs.Prelude.{OnErr, unwrap_or}
use Rattle.prodash_base.specs.Rows.{rows_of}
use Rattle.prodash_base.specs.Trackers.{Tracker}
use Rattle.prodash_base.specs.declared.progress.Row.{Row}
use Rattle.prodash_core.specs.declared.render.tui.event.Rect.{Rect}
use Rattle.prodash_core.specs.declared.render.tui.state.State.{State}
use Rattle.prodash_line.specs.Tracking.{kept_of}
use Rattle.prodash_tui.specs.declared.dashboard.contents.Contents.{Contents}
use Rattle.prodash_tui.specs.declared.draw.input.Input.{Input}
use Rattle.prodash_tui.specs.contracts.dashboard.Dashboard.{the_view}
use Rattle.prodash_tui.specs.Dashboards.{state_after, whole_dashboard, with_offsets}
use Rattle.prodash_tui.specs.Grids.{Sheet, blank_sheet}
use Rattle.prodash_tui.specs.Rates.{Rates, rates_by, tracker_after}
use Rattle.prodash_tui.specs.Screens.{Buffers, blank_buffers, drawn, frame, with_next}
use Rattle.prodash_tui.specs.Boards.{Board, area_of, framed, input_of, next_buffers, next_grid, opening, rates_in}
use Rattle.prodash_tui.specs.plumbing.BoardParts.{buffers_on, scrolled_to}
use Rattle.prodash_tui.specs.plumbing.Observed.{kept_with, observed_at}
use Rattle.prodash_tui.specs.Signs.{spelling}
use Rattle.prodash_tui.proofs.ShownRuns.{next_size}
use Rattle.prodash_tui.proofs.dashboard.Dashboard.draw_on.Goals as goal

-- the grid that was drawn is the next one
drawn_as : (s : Board) (c : Contents) (rates : Rates) (state : State) (input : Input) (area : Rect) (blank g : Sheet) → rates ≡ rates_in s c → state ≡ s.state
    → input ≡ input_of s c → area ≡ area_of s → blank ≡ blank_sheet s.width s.height → g ≡ whole_dashboard rates state input area blank → g ≡ next_grid s c
drawn_as s c rates state input area blank g r d e f h i = i ∙ (λ k. whole_dashboard (r k) (d k) (e k) (f k) (h k))

-- the screen draws it next
drawn_on : (s : Board) (c : Contents) (screen : Option Buffers) (g : Sheet) → screen ≡ s.screen → g ≡ next_grid s c → buffers_on screen g ≡ next_buffers s (next_grid s c)
drawn_on s c screen g e f =
    let size = next_size s c in
    (λ k. buffers_on (e k) (f k)) ∙ (λ k. with_next (next_grid s c) (unwrap_or s.screen (blank_buffers (size.width k) (size.height k))))

-- the tracker that is kept then
kept_as : (t : Option Tracker) (at : ℕ) (rows : List Row) → kept_with rows (observed_at at rows t) ≡ tracker_after t at (rows_of rows)
kept_as None at rows = refl
kept_as (Some t) at rows = refl

-- the state is scrolled, the screen shows the grid, and the tracker has observed the rows
framed_as : (v s : Board) (c : Contents) (state : State) (screen : Option Buffers) (tracker : Option Tracker) → v ≡ s → state ≡ state_after s.state (input_of s c) (area_of s)
    → screen ≡ Some (drawn (next_buffers s (next_grid s c))) → tracker ≡ tracker_after s.tracker c.at (rows_of c.rows.now)
    → record v { state = state; screen = screen; tracker = tracker } ≡ framed s c
framed_as v s c state screen tracker d e f h = λ k. record (d k) { state = e k; screen = f k; tracker = h k }

-- if it isn't shown, nothing is left but how far the state is scrolled
scrolled_as : (v s : Board) (before state : State) (screen : Option Buffers) (tracker : Option Tracker) → v ≡ s → before ≡ s.state → screen ≡ s.screen → tracker ≡ s.tracker
    → state ≡ with_offsets state.task_offset state.message_offset before
    → record v { state = state; screen = screen; tracker = tracker } ≡ scrolled_to state.task_offset state.message_offset s
scrolled_as v s before state screen tracker d e f h i =
    λ k. record (d k) { state = (i ∙ (λ l. with_offsets state.task_offset state.message_offset (e l))) k; screen = f k; tracker = h k }

on_err : {V E : Type 0} (r : Result V E) {P : Type 0} → P → OnErr r P
on_err (Ok v) p = tt
on_err (Err e) p = p

pub returns-in_err-show-clause-stays : goal.returns-in_err-show-clause-stays
returns-in_err-show-clause-stays c =
    let s = c.args.self.now in
    on_err c.from_residual-in_err-show.result
    (scrolled_as (the_view c.self.inside) s c.self.inside.state c.all.new.state c.show.new.screen (kept_of c.observe.new.tracker) c.self.view_is
    (ap (λ (t : Board). t.state) c.self.view_is)
    (c.in_err-show.ensures.stays ∙ ap (λ (t : Board). t.screen) c.self.view_is)
    (c.in_ok-observe.ensures.kept ∙ ap (λ (t : Board). t.tracker) c.self.view_is)
    c.in_ok-columns.ensures.kept)

pub returns-clause-ok : goal.returns-clause-ok
returns-clause-ok c =
    let s = c.args.self.now in
    let contents = c.args.contents.now in
    let rows = rows_of contents.rows.now in
    let state : c.self.inside.state ≡ s.state = ap (λ (t : Board). t.state) c.self.view_is in
    let screen : c.self.inside.screen ≡ s.screen = ap (λ (t : Board). t.screen) c.self.view_is in
    let tracker : kept_of c.self.inside.tracker ≡ s.tracker = ap (λ (t : Board). t.tracker) c.self.view_is in
    let rates : c.deref.result.now ≡ rates_in s contents = c.deref.ensures.value ∙ c.in_ok-observe.ensures.ok ∙ ap (λ (t : Option Tracker). rates_by t contents.at rows) tracker in
    let input : c.input-input.result ≡ input_of s contents = c.input-input.ensures ∙ ap (λ (t : Board). input_of t contents) c.self.view_is in
    let area : c.area-area.result ≡ area_of s = c.area-area.ensures ∙ ap area_of c.self.view_is in
    let grid = drawn_as s contents c.deref.result.now c.self.inside.state c.input-input.result c.area-area.result c.args.grid.now c.all.new.grid
    rates state input area c.requires.blank c.in_ok-columns.ensures.ok in
    let next = drawn_on s contents c.self.inside.screen c.all.new.grid screen grid in
    c.in_ok-show.ensures.ok ∙ (λ k. c.args.out.now.items ++ spelling (opening (screen k) ++ frame (next k)))

pub returns-clause-drawn : goal.returns-clause-drawn
returns-clause-drawn c =
    let s = c.args.self.now in
    let contents = c.args.contents.now in
    let rows = rows_of contents.rows.now in
    let state : c.self.inside.state ≡ s.state = ap (λ (t : Board). t.state) c.self.view_is in
    let screen : c.self.inside.screen ≡ s.screen = ap (λ (t : Board). t.screen) c.self.view_is in
    let tracker : kept_of c.self.inside.tracker ≡ s.tracker = ap (λ (t : Board). t.tracker) c.self.view_is in
    let rates : c.deref.result.now ≡ rates_in s contents = c.deref.ensures.value ∙ c.in_ok-observe.ensures.ok ∙ ap (λ (t : Option Tracker). rates_by t contents.at rows) tracker in
    let input : c.input-input.result ≡ input_of s contents = c.input-input.ensures ∙ ap (λ (t : Board). input_of t contents) c.self.view_is in
    let area : c.area-area.result ≡ area_of s = c.area-area.ensures ∙ ap area_of c.self.view_is in
    let grid = drawn_as s contents c.deref.result.now c.self.inside.state c.input-input.result c.area-area.result c.args.grid.now c.all.new.grid
    rates state input area c.requires.blank c.in_ok-columns.ensures.ok in
    let next = drawn_on s contents c.self.inside.screen c.all.new.grid screen grid in
    framed_as (the_view c.self.inside) s contents c.all.new.state c.show.new.screen (kept_of c.keep.new.tracker) c.self.view_is
    (c.in_ok-columns.ensures.state ∙ (λ k. state_after (state k) (input k) (area k)))
    (c.in_ok-show.ensures.shown ∙ ap (λ (b : Buffers). Some (drawn b)) next)
    (c.keep.ensures ∙ ap (kept_with contents.rows.now) c.in_ok-observe.ensures.observed ∙ kept_as (kept_of c.self.inside.tracker) contents.at contents.rows.now
    ∙ ap (λ (t : Option Tracker). tracker_after t contents.at rows) tracker)
