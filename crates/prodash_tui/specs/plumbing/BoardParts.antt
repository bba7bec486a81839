-- What private calls of a dashboard need and leave.
use Rattle.std.specs.Prelude.{◌≡◌, ℕ, List, ◌++◌, Option, Some, unwrap_or}
use Rattle.prodash_tui.specs.Dashboards.{with_offsets}
use Rattle.prodash_tui.specs.Grids.{Sheet}
use Rattle.prodash_tui.specs.declared.sign.Sign.{Sign}
use Rattle.prodash_tui.specs.Screens.{Buffers, blank_buffers, drawn, frame, with_next}
use Rattle.prodash_tui.specs.Boards.{Board, opening}

-- the grids of a new screen of its size, with this one drawn next
abbrev pub first_buffers : Sheet → Buffers
first_buffers g = with_next g (blank_buffers g.width g.height)

-- the grids of a screen, or of a new one, with this one drawn next
abbrev pub buffers_on : Option Buffers → Sheet → Buffers
buffers_on screen g = with_next g (unwrap_or screen (blank_buffers g.width g.height))

-- the signs that show a grid on a screen, which is entered before the first one
abbrev pub signs_on : Option Buffers → Sheet → List Sign
signs_on screen g = opening screen ++ frame (buffers_on screen g)

-- the screen then
abbrev pub shown_on : Option Buffers → Sheet → Option Buffers
shown_on screen g = Some (drawn (buffers_on screen g))

-- it with so many rows and messages skipped
abbrev pub scrolled_to : ℕ → ℕ → Board → Board
scrolled_to tasks messages s = record s { state = with_offsets tasks messages s.state }

-- nothing of it has changed but how many rows and messages are skipped
abbrev pub OnlyScrolls : Board → Board → Type 0
OnlyScrolls s t = t ≡ scrolled_to t.state.task_offset t.state.message_offset s
