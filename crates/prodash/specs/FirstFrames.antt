-- The first frame of a session that has one task.
use Rattle.std.specs.Prelude.{◌≡◌, ℕ, List, [], ◌∷◌, ◌++◌, length, Option, Some, None, Result, true, false, IfOk}
use Rattle.prodash_base.specs.Rows.{PathRow, unknown_id}
use Rattle.prodash_base.specs.Rows as phases
use Rattle.prodash_line.specs.Lines.{Line}
use Rattle.prodash_line.specs.Signs.{spelling}
use Rattle.prodash_line.specs.Frames.{overwrite, cursor_up}
use Rattle.prodash_line.specs.ProgressRows.{drawn_row_line, times_at}
use Rattle.prodash_line.specs.Renderer.{default_options}
use Rattle.prodash_line.specs.Screens.{ScreenState}
use Rattle.prodash_base.specs.declared.refusal.Refusal.{Refusal}
use Rattle.std.specs.Global.{Vec}
use Rattle.prodash_core.specs.Runs.{IfRan}
use Rattle.prodash_core.specs.declared.tree.options.SessionOptions.{SessionOptions}
use Rattle.prodash_core.specs.declared.tree.event.Event.{Event}
use Rattle.prodash_core.specs.declared.tree.event.Event.TheVariants.{AddChild, Init, Set, Tick}
use Rattle.prodash_core.specs.declared.tree.event.Reply.{Reply}
use Rattle.prodash_core.specs.declared.tree.event.Reply.TheVariants.{Made, Done, Drawn}

-- the default of each option
abbrev pub default_session : SessionOptions
default_session = record {
  root = record { initial_capacity = 100; message_buffer_capacity = 20 };
  draw = default_options;
  throughput = false;
}

-- a task begins, its step is set, and a frame draws it
abbrev pub task_events : List ℕ → ℕ → ℕ → List Event
task_events name step bound =
    AddChild 0 name unknown_id ∷ Init 1 (Some bound) None ∷ Set 1 step ∷ Tick 0 true ∷ []

-- the replies, if nothing is refused
abbrev pub task_replies : List Reply
task_replies = Made 1 ∷ Done ∷ Done ∷ Drawn ∷ []

-- the row of the first task, at a step of a bound
abbrev pub counted_row : List ℕ → ℕ → ℕ → PathRow
counted_row name step bound = (
  0 ∷ [],
  record {
    name = name;
    id = unknown_id;
    progress = Some (record { counter = step; bound = Some bound; unit = None; phase = phases.Running });
  },
)

-- the line of a row in the first frame
abbrev pub first_line : PathRow → Line
first_line row = drawn_row_line default_options 0 (times_at None 0) (row, None)

-- lines that are drawn where none were, and the cursor's way back up
abbrev pub drawn_bytes : List Line → List ℕ
drawn_bytes lines = spelling (overwrite [] lines ++ cursor_up (length lines))

-- the screen has got these lines
abbrev pub GetsLines : ScreenState → ScreenState → List Line → Type 0
GetsLines s s' lines = s'.bytes ≡ s.bytes ++ drawn_bytes lines

-- if a run of these events is accepted, the screen has got the line of the task's row
abbrev pub ShowsTask : List ℕ → ℕ → ℕ → Result (Vec Reply) Refusal → ScreenState → ScreenState
    → Type 0
ShowsTask name step bound result s s' = IfOk result (λ replies.
    replies.items ≡ task_replies → GetsLines s s' (first_line (counted_row name step bound) ∷ []))

-- whatever a run of these events returns, it shows the task
abbrev pub ShowsFirst : List ℕ → ℕ → ℕ → Type 0
ShowsFirst name step bound =
    (result : Result (Vec Reply) Refusal) (s s' : ScreenState)
    → IfRan default_session (task_events name step bound) result s s'
    → ShowsTask name step bound result s s'
