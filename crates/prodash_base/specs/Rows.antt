-- Entries of the tree, and rows: their contents, without their places in memory.
use Rattle.std.specs.Prelude.{ℕ, List, [], ◌∷◌, map, Option, Bool, true, false, ◌&&◌, nat_eq}
use Rattle.std.specs.Cmp.Lexicographic.{pointwise}
use Rattle.std.specs.Option.{option_map, option_eq}
use Rattle.prodash_base.specs.Numbers.{same_numbers}
use Rattle.prodash_base.specs.Path.{Path}
use Rattle.prodash_base.specs.Units.{Measure, measure_of, same_measure}
use Rattle.prodash_base.specs.declared.progress.State.{State}
use Rattle.prodash_base.specs.declared.progress.State.TheVariants as states
use Rattle.prodash_base.specs.declared.progress.Value.{Value}
use Rattle.prodash_base.specs.declared.progress.Row.{Row}

-- a state, with the bytes of its reason and the moment from which the task is expected to go on
pub data Phase : Type 0 where
  Blocked : List ℕ → Option ℕ → Phase
  Halted : List ℕ → Option ℕ → Phase
  Running : Phase

-- the phase of a state
abbrev pub phase_of : State → Phase
phase_of (states.Blocked reason eta) = Blocked reason.now eta
phase_of (states.Halted reason eta) = Halted reason.now eta
phase_of states.Running = Running

-- a progress, with a counter of type C and perhaps a unit of type U: in the tree a shared counter and
-- a unit of the program, in a row a number and what the unit says
pub record Progress (C U : Type 0) : Type 0 where
  pub counter : C
  pub bound : Option ℕ
  pub unit : Option U
  pub phase : Phase

-- what a path of the tree holds: a name, an identifier, and a progress once it has one
pub record Entry (C U : Type 0) : Type 0 where
  pub name : List ℕ
  pub id : List ℕ
  pub progress : Option (Progress C U)

-- the identifier of a task that has none of its own
abbrev pub unknown_id : List ℕ
unknown_id = 0 ∷ 0 ∷ 0 ∷ 0 ∷ []

-- the progress in a row
abbrev pub RowProgress : Type 0
RowProgress = Progress ℕ Measure

-- the entry in a row
abbrev pub RowEntry : Type 0
RowEntry = Entry ℕ Measure

-- a path with its entry
abbrev pub PathRow : Type 0
PathRow = Path × RowEntry

-- what a value says
abbrev pub progress_of : Value → RowProgress
progress_of v = record {
  counter = v.step;
  bound = v.done_at;
  unit = option_map measure_of v.unit;
  phase = phase_of v.state;
}

-- the path and the entry of a row
abbrev pub row_of : Row → PathRow
row_of r =
    (r.key, record { name = r.name; id = r.id; progress = option_map progress_of r.progress })

-- the paths and the entries of rows
abbrev pub rows_of : List Row → List PathRow
rows_of = map row_of

-- the test of equal phases; this one and those below are true exactly of equal values
abbrev pub same_phase : Phase → Phase → Bool
same_phase (Blocked reason eta) (Blocked other when) =
    same_numbers reason other && option_eq nat_eq eta when
same_phase (Halted reason eta) (Halted other when) =
    same_numbers reason other && option_eq nat_eq eta when
same_phase Running Running = true
same_phase _ _ = false

-- the test of equal progress
abbrev pub same_progress : RowProgress → RowProgress → Bool
same_progress p q =
    nat_eq p.counter q.counter
    && (option_eq nat_eq p.bound q.bound
    && (option_eq same_measure p.unit q.unit && same_phase p.phase q.phase))

-- the test of equal entries
abbrev pub same_entry : RowEntry → RowEntry → Bool
same_entry e f =
    same_numbers e.name f.name && (same_numbers e.id f.id && option_eq same_progress e.progress f.progress)

-- the test of equal rows
abbrev pub same_row : PathRow → PathRow → Bool
same_row r s = same_numbers r.0 s.0 && same_entry r.1 s.1

-- the test of equal lists of rows
abbrev pub same_rows : List PathRow → List PathRow → Bool
same_rows = pointwise same_row
