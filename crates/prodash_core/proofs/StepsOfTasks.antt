-- Rows that show the tasks but for their steps.
use Rattle.std.proofs.Common.{arith, ◌-◌, ◌≡◌, ◌∙◌, ◌↔◌, ap, sym, subst, ℕ, ◌<◌, ◌++◌, ◌∷◌, [], List, length, refl, append_assoc, append-nil, drop, get_or, map, suc, ◌+◌, ◌≢◌, nat_eq, true, false, Bool, IsTrue, ◌&&◌, Option, Some, None, Result, Ok}
use Rattle.std.specs.Prelude.{slice_get}
use Rattle.std.specs.Cmp.Lexicographic.{pointwise, bytes_decides}
use Rattle.std.specs.List.{AllZip}
use Rattle.std.specs.Map.{keys_of}
use Rattle.std.specs.Option.{option_eq, option_map}
use Rattle.std.proofs.lemmas.Bool.{and_parts}
use Rattle.std.proofs.lemmas.List.{drop_more, length-map}
use Rattle.std.proofs.lemmas.Option.{none-some, same_Some, slice_get-map}
use Rattle.std.proofs.lemmas.Slice.Zip.{AllZip-long}
use Rattle.prodash_base.specs.Adjacency.{paths_of}
use Rattle.prodash_base.specs.Path.{Path}
use Rattle.prodash_base.specs.Rows.{phase_of, PathRow, row_of, RowProgress, rows_of}
use Rattle.prodash_base.specs.Steps.{with_step, with_steps}
use Rattle.prodash_base.specs.Units.{measure_of}
use Rattle.prodash_base.specs.declared.progress.Row.{Row}
use Rattle.prodash_base.specs.declared.progress.Value.{Value}
use Rattle.prodash_base.specs.contracts.unit.units.UnitPartialEq.TheImpl as unit
use Rattle.prodash_base.specs.plumbing.KeyHash.{same_path}
use Rattle.prodash_base.specs.plumbing.EqualityTests.{exact, numbers, options}
use Rattle.prodash_base.specs.plumbing.SameUnits.{measures}
use Rattle.prodash_base.proofs.SameKinds.{same_as_units}
use Rattle.prodash_base.proofs.SteppedRows.{keys-with_steps}
use Rattle.prodash_core.specs.Tables.{BoxedTask, pair_of, TaskEntry, RowShows}
use Rattle.prodash_core.specs.declared.tree.table.Counted.{Counted}
use Rattle.prodash_core.specs.plumbing.TaskRows.{IsSameButStep, last_path}
use Rattle.prodash_core.proofs.AscendingRows.{paths-rows_of}
use Rattle.prodash_core.proofs.TableRows.{keys-pairs, shown_paths}

-- the test of the bound and the unit
abbrev pub same_bound_and_unit : {C : Type 0} → Counted C → Value → Bool
same_bound_and_unit counted value =
    option_eq nat_eq counted.done_at value.done_at && option_eq unit.ghosts.eq counted.unit value.unit

bound_and_unit : {C : Type 0} (counted : Counted C) (value : Value) (b : Bool) → b ≡ same_bound_and_unit counted value
    → IsTrue b ↔ ((counted.done_at ≡ value.done_at) × (option_map measure_of counted.unit ≡ option_map measure_of value.unit))
bound_and_unit counted value b is =
    let bounds = exact (options numbers) (option_eq nat_eq counted.done_at value.done_at) counted.done_at value.done_at refl in
    let units = exact (options measures) (option_eq unit.ghosts.eq counted.unit value.unit) (option_map measure_of counted.unit) (option_map measure_of value.unit) (same_as_units counted.unit value.unit) in (
      λ equal. let parts = and_parts (option_eq nat_eq counted.done_at value.done_at) (option_eq unit.ghosts.eq counted.unit value.unit) (sym is ∙ equal) in (bounds.0 parts.0, units.0 parts.1),
      λ h. is ∙ (λ i. bounds.1 h.0 i && units.1 h.1 i),
    )

-- with the same bound and unit, the states decide
pub same_by_state : {C : Type 0} (counted : Counted C) (value : Value) (b : Bool) → b ≡ same_bound_and_unit counted value → b ≡ true
    → (result : Bool) → IsTrue result ↔ phase_of counted.state ≡ phase_of value.state → IsTrue result ↔ IsSameButStep counted value
same_by_state counted value b is same result phase =
    let before = (bound_and_unit counted value b is).0 same in
    (λ equal. record { bound = before.0; unit = before.1; phase = phase.0 equal }, λ h. phase.1 h.phase)

pub not_same : {C : Type 0} (counted : Counted C) (value : Value) (b : Bool) → b ≡ same_bound_and_unit counted value → b ≡ false
    → IsTrue b ↔ IsSameButStep counted value
not_same counted value b is differ =
    (λ equal. let both : true ≡ false = sym equal ∙ differ in cc, λ h. (bound_and_unit counted value b is).1 (h.bound, h.unit))

-- each row has a step with which it is the same
own_progress : (progress : Option RowProgress) → (step : ℕ) × (option_map (λ (p : RowProgress). record p { counter = step }) progress ≡ progress)
own_progress None = (0, refl)
own_progress (Some p) = (p.counter, refl)

own_step : (row : PathRow) → (step : ℕ) × (with_step step row ≡ row)
own_step row =
    let own = own_progress row.1.progress in
    (own.0, λ i. (row.0, record row.1 { progress = own.1 i }))

-- The rows before the others show their tasks with the steps: those of the others complete them, and
-- if all rows show their tasks with some steps, so do the others.
pub record StepsRest {C : Type 0} (shows : C → ℕ → Type 0) (all : List (Path × TaskEntry C)) (rows : List PathRow) (steps : List ℕ) (left : List (Path × TaskEntry C)) (others : List PathRow) : Type 0 where
  pub completed : (more : List ℕ) → AllZip (RowShows shows) left (with_steps more others) → AllZip (RowShows shows) all (with_steps (steps ++ more) rows)
  pub needed : (some : List ℕ) → AllZip (RowShows shows) all (with_steps some rows) → (more : List ℕ) × AllZip (RowShows shows) left (with_steps more others)

pub steps_begin : {C : Type 0} (shows : C → ℕ → Type 0) (all : List (Path × TaskEntry C)) (rows : List PathRow) (steps : List ℕ) (left : List (Path × TaskEntry C)) (rest : List PathRow) → steps ≡ [] → left ≡ all → rest ≡ rows
    → StepsRest shows all rows steps left rest
steps_begin shows all rows steps left rest s l r =
    record {
      completed = λ more z.
          subst (λ xs. AllZip (RowShows shows) all (with_steps (xs ++ more) rows)) (sym s) (subst (λ es. AllZip (RowShows shows) es (with_steps more rows)) l (subst (λ xs. AllZip (RowShows shows) left (with_steps more xs)) r z));
      needed = λ some z. (some, subst (λ es. AllZip (RowShows shows) es (with_steps some rest)) (sym l) (subst (λ xs. AllZip (RowShows shows) all (with_steps some xs)) (sym r) z));
    }

-- of rows whose first one is dropped
rest_shown : {C : Type 0} (shows : C → ℕ → Type 0) (e : Path × TaskEntry C) (others : List (Path × TaskEntry C)) (row : PathRow) (rest : List PathRow) (more : List ℕ) → AllZip (RowShows shows) (e ∷ others) (with_steps more (row ∷ rest))
    → (some : List ℕ) × AllZip (RowShows shows) others (with_steps some rest)
rest_shown shows e others row rest [] z = ([], z.1)
rest_shown shows e others row rest (step ∷ steps) z = (steps, z.1)

pub steps_more : {C : Type 0} (shows : C → ℕ → Type 0) (all : List (Path × TaskEntry C)) (rows : List PathRow) (steps : List ℕ) (left : List (Path × TaskEntry C)) (rest : List PathRow) → StepsRest shows all rows steps left rest
    → (e : Path × TaskEntry C) (others : List (Path × TaskEntry C)) → left ≡ e ∷ others → (row : PathRow) (behind : List PathRow) → rest ≡ row ∷ behind
    → (step : ℕ) → RowShows shows e (with_step step row) → (pushed : List ℕ) → pushed ≡ steps ++ step ∷ [] → StepsRest shows all rows pushed others behind
steps_more shows all rows steps left rest h e others l row behind r step s pushed p =
    let now = subst (λ xs. StepsRest shows all rows steps (e ∷ others) xs) r (subst (λ es. StepsRest shows all rows steps es rest) l h) in
    record {
      completed = λ more z.
          subst (λ xs. AllZip (RowShows shows) all (with_steps xs rows)) (sym (ap (λ xs. xs ++ more) p ∙ append_assoc steps (step ∷ []) more)) (now.completed (step ∷ more) (s, z));
      needed = λ some z. let before = now.needed some z in rest_shown shows e others row behind before.0 before.1;
    }

-- a row that shows its task with no step
row_apart : {C : Type 0} (shows : C → ℕ → Type 0) (e : Path × TaskEntry C) (others : List (Path × TaskEntry C)) (row : PathRow) (behind : List PathRow) → ((step : ℕ) → RowShows shows e (with_step step row) → ⊥)
    → (more : List ℕ) → AllZip (RowShows shows) (e ∷ others) (with_steps more (row ∷ behind)) → ⊥
row_apart shows e others row behind n [] z = let own = own_step row in n own.0 (subst (RowShows shows e) (sym own.1) z.0)
row_apart shows e others row behind n (step ∷ steps) z = n step z.0

-- with it no steps show all tasks
pub no_steps : {C : Type 0} (shows : C → ℕ → Type 0) (all : List (Path × TaskEntry C)) (rows : List PathRow) (steps : List ℕ) (left : List (Path × TaskEntry C)) (rest : List PathRow) → StepsRest shows all rows steps left rest
    → (e : Path × TaskEntry C) (others : List (Path × TaskEntry C)) → left ≡ e ∷ others → (row : PathRow) (behind : List PathRow) → rest ≡ row ∷ behind
    → ((step : ℕ) → RowShows shows e (with_step step row) → ⊥) → (some : List ℕ) → AllZip (RowShows shows) all (with_steps some rows) → ⊥
no_steps shows all rows steps left rest h e others l row behind r n some z =
    let now = subst (λ xs. StepsRest shows all rows steps (e ∷ others) xs) r (subst (λ es. StepsRest shows all rows steps es rest) l h) in
    let more = now.needed some z in
    row_apart shows e others row behind n more.0 more.1

steps_count : (steps : List ℕ) (rows : List PathRow) → length (with_steps steps rows) ≡ length rows
steps_count [] rows = refl
steps_count (step ∷ steps) [] = refl
steps_count (step ∷ steps) (row ∷ rows) = ap suc (steps_count steps rows)

-- nor with more or fewer rows than tasks
pub other_length : {C : Type 0} (shows : C → ℕ → Type 0) (tasks : List (Path × BoxedTask C)) (rows : List Row) → length rows ≢ length tasks
    → (some : List ℕ) → AllZip (RowShows shows) (map pair_of tasks) (with_steps some (rows_of rows)) → ⊥
other_length shows tasks rows n some z =
    n (sym (length-map rows row_of) ∙ sym (steps_count some (rows_of rows)) ∙ AllZip-long (RowShows shows) (map pair_of tasks) (with_steps some (rows_of rows)) z ∙ length-map tasks pair_of)

-- the rows from a place on are the one at it and those behind
pub row_and_behind : (rows : List Row) (n after : ℕ) (row : Row) → row ≡ get_or rows n row → n < length rows → after ≡ n + 1
    → rows_of (drop n rows) ≡ row_of row ∷ rows_of (drop after rows)
row_and_behind rows n after row at inside a =
    ap rows_of (drop_more rows n row inside) ∙ (λ i. row_of (sym at i) ∷ rows_of (drop (sym a i) rows))

pub steps_all : {C : Type 0} (shows : C → ℕ → Type 0) (all : List (Path × TaskEntry C)) (rows : List PathRow) (steps : List ℕ) (left : List (Path × TaskEntry C)) (rest : List PathRow) → StepsRest shows all rows steps left rest
    → left ≡ [] → rest ≡ [] → AllZip (RowShows shows) all (with_steps steps rows)
steps_all shows all rows steps left rest h l r =
    let now = subst (λ xs. StepsRest shows all rows steps [] xs) r (subst (λ es. StepsRest shows all rows steps es rest) l h) in
    subst (λ xs. AllZip (RowShows shows) all (with_steps xs rows)) (append-nil steps) (now.completed [] tt)

-- equal results hold equal values
pub same_ok : {A E : Type 0} (x y : A) → ◌≡◌ {A = Result A E} (Ok x) (Ok y) → x ≡ y
same_ok x y h = cc

-- the last path of entries is that of the last entry
last_entry : {C : Type 0} (es : List (Path × BoxedTask C)) (o : Option (Path × BoxedTask C)) → slice_get es (length es - 1) ≡ o → last_path (keys_of es) ≡ option_map (λ e. e.0) o
last_entry es o at =
    ap (λ n. slice_get (keys_of es) (n - 1)) (length-map es (λ e. e.0)) ∙ slice_get-map (λ e. e.0) es (length es - 1) ∙ ap (option_map (λ e. e.0)) at

-- and that of rows is that of the last row
last_row : (rows : List Row) (o : Option Row) → slice_get rows (length rows - 1) ≡ o → last_path (paths_of rows) ≡ option_map (λ r. r.key) o
last_row rows o at =
    ap (λ n. slice_get (paths_of rows) (n - 1)) (length-map rows (λ r. r.key)) ∙ slice_get-map (λ r. r.key) rows (length rows - 1) ∙ ap (option_map (λ r. r.key)) at

-- without entries there is no last one
no_entry : {X : Type 0} (es : List X) → (0 < length es → ⊥) → slice_get es (length es - 1) ≡ None
no_entry [] n = refl
no_entry (e ∷ es) n = absurd (n (omega arith))

-- two last ones, of which the paths are compared
pub both_end : {C : Type 0} (es : List (Path × BoxedTask C)) (rows : List Row) (e : Path × BoxedTask C) (row : Row) → slice_get es (length es - 1) ≡ Some e → slice_get rows (length rows - 1) ≡ Some row
    → (result : Bool) → result ≡ pointwise nat_eq row.key e.0 → IsTrue result ↔ (last_path (keys_of es) ≡ last_path (paths_of rows))
both_end es rows e row at_e at_row result is =
    let k = last_entry es (Some e) at_e in
    let p = last_row rows (Some row) at_row in (
      λ yes. k ∙ ap Some (sym (same_path row.key e.0 (sym is ∙ yes))) ∙ sym p,
      λ same. is ∙ (bytes_decides row.key e.0).1 (sym (same_Some e.0 row.key (sym k ∙ same ∙ p))),
    )

-- a last row alone
pub row_alone : {C : Type 0} (es : List (Path × BoxedTask C)) (rows : List Row) (row : Row) → (0 < length es → ⊥) → slice_get rows (length rows - 1) ≡ Some row
    → last_path (keys_of es) ≡ last_path (paths_of rows) → ⊥
row_alone es rows row none at same = none-some row.key (sym (last_entry es None (no_entry es none)) ∙ same ∙ last_row rows (Some row) at)

-- a last entry alone
pub entry_alone : {C : Type 0} (es : List (Path × BoxedTask C)) (rows : List Row) (e : Path × BoxedTask C) → slice_get es (length es - 1) ≡ Some e → slice_get rows (length rows - 1) ≡ None
    → last_path (keys_of es) ≡ last_path (paths_of rows) → ⊥
entry_alone es rows e at none same = none-some e.0 (sym (last_row rows None none) ∙ sym same ∙ last_entry es (Some e) at)

-- no steps change the paths, and rows that show the tasks have theirs
pub other_end : {C : Type 0} (shows : C → ℕ → Type 0) (tasks : List (Path × BoxedTask C)) (rows : List Row) → (last_path (keys_of tasks) ≡ last_path (paths_of rows) → ⊥)
    → (some : List ℕ) → AllZip (RowShows shows) (map pair_of tasks) (with_steps some (rows_of rows)) → ⊥
other_end shows tasks rows n some z =
    n (ap last_path (keys-pairs tasks ∙ sym (shown_paths shows (map pair_of tasks) (with_steps some (rows_of rows)) z) ∙ keys-with_steps some (rows_of rows) ∙ sym (paths-rows_of rows)))
