-- Each row runs, waits, or is a group.
use Rattle.std.proofs.Common.{◌≡◌, ◌+◌, Bool, true, false, cond, Option, Some, None, List, [], ◌∷◌, length, refl, arith}
use Rattle.std.specs.Prelude.{filter}
use Rattle.std.specs.Int.{from_bool}
use Rattle.prodash_base.specs.Rows.{Phase, Blocked, Halted, Running, PathRow, RowProgress}
use Rattle.prodash_tui.specs.Headlines.{how_many, is_group, runs, waits}

one_more : (b : Bool) (row : PathRow) (kept : List PathRow) → length (cond b (row ∷ kept) kept) ≡ from_bool b + length kept
one_more true row kept = omega arith
one_more false row kept = omega arith

-- a row counts if it passes the test
how_many-cons : (test : Option RowProgress → Bool) (row : PathRow) (rest : List PathRow) → how_many test (row ∷ rest) ≡ from_bool (test row.1.progress) + how_many test rest
how_many-cons test row rest = one_more (test row.1.progress) row (filter (λ (r : PathRow). test r.1.progress) rest)

phase_once : (phase : Phase)
    → from_bool (elim phase [ Running ↦ true | Blocked reason eta ↦ false | Halted reason eta ↦ false ])
    + from_bool (elim phase [ Running ↦ false | Blocked reason eta ↦ true | Halted reason eta ↦ true ])
    ≡ 1
phase_once (Blocked reason eta) = refl
phase_once (Halted reason eta) = refl
phase_once Running = refl

once : (p : Option RowProgress) → from_bool (runs p) + from_bool (waits p) + from_bool (is_group p) ≡ 1
once None = refl
once (Some p) = omega (arith, phase_once p.phase)

pub all_counted : (rows : List PathRow) → how_many runs rows + how_many waits rows + how_many is_group rows ≡ length rows
all_counted [] = refl
all_counted (row ∷ rows) =
    omega (arith, how_many-cons runs row rows, how_many-cons waits row rows, how_many-cons is_group row rows, once row.1.progress, all_counted rows)
