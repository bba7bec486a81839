-- Rows whose paths are ascending are rows whose keys are.
use Rattle.std.proofs.Common.{◌≡◌, List, [], ◌∷◌, refl, sym, ap, subst, ◌∙◌}
use Rattle.std.specs.Map.{keys_of}
use Rattle.prodash_base.specs.Adjacency.{IsAscending, paths_of}
use Rattle.prodash_base.specs.Rows.{PathRow, rows_of}
use Rattle.prodash_base.specs.declared.progress.Row.{Row}

pub paths-rows_of : (list : List Row) → paths_of list ≡ keys_of (rows_of list)
paths-rows_of [] = refl
paths-rows_of (row ∷ list) = ap (λ paths. row.key ∷ paths) (paths-rows_of list)

-- the list that a value of `Rows` lends, as `Key::adjacency` needs it
pub ascending_list : (rows : List PathRow) (list : List Row) → rows_of list ≡ rows → IsAscending (keys_of rows) → IsAscending (paths_of list)
ascending_list rows list same h = subst IsAscending (sym (paths-rows_of list ∙ ap keys_of same)) h
