-- What a recorder keeps of one call more.
use Rattle.std.proofs.Common.{◌≡◌, ℕ, ◌+◌, List, [], ◌∷◌, ◌++◌, length, length-append, Option, Some, arith, refl}
use Rattle.std.proofs.lemmas.List.Sums.{sum_by_push}
use Rattle.std.specs.List.{sum_by}
use Rattle.prodash.specs.Journals.{Received, IsAfter, amount_of}
use Rattle.prodash.specs.Recorders.{last_of, RisesFrom}

pub receipts_more : (receipts : List Received) (receipt : Received) → length (receipts ++ receipt ∷ []) ≡ length receipts + 1
receipts_more receipts receipt = omega (arith, length-append receipts (receipt ∷ []))

pub sum_more : (receipts : List Received) (receipt : Received) → sum_by (λ r. amount_of r.event) (receipts ++ receipt ∷ []) ≡ sum_by (λ r. amount_of r.event) receipts + amount_of receipt.event
sum_more receipts receipt = sum_by_push (λ r. amount_of r.event) receipts receipt

pub last_more : (before : Option ℕ) (receipts : List Received) (receipt : Received) → last_of before (receipts ++ receipt ∷ []) ≡ Some receipt.number
last_more before [] receipt = refl
last_more before (first ∷ receipts) receipt = last_more (Some first.number) receipts receipt

pub rises_more : (before : Option ℕ) (receipts : List Received) (receipt : Received) → RisesFrom before receipts → IsAfter (last_of before receipts) receipt.number → RisesFrom before (receipts ++ receipt ∷ [])
rises_more before [] receipt rises after = (after, tt)
rises_more before (first ∷ receipts) receipt rises after = (rises.0, rises_more (Some first.number) receipts receipt rises.1 after)

-- a receipt more is one call more, with what it adds, and its number is the last and the greatest
pub ruleset keeping = (receipts_more, sum_more, last_more, rises_more)
