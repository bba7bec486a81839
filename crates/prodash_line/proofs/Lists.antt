-- Facts of each element of a list, and of its parts.
use Rattle.std.proofs.Common.{ℕ, zero, suc, List, [], ◌∷◌, ◌++◌, drop, take}
use Rattle.std.specs.Prelude.{replicate}
use Rattle.std.specs.List.{AllByRecursion}

-- of two lists, one after the other
pub AllByRecursion-append : {X : Type 0} (P : X → Type 0) (xs ys : List X) → AllByRecursion P xs → AllByRecursion P ys → AllByRecursion P (xs ++ ys)
AllByRecursion-append P [] ys h i = i
AllByRecursion-append P (x ∷ xs) ys h i = (h.0, AllByRecursion-append P xs ys h.1 i)

pub AllByRecursion-parts : {X : Type 0} (P : X → Type 0) (xs ys : List X) → AllByRecursion P (xs ++ ys) → AllByRecursion P xs × AllByRecursion P ys
AllByRecursion-parts P [] ys h = (tt, h)
AllByRecursion-parts P (x ∷ xs) ys h = let others = AllByRecursion-parts P xs ys h.1 in ((h.0, others.0), others.1)

-- of copies of one element
pub AllByRecursion-replicate : {X : Type 0} (P : X → Type 0) (n : ℕ) (x : X) → P x → AllByRecursion P (replicate n x)
AllByRecursion-replicate P zero x h = tt
AllByRecursion-replicate P (suc n) x h = (h, AllByRecursion-replicate P n x h)

-- of the elements after the first k
pub AllByRecursion-drop : {X : Type 0} (P : X → Type 0) (k : ℕ) (xs : List X) → AllByRecursion P xs → AllByRecursion P (drop k xs)
AllByRecursion-drop P zero xs h = h
AllByRecursion-drop P (suc k) [] h = tt
AllByRecursion-drop P (suc k) (x ∷ xs) h = AllByRecursion-drop P k xs h.1

-- of the first k elements
pub AllByRecursion-take : {X : Type 0} (P : X → Type 0) (k : ℕ) (xs : List X) → AllByRecursion P xs → AllByRecursion P (take k xs)
AllByRecursion-take P zero xs h = tt
AllByRecursion-take P (suc k) [] h = tt
AllByRecursion-take P (suc k) (x ∷ xs) h = (h.0, AllByRecursion-take P k xs h.1)

-- of each element that another fact implies
pub AllByRecursion-map : {X : Type 0} (P Q : X → Type 0) (xs : List X) → ((x : X) → P x → Q x) → AllByRecursion P xs → AllByRecursion Q xs
AllByRecursion-map P Q [] f h = tt
AllByRecursion-map P Q (x ∷ xs) f h = (f x h.0, AllByRecursion-map P Q xs f h.1)
