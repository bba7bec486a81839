-- Strings to which calls appended, and the truncation to what was there before.
use Rattle.std.proofs.Common.{◌≡◌, ℕ, ◌≤◌, List, [], ◌++◌, length, take, drop, sym, ap, ◌∙◌, subst, append_assoc, append-nil, length-append, arith, string_bytes, IsUtf8}
use Rattle.std.specs.Prelude.{String, string_len}
use Rattle.std.proofs.lemmas.List.{take-append-drop}
use Rattle.std.proofs.Math.Seq.{take-append_seam}
use Rattle.std.proofs.lemmas.Str.{IsUtf8-string_bytes, IsCharBoundary-from_take}
use Rattle.std.specs.String.Boundary.{IsSplitPoint}
use Rattle.prodash_base.specs.Appending.{IsPrefix}

-- a text is a prefix of what was appended to it
pub IsPrefix-append : (old new text : List ℕ) → new ≡ old ++ text → IsPrefix old new
IsPrefix-append old new text e = record { prefix = ap (take (length old)) e ∙ take-append_seam old text }

-- a text is a prefix of itself
pub IsPrefix-same : (old new : List ℕ) → new ≡ old → IsPrefix old new
IsPrefix-same old new e = IsPrefix-append old new [] (e ∙ sym (append-nil old))

rest_of : (old new : List ℕ) → IsPrefix old new → new ≡ old ++ drop (length old) new
rest_of old new b = sym (take-append-drop (length old) new) ∙ ap (λ t. t ++ drop (length old) new) b.prefix

-- a prefix of a prefix is a prefix
pub IsPrefix-trans : (old mid new : List ℕ) → IsPrefix old mid → IsPrefix mid new → IsPrefix old new
IsPrefix-trans old mid new a b =
    IsPrefix-append old new (drop (length old) mid ++ drop (length mid) new)
    (rest_of mid new b ∙ ap (λ t. t ++ drop (length mid) new) (rest_of old mid a) ∙ append_assoc old _ _)

-- a text that was appended in two parts
pub append_twice : (old mid new a b : List ℕ) → mid ≡ old ++ a → new ≡ mid ++ b → new ≡ old ++ (a ++ b)
append_twice old mid new a b e f = f ∙ ap (λ t. t ++ b) e ∙ append_assoc old a b

fits : (old new : List ℕ) → IsPrefix old new → length old ≤ length new
fits old new b = let e = ap length (rest_of old new b) in let l = length-append old (drop (length old) new) in omega arith

-- a string can be truncated to the length that it had before
pub split_at_prefix : {Z : Type 0} (s t : String Z) (n : ℕ) → IsPrefix (string_bytes s) (string_bytes t) → n ≡ string_len s → IsSplitPoint (string_bytes t) n
split_at_prefix s t n b e =
    let boundary = IsCharBoundary-from_take (string_bytes t) (length (string_bytes s)) (IsUtf8-string_bytes t) (fits _ _ b) (subst IsUtf8 (sym b.prefix) (IsUtf8-string_bytes s)) in
    let P : ℕ → Type 0 = IsSplitPoint (string_bytes t) in
    subst P (sym (e ∙ s.bytes.ok.0)) (boundary.0, λ _. boundary.1)
