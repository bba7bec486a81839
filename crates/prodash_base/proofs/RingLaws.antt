-- The messages of a ring as the last of all that were ever pushed.
use Rattle.std.proofs.Common.{◌≡◌, ℕ, ◌+◌, ◌-◌, List, [], ◌∷◌, ◌++◌, length, drop, Some, refl, ap, sym, ◌∙◌, arith, ◌≤◌, ◌<◌, true, false, append_assoc, length-append, length-drop}
use Rattle.std.specs.Prelude.{fold, nat_le}
use Rattle.std.proofs.lemmas.List.{append-nil, drop-drop, drop-append-le, drop_at}
use Rattle.std.proofs.lemmas.Bool.Decides.{nat_tests}
use Rattle.std.proofs.lemmas.Grind.{common_steps}
use Rattle.circular_buffer.specs.Buffer.{keep_last}
use Rattle.prodash_base.proofs.SampleLaws.{drop_past}
use Rattle.prodash_base.specs.Rings.{new_ring, push, messages_since, ring_of}
use Rattle.prodash_base.specs.declared.messages.Message.{Message}

-- the last messages after one more
pub keep_last-push : (a : ℕ) (xs : List Message) (m : Message) → keep_last a (keep_last a xs ++ m ∷ []) ≡ keep_last a (xs ++ m ∷ [])
keep_last-push a xs m =
    let n = length xs in
    let whole : length (xs ++ m ∷ []) ≡ n + 1 = length-append xs (m ∷ []) in
    let suffix : drop (n - a) (xs ++ m ∷ []) ≡ drop (n - a) xs ++ m ∷ [] = drop-append-le (n - a) xs (m ∷ []) (omega arith) in
    let left : length (drop (n - a) (xs ++ m ∷ [])) ≡ n + 1 - (n - a) = length-drop (n - a) (xs ++ m ∷ []) ∙ ap (λ k. k - (n - a)) whole in
    let count : n - a + (length (drop (n - a) (xs ++ m ∷ [])) - a) ≡ length (xs ++ m ∷ []) - a = omega arith in
    ap (keep_last a) (sym suffix) ∙ drop-drop (length (drop (n - a) (xs ++ m ∷ [])) - a) (n - a) (xs ++ m ∷ []) ∙ ap (λ k. drop k (xs ++ m ∷ [])) count

-- a ring after one more push
pub push-ring_of : (capacity : ℕ) (all : List Message) (m : Message) → push (ring_of capacity all) m ≡ ring_of capacity (all ++ m ∷ [])
push-ring_of capacity all m =
    let messages = keep_last-push capacity all m in
    let pushed : length all + 1 ≡ length (all ++ m ∷ []) = sym (length-append all (m ∷ [])) in
    λ i. record { capacity = capacity; messages = messages i; pushed = pushed i }

-- a ring after more pushes
fold-push-ring_of : (capacity : ℕ) (before after : List Message) → fold push (ring_of capacity before) after ≡ ring_of capacity (before ++ after)
fold-push-ring_of capacity before [] = ap (ring_of capacity) (sym (append-nil before))
fold-push-ring_of capacity before (m ∷ after) =
    ap (λ r. fold push r after) (push-ring_of capacity before m) ∙ fold-push-ring_of capacity (before ++ m ∷ []) after
    ∙ ap (ring_of capacity) (append_assoc before (m ∷ []) after)

-- a new ring after pushes
pub fold-push : (capacity : ℕ) (all : List Message) → fold push (new_ring capacity) all ≡ ring_of capacity all
fold-push capacity [] = grind (arith, common_steps)
fold-push capacity (m ∷ after) =
    let first : push (new_ring capacity) m ≡ ring_of capacity (m ∷ []) = grind (arith, common_steps) in
    ap (λ r. fold push r after) first ∙ fold-push-ring_of capacity (m ∷ []) after

within : (capacity seen : ℕ) (all : List Message) → seen ≤ length all → messages_since (ring_of capacity all) (Some seen) ≡ keep_last capacity (drop seen all)
within capacity seen all h =
    let messages = keep_last capacity all in
    let later = length all - seen in
    let left : length messages ≡ length all - (length all - capacity) = length-drop (length all - capacity) all in
    let after : length (drop seen all) ≡ length all - seen = length-drop seen all in
    let count : length all - capacity + (length messages - later) ≡ seen + (length (drop seen all) - capacity) = omega arith in
    drop-drop (length messages - later) (length all - capacity) all ∙ ap (λ k. drop k all) count
    ∙ sym (drop-drop (length (drop seen all) - capacity) seen all)

-- a copy with the state from after the first pushes
pub messages_since-drop : (capacity seen : ℕ) (all : List Message) → messages_since (ring_of capacity all) (Some seen) ≡ keep_last capacity (drop seen all)
messages_since-drop capacity seen all =
    elim (nat_le seen (length all)) as (λ b. nat_le seen (length all) ≡ b → messages_since (ring_of capacity all) (Some seen) ≡ keep_last capacity (drop seen all)) [
      | true ↦ λ e. let few : seen ≤ length all = grind (arith, nat_tests) in within capacity seen all few
      | false ↦ λ e.
          let many : length all < seen = grind (arith, nat_tests) in
          drop_past (keep_last capacity all) _ (omega arith) ∙ sym (drop_past (drop seen all) _ (omega (arith, length-drop seen all)))
    ] refl

-- a copy with the state from before the later pushes
pub messages_since-append : (capacity : ℕ) (before after : List Message)
    → messages_since (ring_of capacity (before ++ after)) (Some (ring_of capacity before).pushed) ≡ keep_last capacity after
messages_since-append capacity before after =
    messages_since-drop capacity (length before) (before ++ after) ∙ ap (keep_last capacity) (drop_at before after (length before) refl)
