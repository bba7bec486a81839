-- The calls of histories.
use Rattle.std.proofs.Common.{◌≡◌, ℕ, suc, ◌≤◌, List, [], ◌∷◌, ◌++◌, length, refl, ap, sym, ◌∙◌, subst, true≢false, arith}
use Rattle.std.specs.Prelude.{take}
use mathlib.Core.List.{IsPrefix}
use Rattle.prodash_core.specs.declared.tree.event.Event.{Event}
use Rattle.prodash_core.specs.declared.tree.event.Reply.{Reply}
use Rattle.prodash.specs.declared.tree.recorded.history.HistoryEntry.{HistoryEntry}
use Rattle.prodash.specs.declared.tree.recorded.history.HistoryEntry.TheVariants.{Call, End}
use Rattle.prodash.specs.plumbing.Histories.{IsOpen, history_of, ended, calls_in}
use Rattle.prodash_core.specs.Trees.{Tree}
use Rattle.prodash.specs.Journals.{Recorded, Replays, IsJournal}
use Rattle.prodash.specs.Views.{IsFront}
use Rattle.prodash.proofs.JournalLaws.{is_journal}
use Rattle.prodash.proofs.HistoryLaws.{open_known}
use Rattle.prodash.proofs.ListPrefixes.{prefix_length}

-- an open history has as many calls as entries
pub calls_length : (h : List HistoryEntry) → IsOpen h → length (calls_in h) ≡ length h
calls_length [] o = refl
calls_length (Call e ∷ h) o = ap (λ (n : ℕ). suc n) (calls_length h o)
calls_length (End ∷ h) o = absurd (true≢false (sym o))

calls_history : (es : List (Event × Reply)) → calls_in (history_of es) ≡ es
calls_history [] = refl
calls_history (e ∷ es) = ap (λ (xs : List (Event × Reply)). e ∷ xs) (calls_history es)

-- the calls of the history of a journal are the journal
pub calls_known : (es : List (Event × Reply)) (h : List HistoryEntry) → h ≡ history_of es → calls_in h ≡ es
calls_known es h is = ap calls_in is ∙ calls_history es

-- the calls of an open prefix of an ended history are first in the journal
pub calls_prefix : (h : List HistoryEntry) (es : List (Event × Reply)) → IsOpen h → IsPrefix h (ended es) → IsPrefix (calls_in h) es
calls_prefix [] es o p = (es, refl)
calls_prefix (Call e ∷ h) [] o p = absurd (cc (p.1))
calls_prefix (Call e ∷ h) (x ∷ es) o p =
    let rest = calls_prefix h es o (p.0, cc (p.1)) in
    let heads : e ≡ x = cc (p.1) in
    (rest.0, cc (heads, rest.1))
calls_prefix (End ∷ h) es o p = absurd (true≢false (sym o))

take_prefix : {A : Type 0} (xs ys : List A) → IsPrefix xs ys → xs ≡ take (length xs) ys
take_prefix [] ys p = refl
take_prefix (x ∷ xs) [] p = absurd (cc (p.1))
take_prefix (x ∷ xs) (y ∷ ys) p =
    let rest = take_prefix xs ys (p.0, cc (p.1)) in
    let heads : x ≡ y = cc (p.1) in
    cc (heads, rest)

-- what was seen of a history that has ended since is first in the journal
pub seen_front : (es : List (Event × Reply)) (whole seen : List HistoryEntry) (calls : List (Event × Reply)) → whole ≡ ended es → IsOpen seen → IsPrefix seen whole → calls_in seen ≡ calls → IsPrefix calls es
seen_front es whole seen calls is o p at =
    subst (λ (xs : List (Event × Reply)). IsPrefix xs es) at (calls_prefix seen es o (subst (λ (h : List HistoryEntry). IsPrefix seen h) is p))

pub prefix_is_front : (calls es : List (Event × Reply)) → IsPrefix calls es → IsFront calls es
prefix_is_front calls es p = take_prefix calls es p

pub prefix_is_short : (calls es : List (Event × Reply)) → IsPrefix calls es → length calls ≤ length es
prefix_is_short calls es p = prefix_length calls es p

pub replays_at : (n m : ℕ) (es : List (Event × Reply)) (t : Tree) → n ≡ m → Replays n es t → Replays m es t
replays_at n m es t same h = subst (λ (k : ℕ). Replays k es t) same h

-- the tree of a journal that is taken out is that to which the calls of its history lead
pub closed_known : (n m : ℕ) (es : List (Event × Reply)) (h : List HistoryEntry) (t : Tree) → n ≡ m → h ≡ history_of es → Replays n es t → Replays m (calls_in h) t
closed_known n m es h t same is r =
    subst (λ (xs : List (Event × Reply)). Replays m xs t) (sym (calls_known es h is)) (replays_at n m es t same r)

pub journal_known : (n m : ℕ) (es items : List (Event × Reply)) (t : Tree) → n ≡ m → items ≡ es → Replays n es t → IsJournal m items
journal_known n m es items t same is r =
    (t, subst (λ (xs : List (Event × Reply)). Replays m xs t) (sym is) (replays_at n m es t same r))

-- the tree of a journal that is taken out stays as it was, with its calls
pub closed_same : (n : ℕ) (t : Tree) (h : List HistoryEntry) (old new : Recorded) → old.capacity ≡ n → t ≡ old.tree → h ≡ history_of old.entries
    → new ≡ record { capacity = n; tree = t; entries = calls_in h } → new ≡ old
closed_same n t h old new keeps same is at =
    let calls : calls_in h ≡ old.entries = calls_known old.entries h is in
    at ∙ rw (← keeps, same, calls) refl

-- the history of an open journal is open, and its calls are the journal
pub ruleset looking_open = (open_known, calls_known, replays_at)

-- the parts of a recording whose journal is taken out
pub ruleset closing = (closed_known, closed_same, journal_known, open_known, is_journal)
