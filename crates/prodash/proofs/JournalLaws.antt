-- Journals that get one entry more.
use Rattle.std.proofs.Common.{◌≡◌, ℕ, ◌+◌, List, [], ◌∷◌, ◌++◌, length, length-append, Bool, true, false, Ok, arith, refl, subst}
use Rattle.std.proofs.lemmas.List.Sums.{sum_by_push}
use Rattle.prodash_core.specs.Trees.{Tree, Applies}
use Rattle.prodash_core.specs.declared.tree.event.Event.{Event}
use Rattle.prodash_core.specs.declared.tree.event.Reply.{Reply}
use Rattle.prodash_core.specs.Replies.{owns_memory}
use Rattle.prodash_core.proofs.AppliedEvents.{reads_only, memory_only, no_handle_limit}
use Rattle.prodash.specs.Journals.{Leads, Replays, IsJournal, amount_of, amount}
use Rattle.prodash.proofs.HistoryLaws.{open_known}

-- one accepted event more leads to the tree after it
pub leads_more : (t : Tree) (entries : List (Event × Reply)) (t' : Tree) (e : Event) (reply : Reply) (t'' : Tree) → Leads t entries t' → Applies t' e (Ok reply) t'' → Leads t (entries ++ (e, reply) ∷ []) t''
leads_more t [] t' e reply t'' h applied = (t'', subst (λ x. Applies x e (Ok reply) t'') h applied, refl)
leads_more t (entry ∷ entries) t' e reply t'' h applied = (h.0, h.1, leads_more h.0 entries t' e reply t'' h.2 applied)

pub length_more : (entries : List (Event × Reply)) (entry : Event × Reply) → length (entries ++ entry ∷ []) ≡ length entries + 1
length_more entries entry = omega (arith, length-append entries (entry ∷ []))

pub amount_more : (entries : List (Event × Reply)) (entry : Event × Reply) → amount (entries ++ entry ∷ []) ≡ amount entries + amount_of entry.0
amount_more entries entry = sum_by_push (λ x. amount_of x.0) entries entry

is_true : (b : Bool) → ¬ (b ≡ false) → b ≡ true
is_true true h = refl
is_true false h = absurd (h refl)

-- an event whose reply may not be copied leaves the tree as it was
pub keeps_tree : (t : Tree) (e : Event) (reply : Reply) (t' : Tree) → Applies t e (Ok reply) t' → ¬ (owns_memory reply ≡ false) → t' ≡ t
keeps_tree t e reply t' applied h = reads_only t e reply t' applied (is_true (owns_memory reply) h)

pub is_journal : (n m : ℕ) (entries : List (Event × Reply)) (t : Tree) → n ≡ m → Replays n entries t → IsJournal m entries
is_journal n m entries t same h = (t, subst (λ x. Replays x entries t) same h)

-- an accepted event gets an entry, and a refused one isn't refused for a limit of handles
pub ruleset applying = (leads_more, no_handle_limit)

-- a reply that can't be copied was of an event that only reads, and is refused for memory alone
pub ruleset copying = (keeps_tree, memory_only)

-- an entry more is one call more, with what it adds
pub ruleset counting = (length_more, amount_more, open_known)
