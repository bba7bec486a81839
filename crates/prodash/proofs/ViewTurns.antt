-- What a turn of a view finds and leaves.
use Rattle.std.proofs.Common.{◌≡◌, ◌∙◌, ℕ, List, Option, None, Result, Ok, Err, IfOk, ap, sym, subst}
use Rattle.std.specs.Map.{keys_of}
use Rattle.prodash_base.specs.Adjacency.{IsAscending}
use Rattle.prodash_base.specs.Rows.{PathRow}
use Rattle.prodash_base.specs.declared.messages.Message.{Message}
use Rattle.prodash_core.specs.declared.tree.event.Event.{Event}
use Rattle.prodash_core.specs.declared.tree.event.Reply.{Reply}
use Rattle.prodash_line.specs.Renderer.{Seen}
use Rattle.prodash.specs.Views.{OfViewTurn, InOneTurn, Reads, Viewed, Shown, Sees, IsLook, HasLook, LooksRows, LooksMessages, LooksNews, or_nothing}
use Rattle.prodash.proofs.ShownTrees.{shown_ascend}
use Rattle.prodash.specs.declared.tree.turns.Turn.{Turn}

pub in_turn_if_ok : {T E : Type 0} (found left : OfViewTurn) (fact : T → Viewed → Viewed → Type 0) (r : Result T E)
    (turn : Turn) (old new : Viewed) → found turn old → left turn new
    → IfOk r (λ x. fact x old new) → IfOk r (λ x. InOneTurn found left (fact x))
in_turn_if_ok found left fact (Ok x) turn old new from to h = (turn, old, new, from, to, h)
in_turn_if_ok found left fact (Err e) turn old new from to h = h

pub reads : (found left : OfViewTurn) (fact : Viewed → Type 0) (turn : Turn) (old new : Viewed)
    → found turn old → left turn new → new ≡ old → fact old → Reads found left fact
reads found left fact turn old new from to same h = (turn, old, new, from, to, (same, h))

pub reads_if_ok : {T E : Type 0} (found left : OfViewTurn) (fact : T → Viewed → Type 0) (r : Result T E)
    (turn : Turn) (old new : Viewed) → found turn old → left turn new → new ≡ old
    → IfOk r (λ x. fact x old) → IfOk r (λ x. Reads found left (fact x))
reads_if_ok found left fact (Ok x) turn old new from to same h = reads found left (fact x) turn old new from to same h
reads_if_ok found left fact (Err e) turn old new from to same h = h

-- what holds of a tree that a turn reads, weakened
pub reads_less : (found left : OfViewTurn) (P Q : Viewed → Type 0) → ((tree : Viewed) → P tree → Q tree)
    → Reads found left P → Reads found left Q
reads_less found left P Q f h = (h.0, h.1, h.2, h.3, h.4, (h.5.0, f h.1 h.5.1))

-- what a look shows is what a frame sees, or nothing
pub looks_as_seen : (found left : OfViewTurn) (capacity : ℕ) (previous : Option ℕ) (entries : List (Event × Reply)) (seen : Seen) (shown : Shown)
    → Reads found left (Sees capacity previous entries seen) → shown ≡ or_nothing previous seen → Reads found left (IsLook capacity previous entries shown)
looks_as_seen found left capacity previous entries seen shown h is =
    reads_less found left (Sees capacity previous entries seen) (IsLook capacity previous entries shown)
    (λ tree sees. (sees.0, sees.1, is ∙ ap (λ (s : Seen). or_nothing previous s) sees.2)) h

pub look_ascends : (found left : OfViewTurn) (capacity : ℕ) (previous : Option ℕ) (entries : List (Event × Reply)) (shown : Shown)
    → Reads found left (IsLook capacity previous entries shown) → IsAscending (keys_of shown.0)
look_ascends found left capacity previous entries shown h = shown_ascend h.1.tree previous shown h.5.1.2

pub looks_at_all : (found left : OfViewTurn) (capacity : ℕ) (previous : Option ℕ) (entries : List (Event × Reply)) (shown : Shown)
    → Reads found left (IsLook capacity previous entries shown) → Reads found left (HasLook capacity previous shown)
looks_at_all found left capacity previous entries shown h =
    reads_less found left (IsLook capacity previous entries shown) (HasLook capacity previous shown) (λ tree is. (entries, is)) h

pub looks_rows : (found left : OfViewTurn) (capacity : ℕ) (shown : Shown) (rows : List PathRow)
    → Reads found left (HasLook capacity None shown) → rows ≡ shown.0 → Reads found left (LooksRows capacity rows)
looks_rows found left capacity shown rows h are =
    reads_less found left (HasLook capacity None shown) (LooksRows capacity rows) (λ tree is. (shown, is, are)) h

pub looks_messages : (found left : OfViewTurn) (capacity : ℕ) (shown : Shown) (messages : List Message)
    → Reads found left (HasLook capacity None shown) → messages ≡ shown.1 → Reads found left (LooksMessages capacity messages)
looks_messages found left capacity shown messages h are =
    reads_less found left (HasLook capacity None shown) (LooksMessages capacity messages) (λ tree is. (shown, is, are)) h

pub looks_news : (found left : OfViewTurn) (capacity : ℕ) (previous : Option ℕ) (shown : Shown) (messages : List Message) (sent : ℕ)
    → Reads found left (HasLook capacity previous shown) → messages ≡ shown.1 → sent ≡ shown.2 → Reads found left (LooksNews capacity previous messages sent)
looks_news found left capacity previous shown messages sent h are is_sent =
    reads_less found left (HasLook capacity previous shown) (LooksNews capacity previous messages sent) (λ tree is. (shown, is, are, is_sent)) h

pub looks_same : (found left : OfViewTurn) (capacity : ℕ) (previous : Option ℕ) (shown : Shown) (rows : List PathRow) (messages : List Message) (sent : ℕ)
    → Reads found left (HasLook capacity previous shown) → rows ≡ shown.0 → messages ≡ shown.1 → sent ≡ shown.2
    → Reads found left (HasLook capacity previous (rows, messages, sent))
looks_same found left capacity previous shown rows messages sent h are same is_sent =
    subst (λ (x : List PathRow). Reads found left (HasLook capacity previous (x, messages, sent))) (sym are)
    (subst (λ (y : List Message). Reads found left (HasLook capacity previous (shown.0, y, sent))) (sym same)
    (subst (λ (z : ℕ). Reads found left (HasLook capacity previous (shown.0, shown.1, z))) (sym is_sent) h))
