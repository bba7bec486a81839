-- Histories, and what the mark of their end says.
use Rattle.std.proofs.Common.{◌≡◌, ◌<◌, ◌≤◌, arith, ℕ, zero, suc, List, [], ◌∷◌, ◌++◌, Some, slice_get, length, refl, ap, sym, ◌∙◌, subst, true≢false, length-append}
use mathlib.Core.List.{IsPrefix}
use Rattle.std.proofs.lemmas.List.{append-nil}
use Rattle.prodash_core.specs.declared.tree.event.Event.{Event}
use Rattle.prodash_core.specs.declared.tree.event.Reply.{Reply}
use Rattle.prodash.specs.declared.tree.recorded.history.HistoryEntry.{HistoryEntry}
use Rattle.prodash.specs.declared.tree.recorded.history.HistoryEntry.TheVariants.{Call, End}
use Rattle.prodash.proofs.ListPrefixes.{prefix_get, prefix_length}
use Rattle.prodash.specs.Journals.{IsAfter}
use Rattle.prodash.specs.plumbing.Histories.{IsOpen, IsOrderly, history_of, ended, last_number}

-- an entry more keeps an open history orderly
pub orderly_more : (h : List HistoryEntry) (x : HistoryEntry) → IsOpen h → IsOrderly (h ++ x ∷ [])
orderly_more [] (Call e) o = refl
orderly_more [] End o = refl
orderly_more (Call e ∷ h) x o = orderly_more h x o
orderly_more (End ∷ h) x o = absurd (true≢false (sym o))

pub history_open : (es : List (Event × Reply)) → IsOpen (history_of es)
history_open [] = refl
history_open (e ∷ es) = history_open es

pub history_more : (es : List (Event × Reply)) (e : Event × Reply) → history_of (es ++ e ∷ []) ≡ history_of es ++ Call e ∷ []
history_more [] e = refl
history_more (x ∷ es) e = ap (λ (h : List HistoryEntry). Call x ∷ h) (history_more es e)

pub history_length : (es : List (Event × Reply)) → length (history_of es) ≡ length es
history_length [] = refl
history_length (e ∷ es) = ap (λ (n : ℕ). suc n) (history_length es)

-- nothing follows the end
pub ended_whole : (es : List (Event × Reply)) (more : List HistoryEntry) → IsOrderly (ended es ++ more) → more ≡ []
ended_whole [] [] h = refl
ended_whole [] (x ∷ more) h = absurd (true≢false (sym h))
ended_whole (e ∷ es) more h = ended_whole es more h

-- a call of the ended history is in the journal
pub ended_get : (es : List (Event × Reply)) (n : ℕ) (e : Event × Reply) → slice_get (ended es) n ≡ Some (Call e) → slice_get es n ≡ Some e
ended_get [] zero e h = absurd (cc)
ended_get [] (suc n) e h = absurd (cc)
ended_get (x ∷ es) zero e h = cc
ended_get (x ∷ es) (suc n) e h = ended_get es n e h

pub get_last : (h : List HistoryEntry) (x : HistoryEntry) → slice_get (h ++ x ∷ []) (length h) ≡ Some x
get_last [] x = refl
get_last (y ∷ h) x = get_last h x

-- if two prefixes are seen together and one has the end, it has the other
pub covered : (es : List (Event × Reply)) (whole other both : List HistoryEntry) → whole ≡ ended es → IsPrefix whole both → IsPrefix other both → IsOrderly both → IsPrefix other whole
covered es whole other both is pre of orderly =
    let joined : ended es ++ pre.0 ≡ both = subst (λ (h : List HistoryEntry). h ++ pre.0 ≡ both) is pre.1 in
    let none : pre.0 ≡ [] = ended_whole es pre.0 (subst IsOrderly (sym joined) orderly) in
    let same : both ≡ whole = sym pre.1 ∙ (ap (λ (more : List HistoryEntry). whole ++ more) none ∙ append-nil whole) in
    subst (λ (h : List HistoryEntry). IsPrefix other h) same of

-- a call of a prefix of the ended history is in the journal
pub found : (es : List (Event × Reply)) (prefix whole : List HistoryEntry) (n : ℕ) (e : Event × Reply) → whole ≡ ended es → IsPrefix prefix whole → slice_get prefix n ≡ Some (Call e) → slice_get es n ≡ Some e
found es prefix whole n e is pre at =
    ended_get es n e (subst (λ (h : List HistoryEntry). slice_get h n ≡ Some (Call e)) is (prefix_get prefix whole n (Call e) pre at))

pub get_below : {A : Type 0} (xs : List A) (n : ℕ) (x : A) → slice_get xs n ≡ Some x → n < length xs
get_below [] n x h = absurd (cc)
get_below (y ∷ xs) zero x h = omega arith
get_below (y ∷ xs) (suc n) x h = let r = get_below xs n x h in omega arith

-- the call that was appended is the last of the history
pub appended : (es : List (Event × Reply)) (before after same : List HistoryEntry) (n : ℕ) (e : Event × Reply) → before ≡ history_of es → after ≡ before ++ Call e ∷ [] → same ≡ after → n ≡ length es → slice_get same n ≡ Some (Call e)
appended es before after same n e is more again at =
    let last = get_last (history_of es) (Call e) in
    let P : List HistoryEntry → Type 0 = λ h. slice_get h (length (history_of es)) ≡ Some (Call e) in
    let whole : history_of es ++ Call e ∷ [] ≡ same = ap (λ (h : List HistoryEntry). h ++ Call e ∷ []) (sym is) ∙ (sym more ∙ sym again) in
    let Q : ℕ → Type 0 = λ k. slice_get same k ≡ Some (Call e) in
    subst Q (history_length es ∙ sym at) (subst P whole last)

pub open_known : (es : List (Event × Reply)) (h : List HistoryEntry) → h ≡ history_of es → IsOpen h
open_known es h is = subst IsOpen (sym is) (history_open es)

pub short_known : (es : List (Event × Reply)) (h : List HistoryEntry) → h ≡ history_of es → length es < 9223372036854775808 → length h < 9223372036854775808
short_known es h is short = omega (arith, short, ap (λ (x : List HistoryEntry). length x) is, history_length es)

-- the call that was appended is the last of the history
pub appended_last : (es : List (Event × Reply)) (before after : List HistoryEntry) (e : Event × Reply) → before ≡ history_of es → after ≡ before ++ Call e ∷ [] → slice_get after (length es) ≡ Some (Call e)
appended_last es before after e is more = appended es before after after (length es) e is more refl refl

pub appended_known : (es : List (Event × Reply)) (before after : List HistoryEntry) (e : Event × Reply) → before ≡ history_of es → after ≡ before ++ Call e ∷ [] → after ≡ history_of (es ++ e ∷ [])
appended_known es before after e is more = more ∙ (ap (λ (h : List HistoryEntry). h ++ Call e ∷ []) is ∙ sym (history_more es e))

-- the number of the last entry of a history is less than its length, and an entry more has that number
pub last_appended : (h : List HistoryEntry) (x : HistoryEntry) → last_number (h ++ x ∷ []) ≡ Some (length h)
last_appended [] x = refl
last_appended (y ∷ h) x = ap (λ (n : ℕ). Some n) (omega (arith, length-append h (x ∷ [])))

pub last_below : (h : List HistoryEntry) (n : ℕ) → length h ≤ n → IsAfter (last_number h) n
last_below [] n le = λ x is. absurd (cc)
last_below (y ∷ h) n le = λ x is. let same : length h ≡ x = cc in omega (arith, le, same)

-- the next call has a greater number than the last of each prefix of the history
pub numbered_after : (es : List (Event × Reply)) (earlier before : List HistoryEntry) → before ≡ history_of es → IsPrefix earlier before → IsAfter (last_number earlier) (length es)
numbered_after es earlier before is p = last_below earlier (length es) (omega (arith, prefix_length earlier before p, ap (λ (x : List HistoryEntry). length x) is, history_length es))

-- the call that was appended has the number of the entries before it
pub numbered_last : (es : List (Event × Reply)) (before after : List HistoryEntry) (e : Event × Reply) → before ≡ history_of es → after ≡ before ++ Call e ∷ [] → last_number after ≡ Some (length es)
numbered_last es before after e is more =
    let here : length before ≡ length es = ap (λ (x : List HistoryEntry). length x) is ∙ history_length es in
    ap last_number more ∙ (last_appended before (Call e) ∙ ap (λ (n : ℕ). Some n) here)

-- the history of a tree is open, and a call more is an entry more
pub ruleset appending = (open_known, short_known, appended_last, appended_known, numbered_after, numbered_last)
