-- How many turns a call takes, and what a turn of a runtime finds and leaves.
use Rattle.std.proofs.Common.{◌≡◌, ℕ, Bool, Option, Some, None, is_some, sym, subst, List, [], ◌∷◌, Result, Ok, Err, IfOk, OnOk, OnErr, ◌⊎◌, inl, inr}
use Rattle.std.specs.Global.{Vec}
use Rattle.prodash_base.specs.Rows.{PathRow}
use Rattle.prodash_base.specs.Steps.{OfSeenSteps}
use Rattle.prodash_base.specs.declared.messages.Message.{Message}
use Rattle.prodash_base.specs.declared.refusal.Refusal.{Refusal}
use Rattle.prodash.specs.Turns.{OfTurn, Finds, HasRowsAndNews, HasSteps, Changes, Stays, Upgrades}
use Rattle.prodash.specs.plumbing.CountedTurns.{OfTaken, OfHeld, Change, BeginsTurn, EndsTurn, TakesNone, TakesOne, TakesAtMostOne, LooksOnce, OrStays, Gives, Shows, UpgradesOrStays, WereTaken}
use Rattle.prodash.specs.declared.tree.locked.LockedTree.{LockedTree}

-- A turn that begins and ends is one turn.
pub takes_one : {T : Type 0} (took : OfTaken T) (has_turn : OfHeld T) (before between after : T)
    (change : Change) (found left : LockedTree)
    → BeginsTurn took has_turn before between found → EndsTurn took has_turn between after left
    → change found left → TakesOne took before after change
unfolding BeginsTurn EndsTurn TakesOne
takes_one took has_turn before between after change found left begins ends h =
    λ taken so_far. (found, left, ends taken found (begins taken so_far), h)

pub takes_no_turn : {T : Type 0} (took : OfTaken T) (t : T) (change : Change) → TakesAtMostOne took t t change
unfolding TakesAtMostOne
takes_no_turn took t change = inl (λ taken so_far. so_far)

pub at_most_one : {T : Type 0} (took : OfTaken T) (before after : T) (change : Change)
    → TakesOne took before after change → TakesAtMostOne took before after change
unfolding TakesAtMostOne
at_most_one took before after change one = inr one

-- what is known of the turn that a call takes, weakened
pub takes_less : {T : Type 0} (took : OfTaken T) (before after : T) (P Q : Change)
    → ((found left : LockedTree) → P found left → Q found left)
    → TakesOne took before after P → TakesOne took before after Q
unfolding TakesOne
takes_less took before after P Q f one = λ taken so_far.
    let h = one taken so_far in (h.0, h.1, h.2, f h.0 h.1 h.3)

-- the turns of a call by a runtime
abbrev pub OfRuntime : (T : Type 0) → OfTurn → OfTurn → OfTaken T
OfRuntime T found left = λ t taken. WereTaken found left taken

-- What the one turn of a call changes, a turn of the runtime changes.
pub changes : {T : Type 0} (before after : T) (found left : OfTurn) (change : Change)
    → TakesOne (OfRuntime T found left) before after change → Changes found left change
unfolding TakesOne WereTaken
changes before after found left change one =
    let h = one [] tt in (h.2.0.0, h.0, h.1, h.2.0.1, h.2.0.2, h.3)

pub changes_on_ok : {T A : Type 0} (before after : T) (found left : OfTurn) (r : Result A Refusal) (change : Change)
    → TakesOne (OfRuntime T found left) before after (OrStays r change) → OnOk r (Changes found left change)
changes_on_ok {T = T} {A = A} before after found left (Ok x) change one = changes before after found left change
    (takes_less (OfRuntime T found left) before after (OrStays {A = A} (Ok x) change) change (λ old new h. h.0) one)
changes_on_ok before after found left (Err e) change one = tt

pub stays_on_err : {T A : Type 0} (before after : T) (found left : OfTurn) (r : Result A Refusal) (change : Change)
    → TakesOne (OfRuntime T found left) before after (OrStays r change) → OnErr r (Changes found left Stays)
stays_on_err before after found left (Ok x) change one = tt
stays_on_err {T = T} {A = A} before after found left (Err e) change one = changes before after found left Stays
    (takes_less (OfRuntime T found left) before after (OrStays {A = A} (Err e) change) Stays (λ old new h. h.1) one)

pub upgrades : {T A : Type 0} (before after : T) (found left : OfTurn) (owner : Option A) (is_owned : Bool)
    → TakesOne (OfRuntime T found left) before after (UpgradesOrStays (Ok owner)) → is_owned ≡ is_some owner
    → Changes found left (Upgrades is_owned)
upgrades {T = T} {A = A} before after found left owner is_owned one same = changes before after found left (Upgrades is_owned)
    (takes_less (OfRuntime T found left) before after (UpgradesOrStays {A = A} (Ok owner)) (Upgrades is_owned)
    (λ old new h. subst (λ (b : Bool). Upgrades b old new) (sym same) h.0) one)

-- What the one turn of a call finds, a turn of the runtime finds.
pub finds : {T : Type 0} (before after : T) (found left : OfTurn) (fact : LockedTree → Type 0)
    → LooksOnce (OfRuntime T found left) before after fact → Finds found fact
unfolding TakesOne WereTaken
finds before after found left fact one = let h = one [] tt in (h.2.0.0, h.0, h.2.0.1, h.3.1)

pub finds_on_ok : {T A : Type 0} (before after : T) (found left : OfTurn) (r : Result A Refusal) (fact : LockedTree → Type 0)
    → LooksOnce (OfRuntime T found left) before after (Shows r fact) → OnOk r (Finds found fact)
finds_on_ok before after found left (Ok x) fact one = finds before after found left fact one
finds_on_ok before after found left (Err e) fact one = tt

pub finds_if_ok : {T A : Type 0} (before after : T) (found left : OfTurn) (r : Result A Refusal) (fact : A → LockedTree → Type 0)
    → LooksOnce (OfRuntime T found left) before after (Gives r fact) → IfOk r (λ x. Finds found (fact x))
finds_if_ok before after found left (Ok x) fact one = finds before after found left (fact x) one
finds_if_ok before after found left (Err e) fact one = tt

-- a look that was handed rows found them with these steps, if it returned steps
pub finds_steps : (found : OfTurn) (rows : List PathRow) (previous : Option ℕ) (r : Result (Option (Vec ℕ × List Message × ℕ)) Refusal)
    → IfOk r (λ steps. Finds found (HasSteps rows previous steps))
    → IfOk r (OfSeenSteps (λ listed messages sent. Finds found (HasRowsAndNews previous listed messages sent)) rows)
finds_steps found rows previous (Ok (Some seen)) h = h
finds_steps found rows previous (Ok None) h = tt
finds_steps found rows previous (Err e) h = tt

pub ruleset taking = (takes_one, at_most_one, takes_no_turn)
