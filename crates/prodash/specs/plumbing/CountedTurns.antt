-- Turns at the lock of a tree that are counted: how many a call takes, and what each found and left.
use Rattle.std.specs.Prelude.{◌≡◌, ℕ, ◌-◌, List, ◌∷◌, [], Option, is_some, option_map, String, string_bytes, Result, IfOk, OnOk, OnErr, ◌⊎◌}
use Rattle.std.specs.Global.{Vec}
use Rattle.prodash_base.specs.Path.{Path}
use Rattle.prodash_base.specs.Rows.{PathRow, rows_of}
use Rattle.prodash_base.specs.declared.messages.Message.{Message}
use Rattle.prodash_base.specs.declared.progress.Row.{Row}
use Rattle.prodash_base.specs.declared.refusal.Refusal.{Refusal}
use Rattle.prodash.specs.Turns.{OfTurn, HasName, HasRows, HasRowsAndNews, Stays, Upgrades}
use Rattle.prodash.specs.declared.tree.locked.LockedTree.{LockedTree}
use Rattle.prodash.specs.declared.tree.turns.Turn.{Turn}
use Rattle.prodash.specs.plumbing.LockedCalls.{Removes}

-- the turns that were taken, the latest first: the tree that each found, and the tree that it left
abbrev pub Taken : Type 0
Taken = List (LockedTree × LockedTree)

-- what is known of one that takes turns, and of the turns that it took
abbrev pub OfTaken : Type 0 → Type 1
OfTaken T = T → Taken → Type 0

-- what is known of one that has a turn: of the turns that it took before, and of the tree found
abbrev pub OfHeld : Type 0 → Type 1
OfHeld T = T → Taken → LockedTree → Type 0

-- what a turn makes of the tree that it finds
abbrev pub Change : Type 1
Change = LockedTree → LockedTree → Type 0

-- Whatever turns it took, it has one more now, which found this tree.
unfoldable pub BeginsTurn : {T : Type 0} → OfTaken T → OfHeld T → T → T → LockedTree → Type 0
BeginsTurn took has_turn old new tree = (taken : Taken) → took old taken → has_turn new taken tree

-- The turn that it has leaves this tree, and is the latest that it took.
unfoldable pub EndsTurn : {T : Type 0} → OfTaken T → OfHeld T → T → T → LockedTree → Type 0
EndsTurn took has_turn old new tree = (taken : Taken) (found : LockedTree)
    → has_turn old taken found → took new ((found, tree) ∷ taken)

-- No turn is taken.
abbrev pub TakesNone : {T : Type 0} → OfTaken T → T → T → Type 0
TakesNone took old new = (taken : Taken) → took old taken → took new taken

-- Exactly one turn is taken, and makes this change.
unfoldable pub TakesOne : {T : Type 0} → OfTaken T → T → T → Change → Type 0
TakesOne took old new change = (taken : Taken) → took old taken
    → (found : LockedTree) × (left : LockedTree) × took new ((found, left) ∷ taken) × change found left

-- At most one turn is taken, and makes this change.
unfoldable pub TakesAtMostOne : {T : Type 0} → OfTaken T → T → T → Change → Type 0
TakesAtMostOne took old new change = TakesNone took old new ⊎ TakesOne took old new change

-- Exactly one turn is taken. It leaves the tree as it found it, and the fact holds of that tree.
abbrev pub LooksOnce : {T : Type 0} → OfTaken T → T → T → (LockedTree → Type 0) → Type 0
LooksOnce took old new fact = TakesOne took old new (λ found left. Stays found left × fact found)

-- The change is made if the call is accepted, and else the tree stays.
abbrev pub OrStays : {A : Type 0} → Result A Refusal → Change → Change
OrStays result change old new = OnOk result (change old new) × OnErr result (Stays old new)

-- What is returned holds of the tree, unless the call is refused.
abbrev pub Gives : {A : Type 0} → Result A Refusal → (A → LockedTree → Type 0) → LockedTree → Type 0
Gives result fact tree = IfOk result (λ x. fact x tree)

-- The fact holds of the tree, unless the call is refused.
abbrev pub Shows : {A : Type 0} → Result A Refusal → (LockedTree → Type 0) → LockedTree → Type 0
Shows result fact tree = OnOk result (fact tree)

-- Exactly one turn is taken. It makes the change if the call is accepted, and else leaves the tree.
abbrev pub Tries : {T A : Type 0} → OfTaken T → T → T → Result A Refusal → Change → Type 0
Tries took old new result change = TakesOne took old new (OrStays result change)

-- Exactly one turn is taken, and looks. What is returned holds of the tree, unless the call is refused.
abbrev pub Gets : {T A : Type 0} → OfTaken T → T → T → Result A Refusal → (A → LockedTree → Type 0) → Type 0
Gets took old new result fact = LooksOnce took old new (Gives result fact)

-- Exactly one turn is taken, and makes the change of what is returned, unless the call is refused.
abbrev pub TakesOnOk : {T A : Type 0} → OfTaken T → T → T → Result A Refusal → (A → Change) → Type 0
TakesOnOk took old new result change = IfOk result (λ x. TakesOne took old new (change x))

-- the string is the name of the task at the path, if there is one
abbrev pub HasNameOf : {Z : Type 0} → Path → Option (String Z) → LockedTree → Type 0
HasNameOf path name tree = HasName path (option_map string_bytes name) tree

-- the rows, as they are copied, are those of the tree
abbrev pub HasRowCopies : List Row → LockedTree → Type 0
HasRowCopies rows tree = HasRows (rows_of rows) tree

-- the rows and the messages, as they are copied, are those of the tree
abbrev pub HasCopies : Option ℕ → Vec Row → Vec Message → ℕ → LockedTree → Type 0
HasCopies previous rows messages sent tree =
    HasRowsAndNews previous (rows_of rows.items) messages.items sent tree

-- the rows, as they are copied, and the messages are those of the tree
abbrev pub HasCopiesAndNews : Option ℕ → List Row → List Message × ℕ → LockedTree → Type 0
HasCopiesAndNews previous rows news tree =
    HasRowsAndNews previous (rows_of rows) news.0 news.1 tree

-- what a look returns is of the tree: the rows, the messages, and how many were sent
abbrev pub HasSeen : Option ℕ → List PathRow × List Message × ℕ → LockedTree → Type 0
HasSeen previous seen tree = HasRowsAndNews previous seen.0 seen.1 seen.2 tree

-- The task at the path is removed, if there is one, and a slot is freed.
abbrev pub RemovesTask : Path → Change
RemovesTask path old new = (slot : ℕ) × Removes old path slot new

-- The tree loses an owner, if it has one.
abbrev pub LosesOwner : Change
LosesOwner old new = new ≡ record old { owners = old.owners - 1 }

-- The tree gets an owner if it has one, which is returned, and stays if the call is refused.
abbrev pub UpgradesOrStays : {A : Type 0} → Result (Option A) Refusal → Change
UpgradesOrStays result old new =
    IfOk result (λ owner. Upgrades (is_some owner) old new) × OnErr result (Stays old new)

-- Each of these turns found and left what its pair says.
unfoldable pub WereTaken : OfTurn → OfTurn → Taken → Type 0
WereTaken found left [] = Unit {0}
WereTaken found left ((old, new) ∷ taken) =
    ((turn : Turn) × found turn old × left turn new) × WereTaken found left taken
