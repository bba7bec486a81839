-- Reporters: what they send at a moment of their clock, which promises nothing, and their children.
use Rattle.std.specs.Prelude.{ℕ, List, Option, IfSome}
use Rattle.prodash_base.specs.declared.messages.MessageLevel.{MessageLevel}
use Rattle.prodash_base.specs.declared.messages.MessageLevel.TheVariants.{Info}
use Rattle.prodash_base.specs.declared.unit.units.Unit.{Unit}
use Rattle.prodash_base.specs.Rows.{unknown_id}
use Rattle.prodash_base.specs.ThroughputMessages.{done_message}
use Rattle.prodash_core.specs.Traits.{SendsThroughput}
use Rattle.prodash.specs.declared.progress.utils.reporter.Reporter.{Reporter}

-- what it means that a message was sent from a progress: at a moment, with a severity and a text
abbrev pub WasSent : Type 0 → Type 1
WasSent P = P → ℕ → MessageLevel → List ℕ → Type 0

-- The progress sends a message at some moment.
abbrev pub SendsAtSomeMoment : {P : Type 0} → WasSent P → P → MessageLevel → List ℕ → Type 0
SendsAtSomeMoment was_sent progress level text = (at : ℕ) × was_sent progress at level text

-- At some moment the progress sends how fast this many steps were done since `start`.
abbrev pub ReportsSteps : {P : Type 0} → WasSent P → P → MessageLevel → Option Unit → ℕ → ℕ → Type 0
ReportsSteps was_sent progress level unit step start =
    (at : ℕ) × was_sent progress at level (done_message unit step start at)

-- At some moment the progress sends how fast the steps that it may show were done since `start`.
abbrev pub ReportsThroughput : {P : Type 0} → (P → ℕ → Type 0) → (P → Option Unit → Type 0)
    → WasSent P → P → ℕ → Type 0
ReportsThroughput shows has_unit was_sent progress start = (at : ℕ)
    × SendsThroughput (shows progress) (has_unit progress) (was_sent progress at Info) start at

-- The progress of a reporter gets a child, which is the progress of another reporter.
abbrev pub GetsReporter : {P S K : Type 0} → (P → List ℕ → List ℕ → P → S → Type 0)
    → Reporter P K → List ℕ → List ℕ → Reporter P K → Reporter S K → Type 0
GetsReporter gets_child old name id new child =
    gets_child old.progress name id new.progress child.progress

-- The same without an identifier, under the name that a value is displayed as, if that is specified.
abbrev pub GetsFormatted : {P S K : Type 0} → (P → List ℕ → List ℕ → P → S → Type 0)
    → Reporter P K → Option (List ℕ) → Reporter P K → Reporter S K → Type 0
GetsFormatted gets_child old displayed new child =
    IfSome displayed (λ name. GetsReporter gets_child old name unknown_id new child)
