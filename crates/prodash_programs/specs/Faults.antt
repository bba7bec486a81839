-- Faults of the programs, and their exit statuses.
use Rattle.std.specs.Prelude.{◌≡◌, ℕ, ◌⊎◌}
use Rattle.std.specs.declared.io.ErrorKind.{ErrorKind}
use Rattle.std.specs.declared.io.ErrorKind.TheVariants as kinds
use Rattle.prodash_base.specs.declared.refusal.Refusal.{Refusal}
use Rattle.prodash_base.specs.declared.refusal.Refusal.TheVariants as refusals
use Rattle.prodash_line.specs.declared.render.line.page.reading.Fault.{Fault as ReadFault}
use Rattle.prodash_line.specs.declared.render.line.page.reading.Fault.TheVariants as reads
use Rattle.prodash_programs.specs.declared.fault.Fault.{Fault}
use Rattle.prodash_programs.specs.declared.fault.Fault.TheVariants.{Usage, Arguments, Line, Sign, Journal, Input, Output, Memory, Thread}

-- 2 if the arguments or the input are at fault, else 1
abbrev pub status_of : Fault → ℕ
status_of (Usage text) = 2
status_of Arguments = 2
status_of (Line n) = 2
status_of (Sign n) = 1
status_of Journal = 1
status_of Input = 1
status_of Output = 1
status_of Memory = 1
status_of Thread = 1

-- a read that failed with an error of this kind, as a fault
abbrev pub fault_of_read : ErrorKind → Fault
fault_of_read kinds.OutOfMemory = Memory
fault_of_read _ = Input

-- a refused call, as a fault
abbrev pub fault_of_refusal : Refusal → Fault
fault_of_refusal refusals.NoThread = Thread
fault_of_refusal _ = Memory

-- bytes that are no signs, as a fault
abbrev pub fault_of_signs : ReadFault → Fault
fault_of_signs (reads.At n) = Sign n
fault_of_signs reads.Memory = Memory

-- out of memory, or the other fault
abbrev pub IsMemoryOr : Fault → Fault → Type 0
IsMemoryOr other fault = (fault ≡ Memory) ⊎ (fault ≡ other)
