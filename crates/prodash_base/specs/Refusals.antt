-- Why calls are refused.
use Rattle.std.specs.Prelude.{◌≡◌, ◌⊎◌}
use Rattle.prodash_base.specs.declared.refusal.Refusal.{Refusal}
use Rattle.prodash_base.specs.declared.refusal.Refusal.TheVariants.{Memory, TooManyMessages, TooManyHandles, NoThread}

-- a reason to refuse a message: no memory, or too many messages were pushed
abbrev pub RefusesMessage : Refusal → Type 0
RefusesMessage e = (e ≡ Memory) ⊎ (e ≡ TooManyMessages)

-- a reason to refuse a handle: no memory, or too many handles were made
abbrev pub RefusesHandle : Refusal → Type 0
RefusesHandle e = (e ≡ Memory) ⊎ (e ≡ TooManyHandles)

-- a reason to refuse a thread: no memory, or the thread couldn't be started
abbrev pub RefusesThread : Refusal → Type 0
RefusesThread e = (e ≡ Memory) ⊎ (e ≡ NoThread)
