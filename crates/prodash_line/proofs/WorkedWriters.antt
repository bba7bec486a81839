-- The definitions of a screen over a writer, computed.
use Rattle.std.proofs.Common.{◌≡◌, [], ◌∷◌, true, false, Some, None, Ok, Err, refl}
use Rattle.prodash_base.specs.declared.refusal.Refusal.TheVariants.{Broken}
use Rattle.prodash_line.specs.Writers.{Write, Flush, screen_after, put_result}

-- before any call: what the writer holds is taken if it is known, and nothing is flushed
pub at_first : screen_after (Some (97 ∷ [])) [] ≡ record { bytes = 97 ∷ []; flushed = []; broken = false }
at_first = refl

pub at_first_unknown : screen_after None [] ≡ record { bytes = []; flushed = []; broken = false }
at_first_unknown = refl

-- a whole write and a short one, with a flush between them
pub short_write : screen_after None (Write (99 ∷ 100 ∷ []) (Some 1) ∷ Flush true ∷ Write (97 ∷ 98 ∷ []) (Some 2) ∷ [])
    ≡ record { bytes = 97 ∷ 98 ∷ 99 ∷ []; flushed = 97 ∷ 98 ∷ []; broken = false }
short_write = refl

-- an error, and nothing taken, break the screen; but of no bytes nothing can be taken
pub error : screen_after None (Write (97 ∷ []) None ∷ []) ≡ record { bytes = []; flushed = []; broken = true }
error = refl

pub nothing_taken : screen_after None (Write (97 ∷ []) (Some 0) ∷ []) ≡ record { bytes = []; flushed = []; broken = true }
nothing_taken = refl

pub no_bytes : screen_after None (Write [] (Some 0) ∷ []) ≡ record { bytes = []; flushed = []; broken = false }
no_bytes = refl

-- a refused flush breaks the screen, and what was taken stays so
pub refused_flush : screen_after None (Flush false ∷ Write (97 ∷ []) (Some 1) ∷ []) ≡ record { bytes = 97 ∷ []; flushed = []; broken = true }
refused_flush = refl

pub put_some : put_result (97 ∷ 98 ∷ []) (Some 1) ≡ Ok 1
put_some = refl

pub put_nothing : put_result (97 ∷ 98 ∷ []) (Some 0) ≡ Err Broken
put_nothing = refl

pub put_no_bytes : put_result [] (Some 0) ≡ Ok 0
put_no_bytes = refl

pub put_error : put_result [] None ≡ Err Broken
put_error = refl
