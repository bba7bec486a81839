-- Texts of which a refused call may have appended a part.
use Rattle.std.specs.Prelude.{ℕ, List, String, string_bytes, Result, OnOk}
use Rattle.prodash_base.specs.Appending.{Appends, IsPrefix}

-- the text is appended unless the call is refused, which leaves what was in the string as a prefix
abbrev pub Pushes : {Z V E : Type 0} → Result V E → String Z → List ℕ → String Z → Type 0
Pushes result before text after =
    OnOk result (Appends before text after) × IsPrefix (string_bytes before) (string_bytes after)
