-- The bytes of a text in one of its forms.
use Rattle.std.specs.Prelude.{ℕ, List, string_bytes}
use Rattle.prodash_base.specs.declared.text.short.Form.{Form}
use Rattle.prodash_base.specs.declared.text.short.Form.TheVariants.{Short, Long}

abbrev pub form_bytes : Form → List ℕ
form_bytes (Short _ text) = text
form_bytes (Long text) = string_bytes text
