-- Which locales are ones of UTF-8, computed.
use Rattle.std.proofs.Common.{◌≡◌, true, false, [], ◌∷◌, map, refl}
use Rattle.std.specs.Prelude.{codes}
use Rattle.prodash_line.specs.Environments.{is_utf8_locale}

-- the codeset behind a dot, before a modifier, in letters of any case; or the name alone
pub utf8_locales : map is_utf8_locale (codes "C.UTF-8" ∷ codes "de_DE.Utf8@euro" ∷ codes "UTF-8" ∷ []) ≡ true ∷ true ∷ true ∷ []
utf8_locales = refl

-- none, a modifier, another codeset, one that goes on
pub other_locales : map is_utf8_locale ([] ∷ codes "C" ∷ codes "de_DE@UTF-8" ∷ codes "de_DE.ISO-8859-1" ∷ codes "de_DE.UTF-8.x" ∷ []) ≡ false ∷ false ∷ false ∷ false ∷ false ∷ []
other_locales = refl
