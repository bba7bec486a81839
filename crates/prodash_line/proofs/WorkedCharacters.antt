-- Which characters are unsafe: the ends of each range of them, and their neighbours.
use Rattle.std.proofs.Common.{◌≡◌, true, false, [], ◌∷◌, map, refl}
use Rattle.prodash_line.specs.UnsafeCharacters.{is_unsafe}

-- control characters
pub controls : map is_unsafe (0x00 ∷ 0x1F ∷ 0x20 ∷ 0x7E ∷ 0x7F ∷ 0x9F ∷ 0xA0 ∷ []) ≡ true ∷ true ∷ false ∷ false ∷ true ∷ true ∷ false ∷ []
controls = refl

-- marks
pub marks : map is_unsafe (0x61B ∷ 0x61C ∷ 0x61D ∷ 0x200D ∷ 0x200E ∷ 0x200F ∷ 0x2010 ∷ []) ≡ false ∷ true ∷ false ∷ false ∷ true ∷ true ∷ false ∷ []
marks = refl

-- separators, embeddings and overrides
pub overrides : map is_unsafe (0x2027 ∷ 0x2028 ∷ 0x2029 ∷ 0x202A ∷ 0x202E ∷ 0x202F ∷ []) ≡ false ∷ true ∷ true ∷ true ∷ true ∷ false ∷ []
overrides = refl

-- isolates
pub isolates : map is_unsafe (0x2065 ∷ 0x2066 ∷ 0x2069 ∷ 0x206A ∷ []) ≡ false ∷ true ∷ true ∷ false ∷ []
isolates = refl

-- the byte order mark
pub mark : map is_unsafe (0xFEFE ∷ 0xFEFF ∷ 0xFF00 ∷ []) ≡ false ∷ true ∷ false ∷ []
mark = refl
