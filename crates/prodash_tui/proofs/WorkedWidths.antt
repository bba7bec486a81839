-- What displays show that give characters other columns than `unicode_width` counts, computed.
use Rattle.std.proofs.Common.{◌≡◌, ℕ, cond, List, [], ◌∷◌, ◌++◌, map, refl, eqb}
use Rattle.std.specs.Prelude.{None, false, codes}
use Rattle.prodash_tui.specs.declared.cell.Cell.{Cell}
use Rattle.prodash_tui.specs.declared.cell.Cell.TheVariants.{Holds, Half}
use Rattle.prodash_tui.specs.Cells.{cell_of, plain}
use Rattle.prodash_tui.specs.Displays.{after_signs}
use Rattle.prodash_tui.specs.Frames.{difference}
use Rattle.prodash_tui.specs.Grids.{Sheet}

-- a display that gives the crab, for which `unicode_width` counts two columns, this many, and the check mark, for which it counts one, this many
abbrev widths : ℕ → ℕ → ℕ → ℕ
widths crab check c = cond (eqb c 0x1F980) crab (cond (eqb c 0x2713) check 1)

-- the characters of a text, each in a cell, in the plain style
abbrev row : List ℕ → List Cell
row text = map (cell_of plain) text

abbrev crab : List Cell
crab = cell_of plain 0x1F980 ∷ Half ∷ []

abbrev check : Cell
check = cell_of plain 0x2713

-- a grid of one row of four columns
abbrev grid : List Cell → Sheet
grid cells = record { width = 4; height = 1; rows = cells ∷ [] }

-- the row of a display that showed these cells, after the difference between two grids
abbrev shown : (ℕ → ℕ) → List Cell → List Cell → List Cell → List (List Cell)
shown columns cells before after =
    (after_signs columns (difference (grid before) (grid after)) (record {
      grid = grid cells;
      cursor = record { row = 0; column = 0; style = plain };
      main = None;
      shows_cursor = false;
      wraps = false;
    })).grid.rows

-- ---- in fewer columns

-- behind a crab in one column a blank is left, and nothing of it is left behind other characters
pub narrow : shown (widths 1 1) (row (codes "wxyz")) (row (codes "wxyz")) (row (codes "w") ++ crab ++ row (codes "z"))
    ≡ (row (codes "w") ++ cell_of plain 0x1F980 ∷ row (codes " z")) ∷ []
narrow = refl

pub narrow_over : shown (widths 1 1) (row (codes "w") ++ cell_of plain 0x1F980 ∷ row (codes " z")) (row (codes "w") ++ crab ++ row (codes "z")) (row (codes "wxyz"))
    ≡ row (codes "wxyz") ∷ []
narrow_over = refl

-- ---- in more columns

-- of a crab in three columns a display of this kind has two
pub three : shown (widths 3 1) (row (codes "wxyz")) (row (codes "wxyz")) (row (codes "w") ++ crab ++ row (codes "z")) ≡ (row (codes "w") ++ crab ++ row (codes "z")) ∷ []
three = refl

-- a check mark in more columns than one covers the blank behind it
pub wide : shown (widths 2 3) (row (codes "w  z")) (row (codes "w  z")) (row (codes "w") ++ check ∷ row (codes " z"))
    ≡ (row (codes "w") ++ check ∷ Half ∷ row (codes "z")) ∷ []
wide = refl

-- it is gone if that has another character, in the same frame or in a later one
pub covered : shown (widths 2 2) (row (codes "wxyz")) (row (codes "wxyz")) (row (codes "w") ++ check ∷ row (codes "vz"))
    ≡ row (codes "w vz") ∷ []
covered = refl

pub torn : shown (widths 2 2) (row (codes "w") ++ check ∷ Half ∷ row (codes "z")) (row (codes "w") ++ check ∷ row (codes " z")) (row (codes "w") ++ check ∷ row (codes "vz"))
    ≡ row (codes "w vz") ∷ []
torn = refl

-- ---- in the last column

-- where only one column is left, a wide one goes into the last two
pub edge : shown (widths 2 2) (row (codes "wxyz")) (row (codes "wxyz")) (row (codes "wxy") ++ check ∷ []) ≡ (row (codes "wx") ++ check ∷ Half ∷ []) ∷ []
edge = refl

-- and is gone with either of them
pub edge_over : shown (widths 2 2) (row (codes "wx") ++ check ∷ Half ∷ []) (row (codes "wxy") ++ check ∷ []) (row (codes "wxv") ++ check ∷ []) ≡ row (codes "wxv ") ∷ []
edge_over = refl

pub edge_gone : shown (widths 2 2) (row (codes "wx") ++ check ∷ Half ∷ []) (row (codes "wxy") ++ check ∷ []) (row (codes "wxyz")) ≡ row (codes "wx z") ∷ []
edge_gone = refl

-- ---- columns that aren't such ones

-- where a letter has two columns the cursor isn't known behind it: what follows it is written one column further, and may be left there
pub letter : shown (λ c. cond (eqb c 118) 2 1) (row (codes "    ")) (row (codes "    ")) (row (codes "vw  ")) ≡ (cell_of plain 118 ∷ Half ∷ row (codes "w ")) ∷ []
letter = refl

pub letter_left : shown (λ c. cond (eqb c 118) 2 1) (cell_of plain 118 ∷ Half ∷ row (codes "w ")) (row (codes "vw  ")) (row (codes "vx  ")) ≡ row (codes " xw ") ∷ []
letter_left = refl

-- where a character has a column that joins another one by `unicode_width`, it may be left behind that
pub mark : shown (λ c. 1) (row (codes "    ")) (row (codes "    ")) (Holds 97 (0x301 ∷ []) plain ∷ row (codes "   ")) ≡ (cell_of plain 97 ∷ cell_of plain 0x301 ∷ row (codes "  ")) ∷ []
mark = refl

pub mark_left : shown (λ c. 1) (cell_of plain 97 ∷ cell_of plain 0x301 ∷ row (codes "  ")) (Holds 97 (0x301 ∷ []) plain ∷ row (codes "   ")) (row (codes "x   "))
    ≡ (cell_of plain 120 ∷ cell_of plain 0x301 ∷ row (codes "  ")) ∷ []
mark_left = refl
