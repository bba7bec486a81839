-- The cells of a grid.
use Rattle.std.specs.Prelude.{ℕ, Bool, true, false, ◌&&◌, nat_eq, List, [], ◌∷◌, ◌++◌, take, replicate, slice_index_or, Some, None}
use Rattle.std.specs.Cmp.Lexicographic.{pointwise}
use Rattle.std.specs.Bool.{beq}
use Rattle.std.specs.Option.{option_eq}
use Rattle.prodash_tui.specs.declared.cell.Cell.{Cell}
use Rattle.prodash_tui.specs.declared.cell.Cell.TheVariants.{Holds, Half}
use Rattle.prodash_tui.specs.declared.style.Color.{Color}
use Rattle.prodash_tui.specs.declared.style.Color.TheVariants.{Black, Red, Green, Yellow, White, LightRed}
use Rattle.prodash_tui.specs.declared.style.Style.{Style}

-- the style of a blank cell
abbrev pub plain : Style
plain = record { bold = false; foreground = None; background = None }

-- a cell with a character by itself
abbrev pub cell_of : Style → ℕ → Cell
cell_of style c = Holds c [] style

-- a blank cell is a space
abbrev pub blank_cell : Cell
blank_cell = cell_of plain 32

-- so many blank cells
abbrev pub blank_cells : ℕ → List Cell
blank_cells n = replicate n blank_cell

-- the test of a second half
abbrev pub is_half : Cell → Bool
is_half (Holds c joined style) = false
is_half Half = true

-- the cell in place k, a blank one if there is none
abbrev pub cell_at : List Cell → ℕ → Cell
cell_at cells k = slice_index_or cells k blank_cell

-- the characters of no column that a cell holds with its own: the first four
abbrev pub held : List ℕ → List ℕ
held joined = take 4 joined

-- a character joins the one in a cell
abbrev pub joined_by : ℕ → Cell → Cell
joined_by c (Holds d joined style) = Holds d (held (joined ++ c ∷ [])) style
joined_by c Half = Half

-- a cell on this background; a second half has none of its own
abbrev pub on_background : Color → Cell → Cell
on_background color (Holds c joined style) = Holds c joined (record style { background = Some color })
on_background color Half = Half

-- the test of equal colours; this one and those below are true exactly of equal values
abbrev pub same_color : Color → Color → Bool
same_color Black Black = true
same_color Red Red = true
same_color Green Green = true
same_color Yellow Yellow = true
same_color White White = true
same_color LightRed LightRed = true
same_color _ _ = false

-- the test of equal styles
abbrev pub same_style : Style → Style → Bool
same_style s t = beq s.bold t.bold && (option_eq same_color s.foreground t.foreground && option_eq same_color s.background t.background)

-- the test of equal cells: the same character, the same that have joined it, and the same style
abbrev pub same_cell : Cell → Cell → Bool
same_cell (Holds c joined style) (Holds d others look) = nat_eq c d && (pointwise nat_eq joined others && same_style style look)
same_cell Half Half = true
same_cell _ _ = false
