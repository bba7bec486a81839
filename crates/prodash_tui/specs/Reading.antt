-- Signs that are read back from their bytes.
use Rattle.std.specs.Prelude.{◌≡◌, ℕ, ◌^◌, ◌<◌, ◌≤◌, false, ⊤, List, length}
use Rattle.std.specs.Char.{is_control}
use Rattle.std.specs.List.{AllByRecursion}
use Rattle.prodash_tui.specs.declared.cell.Cell.{Cell}
use Rattle.prodash_tui.specs.declared.sign.Sign.{Sign}
use Rattle.prodash_tui.specs.declared.sign.Sign.TheVariants.{Char, MoveTo, SetStyle, EraseScreen, EnterAlternate, LeaveAlternate, HideCursor, ShowCursor, NoWrap, Wrap}
use Rattle.prodash_tui.specs.declared.dashboard.contents.Contents.{Contents}
use Rattle.prodash_tui.specs.Boards.{Board, frame_signs}
use Rattle.prodash_tui.specs.Frames.{difference, first_frame}
use Rattle.prodash_tui.specs.Grids.{Sheet}
use Rattle.prodash_tui.specs.HeldCharacters.{RowHolds}
use Rattle.prodash_tui.specs.Signs.{spelling}

-- a character that is no control character
abbrev pub IsReadableChar : ℕ → Type 0
IsReadableChar c = is_control c ≡ false

-- a sign that is such a character, or a control function with numbers of 16 bits
abbrev pub IsReadable : Sign → Type 0
IsReadable (Char c) = IsReadableChar c
IsReadable (MoveTo row column) = (row < 2 ^ 16) × (column < 2 ^ 16)
IsReadable (SetStyle style) = ⊤
IsReadable EraseScreen = ⊤
IsReadable EnterAlternate = ⊤
IsReadable LeaveAlternate = ⊤
IsReadable HideCursor = ⊤
IsReadable ShowCursor = ⊤
IsReadable NoWrap = ⊤
IsReadable Wrap = ⊤

-- signs of which each is such a one
abbrev pub AreReadable : List Sign → Type 0
AreReadable signs = AllByRecursion IsReadable signs

-- a row of such characters
abbrev pub RowHoldsReadable : List Cell → Type 0
RowHoldsReadable row = RowHolds IsReadableChar row

-- a grid of such rows, at most 65536 wide and high
pub record IsReadableGrid (g : Sheet) : Type 0 where
  pub wide : AllByRecursion (λ row. length row ≤ 2 ^ 16) g.rows
  pub high : length g.rows ≤ 2 ^ 16
  pub cells : AllByRecursion RowHoldsReadable g.rows

-- no two lists of such signs are spelled by the same bytes
abbrev pub HaveOneSpelling : Type 0
HaveOneSpelling = (a b : List Sign) → AreReadable a → AreReadable b → spelling a ≡ spelling b → a ≡ b

-- the only such signs that spell the bytes of a frame are its own
abbrev pub FramesAreReadBack : Type 0
FramesAreReadBack = (before after : Sheet) (signs : List Sign) → IsReadableGrid after → AreReadable signs
    → (spelling signs ≡ spelling (difference before after) → signs ≡ difference before after)
    × (spelling signs ≡ spelling (first_frame after) → signs ≡ first_frame after)

-- a frame of a dashboard has its bytes alone: the only such signs that spell them are its own, on a terminal of at most 65535 columns and rows
abbrev pub DashboardsAreReadBack : Type 0
DashboardsAreReadBack = (s : Board) (c : Contents) (signs : List Sign) → s.width < 2 ^ 16 → s.height < 2 ^ 16 → AreReadable signs
    → spelling signs ≡ spelling (frame_signs s c) → signs ≡ frame_signs s c
