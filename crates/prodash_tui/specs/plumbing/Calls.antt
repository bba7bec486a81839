-- Calls that draw on a row, and the cells that they leave.
use Rattle.std.specs.Prelude.{◌≡◌, ℕ, ◌-◌, ◌≤◌, List, [], ◌∷◌, Option, Some, None}
use Rattle.std.specs.List.{All}
use Rattle.prodash_tui.specs.declared.cell.Cell.{Cell}
use Rattle.prodash_tui.specs.declared.grid_row.Span.{Span}
use Rattle.prodash_tui.specs.declared.word.Word.{Word}
use Rattle.prodash_tui.specs.declared.word.Word.TheVariants.{Text, Shortened, Filling, Background}
use Rattle.prodash_tui.specs.Cells.{on_background}
use Rattle.prodash_tui.specs.Rows.{in_part, splice}
use Rattle.prodash_tui.specs.Texts.{filling, text_cut, text_shortened}

-- what a call draws, in which columns, and its text
pub record Drawing : Type 0 where
  pub word : Word
  pub columns : Span
  pub text : List ℕ

-- the cells of a row after a word in these columns, with this text
abbrev pub with_word : Word → Span → List ℕ → List Cell → List Cell
with_word (Text style) columns text cells = splice columns.first (text_cut style (columns.last - columns.first) text) cells
with_word (Shortened style) columns text cells = splice columns.first (text_shortened style (columns.last - columns.first) text) cells
with_word (Filling c style) columns text cells = splice columns.first (filling style (columns.last - columns.first) c) cells
with_word (Background color) columns text cells = in_part columns.first (columns.last - columns.first) (on_background color) cells

-- the cells after a call
abbrev pub with_call : Drawing → List Cell → List Cell
with_call call cells = with_word call.word call.columns call.text cells

-- the cells after calls, one after another
abbrev pub played : List Drawing → List Cell → List Cell
played [] cells = cells
played (call ∷ calls) cells = played calls (with_call call cells)

-- columns of so many
pub record IsWithin (width : ℕ) (columns : Span) : Type 0 where
  pub order : columns.first ≤ columns.last
  pub end : columns.last ≤ width

-- each call draws in some of so many columns
abbrev pub AreWithin : ℕ → List Drawing → Type 0
AreWithin width calls = All (λ call. IsWithin width call.columns) calls

-- it is a call of this word in these columns, with this text
abbrev pub IsCallOf : Word → Span → List ℕ → Option Drawing → Type 0
IsCallOf word columns text None = ⊥
IsCallOf word columns text (Some call) = call ≡ record { word = word; columns = columns; text = text }
