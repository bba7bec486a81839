-- Frames around a resize, on a terminal that has moved its rows: the definitions, computed.
use Rattle.std.proofs.Common.{◌≡◌, ℕ, true, false, cond, eqb, List, [], ◌∷◌, ◌++◌, map, drop, Some, None, Ok, Err, refl, arith}
use Rattle.std.specs.Prelude.{codes}
use Rattle.std.specs.Str.{chars}
use Rattle.std.specs.List.{AllByRecursion}
use Rattle.unicode_width.specs.Width.{str_width, step, past_emoji}
use Rattle.prodash_base.specs.Rows.{unknown_id}
use Rattle.prodash_base.specs.Messages.{message_of}
use Rattle.prodash_base.specs.declared.messages.Message.{Message}
use Rattle.prodash_base.specs.declared.messages.MessageLevel.TheVariants.{Info}
use Rattle.prodash_base.specs.declared.refusal.Refusal.TheVariants.{Memory}
use Rattle.prodash_line.specs.declared.render.line.draw.input.Input.{Input}
use Rattle.prodash_line.specs.declared.render.line.draw.input.Input.TheVariants.{Tick, Resize}
use Rattle.prodash_line.specs.declared.render.line.draw.input.Answer.TheVariants.{Drawn}
use Rattle.prodash_line.specs.CellRows.{blank_cell, blank_cells}
use Rattle.prodash_line.specs.declared.render.line.page.cell.Cell.{Cell}
use Rattle.prodash_line.specs.declared.render.line.page.cell.Cell.TheVariants.{Holds, Half}
use Rattle.prodash_line.specs.Terminals.{Terminal, terminal_after}
use Rattle.prodash_line.specs.Renderer.{Renderer, default_options, new_renderer}
use Rattle.prodash_line.specs.Renderings.{Rendering}
use Rattle.prodash_line.specs.ErasedPages.{HasSize, AcceptedFrame, accepted_frames, signs_in_turn}

abbrev renderer : Renderer
renderer = new_renderer (record default_options { terminal_dimensions = (8, 4); colored = false; defensive = true }) false

-- a tick that sees the row of a task, and these messages
abbrev tick : ℕ → List Message → Input
tick at messages = Tick at true (Some (((0 ∷ [], record { name = codes "task"; id = unknown_id; progress = None }) ∷ []), messages, 1))

-- a tick; a resize for which there was no memory; the same resize, and a message over the row
abbrev renderings : List Rendering
renderings =
    record { input = tick 0 []; result = Ok Drawn }
    ∷ record { input = Resize 1 true 5 3; result = Err Memory }
    ∷ record { input = Resize 2 true 5 3; result = Ok Drawn }
    ∷ record { input = tick 3 (message_of 0 Info (codes "b") (codes "x") ∷ []); result = Ok Drawn } ∷ []

abbrev frames : List AcceptedFrame
frames = accepted_frames renderer renderings

-- three frames were accepted: one for the first size, and two for the second
pub sizes : map (λ f. f.size) frames ≡ (8, 4) ∷ (5, 3) ∷ (5, 3) ∷ []
unfolding chars str_width step past_emoji
sizes = refl

abbrev row : List ℕ → List Cell
row text = map (λ c. Holds c []) text

-- what the terminal has made of its rows at the resize: a row of the task has stayed in the window above the cursor, with another one below it
abbrev moved : Terminal
moved = record {
  width = 5;
  height = 3;
  rows = row (codes "$ run") ∷ row (codes " task") ∷ row (codes "xx xx") ∷ row (codes " task") ∷ [];
  row = 2;
  column = 3;
  wraps = true;
}

-- it has the size of the last two frames
pub has_size : AllByRecursion (λ f. HasSize f.size moved) (drop 1 frames)
unfolding chars str_width step past_emoji
has_size =
    let size : HasSize (5, 3) moved = record { width = refl; height = refl; low = omega arith; row = omega arith; window = omega arith } in
    (size, (size, tt))

-- every character has one column
abbrev one_column : ℕ → ℕ
one_column c = 1

-- the rows above the cursor's have stayed, and below them are the message, the row of the task and a blank row
pub shown : terminal_after one_column (signs_in_turn (drop 1 frames)) moved
    ≡ record {
      width = 5;
      height = 3;
      rows = row (codes "$ run") ∷ row (codes " task") ∷ (row (codes " b x") ++ blank_cell ∷ []) ∷ row (codes " task") ∷ blank_cells 5 ∷ [];
      row = 3;
      column = 0;
      wraps = true;
    }
unfolding chars str_width step past_emoji
shown = refl

-- `t` has two columns, and other characters have one: the row of the task has no room for `s`, and no other row has it
abbrev wide_t : ℕ → ℕ
wide_t c = cond (eqb c 116) 2 1

pub shown_wide : terminal_after wide_t (signs_in_turn (drop 1 frames)) moved
    ≡ record {
      width = 5;
      height = 3;
      rows = row (codes "$ run")
          ∷ row (codes " task")
          ∷ (row (codes " b x") ++ blank_cell ∷ [])
          ∷ (blank_cell ∷ Holds 116 [] ∷ Half ∷ Holds 97 [] ∷ Holds 107 [] ∷ [])
          ∷ blank_cells 5
          ∷ [];
      row = 3;
      column = 0;
      wraps = true;
    }
unfolding chars str_width step past_emoji
shown_wide = refl
