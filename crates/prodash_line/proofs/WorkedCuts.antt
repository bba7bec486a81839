-- The definitions of lines that are cut, computed.
use Rattle.std.proofs.Common.{◌≡◌, ℕ, Bool, [], ◌∷◌, Some, None, true, false, refl}
use Rattle.std.specs.Prelude.{codes}
use Rattle.std.specs.Str.{chars}
use Rattle.std.specs.Fmt.{digits}
use Rattle.unicode_width.specs.Width.{str_width, step, past_emoji}
use Rattle.prodash_base.specs.Rows.{PathRow, Running, unknown_id}
use Rattle.prodash_base.specs.Messages.{message_of}
use Rattle.prodash_base.specs.declared.messages.Message.{Message}
use Rattle.prodash_base.specs.declared.messages.MessageLevel.TheVariants.{Info}
use Rattle.prodash_line.specs.declared.render.line.draw.input.Options.{Options}
use Rattle.prodash_line.specs.declared.render.line.page.sign.Sign.TheVariants.{Char, Open, Reset}
use Rattle.prodash_line.specs.declared.render.line.page.style.Color.TheVariants.{Cyan}
use Rattle.prodash_line.specs.Lines.{Line, line_text, longest_prefix}
use Rattle.prodash_line.specs.Frames.{line_signs}
use Rattle.prodash_line.specs.ProgressRows.{drawn_row_line, midpoint_of}
use Rattle.prodash_line.specs.MessageLines.{drawn_message_line}
use Rattle.prodash_line.specs.Renderer.{default_options}

-- a terminal of this many columns, in colour or not
abbrev terminal : ℕ → Bool → Options
terminal columns colored = record default_options { terminal_dimensions = (columns, 24); colored = colored }

-- `t`, at 3 of 10
abbrev three_of_ten : PathRow
three_of_ten = (0 ∷ [], record { name = codes "t"; id = unknown_id; progress = Some (record { counter = 3; bound = Some 10; unit = None; phase = Running }) })

abbrev row_on : ℕ → Bool → Line
row_on columns colored = drawn_row_line (terminal columns colored) 0 (λ row. None) (three_of_ten, None)

-- on eight columns the space of the bar; on seven no bar; on five a part of the values
eight_columns : line_text (row_on 8 false) ≡ codes " t 3/10 "
unfolding chars str_width step past_emoji digits longest_prefix
eight_columns = refl

seven_columns : line_text (row_on 7 false) ≡ codes " t 3/10"
unfolding chars str_width step past_emoji digits longest_prefix
seven_columns = refl

five_columns : line_text (row_on 5 false) ≡ codes " t 3/"
unfolding chars str_width step past_emoji digits longest_prefix
five_columns = refl

-- the midpoint is that of the whole row
whole_midpoint : midpoint_of false (three_of_ten, None) ≡ 7
unfolding chars str_width step past_emoji digits
whole_midpoint = refl

-- a part of a text has the style of the whole
five_columns_colored : line_signs (row_on 5 true)
    ≡ Char 32 ∷ Open (record { bold = true; dim = false; color = Some Cyan; on_yellow = false }) ∷ Char 116 ∷ Reset
    ∷ Char 32 ∷ Open (record { bold = true; dim = true; color = None; on_yellow = false }) ∷ Char 51 ∷ Char 47 ∷ Reset ∷ []
unfolding chars str_width step past_emoji digits longest_prefix
five_columns_colored = refl

-- a message on twenty columns, and where the output is no terminal
abbrev long : Message
long = message_of 0 Info (codes "task") (codes "a long message of many words")

twenty_columns : line_text (drawn_message_line (terminal 20 false) 4 long) ≡ codes " task a long message"
unfolding chars str_width step past_emoji longest_prefix
twenty_columns = refl

no_terminal : line_text (drawn_message_line (record default_options { terminal_dimensions = (20, 24); colored = false; output_is_terminal = false }) 4 long) ≡ codes " task a long message of many words"
unfolding chars str_width step past_emoji
no_terminal = refl
