-- Lines of messages.
use Rattle.std.proofs.Common.{◌≡◌, ℕ, true, false, List, [], ◌∷◌, ◌++◌, map, refl, ap, ◌∙◌, arith}
use Rattle.std.specs.Prelude.{codes, max}
use Rattle.unicode_width.proofs.Computing.{unicode_width}
use Rattle.prodash_base.specs.declared.messages.Message.{Message}
use Rattle.prodash_base.specs.declared.messages.MessageLevel.TheVariants.{Info}
use Rattle.prodash_base.specs.Messages.{message_of}
use Rattle.prodash_base.specs.Numerals.{last_digits}
use Rattle.prodash_line.specs.declared.render.line.draw.input.Options.{Options}
use Rattle.prodash_line.specs.Lines.{line_text}
use Rattle.prodash_line.specs.Renderer.{default_options}
use Rattle.prodash_line.specs.MessageLines.{greatest_width, message_lines, latest_origin_widths}

pub greatest_width-append : (widths : List ℕ) (width : ℕ) → greatest_width (widths ++ width ∷ []) ≡ max (greatest_width widths) width
greatest_width-append [] width = omega arith
greatest_width-append (w ∷ widths) width = ap (max w) (greatest_width-append widths width) ∙ (let e : max w (max (greatest_width widths) width) ≡ max (max w (greatest_width widths)) width = omega arith in e)

-- neither colours nor times
abbrev plain : Options
plain = record default_options { colored = false }

-- three messages: of `ab`, of `task`, of `c`
abbrev three : List Message
three = message_of 0 Info (codes "ab") (codes "x") ∷ message_of 1 Info (codes "task") (codes "y") ∷ message_of 2 Info (codes "c") (codes "z") ∷ []

-- each is aligned to the greatest width up to its own
lines_three : map line_text (message_lines plain [] three) ≡ codes " ab x" ∷ codes " task y" ∷ codes "    c z" ∷ []
unfolding unicode_width
lines_three = refl

-- behind an origin of three columns and one of one
lines_behind : map line_text (message_lines plain (3 ∷ 1 ∷ []) three) ≡ codes "  ab x" ∷ codes " task y" ∷ codes "    c z" ∷ []
unfolding unicode_width
lines_behind = refl

-- a message without an origin, between others
abbrev with_one_of_none : List Message
with_one_of_none = message_of 0 Info (codes "ab") (codes "x") ∷ message_of 1 Info [] (codes " y") ∷ message_of 2 Info (codes "c") (codes "z") ∷ []

lines_aligned : map line_text (message_lines plain (3 ∷ []) with_one_of_none) ≡ codes "  ab x" ∷ codes "      y" ∷ codes "   c z" ∷ []
unfolding unicode_width
lines_aligned = refl

-- where such messages are bare it is its text; the others are as before
lines_bare : map line_text (message_lines (record plain { bare_without_origin = true }) (3 ∷ []) with_one_of_none) ≡ codes "  ab x" ∷ codes " y" ∷ codes "   c z" ∷ []
unfolding unicode_width
lines_bare = refl

-- and with times it begins with its time
timed_bare : map line_text (message_lines (record plain { bare_without_origin = true; timestamp = true }) [] (message_of 0 Info [] (codes "y") ∷ [])) ≡ codes "00:00:00 y" ∷ []
unfolding unicode_width last_digits
timed_bare = refl

-- on a terminal of four rows the width that was kept longest goes
latest_three : latest_origin_widths (record plain { terminal_dimensions = (80, 4) }) (3 ∷ 1 ∷ []) three ≡ 1 ∷ 2 ∷ 4 ∷ 1 ∷ []
unfolding unicode_width
latest_three = refl
