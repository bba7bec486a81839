-- The lines of rows in units, computed.
use Rattle.std.proofs.Common.{◌≡◌, ℕ, ◌∷◌, [], Some, None, true, false, refl}
use Rattle.std.specs.Prelude.{Option, codes}
use Rattle.std.specs.Fmt.{digits}
use Rattle.std.specs.Str.{chars}
use Rattle.unicode_width.specs.Width.{str_width, step, past_emoji}
use Rattle.prodash_base.specs.Kinds.{Label, Bytes}
use Rattle.prodash_base.specs.Numerals.{last_digits}
use Rattle.prodash_base.specs.Rows.{PathRow, Running, unknown_id}
use Rattle.prodash_base.specs.Units.{Measure}
use Rattle.prodash_base.specs.declared.unit.display.Mode.{Mode}
use Rattle.prodash_base.specs.declared.unit.display.Throughput.{Throughput}
use Rattle.prodash_base.specs.declared.unit.display.Location.TheVariants.{BeforeValue, AfterUnit}
use Rattle.prodash_line.specs.Lines.{line_text}
use Rattle.prodash_line.specs.ProgressRows.{row_line, midpoint_of}

-- a task `t` below the root, at this step, with this bound and this unit
abbrev row : ℕ → Option ℕ → Measure → PathRow
row counter bound unit = (
  0 ∷ [],
  record {
    name = codes "t";
    id = unknown_id;
    progress = Some (record { counter = counter; bound = bound; unit = Some unit; phase = Running });
  },
)

-- the label `i`, with what this mode shows
abbrev items : Option Mode → Measure
items mode = record { quantity = Label (codes "i"); mode = mode }

abbrev percentage_first : Option Mode
percentage_first = Some (record { location = BeforeValue; percentage = true; throughput = false })

abbrev throughput_last : Option Mode
throughput_last = Some (record { location = AfterUnit; percentage = false; throughput = true })

abbrev five_in_a_second : Option Throughput
five_in_a_second = Some (record { value_change_in_timespan = 5; timespan = 1_000_000_000 })

-- the value, a space and the unit, and a bar on the columns that are left of 20
pub in_items : line_text (row_line false 20 None 0 (row 2 None (items None), None) None) ≡ codes " t 2 i [=   ===   =]"
unfolding chars str_width step past_emoji digits
in_items = refl

-- its values end with the unit
pub end_of_unit : midpoint_of false (row 2 None (items None), None) ≡ 6
unfolding chars str_width step past_emoji digits
end_of_unit = refl

-- three spaces bring that end to column 9, and the bar is shorter
pub padded_in_items : line_text (row_line false 20 None 9 (row 2 None (items None), None) None) ≡ codes " t    2 i [ ===   =]"
unfolding chars str_width step past_emoji digits
padded_in_items = refl

pub with_percentage : line_text (row_line false 30 None 0 (row 2 (Some 10) (items percentage_first), None) None) ≡ codes " t [20%] 2/10 i [==>---------]"
unfolding chars str_width step past_emoji digits
with_percentage = refl

pub with_throughput : line_text (row_line false 30 None 0 (row 2 (Some 10) (items throughput_last), five_in_a_second) None) ≡ codes " t 2/10 i |5/s| [==>---------]"
unfolding chars str_width step past_emoji digits
with_throughput = refl

-- a throughput that the unit's mode doesn't show
pub throughput_not_shown : line_text (row_line false 20 None 0 (row 2 None (items None), five_in_a_second) None) ≡ codes " t 2 i [=   ===   =]"
unfolding chars str_width step past_emoji digits
throughput_not_shown = refl

-- a unit without a name leaves the space before it
pub in_bytes : line_text (row_line false 20 None 0 (row 1999 None (record { quantity = Bytes; mode = None }), None) None) ≡ codes " t 1.9kB  [===   ==]"
unfolding chars str_width step past_emoji digits last_digits
in_bytes = refl
