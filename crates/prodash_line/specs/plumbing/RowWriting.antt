-- The values of a row after the head of its line, with spaces that bring their end to a midpoint, and its bar.
use Rattle.std.specs.Prelude.{◌≡◌, ℕ, zero, suc, List, [], Bool, true, false, ◌+◌, ◌-◌, ◌/◌, ◌%◌, ◌∷◌, ◌++◌, Option, Some, None, codes, replicate, length, nat_lt, string_bytes}
use Rattle.prodash_base.specs.Rows.{RowProgress, progress_of, row_of}
use Rattle.prodash_base.specs.Units.{measure_of}
use Rattle.prodash_base.specs.declared.progress.Value.{Value}
use Rattle.prodash_base.specs.declared.unit.display.Throughput.{Throughput}
use Rattle.prodash_base.specs.declared.unit.units.Unit.{Unit}
use Rattle.prodash_line.specs.declared.render.line.draw.input.Options.{Options}
use Rattle.prodash_line.specs.declared.render.line.draw.plain_progress.PlainText.{PlainText}
use Rattle.prodash_line.specs.declared.render.line.draw.plain_progress.PlainText.TheVariants.{Fraction, Labelled, Other}
use Rattle.prodash_base.specs.declared.unit.display.Mode.{Mode}
use Rattle.prodash_base.specs.declared.unit.display.Location.TheVariants.{BeforeValue}
use Rattle.prodash_base.specs.Displays.{amount, text_at}
use Rattle.prodash_base.specs.Shown.{Shown}
use Rattle.prodash_line.specs.declared.render.line.draw.plain_progress.PlainProgress.{PlainProgress}
use Rattle.prodash_line.specs.declared.render.line.draw.row.DrawnProgress.{DrawnProgress}
use Rattle.prodash_line.specs.declared.render.line.draw.row.Measured.{Measured}
use Rattle.prodash_line.specs.declared.render.line.draw.row.RowTexts.{RowTexts}
use Rattle.prodash_base.specs.declared.timing.task_time.TaskTime.{TaskTime}
use Rattle.prodash_base.specs.Times.{time_text}
use Rattle.prodash_base.specs.declared.progress.Row.{Row}
use Rattle.prodash_line.specs.declared.render.line.draw.line_writer.LineWriter.{LineWriter}
use Rattle.prodash_line.specs.Lines.{Line, Piece, piece, styled, spaces, capped, columns_of}
use Rattle.prodash_line.specs.ProgressRows.{times_at, time_line, fraction_values, values_in, values_of, bar, bar_columns, fraction_of, bar_with, head_of, midpoint_of, row_line}
use Rattle.std.specs.Bool.{then_some}
use Rattle.prodash_line.specs.TextStyles.{row_style, values_style}
use Rattle.prodash_line.specs.plumbing.Writing.{is_printable, Appends, AppendsIn, DrawsLine}
use Rattle.std.specs.Fmt.{decimal}
use Rattle.prodash_line.specs.DrawnLines.{drawn_chars, layout_of}
use Rattle.prodash_line.specs.plumbing.OverwriteBytes.{on_row}

-- this text follows the digits of any step in its fraction of a bound
abbrev pub FollowsStep : Option ℕ → List ℕ → Type 0
FollowsStep bound text = (step : ℕ) → fraction_of step bound ≡ decimal step ++ text

-- the column at which a space and values end after this many columns
abbrev pub end_of_values : ℕ → Line → ℕ
end_of_values width values = capped (width + columns_of (spaces 1 ∷ values))

-- a space, so many spaces of padding, and a line
abbrev pub after_padding : ℕ → Line → Line
after_padding padding line = spaces 1 ∷ spaces padding ∷ line

-- values in their style, if they are coloured
abbrev pub styled_values : Bool → List ℕ → Piece
styled_values colored text = styled (then_some colored values_style) text

-- a fraction in that style
abbrev pub drawn_fraction : Bool → ℕ → Option ℕ → Line
drawn_fraction colored step bound = styled_values colored (fraction_of step bound) ∷ []

-- values in that style, a space and a unit
abbrev pub drawn_texts : Bool → List ℕ → List ℕ → Line
drawn_texts colored values unit = styled_values colored values ∷ spaces 1 ∷ piece unit ∷ []

-- a space, the spaces that bring that end to a midpoint, and the values
abbrev pub padded_values : ℕ → ℕ → Line → Line
padded_values midpoint width values =
    spaces 1 ∷ spaces (midpoint - end_of_values width values) ∷ values

-- these values follow the head of a line, padded so that they end at a midpoint
abbrev pub Pads : Bool → ℕ → LineWriter → Line → LineWriter → Type 0
Pads colored midpoint old values new = AppendsIn colored old (padded_values midpoint old.width values) new

-- such values follow, and without padding they end at this column
pub record PadsTo (colored : Bool) (midpoint : ℕ) (values : Line) (own : ℕ) (old new : LineWriter) : Type 0 where
  pub ends : own ≡ end_of_values old.width values
  pub padded : Pads colored midpoint old values new

-- a space and a time follow, as they fit on the columns that are left in a row of this width; nothing without a time
abbrev pub AppendsTime : Bool → Bool → ℕ → Option TaskTime → LineWriter → LineWriter → Type 0
AppendsTime colored defensive width None old new = new ≡ old
AppendsTime colored defensive width (Some t) old new = AppendsIn colored old (time_line defensive (width - old.width) t) new

-- the same on the terminal that the options say
abbrev pub ShowsTime : Options → Option TaskTime → LineWriter → LineWriter → Type 0
ShowsTime options time old new = AppendsTime options.colored options.defensive options.terminal_dimensions.0 time old new

-- whether a space and a time fit on so many columns, and the text if they do
pub record TriesTime (columns : ℕ) (t : TaskTime) (text : List ℕ) (fits : Bool) : Type 0 where
  pub value : fits ≡ nat_lt (length (time_text t)) columns
  pub text_is : text ≡ codes " " ++ time_text t

-- such values, which end at a column without padding, a time if there is one, and a bar on the columns that are left in a row of this width
pub record AppendsProgress (colored defensive : Bool) (width : ℕ) (most : Option ℕ) (midpoint : ℕ) (values : Line) (p : RowProgress) (time : Option TaskTime) (own : ℕ) (old new : LineWriter) : Type 0 where
  pub ends : own ≡ end_of_values old.width values
  pub between : LineWriter
  pub padded : Pads colored midpoint old values between
  pub timed : LineWriter
  pub time_follows : AppendsTime colored defensive width time between timed
  pub bar : AppendsIn colored timed (bar (row_style p) (bar_columns most (width - timed.width)) p.counter p.bound) new

-- the values of a progress
abbrev pub drawn_values : DrawnProgress → Line
drawn_values d = values_of d.options.now.defensive (progress_of d.value.now) d.throughput

-- what its row says of its time
abbrev pub time_of : DrawnProgress → Option TaskTime
time_of d = times_at d.timer.now d.at (row_of d.row.now)

-- its values in this unit
abbrev pub unit_values : DrawnProgress → Unit → Line
unit_values d unit = values_in d.options.now.defensive (measure_of unit) (progress_of d.value.now) d.throughput

-- these values of a progress follow the head of a line, padded so that they end at the midpoint
abbrev pub PadsValues : DrawnProgress → Line → LineWriter → LineWriter → Type 0
PadsValues d values old new = Pads d.options.now.colored d.midpoint old values new

-- these values and this unit follow the head of a line in the same way, as a defensive renderer draws them or another one
abbrev pub PadsTexts : Bool → Bool → ℕ → List ℕ → List ℕ → ℕ → LineWriter → LineWriter → Type 0
PadsTexts defensive colored midpoint values unit own old new =
    PadsTo colored midpoint (drawn_texts true (drawn_chars defensive values) (drawn_chars defensive unit)) own old new

-- the same of any renderer
abbrev pub PadsAsIs : Bool → ℕ → List ℕ → List ℕ → ℕ → LineWriter → LineWriter → Type 0
PadsAsIs colored midpoint values unit own old new = (defensive : Bool) → PadsTexts defensive colored midpoint values unit own old new

-- the texts of a row follow the head of its line in the same way
abbrev pub DrawsTexts : DrawnProgress → RowTexts → LineWriter → LineWriter → ℕ → Type 0
DrawsTexts d texts old new own =
    let o = d.options.now in
    PadsTexts o.defensive o.colored d.midpoint (string_bytes texts.values) (string_bytes texts.unit) own old new

-- its values, its time and its bar follow; without padding the values end at this column
abbrev pub DrawsProgress : DrawnProgress → ℕ → LineWriter → LineWriter → Type 0
DrawsProgress d own old new =
    let o = d.options.now in
    AppendsProgress o.colored o.defensive o.terminal_dimensions.0 o.bar_columns d.midpoint (drawn_values d) (progress_of d.value.now) (time_of d) own old new

-- the same without styles and without a time, of a progress without a unit
abbrev pub DrawsFraction : DrawnProgress → ℕ → LineWriter → LineWriter → Type 0
DrawsFraction d own old new =
    let values = fraction_values d.value.now.step d.value.now.done_at in
    let o = d.options.now in
    AppendsProgress false o.defensive o.terminal_dimensions.0 o.bar_columns d.midpoint values (progress_of d.value.now) None own old new

-- the same without styles and without a time, of a progress in a unit whose texts have no control characters
abbrev pub DrawsInUnit : DrawnProgress → Unit → ℕ → LineWriter → LineWriter → Type 0
DrawsInUnit d unit own old new =
    (defensive : Bool) →
    let p = progress_of d.value.now in
    let o = d.options.now in
    AppendsProgress false o.defensive o.terminal_dimensions.0 o.bar_columns d.midpoint (values_in defensive (measure_of unit) p d.throughput) p None own old new

-- a row on a terminal of the width that the options say, and a midpoint, with what is measured of it
abbrev pub DrawsRow : Options → ℕ → Row → Measured → LineWriter → LineWriter → Type 0
DrawsRow options midpoint row measured old new =
    let line = row_line options.defensive options.terminal_dimensions.0 options.bar_columns midpoint (row_of row, measured.throughput) (times_at measured.timer.now measured.at (row_of row)) in
    DrawsLine options (on_row (layout_of options) old) line new

-- the column at which the values of a row end without padding; 0 if it has no progress
abbrev pub own_midpoint : Options → Row → Option Throughput → ℕ
own_midpoint options row throughput = midpoint_of options.defensive (row_of row, throughput)

-- the spaces before the name of a row follow, and the name
abbrev pub AppendsHead : Options → Row → LineWriter → LineWriter → Type 0
AppendsHead options row old new = AppendsIn options.colored old (head_of options.defensive (row_of row)) new

-- the bar of a progress follows on these columns
abbrev pub AppendsBar : Bool → ℕ → Value → LineWriter → LineWriter → Type 0
AppendsBar colored columns value old new =
    let p = progress_of value in
    AppendsIn colored old (bar (row_style p) columns p.counter p.bound) new

-- a bar of n cells follows, of which these are filled, in the style of a row with this progress
abbrev pub AppendsCells : Bool → Value → ℕ → ℕ → LineWriter → LineWriter → Type 0
AppendsCells colored value cells filled old new = AppendsIn colored old (bar_with (row_style (progress_of value)) cells filled) new

-- the same without styles, of a text of printable characters
pub record AppendsText (width : ℕ) (most : Option ℕ) (midpoint : ℕ) (text : List ℕ) (p : RowProgress) (own : ℕ) (old new : LineWriter) : Type 0 where
  pub ends : own ≡ end_of_values old.width (piece text ∷ [])
  pub between : LineWriter
  pub padded : Appends old (piece (replicate (1 + (midpoint - own)) 32 ++ text) ∷ []) between
  pub bar : AppendsIn false between (bar (row_style p) (bar_columns most (width - between.width)) p.counter p.bound) new

-- the two digits of a number below 100, the first of which may be a zero
abbrev pub two_digits : ℕ → List ℕ
two_digits n = (48 + n / 10) ∷ (48 + n % 10) ∷ []

-- the characters of a text
abbrev pub whole_text : PlainText → List ℕ
whole_text (Fraction step bound) = fraction_of step bound
whole_text (Labelled step bound label) = fraction_of step bound ++ (codes " " ++ label.now)
whole_text (Other text) = text.now

-- how many characters it has
abbrev pub text_length : PlainText → ℕ
text_length text = length (whole_text text)

-- in this mode nothing is shown before values
abbrev pub NothingBefore : Option Mode → Type 0
NothingBefore mode = (shown : Shown) (value : ℕ) (bound : Option ℕ) (throughput : Option Throughput) → text_at shown mode BeforeValue (amount value bound throughput) ≡ []

-- the same without styles, of such a text
abbrev pub DrawsText : DrawnProgress → PlainText → ℕ → LineWriter → LineWriter → Type 0
DrawsText d text own old new =
    let o = d.options.now in
    AppendsText o.terminal_dimensions.0 o.bar_columns d.midpoint (whole_text text) (progress_of d.value.now) own old new

-- the same, of a fraction, a space and a label of printable characters
pub record DrawsLabelled (d : DrawnProgress) (label : List ℕ) (own : ℕ) (old new : LineWriter) : Type 0 where
  pub printable : is_printable label ≡ true
  pub text_follows : let o = d.options.now in
      AppendsText o.terminal_dimensions.0 o.bar_columns d.midpoint (fraction_of d.value.now.step d.value.now.done_at ++ (codes " " ++ label)) (progress_of d.value.now) own old new

-- this with the column at which values end, or nothing at all
abbrev pub OrNothing : LineWriter → LineWriter → (ℕ → LineWriter → LineWriter → Type 0) → Option ℕ → Type 0
OrNothing old new draws None = new ≡ old
OrNothing old new draws (Some own) = draws own old new

-- a bar of n cells without styles, of which these are filled
abbrev pub plain_bar : ℕ → ℕ → List ℕ
plain_bar cells filled = codes " [" ++ (replicate filled 61 ++ (codes ">" ++ (replicate (cells - filled) 45 ++ codes "]")))

-- what begins the style of values, if they are coloured
abbrev pub values_opening : Bool → List ℕ
values_opening true = 27 ∷ 91 ∷ 49 ∷ 59 ∷ 50 ∷ 109 ∷ []
values_opening false = []

-- what ends it
abbrev pub values_reset : Bool → List ℕ
values_reset true = 27 ∷ 91 ∷ 48 ∷ 109 ∷ []
values_reset false = []

-- values in their style, if they are coloured
abbrev pub values_bytes : Bool → List ℕ → List ℕ
values_bytes colored text = values_opening colored ++ (text ++ values_reset colored)

-- a space and padding before a text
abbrev pub padded_bytes : ℕ → List ℕ → List ℕ
padded_bytes padding text = replicate (1 + padding) 32 ++ text

-- a byte n times, between what begins a style and what ends it; nothing if there is none
abbrev pub styled_run : List ℕ → ℕ → ℕ → List ℕ
styled_run opening byte zero = []
styled_run opening byte (suc n) = opening ++ (replicate (suc n) byte ++ 27 ∷ 91 ∷ 48 ∷ 109 ∷ [])

-- the bytes of a bar of n cells in a colour whose code ends with this digit, of which these are filled
abbrev pub colored_bar : ℕ → ℕ → ℕ → List ℕ
colored_bar digit cells filled =
    let opening = 27 ∷ 91 ∷ 51 ∷ digit ∷ 109 ∷ [] in
    let opening_dimmed = 27 ∷ 91 ∷ 50 ∷ 59 ∷ 51 ∷ digit ∷ 109 ∷ [] in
    codes " [" ++ (styled_run opening 61 filled ++ (styled_run opening 62 1 ++ (styled_run opening_dimmed 45 (cells - filled) ++ codes "]")))

-- a space, padding, a text and such a bar
abbrev pub plain_progress : ℕ → List ℕ → ℕ → ℕ → List ℕ
plain_progress padding text cells filled = (replicate (1 + padding) 32 ++ text) ++ plain_bar cells filled

-- how many characters a progress without styles has
abbrev pub length_of : PlainProgress → ℕ
length_of p = 1 + p.padding + text_length p.text + p.cells + 4

-- the bytes of a progress without styles
abbrev pub progress_bytes : PlainProgress → List ℕ
progress_bytes p = plain_progress p.padding (whole_text p.text) p.cells p.filled
