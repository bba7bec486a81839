-- What a kind of unit shows: the texts that its calls append.
use Rattle.std.specs.Prelude.{ℕ, ◌+◌, ◌/◌, nat_eq, nat_lt, List, [], ◌++◌, codes, Option, Some, None, if◌then◌else◌}
use Rattle.std.specs.Fmt.{decimal}
use Rattle.prodash_base.specs.Moments.{seconds_of}
use Rattle.prodash_base.specs.Numerals.{fraction_text}
use Rattle.prodash_base.specs.Quantities.{bytes_text, human_text, duration_text}
use Rattle.prodash_base.specs.Scales.{Scalings, scaled_text}
use Rattle.prodash_base.specs.declared.unit.display.Throughput.{Throughput}

-- the text of each call of a kind; value and separator take the value and its bound, upper_bound takes the bound and its value
pub record Shown : Type 0 where
  pub value : ℕ → Option ℕ → List ℕ
  pub separator : ℕ → Option ℕ → List ℕ
  pub upper_bound : ℕ → ℕ → List ℕ
  pub unit : ℕ → List ℕ
  pub percentage : ℕ → List ℕ
  pub fraction : ℕ → Option (ℕ × ℕ)
  pub time_unit : ℕ → List ℕ
  pub throughput : Throughput → List ℕ

-- one of four results: for at least an hour, at least a minute, at least a second, and less
abbrev pub by_time_unit : {A : Type 0} → ℕ → A → A → A → A → A
by_time_unit seconds hours minutes whole less =
    if nat_lt 0 (seconds / 3600) then hours
    else if nat_lt 0 (seconds / 60) then minutes
    else if nat_lt 0 seconds then whole
    else less

-- a fraction, or none if it is one
abbrev pub unless_one : ℕ → ℕ → Option (ℕ × ℕ)
unless_one a b = if nat_eq a b then None else Some (a, b)

-- how many of its time unit a number of nanoseconds is; none if it is one
abbrev pub label_fraction : ℕ → Option (ℕ × ℕ)
label_fraction ns =
    by_time_unit (seconds_of ns)
    (unless_one (seconds_of ns) 3600)
    (unless_one (seconds_of ns) 60)
    (unless_one (seconds_of ns) 1)
    (unless_one (ns / 1_000_000) 1)

-- the time unit of a number of nanoseconds
abbrev pub label_time_unit : ℕ → List ℕ
label_time_unit ns = by_time_unit (seconds_of ns) (codes "h") (codes "m") (codes "s") (codes "ms")

-- a percentage, as `[30%]`
abbrev pub label_percentage : ℕ → List ℕ
label_percentage percentage = codes "[" ++ decimal percentage ++ codes "%]"

-- a fraction as text; nothing if there is none
abbrev pub optional_fraction : Option (ℕ × ℕ) → List ℕ
optional_fraction None = []
optional_fraction (Some f) = fraction_text f.0 f.1

-- the second part of a throughput, as `/1.5m|`
abbrev pub timespan_text : Option (ℕ × ℕ) → List ℕ → List ℕ
timespan_text fraction time_unit =
    codes "/" ++ optional_fraction fraction ++ time_unit ++ codes "|"

-- a change and the timespan that it took, as `|5/1.5m|`
abbrev pub change_text : List ℕ → Option (ℕ × ℕ) → List ℕ → List ℕ
change_text change fraction time_unit = codes "|" ++ change ++ timespan_text fraction time_unit

-- a throughput, with the change as the kind shows values
abbrev pub throughput_text : Shown → Throughput → List ℕ
throughput_text s t =
    change_text (s.value t.value_change_in_timespan None) (s.fraction t.timespan)
    (s.time_unit t.timespan)

-- a throughput in plain numbers
abbrev pub label_throughput : Throughput → List ℕ
label_throughput t =
    change_text (decimal t.value_change_in_timespan) (label_fraction t.timespan)
    (label_time_unit t.timespan)

-- s with throughputs in its own values, fractions and time units
abbrev pub with_throughput : Shown → Shown
with_throughput s = record s { throughput = throughput_text s }

-- plain numbers and a name, as `3/10 items`
abbrev pub label_shown : List ℕ → Shown
label_shown name = record {
  value = λ value _. decimal value;
  separator = λ _ _. codes "/";
  upper_bound = λ bound _. decimal bound;
  unit = λ _. name;
  percentage = label_percentage;
  fraction = label_fraction;
  time_unit = label_time_unit;
  throughput = label_throughput;
}

-- values that count from zero, shown from one, and a name, as `2 of 5 steps`
abbrev pub range_shown : List ℕ → Shown
range_shown name = with_throughput (record (label_shown name) {
  value = λ value _. decimal (value + 1);
  separator = λ _ _. codes " of ";
})

-- numbers of bytes, as `1.9kB/18.4EB`
abbrev pub bytes_shown : Shown
bytes_shown = with_throughput (record (label_shown []) {
  value = λ value _. bytes_text value;
  upper_bound = λ bound _. bytes_text bound;
})

-- numbers of seconds, as `1h of 7d4h20m10s`
abbrev pub duration_shown : Shown
duration_shown = with_throughput (record (label_shown []) {
  value = λ value _. duration_text value;
  separator = λ _ _. codes " of ";
  upper_bound = λ bound _. duration_text bound;
})

-- large numbers with this many decimals and a name, as `2.54M/3.00M objects`
abbrev pub human_shown : ℕ → List ℕ → Shown
human_shown places name = with_throughput (record (label_shown name) {
  value = λ value _. human_text places value;
  upper_bound = λ bound _. human_text places bound;
})

-- values in scales, with a separator and a name, as `12.34/20.00 EUR`
abbrev pub scaled_shown : Scalings → List ℕ → Shown
scaled_shown s name = with_throughput (record (label_shown name) {
  value = λ value _. scaled_text s.scales value;
  separator = λ _ _. s.separator;
  upper_bound = λ bound _. scaled_text s.scales bound;
})
