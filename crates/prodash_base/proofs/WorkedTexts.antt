-- The definitions of texts on worked values, each computed.
use Rattle.std.proofs.Common.{◌≡◌, ℕ, ◌-◌, ◌*◌, ◌^◌, Some, None, true, false, refl}
use Rattle.std.specs.Prelude.{List, [], ◌∷◌, Option, codes}
use Rattle.std.specs.Fmt.{digits}
use Rattle.prodash_base.specs.Numerals.{last_digits}
use Rattle.prodash_base.specs.Quantities.{percentage_of, bytes_text, human_text, duration_text}
use Rattle.prodash_base.specs.Shown.{Shown, label_shown, range_shown, bytes_shown, duration_shown, human_shown, scaled_shown, label_fraction, throughput_text}
use Rattle.prodash_base.specs.Scales.{Scaling, Scalings, scaled_text}
use Rattle.prodash_base.specs.Displays.{amount, all_text, values_text, unit_text}
use Rattle.prodash_base.specs.ThroughputMessages.{message_text, seconds_text}
use Rattle.prodash_base.specs.declared.unit.display.Mode.{Mode}
use Rattle.prodash_base.specs.declared.unit.display.Throughput.{Throughput}
use Rattle.prodash_base.specs.declared.unit.display.Location.TheVariants.{BeforeValue, AfterUnit}

abbrev items : Shown
items = label_shown (codes "items")

abbrev percentage_first : Option Mode
percentage_first = Some (record { location = BeforeValue; percentage = true; throughput = false })

abbrev throughput_last : Option Mode
throughput_last = Some (record { location = AfterUnit; percentage = false; throughput = true })

abbrev both_first : Option Mode
both_first = Some (record { location = BeforeValue; percentage = true; throughput = true })

abbrev both_last : Option Mode
both_last = Some (record { location = AfterUnit; percentage = true; throughput = true })

abbrev five_in : ℕ → Throughput
five_in ns = record { value_change_in_timespan = 5; timespan = ns }

abbrev five_in_a_second : Option Throughput
five_in_a_second = Some (five_in 1_000_000_000)

pub range_counts_from_one : all_text (range_shown (codes "steps")) None (amount 1 (Some 5) None) ≡ codes "2 of 5 steps"
unfolding digits
range_counts_from_one = refl

pub greatest_of_range : all_text (range_shown (codes "steps")) None (amount (2 ^ 64 - 1) None None) ≡ codes "18446744073709551616 steps"
unfolding digits
greatest_of_range = refl

pub range_throughput : throughput_text (range_shown (codes "steps")) (five_in 1_000_000_000) ≡ codes "|6/s|"
unfolding digits
range_throughput = refl

pub percentage_before_value : all_text items percentage_first (amount 3 (Some 10) None) ≡ codes "[30%] 3/10 items"
unfolding digits
percentage_before_value = refl

pub percentage_is_exact : all_text items percentage_first (amount 29 (Some 100) None) ≡ codes "[29%] 29/100 items"
unfolding digits
percentage_is_exact = refl

pub nothing_of_nothing : all_text items percentage_first (amount 0 (Some 0) None) ≡ codes "[0%] 0/0 items"
unfolding digits
nothing_of_nothing = refl

pub one_of_nothing : all_text items percentage_first (amount 1 (Some 0) None) ≡ codes "[18446744073709551615%] 1/0 items"
unfolding digits
one_of_nothing = refl

pub greatest_percentage : percentage_of (2 ^ 64 - 1) 1 ≡ 2 ^ 64 - 1
greatest_percentage = refl

pub no_percentage_without_bound : all_text items percentage_first (amount 3 None None) ≡ codes "3 items"
unfolding digits
no_percentage_without_bound = refl

pub throughput_after_unit : all_text items throughput_last (amount 3 (Some 10) five_in_a_second) ≡ codes "3/10 items |5/s|"
unfolding digits
throughput_after_unit = refl

pub both_before_value : all_text items both_first (amount 3 (Some 10) five_in_a_second) ≡ codes "[30%] |5/s| 3/10 items"
unfolding digits
both_before_value = refl

pub both_after_unit : all_text items both_last (amount 3 (Some 10) five_in_a_second) ≡ codes "3/10 items [30%] |5/s|"
unfolding digits
both_after_unit = refl

pub values_alone : values_text items throughput_last (amount 3 (Some 10) five_in_a_second) ≡ codes "3/10"
unfolding digits
values_alone = refl

pub unit_alone : unit_text items throughput_last (amount 3 (Some 10) five_in_a_second) ≡ codes "items |5/s|"
unfolding digits
unit_alone = refl

pub unit_of_one_byte : unit_text (label_shown (codes "B")) None (amount 3 (Some 10) None) ≡ codes "B"
unit_of_one_byte = refl

pub seconds : throughput_text items (five_in (2 * 10 ^ 9)) ≡ codes "|5/2s|"
unfolding digits last_digits
seconds = refl

pub minutes : throughput_text items (five_in (90 * 10 ^ 9)) ≡ codes "|5/1.5m|"
unfolding digits last_digits
minutes = refl

pub hours : throughput_text items (five_in (4000 * 10 ^ 9)) ≡ codes "|5/1.111h|"
unfolding digits last_digits
hours = refl

pub hour_and_a_second : throughput_text items (five_in (3601 * 10 ^ 9)) ≡ codes "|5/1h|"
unfolding digits last_digits
hour_and_a_second = refl

pub no_time : throughput_text items (five_in 0) ≡ codes "|5/0ms|"
unfolding digits last_digits
no_time = refl

pub one_millisecond : label_fraction 1_999_999 ≡ None
one_millisecond = refl

pub bytes : all_text bytes_shown None (amount 999 None None) ≡ codes "999B"
unfolding digits
bytes = refl

pub kilobyte : bytes_text 1000 ≡ codes "1.0kB"
unfolding digits last_digits
kilobyte = refl

pub kilobytes_rounded_down : bytes_text 1999 ≡ codes "1.9kB"
unfolding digits last_digits
kilobytes_rounded_down = refl

pub exabytes : bytes_text (2 ^ 64 - 1) ≡ codes "18.4EB"
unfolding digits last_digits
exabytes = refl

pub days : all_text duration_shown None (amount 620410 None None) ≡ codes "7d4h20m10s"
unfolding digits
days = refl

pub no_seconds : duration_text 0 ≡ codes "0s"
unfolding digits
no_seconds = refl

pub millions : all_text (human_shown 2 (codes "objects")) None (amount 2540000 None None) ≡ codes "2.54M objects"
unfolding digits last_digits
millions = refl

pub no_decimals : human_text 0 2540000 ≡ codes "2M"
unfolding digits last_digits
no_decimals = refl

pub at_most_six_decimals : human_text 200 2540000 ≡ codes "2.540000M"
unfolding digits last_digits
at_most_six_decimals = refl

pub plain_message : message_text items 10 2_500_000_000 ≡ codes "done 10 items in 2.50s (4 items/s)"
unfolding digits last_digits
plain_message = refl

pub bytes_message : message_text bytes_shown 1999 1_000_000_000 ≡ codes "done 1.9kB in 1.00s (1.9kB/s)"
unfolding digits last_digits
bytes_message = refl

pub message_of_no_time : message_text items 0 0 ≡ codes "done 0 items in 0.00s (0 items/s)"
unfolding digits last_digits
message_of_no_time = refl

pub half_hundredth : seconds_text 1_005_000_000 ≡ codes "1.01"
unfolding digits last_digits
half_hundredth = refl

abbrev scale : ℕ → ℕ → List ℕ → Scaling
scale factor decimals suffix = record { factor = factor; decimals = decimals; suffix = suffix }

abbrev binary : Scalings
binary = record {
  separator = codes " of ";
  scales =
      scale 1 0 (codes " B") ∷ scale 1024 1 (codes " KiB") ∷ scale (1024 ^ 2) 2 (codes " MiB") ∷ [];
}

abbrev cents : Scalings
cents = record { separator = codes "/"; scales = scale 100 2 [] ∷ [] }

pub each_value_has_its_scale : all_text (scaled_shown binary (codes "read")) percentage_first (amount 1536 (Some (2 * 1024 ^ 2)) None) ≡ codes "[0%] 1.5 KiB of 2.00 MiB read"
unfolding digits last_digits
each_value_has_its_scale = refl

pub below_a_factor : scaled_text binary.scales 1023 ≡ codes "1023 B"
unfolding digits last_digits
below_a_factor = refl

pub from_a_factor_on : scaled_text binary.scales 1024 ≡ codes "1.0 KiB"
unfolding digits last_digits
from_a_factor_on = refl

pub scales_round_down : scaled_text binary.scales (1024 ^ 2 - 1) ≡ codes "1023.9 KiB"
unfolding digits last_digits
scales_round_down = refl

pub greatest_of_scales : scaled_text binary.scales (2 ^ 64 - 1) ≡ codes "17592186044415.99 MiB"
unfolding digits last_digits
greatest_of_scales = refl

pub below_the_first_factor : all_text (scaled_shown cents (codes "EUR")) None (amount 1234 (Some 5) None) ≡ codes "12.34/0.05 EUR"
unfolding digits last_digits
below_the_first_factor = refl

pub throughput_in_scales : throughput_text (scaled_shown cents (codes "EUR")) (five_in 1_000_000_000) ≡ codes "|0.05/s|"
unfolding digits last_digits
throughput_in_scales = refl

pub nothing_in_scales : scaled_text cents.scales 0 ≡ codes "0.00"
unfolding digits last_digits
nothing_in_scales = refl

pub without_scales : scaled_text [] 1234 ≡ codes "1234"
unfolding digits
without_scales = refl

pub factor_zero_counts_as_one : scaled_text (scale 0 1 [] ∷ []) 12 ≡ codes "12.0"
unfolding digits last_digits
factor_zero_counts_as_one = refl

pub seven_decimals_count_as_six : scaled_text (scale 1 7 [] ∷ []) 12 ≡ codes "12.000000"
unfolding digits last_digits
seven_decimals_count_as_six = refl
