-- Characters that could change what is shown of other text, or that can't be seen.
use Rattle.std.specs.Prelude.{ℕ, Bool, ◌||◌, ◌==◌}
use Rattle.std.specs.Char.{is_control}
use Rattle.std.specs.Int.{is_in_range}

-- the characters with Unicode's property Bidi_Control: marks, embeddings, overrides and isolates, which order text of both directions
abbrev pub is_bidi_control : ℕ → Bool
is_bidi_control c = c == 0x61C || is_in_range 0x200E 0x200F c || is_in_range 0x202A 0x202E c || is_in_range 0x2066 0x2069 c

-- control characters, bidi controls, the line separator, the paragraph separator, and the byte order mark
abbrev pub is_unsafe : ℕ → Bool
is_unsafe c = is_control c || is_bidi_control c || is_in_range 0x2028 0x2029 c || c == 0xFEFF
