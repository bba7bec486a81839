-- How far a list is scrolled.
use Rattle.std.specs.Prelude.{ℕ, ◌-◌, min}

-- this many of the items are skipped, but no more than leave a list that fills the lines
abbrev pub sanitize_offset : ℕ → ℕ → ℕ → ℕ
sanitize_offset offset items lines = min offset (items - lines)
