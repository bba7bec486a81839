use Rattle.std.proofs.Common.{◌≡◌, map, string_bytes}
use Rattle.std.specs.Str.{encode_utf8_all}
use Rattle.prodash_line.specs.DrawnLines.{safe_char}
use Rattle.prodash.proofs.render.plain.lines.safe_text.Given as goal

abbrev pub invariant-loop-c : goal.invariant-loop-c
invariant-loop-c l = string_bytes l.safe ≡ encode_utf8_all (map safe_char l.yielded)
