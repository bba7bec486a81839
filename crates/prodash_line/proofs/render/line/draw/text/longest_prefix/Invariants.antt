use Rattle.std.proofs.Common.{◌≡◌, length, take, chars, false}
use denote.Text.{Utf8}
use denote.Shadow.{shadow}
use Rattle.unicode_width.specs.Width.{str_width}
use Rattle.prodash_line.specs.Lines.{longest_prefix, longest_prefix_of}
use Rattle.prodash_line.proofs.render.line.draw.text.longest_prefix.Given as goal

abbrev pub invariant-loop-left : goal.invariant-loop-left
invariant-loop-left l = record {
  utf8 : shadow (Utf8 l.prefix);
  is_prefix : chars l.prefix ≡ take (length (chars l.prefix)) (chars l.text);
  same : longest_prefix_of l.columns (chars l.text) (length (chars l.prefix)) ≡ longest_prefix l.columns (chars l.text);
  width : l.left ≡ str_width false (chars l.prefix);
}

abbrev pub decreases-loop-left : goal.decreases-loop-left
decreases-loop-left l = length (chars l.prefix)
