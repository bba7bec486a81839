use Rattle.std.proofs.Common.{◌≡◌, length, map, take}
use Rattle.std.specs.Fmt.{decimal}
use Rattle.prodash_line.specs.Styles.{style_codes}
use Rattle.prodash_line.proofs.StyleParameters.{parts_of}
use Rattle.prodash_line.proofs.render.line.page.reading.style_of.Given as goal

abbrev pub invariant-loop-digits : goal.invariant-loop-digits
invariant-loop-digits l = map decimal (style_codes l.style) ≡ take (length l.yielded) (parts_of l.parameters)
