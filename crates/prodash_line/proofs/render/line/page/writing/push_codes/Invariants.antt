use Rattle.std.proofs.Common.{◌≡◌, ◌++◌, map}
use Rattle.std.specs.Fmt.{decimal}
use Rattle.std.specs.List.{join_with_byte}
use Rattle.prodash_line.proofs.StyleParameters.{codes_among, separator}
use Rattle.prodash_line.proofs.render.line.page.writing.push_codes.Given as goal

abbrev pub invariant-loop-code : goal.invariant-loop-code
invariant-loop-code l =
    record {
      written : l.out ≡ l.initial.out ++ join_with_byte 59 (map decimal (codes_among l.code-items l.code-index));
      separator : l.separator ≡ separator (codes_among l.code-items l.code-index);
    }
