use Rattle.std.proofs.Common.{◌≡◌, ◌+◌, ◌++◌, ℕ, List, map, ap, sym, ◌∙◌, arith, rules}
use Rattle.std.specs.Fmt.{decimal}
use Rattle.std.specs.List.{join_with_byte}
use Rattle.prodash_line.proofs.StyleParameters.{codes_among, separator, more_written, none_written}
use Rattle.prodash_line.proofs.render.line.page.writing.push_codes.Goals as goal

pub loop-code-preserved-in_default : goal.loop-code-preserved-in_default
loop-code-preserved-in_default c =
    let items = c.codes_of-code-items.result in
    let i = c.loop-code.code-index in
    let same : codes_among items (i + 1) ≡ codes_among items i = none_written items i (omega arith) c.in_default.is in
    record {
      written = c.loop-code.invariant.written ∙ ap (λ (codes : List ℕ). c.args.out.now ++ join_with_byte 59 (map decimal codes)) (sym same);
      separator = c.loop-code.invariant.separator ∙ ap separator (sym same);
    }

pub loop-code-preserved : goal.loop-code-preserved
loop-code-preserved c =
    let text : c.extend_from_slice-in-loop-code.new.self ≡ (c.loop-code.out ++ c.loop-code.separator.now) ++ decimal c.in-Some.code = search rules in
    let more = more_written c.codes_of-code-items.result c.loop-code.code-index c.in-Some.code c.loop-code.out c.loop-code.separator.now c.extend_from_slice-in-loop-code.new.self c.args.out.now
    (omega arith) c.in-Some.is c.loop-code.invariant.written c.loop-code.invariant.separator text in
    record { written = more.0; separator = more.1 }
