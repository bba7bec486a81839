use Rattle.std.proofs.Common.{ℕ, ◌<◌, length, chars, true, sym, ap, ◌∙◌, arith, take, ◌-◌, ◌≡◌}
use Rattle.std.proofs.lemmas.List.{take_all}
use Rattle.std.specs.Prelude.{min}
use Rattle.prodash_line.specs.Lines.{longest_prefix_of, longest_prefix}
use Rattle.prodash_line.specs.plumbing.Writing.{is_printable}
use Rattle.prodash_line.proofs.Columns.{width-ascii, printable-take}
use Rattle.prodash_line.proofs.Prefixes.{prefix_init, prefix_fewer, prefix_found, prefix_sliced, shorter, prefix_shorter}
use Rattle.prodash_line.proofs.render.line.draw.text.longest_prefix.Goals as goal

pub returns-then-is_all_printable-clause-text : goal.returns-then-is_all_printable-clause-text
returns-then-is_all_printable-clause-text c =
    prefix_sliced c.args.columns c.min-length.result c.args.text.now c.range.result.now
    (ap is_printable (sym c.as_bytes.ensures.value) ∙ sym c.is_all_printable.ensures ∙ c.if-is_all_printable.true)
    (c.min-length.ensures ∙ ap (λ n. min n (length c.args.text.now)) c.from-columns.ensures)
    (c.range.ensures.value ∙ ap (λ n. take n c.args.text.now) (let e : c.min-length.result - 0 ≡ c.min-length.result = omega arith in e))

pub returns-then-is_all_printable-clause-width : goal.returns-then-is_all_printable-clause-width
returns-then-is_all_printable-clause-width c =
    let printable : is_printable c.args.text.now ≡ true = ap is_printable (sym c.as_bytes.ensures.value) ∙ sym c.is_all_printable.ensures ∙ c.if-is_all_printable.true in
    let own : is_printable c.range.result.now ≡ true = ap is_printable c.range.ensures.value ∙ printable-take (c.min-length.result - 0) c.args.text.now printable in
    omega (arith, c.range.ensures.len, width-ascii c.range.result.now own)

pub loop-left-init : goal.loop-left-init
loop-left-init c = record {
  utf8 = c.utf8.text;
  is_prefix = sym (take_all (length (chars c.args.text.now)) (chars c.args.text.now) (omega arith));
  same = prefix_init c.from-columns.result (chars c.args.text.now);
  width = c.requires;
}

wide : (columns left width : ℕ) → columns < left → left ≡ width → columns < width
wide columns left width h e = omega arith

pub loop-left-smaller : goal.loop-left-smaller
loop-left-smaller c =
    let some = (prefix_fewer c.from-columns.result (chars c.args.text.now) (chars c.loop-left.prefix.now) c.loop-left.invariant.is_prefix (wide _ _ _ c.loop-left-test.true c.loop-left.invariant.width)).0 in
    omega (arith, shorter (chars c.loop-left.prefix.now) (chars c.without_last_char.result.0.now) c.without_last_char.ensures.text, some)

pub loop-left-preserved : goal.loop-left-preserved
loop-left-preserved c =
    let text = chars c.args.text.now in
    let left = chars c.loop-left.prefix.now in
    let new = chars c.without_last_char.result.0.now in
    record {
      utf8 = c.without_last_char.ensures.utf8;
      is_prefix = prefix_shorter text left new c.loop-left.invariant.is_prefix c.without_last_char.ensures.text;
      same = ap (longest_prefix_of c.from-columns.result text) (shorter left new c.without_last_char.ensures.text)
          ∙ sym (prefix_fewer c.from-columns.result text left c.loop-left.invariant.is_prefix (wide _ _ _ c.loop-left-test.true c.loop-left.invariant.width)).1 ∙ c.loop-left.invariant.same;
      width = c.without_last_char.ensures.width;
    }

pub returns-clause-text : goal.returns-clause-text
returns-clause-text c =
    sym (prefix_found c.from-columns.result (chars c.args.text.now) (chars c.loop-left.prefix.now) c.loop-left.invariant.is_prefix (omega (arith, c.loop-left-test.false, c.loop-left.invariant.width)))
    ∙ c.loop-left.invariant.same ∙ ap (λ n. longest_prefix n (chars c.args.text.now)) c.from-columns.ensures
