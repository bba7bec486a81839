use Rattle.std.proofs.Common.{eqb, length, refl, arith, rules, tests}
use Rattle.std.proofs.lemmas.Iterator.Consumers.{YieldsList-turn, YieldsList-end}
use Rattle.std.proofs.lemmas.Iterator.Splits.{YieldsList-from_slice_split}
use Rattle.std.proofs.lemmas.List.{length_push}
use Rattle.prodash_line.proofs.StyleParameters.{none_numbered, none_coded, one_more, all_coded}
use Rattle.prodash_line.proofs.render.line.page.reading.style_of.Goals as goal

pub returns-in_err-number_of : goal.returns-in_err-number_of
returns-in_err-number_of c =
    let turn = YieldsList-turn (YieldsList-from_slice_split _ (λ b. eqb b 59) c.args.parameters.now (search rules) (search rules) refl (λ x r q k. search (rules, tests)))
    c.loop-digits.yielded _ c.loop-digits.yielded_by _ _ c.in-Some.digits c.in-Some.is c.next.ensures.steps in
    rw c.from_residual.ensures (none_numbered c.args.parameters.now c.in-Some.digits.now (length c.loop-digits.yielded) c.in_err-number_of.ensures turn)

pub returns-in_err-style : goal.returns-in_err-style
returns-in_err-style c =
    let turn = YieldsList-turn (YieldsList-from_slice_split _ (λ b. eqb b 59) c.args.parameters.now (search rules) (search rules) refl (λ x r q k. search (rules, tests)))
    c.loop-digits.yielded _ c.loop-digits.yielded_by _ _ c.in-Some.digits c.in-Some.is c.next.ensures.steps in
    rw c.from_residual-in_err-style.ensures (none_coded c.args.parameters.now c.in-Some.digits.now (length c.loop-digits.yielded) c.in_ok-number_of.field-0 c.loop-digits.style
    c.loop-digits.invariant (omega arith) c.in_ok-number_of.ensures.1 c.in_err-style.ensures turn)

pub loop-digits-preserved : goal.loop-digits-preserved
loop-digits-preserved c =
    let turn = YieldsList-turn (YieldsList-from_slice_split _ (λ b. eqb b 59) c.args.parameters.now (search rules) (search rules) refl (λ x r q k. search (rules, tests)))
    c.loop-digits.yielded _ c.loop-digits.yielded_by _ _ c.in-Some.digits c.in-Some.is c.next.ensures.steps in
    one_more c.args.parameters.now c.in-Some.digits.now (length c.loop-digits.yielded) _ c.in_ok-number_of.field-0 c.loop-digits.style c.in_ok-style.style
    c.loop-digits.invariant c.in_ok-number_of.ensures.1 c.in_ok-style.ensures turn (length_push c.loop-digits.yielded c.in-Some.digits)

pub returns : goal.returns
returns c =
    let end = YieldsList-end (YieldsList-from_slice_split _ (λ b. eqb b 59) c.args.parameters.now (search rules) (search rules) refl (λ x r q k. search (rules, tests)))
    c.loop-digits.yielded _ c.loop-digits.yielded_by _ _ c.in-None.is c.next.ensures.steps in
    all_coded c.args.parameters.now (length c.loop-digits.yielded) c.loop-digits.style c.loop-digits.invariant end.1
