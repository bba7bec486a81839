use Rattle.std.proofs.Common.{ℕ, nat_eq, List, [], ◌∷◌, length, ap, ◌∙◌, refl, arith}
use Rattle.std.proofs.lemmas.Bool.{both_ways}
use Rattle.prodash_line.proofs.Sequences.{makes_none, differs}
use Rattle.prodash_line.proofs.render.line.page.reading.sign_of.Goals as goal

pub returns-in_err-number_of-in-65 : goal.returns-in_err-number_of-in-65
returns-in_err-number_of-in-65 c = rw c.from_residual.ensures (makes_none c.args.parameters.now c.args.final_byte (record {
  up = λ e. c.in_err-number_of-in-65.ensures;
  erase = λ e. absurd (omega arith);
  erase_below = λ e. absurd (omega arith);
  mode = λ e. absurd (omega arith);
  open_style = λ e. absurd (omega arith);
  reset = λ e. absurd (omega arith);
}))

pub returns-in_err-style_of-in-109-2 : goal.returns-in_err-style_of-in-109-2
returns-in_err-style_of-in-109-2 c = rw c.from_residual-in_err-style_of-in-109-2.ensures (makes_none c.args.parameters.now c.args.final_byte (record {
  up = λ e. absurd (omega arith);
  erase = λ e. absurd (omega arith);
  erase_below = λ e. absurd (omega arith);
  mode = λ e. absurd (omega arith);
  open_style = λ e. c.in_err-style_of-in-109-2.ensures;
  reset = λ e. differs c.eq-is_zero.result c.args.parameters.now c.as_slice-5.result.now (48 ∷ []) c.if-is_zero.false c.eq-is_zero.ensures c.as_slice-5.ensures refl;
}))

pub returns-in_default : goal.returns-in_default
returns-in_default c = makes_none c.args.parameters.now c.args.final_byte (record {
  up = λ e. absurd (omega arith);
  erase = λ e. differs c.eq-is_two.result c.args.parameters.now c.as_slice.result.now (50 ∷ []) c.if-is_two.false c.eq-is_two.ensures c.as_slice.ensures refl;
  erase_below = λ e. absurd (omega arith);
  mode = λ e. absurd (omega arith);
  open_style = λ e. absurd (omega arith);
  reset = λ e. absurd (omega arith);
})

pub returns-in_default-2 : goal.returns-in_default-2
returns-in_default-2 c = makes_none c.args.parameters.now c.args.final_byte (record {
  up = λ e. absurd (omega arith);
  erase = λ e. absurd (omega arith);
  erase_below = λ e. absurd (omega arith);
  mode = λ e. record {
    cursor = differs c.eq-is_cursor.result c.args.parameters.now c.as_slice-2.result.now (63 ∷ 50 ∷ 53 ∷ []) c.if-is_cursor.false c.eq-is_cursor.ensures c.as_slice-2.ensures refl;
    wrap = differs c.eq-is_wrap.result c.args.parameters.now c.as_slice-3.result.now (63 ∷ 55 ∷ []) c.if-is_wrap.false c.eq-is_wrap.ensures c.as_slice-3.ensures refl;
    update = differs c.eq-is_update.result c.args.parameters.now c.as_slice-4.result.now (63 ∷ 50 ∷ 48 ∷ 50 ∷ 54 ∷ []) c.if-is_update.false c.eq-is_update.ensures c.as_slice-4.ensures refl;
  };
  open_style = λ e. absurd (omega arith);
  reset = λ e. absurd (omega arith);
})

pub returns-in_default-3 : goal.returns-in_default-3
returns-in_default-3 c = makes_none c.args.parameters.now c.args.final_byte (record {
  up = λ e. absurd (omega arith);
  erase = λ e. absurd (omega arith);
  erase_below = λ e. absurd (omega arith);
  mode = λ e. record {
    cursor = differs c.eq-is_cursor.result c.args.parameters.now c.as_slice-2.result.now (63 ∷ 50 ∷ 53 ∷ []) c.if-is_cursor-2.false c.eq-is_cursor.ensures c.as_slice-2.ensures refl;
    wrap = differs c.eq-is_wrap.result c.args.parameters.now c.as_slice-3.result.now (63 ∷ 55 ∷ []) c.if-is_wrap-2.false c.eq-is_wrap.ensures c.as_slice-3.ensures refl;
    update = differs c.eq-is_update.result c.args.parameters.now c.as_slice-4.result.now (63 ∷ 50 ∷ 48 ∷ 50 ∷ 54 ∷ []) c.if-is_update-2.false c.eq-is_update.ensures c.as_slice-4.ensures refl;
  };
  open_style = λ e. absurd (omega arith);
  reset = λ e. absurd (omega arith);
})

pub returns-in_default-4 : goal.returns-in_default-4
returns-in_default-4 c = makes_none c.args.parameters.now c.args.final_byte (record {
  up = λ e. absurd (omega arith);
  erase = λ e. absurd (omega arith);
  erase_below = λ e none. both_ways c.is_empty.result c.if-is_empty.false (c.is_empty.ensures ∙ ap (λ (p : List ℕ). nat_eq (length p) 0) none);
  mode = λ e. absurd (omega arith);
  open_style = λ e. absurd (omega arith);
  reset = λ e. absurd (omega arith);
})

pub returns-in_default-5 : goal.returns-in_default-5
returns-in_default-5 c = makes_none c.args.parameters.now c.args.final_byte (record {
  up = λ e. absurd (omega arith);
  erase = λ e. absurd (omega arith);
  erase_below = λ e. absurd (omega arith);
  mode = λ e. absurd (omega arith);
  open_style = λ e. absurd (omega arith);
  reset = λ e. absurd (omega arith);
})
