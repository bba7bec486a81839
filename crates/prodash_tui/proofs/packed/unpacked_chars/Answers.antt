use Rattle.std.proofs.Common.{◌≡◌, ◌+◌, ◌-◌, ◌/◌, ◌%◌, false, nat_eq, suc, List, ℕ, [], ◌∷◌, ◌++◌, length, sym, ap, subst, ◌∙◌, append_assoc, length-append, arith}
use Rattle.std.proofs.lemmas.Bool.{ne_eqb}
use Rattle.std.proofs.lemmas.List.{take_all}
use Rattle.std.specs.Char.{IsScalar}
use Rattle.std.specs.List.{AllByRecursion}
use Rattle.prodash_tui.specs.plumbing.PackedCells.{unpacked_chars}
use Rattle.prodash_tui.proofs.PackedCells.{next_char}
use Rattle.prodash_tui.proofs.packed.unpacked_chars.Goals as goal

pub loop-preserved : goal.loop-preserved
loop-preserved c =
    let i = c.loop.counter in
    let n = c.loop.left in
    let joined = c.loop.joined in
    let d = c.char_of_digit.result in
    let most = 4 - (i + 1) in
    let rest = unpacked_chars most (n / 0x20_0000) in
    let digit : nat_eq (n % 0x20_0000) 0 ≡ false = ne_eqb (n % 0x20_0000) 0 c.if-digit-eq0.false in
    let room : 4 - i ≡ suc most = omega (arith, c.loop-test.true) in
    let turn : unpacked_chars (4 - i) n ≡ (n % 0x20_0000 - 1) ∷ rest = ap (λ m. unpacked_chars m n) room ∙ next_char most n digit in
    let size : length (joined ++ d ∷ []) ≡ i + 1 = omega (arith, length-append joined (d ∷ []), c.loop.invariant.1) in
    let pushed : c.push.new.self ≡ joined ++ d ∷ [] = c.push.ensures ∙ take_all 4 (joined ++ d ∷ []) (omega (arith, size, c.loop-test.true)) in (
      ap (λ (js : List ℕ). js ++ rest) pushed
          ∙ append_assoc joined (d ∷ []) rest
          ∙ ap (λ (x : ℕ). joined ++ x ∷ rest) c.char_of_digit.ensures
          ∙ sym (ap (λ (js : List ℕ). joined ++ js) turn)
          ∙ c.loop.invariant.0,
      ap length pushed ∙ size,
      (subst (AllByRecursion IsScalar) turn c.loop.invariant.2).1,
    )
