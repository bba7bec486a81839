-- Words that name no item.
use Rattle.std.proofs.Common.{◌≡◌, ℕ, nat_eq, false, List, [], ◌∷◌, refl, ap, arith}
use Rattle.std.specs.Prelude.{None, ◌≢◌}
use Rattle.std.proofs.lemmas.Bool.Decides.{nat_tests}
use Rattle.prodash_script.specs.Mistakes.{name_in}

-- a word that doesn't begin with an `@`
pub no_name : (word : List ℕ) → ((rest : List ℕ) → word ≢ 64 ∷ rest) → None ≡ name_in word
no_name [] h = refl
no_name (c ∷ cs) h =
    let differs : c ≢ 64 = λ e. h cs (ap (λ x. x ∷ cs) e) in
    let test : nat_eq c 64 ≡ false = grind (arith, nat_tests) in
    rw test
