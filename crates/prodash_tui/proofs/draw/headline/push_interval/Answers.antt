use Rattle.std.proofs.Common.{◌≡◌, ℕ, ◌<◌, ◌/◌, List, [], ◌∷◌, ◌++◌, ap, ◌∙◌, append_assoc, arith, nat_lt, true}
use Rattle.std.specs.Fmt.{decimal}
use Rattle.std.specs.Prelude.{codes, string_bytes}
use Rattle.std.proofs.lemmas.Bool.Decides.{nat_tests}
use Rattle.prodash_tui.proofs.draw.headline.push_interval.Goals as goal

is_long : (n : ℕ) → 1000000000 < n → nat_lt 1000000000 n ≡ true
is_long n h = grind (arith, nat_tests)

regroup : (old a b d e : List ℕ) → (((old ++ a) ++ b) ++ d) ++ e ≡ old ++ (a ++ (b ++ (d ++ e)))
regroup old a b d e = simp append_assoc

pub returns : goal.returns
unfolding lib.Utf8.encode
returns c =
    let old = string_bytes c.args.text.now in
    let arrow : List ℕ = 115 ∷ 32 ∷ 0xE2 ∷ 0x86 ∷ 0x92 ∷ 32 ∷ [] in
    let long : nat_lt 1000000000 c.args.interval ≡ true = is_long c.args.interval (omega arith) in
    let count = c.in_ok-push_str-2.ensures.bytes ∙ (λ i. c.in_ok-push_str.ensures.bytes i ++ c.format.ensures.text i) in
    let behind = c.in_ok-push_str-3.ensures.bytes ∙ ap (λ (t : List ℕ). t ++ arrow) count in
    rw long
    (c.in_ok-push_str-4.ensures.bytes
    ∙ ap (λ (t : List ℕ). t ++ c.args.now.now) behind
    ∙ regroup old (codes " Every ") (decimal (c.args.interval / 1000000000)) arrow c.args.now.now)
