-- What lines of scripts ask for.
use Rattle.std.proofs.Common.{◌≡◌, ◌-◌, ℕ, true, false, List, length, take, drop, sym, rules, arith}
use Rattle.std.specs.Prelude.{Option, Some, None, MatchOption, option_map}
use Rattle.std.specs.Borrow.{Bor}
use Rattle.std.specs.Str.{IsCharBoundary}
use Rattle.std.specs.Str.Pattern.{FindsTextPrefix, FindsTextSuffix, StripsPrefix, StripsSuffix}
use Rattle.std.proofs.lemmas.Str.Pattern.{ends_text, starts_text}
use Rattle.prodash_script.specs.Words.{after_prefix, before_suffix}

-- the clause of `strip_prefix` at a text
pub stripped : (prefix text : List ℕ) → (r : Option (Bor (List ℕ))) → MatchOption r (FindsTextPrefix prefix text None) (λ x. StripsPrefix (FindsTextPrefix prefix) text x.now) → option_map (λ x. x.now) r ≡ after_prefix prefix text
stripped prefix text None lacks =
    let test = starts_text false prefix text lacks in
    rw (sym test)
stripped prefix text (Some rest) strips =
    let found = strips.1 in
    let all : rest.now ≡ drop (length prefix) text = search rules in
    let test = starts_text true prefix text (strips.0, found, search rules) in
    rw (sym test, all)

-- the clause of `strip_suffix` at a text
pub stripped_end : (suffix text : List ℕ) → (r : Option (Bor (List ℕ))) → MatchOption r (FindsTextSuffix suffix text None) (λ x. StripsSuffix (FindsTextSuffix suffix) text x.now) → option_map (λ x. x.now) r ≡ before_suffix suffix text
stripped_end suffix text None lacks =
    let test = ends_text false suffix text lacks in
    rw (sym test)
stripped_end suffix text (Some front) strips =
    let found = strips.1 in
    let size : strips.0 ≡ length suffix = found.0 in
    let all : front.now ≡ take (length text - length suffix) text = search rules in
    let boundary : IsCharBoundary text (length text - strips.0) = search rules in
    let test = ends_text true suffix text (strips.0, found, omega arith, boundary) in
    rw (sym test, all)
