-- Which names are kept.
use Rattle.std.specs.Prelude.{◌≡◌, ℕ, List, map, true, false, Option, MatchOption}
use Rattle.std.specs.Borrow.{Bor}
use Rattle.prodash_script.specs.Units.{is_among, with_name}

-- which of some names is equal to a text
abbrev pub FindsName : List (Bor (List ℕ)) → List ℕ → Option (Bor (List ℕ)) → Type 0
FindsName names text found =
    let texts = map (λ name. name.now) names in
    MatchOption found
    (is_among text texts ≡ false)
    (λ name. (name.now ≡ text) × (is_among text texts ≡ true))

-- what is kept of some names once this one is
abbrev pub KeepsName : List (Bor (List ℕ)) → List ℕ → List (Bor (List ℕ)) → Type 0
KeepsName old name new = map (λ it. it.now) new ≡ with_name name (map (λ it. it.now) old)
