-- Scales are chosen by their factors alone: what is found among the scales of the program is found among their contents.
use Rattle.std.proofs.Common.{◌≡◌, ℕ, Bool, true, false, cond, List, [], ◌∷◌, map, Option, Some, None, Bor, refl, sym, ap, ◌∙◌, nat_le, slice_get}
use Rattle.std.specs.Prelude.{find, reverse}
use Rattle.std.specs.Option.{option_map, option_or}
use mathlib.Core.List.{reverse_aux}
use Rattle.prodash_base.specs.Scales.{scaling_of, scale_at}
use Rattle.prodash_base.specs.declared.unit.scaled.Scale.{Scale}

module _ {A B : Type 0} (f : A → B) where
  find-map : (test : B → Bool) (xs : List A) → find test (map f xs) ≡ option_map f (find (λ x. test (f x)) xs)
  find-map test [] = refl
  find-map test (x ∷ xs) =
      elim (test (f x)) as (λ b. cond b (Some (f x)) (find test (map f xs)) ≡ option_map f (cond b (Some x) (find (λ y. test (f y)) xs))) [
        | true ↦ refl
        | false ↦ find-map test xs
      ]

  map-reverse_aux : (xs ys : List A) → map f (reverse_aux xs ys) ≡ reverse_aux (map f xs) (map f ys)
  map-reverse_aux [] ys = refl
  map-reverse_aux (x ∷ xs) ys = map-reverse_aux xs (x ∷ ys)

  map-slice_get : (xs : List A) → slice_get (map f xs) 0 ≡ option_map f (slice_get xs 0)
  map-slice_get [] = refl
  map-slice_get (x ∷ xs) = refl

-- the last scale of which a search from the end found that its factor is at most n, or else the first
pub found_scale : (n : ℕ) (scales : List Scale) (found : Option (Bor Scale))
    → option_map (λ scale. scale.now) found ≡ find (λ s. nat_le s.factor n) (reverse scales)
    → scale_at (map scaling_of scales) n
    ≡ option_map scaling_of (option_or (option_map (λ scale. scale.now) found) (slice_get scales 0))
found_scale n scales found is =
    let backwards : find (λ s. nat_le s.factor n) (reverse (map scaling_of scales)) ≡ option_map scaling_of (find (λ s. nat_le s.factor n) (reverse scales)) =
    ap (find (λ s. nat_le s.factor n)) (sym (map-reverse_aux scaling_of scales [])) ∙ find-map scaling_of (λ s. nat_le s.factor n) (reverse scales) in
    let kept : find (λ s. nat_le s.factor n) (reverse (map scaling_of scales)) ≡ option_map scaling_of (option_map (λ scale. scale.now) found) =
    backwards ∙ ap (option_map scaling_of) (sym is) in
    ap (λ found. option_or found (slice_get (map scaling_of scales) 0)) kept ∙ or_first found
  where
    or_first : (found : Option (Bor Scale)) → option_or (option_map scaling_of (option_map (λ scale. scale.now) found)) (slice_get (map scaling_of scales) 0) ≡ option_map scaling_of (option_or (option_map (λ scale. scale.now) found) (slice_get scales 0))
    or_first None = map-slice_get scaling_of scales
    or_first (Some scale) = refl
