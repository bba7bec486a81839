-- Names that are among others.
use Rattle.std.proofs.Common.{◌≡◌, ◌∙◌, ℕ, Bool, true, false, cond, List, [], ◌∷◌, ◌++◌, map, bytes_eq, refl, sym, ap}
use Rattle.std.specs.Prelude.{Option, Some, None, ◌||◌, if◌then◌else◌}
use Rattle.std.specs.List.{find, list_any}
use Rattle.std.proofs.lemmas.List.{map-append}
use Rattle.std.proofs.lemmas.Slice.Eq.{bytes_eq-Decides}
use Rattle.std.specs.Borrow.{Bor}
use Rattle.prodash_script.specs.Units.{is_among, with_name}
use Rattle.prodash_script.specs.plumbing.Names.{FindsName}

-- the texts of names
abbrev texts : List (Bor (List ℕ)) → List (List ℕ)
texts names = map (λ name. name.now) names

-- whether a text is among the texts of names
among_texts : (text : List ℕ) → (names : List (Bor (List ℕ))) → list_any (λ name. bytes_eq text name.now) names ≡ is_among text (texts names)
among_texts text [] = refl
among_texts text (name ∷ names) = ap (λ b. bytes_eq text name.now || b) (among_texts text names)

-- a name that is found behind one that has another text
behind : (text : List ℕ) → (name : Bor (List ℕ)) → (names : List (Bor (List ℕ))) → (r : Option (Bor (List ℕ))) → bytes_eq text name.now ≡ false → FindsName names text r → FindsName (name ∷ names) text r
behind text name names None differs found = rw differs found
behind text name names (Some it) differs found = (found.0, rw differs found.1)

first : (text : List ℕ) → (name : Bor (List ℕ)) → (names : List (Bor (List ℕ))) → (b : Bool) → bytes_eq text name.now ≡ b → FindsName names text (find (λ it. bytes_eq text it.now) names) → FindsName (name ∷ names) text (cond b (Some name) (find (λ it. bytes_eq text it.now) names))
first text name names true same found = (sym ((bytes_eq-Decides text name.now).0 same), rw same refl)
first text name names false differs found = behind text name names (find (λ it. bytes_eq text it.now) names) differs found

-- the first name with a text
pub found_name : (text : List ℕ) → (names : List (Bor (List ℕ))) → FindsName names text (find (λ it. bytes_eq text it.now) names)
found_name text [] = refl
found_name text (name ∷ names) = first text name names (bytes_eq text name.now) refl (found_name text names)

inserted_if : (b : Bool) → (name : Bor (List ℕ)) → (names : List (Bor (List ℕ))) → texts (if b then names else names ++ name ∷ []) ≡ (if b then texts names else texts names ++ name.now ∷ [])
inserted_if true name names = refl
inserted_if false name names = map-append (λ it. it.now) names (name ∷ [])

-- the names once one was inserted
pub inserted_name : (name : Bor (List ℕ)) → (names : List (Bor (List ℕ))) → texts (if list_any (λ it. bytes_eq name.now it.now) names then names else names ++ name ∷ []) ≡ with_name name.now (texts names)
inserted_name name names =
    inserted_if (list_any (λ it. bytes_eq name.now it.now) names) name names
    ∙ ap (λ b. if b then texts names else texts names ++ name.now ∷ []) (among_texts name.now names)
