-- Some elements of a list changed, such as rows of a grid or cells of a row.
use Rattle.std.proofs.Common.{◌≡◌, ℕ, ◌+◌, ◌-◌, ◌<◌, ◌≤◌, List, [], ◌∷◌, ◌++◌, length, set, get_or, take, drop, map, inl, inr, refl, sym, ap, ◌∙◌, append_assoc, length-append, arith}
use Rattle.std.specs.Prelude.{min}
use Rattle.std.specs.List.{All}
use Rattle.std.proofs.lemmas.Bool.{cases_lt}
use Rattle.std.proofs.lemmas.List.Elements.{All-append, All-drop, All-map, All-take, All-weaker}
use Rattle.std.proofs.lemmas.List.{take-append-drop, take_all, drop_all, drop_more, map_more, set_at, get_or-drop, get_or-append-add, get_or_append_left, get_or-append_right, get_or-map, get_or-take, length-take, length-take-le, length-drop, length-map, append-nil}
use Rattle.prodash_tui.specs.Rows.{in_part}

module _ {A : Type 0} where
  -- none
  pub in_none : (first : ℕ) (f : A → A) (rows : List A) → rows ≡ in_part first 0 f rows
  in_none first f rows =
      sym (take-append-drop first rows) ∙ ap (λ (n : ℕ). take first rows ++ drop n rows) (let e : first ≡ first + 0 = omega arith in e)

  -- none, since all are above
  pub in_past : (first count : ℕ) (f : A → A) (rows : List A) → length rows ≤ first → rows ≡ in_part first count f rows
  in_past first count f rows past =
      sym (append-nil rows)
      ∙ ap (λ (rs : List A). rs ++ []) (sym (take_all first rows past))
      ∙ ap (λ (rs : List A). take first rows ++ (map f rs ++ [])) (sym (take_all count [] (omega arith)))
      ∙ ap (λ (rs : List A). take first rows ++ (map f (take count rs) ++ [])) (sym (drop_all first rows past))
      ∙ ap (λ (rs : List A). take first rows ++ (map f (take count (drop first rows)) ++ rs)) (sym (drop_all (first + count) rows (omega arith)))

  -- as many as there are
  pub in_last : (first n count : ℕ) (f : A → A) (rows : List A) → length rows ≤ first + n → n ≤ count → in_part first n f rows ≡ in_part first count f rows
  in_last first n count f rows last le =
      let size : length (drop first rows) ≡ length rows - first = length-drop first rows in
      ap (λ (rs : List A). take first rows ++ (map f rs ++ drop (first + n) rows)) (take_all n (drop first rows) (omega arith) ∙ sym (take_all count (drop first rows) (omega arith)))
      ∙ ap (λ (rs : List A). take first rows ++ (map f (take count (drop first rows)) ++ rs)) (drop_all (first + n) rows last ∙ sym (drop_all (first + count) rows (omega arith)))

  in_fitting : (y count : ℕ) (f : A → A) (rows : List A) (height : ℕ) → length rows ≡ height → y < height
      → in_part y (min count (height - y)) f rows ≡ in_part y count f rows
  in_fitting y count f rows height size inside = elim (cases_lt count (height - y)) [
    | inl few ↦ ap (λ (n : ℕ). in_part y n f rows) (let e : min count (height - y) ≡ count = omega arith in e)
    | inr many ↦ in_last y (min count (height - y)) count f rows (omega arith) (omega arith)
  ]

  -- the rows before one that is the next to be changed
  abbrev before : ℕ → ℕ → (A → A) → List A → List A
  before first n f rows = take first rows ++ map f (take n (drop first rows))

  length-before : (first n : ℕ) (f : A → A) (rows : List A) → first + n ≤ length rows → length (before first n f rows) ≡ first + n
  length-before first n f rows fits =
      let all : length (before first n f rows) ≡ length (take first rows) + length (map f (take n (drop first rows))) = length-append (take first rows) (map f (take n (drop first rows))) in
      let above : length (take first rows) ≡ first = length-take-le first rows (omega arith) in
      let changed : length (map f (take n (drop first rows))) ≡ length (take n (drop first rows)) = length-map (take n (drop first rows)) f in
      let rest : length (drop first rows) ≡ length rows - first = length-drop first rows in
      let some : length (take n (drop first rows)) ≡ n = length-take-le n (drop first rows) (omega arith) in
      omega arith

  -- one that isn't changed yet
  pub in_at : (first k : ℕ) (f : A → A) (rows : List A) (d : A) → first ≤ k → k < length rows → get_or (in_part first (k - first) f rows) k d ≡ get_or rows k d
  in_at first k f rows d le inside =
      let n = k - first in
      let size : length (before first n f rows) ≡ first + n = length-before first n f rows (omega arith) in
      let rest = drop (first + n) rows in
      ap (λ (rs : List A). get_or rs k d) (sym (append_assoc (take first rows) (map f (take n (drop first rows))) rest))
      ∙ ap (λ (m : ℕ). get_or (before first n f rows ++ rest) m d) (let e : k ≡ length (before first n f rows) + 0 = omega arith in e)
      ∙ get_or-append-add (before first n f rows) rest 0 d
      ∙ get_or-drop (first + n) rows 0 d
      ∙ ap (λ (m : ℕ). get_or rows m d) (let e : first + n + 0 ≡ k = omega arith in e)

  -- one more
  pub in_next : (first k : ℕ) (f : A → A) (rows : List A) (d : A) → first ≤ k → k < length rows
      → set (in_part first (k - first) f rows) k (f (get_or rows k d)) ≡ in_part first (k + 1 - first) f rows
  in_next first k f rows d le inside =
      let n = k - first in
      let row = get_or rows k d in
      let changed = before first n f rows in
      let size : length changed ≡ first + n = length-before first n f rows (omega arith) in
      let below = drop (k + 1) rows in
      let dropped : length (drop first rows) ≡ length rows - first = length-drop first rows in
      let rest : drop (first + n) rows ≡ row ∷ below = ap (λ (m : ℕ). drop m rows) (let e : first + n ≡ k = omega arith in e) ∙ drop_more rows k d inside in
      let same : get_or (drop first rows) n d ≡ row = get_or-drop first rows n d ∙ ap (λ (m : ℕ). get_or rows m d) (let e : first + n ≡ k = omega arith in e) in
      let more : map f (take (n + 1) (drop first rows)) ≡ map f (take n (drop first rows)) ++ f row ∷ [] =
      map_more f (drop first rows) n d (omega arith) ∙ ap (λ (r : A). map f (take n (drop first rows)) ++ f r ∷ []) same in
      ap (λ (rs : List A). set rs k (f row)) (sym (append_assoc (take first rows) (map f (take n (drop first rows))) (drop (first + n) rows)))
      ∙ ap (λ (rs : List A). set (changed ++ rs) k (f row)) rest
      ∙ set_at changed row below (f row) k (omega arith)
      ∙ append_assoc (take first rows) (map f (take n (drop first rows))) (f row ∷ below)
      ∙ ap (λ (rs : List A). take first rows ++ rs) (sym (append_assoc (map f (take n (drop first rows))) (f row ∷ []) below) ∙ ap (λ (rs : List A). rs ++ below) (sym more))
      ∙ ap (λ (m : ℕ). take first rows ++ (map f (take m (drop first rows)) ++ below)) (let e : n + 1 ≡ k + 1 - first = omega arith in e)
      ∙ ap (λ (m : ℕ). take first rows ++ (map f (take (k + 1 - first) (drop first rows)) ++ drop m rows)) (let e : k + 1 ≡ first + (k + 1 - first) = omega arith in e)

  -- one alone
  pub in_one : (y : ℕ) (f : A → A) (rows : List A) (d : A) → y < length rows → set rows y (f (get_or rows y d)) ≡ in_part y 1 f rows
  in_one y f rows d inside =
      ap (λ (rs : List A). set rs y (f (get_or rows y d))) (in_none y f rows)
      ∙ ap (λ (n : ℕ). set (in_part y n f rows) y (f (get_or rows y d))) (let e : 0 ≡ y - y = omega arith in e)
      ∙ in_next y y f rows d (omega arith) inside
      ∙ ap (λ (n : ℕ). in_part y n f rows) (let e : y + 1 - y ≡ 1 = omega arith in e)

  -- those of a rectangle that there are
  pub in_clipped : (y count : ℕ) (f : A → A) (rows : List A) (height : ℕ) → length rows ≡ height
      → in_part (min y height) (min count (height - min y height)) f rows ≡ in_part y count f rows
  in_clipped y count f rows height size = elim (cases_lt y height) [
    | inl inside ↦
        let first : min y height ≡ y = omega arith in
        ap (λ (n : ℕ). in_part n (min count (height - n)) f rows) first ∙ in_fitting y count f rows height size inside
    | inr past ↦ sym (in_past (min y height) (min count (height - min y height)) f rows (omega arith)) ∙ in_past y count f rows (omega arith)
  ]

  pub length-in_rows : (first n : ℕ) (f : A → A) (rows : List A) → first + n ≤ length rows → length (in_part first n f rows) ≡ length rows
  length-in_rows first n f rows fits =
      let rest = drop (first + n) rows in
      let parts : in_part first n f rows ≡ before first n f rows ++ rest = sym (append_assoc (take first rows) (map f (take n (drop first rows))) rest) in
      let all : length (before first n f rows ++ rest) ≡ length (before first n f rows) + length rest = length-append (before first n f rows) rest in
      let some : length (before first n f rows) ≡ first + n = length-before first n f rows fits in
      let below : length rest ≡ length rows - (first + n) = length-drop (first + n) rows in
      let sum : length (before first n f rows ++ rest) ≡ length rows = omega arith in
      ap length parts ∙ sum

  pub length-in_rows_any : (first n : ℕ) (f : A → A) (rows : List A) → length (in_part first n f rows) ≡ length rows
  length-in_rows_any first n f rows = elim (cases_lt first (length rows)) [
    | inr past ↦ ap length (sym (in_past first n f rows past))
    | inl some ↦ ap length (sym (in_fitting first n f rows (length rows) refl some)) ∙ length-in_rows first (min n (length rows - first)) f rows (omega arith)
  ]

  -- what holds of each row, and of each that is changed
  pub All-in_rows : (P : A → Type 0) (first n : ℕ) (f : A → A) (rows : List A) → ((row : A) → P row → P (f row)) → All P rows → All P (in_part first n f rows)
  All-in_rows P first n f rows keeps all =
      let changed = take n (drop first rows) in
      All-append P (take first rows) (map f changed ++ drop (first + n) rows) (All-take P first rows all)
      (All-append P (map f changed) (drop (first + n) rows)
      (All-map P f changed (All-weaker P (λ (row : A). P (f row)) keeps changed (All-take P n (drop first rows) (All-drop P first rows all))))
      (All-drop P (first + n) rows all))

  -- ---- what a row is then

  -- one that isn't changed
  pub in_outside : (first n : ℕ) (f : A → A) (rows : List A) (y : ℕ) (d : A) → (first ≤ y → y < first + n → ⊥)
      → get_or (in_part first n f rows) y d ≡ get_or rows y d
  in_outside first n f rows y d out = elim (cases_lt first (length rows)) [
    | inr past ↦ ap (λ (rs : List A). get_or rs y d) (sym (in_past first n f rows past))
    | inl some ↦
        elim (cases_lt y first) [
          | inl above ↦
              get_or_append_left (take first rows) (map f (take n (drop first rows)) ++ drop (first + n) rows) d y (omega (arith, length-take first rows)) ∙ get_or-take first rows y d above
          | inr below ↦
              let fewer = min n (length rows - first) in
              let clipped : in_part first n f rows ≡ in_part first fewer f rows = sym (in_fitting first n f rows (length rows) refl some) in
              let past : first + n ≤ y = elim (cases_lt y (first + n)) [ inl h ↦ absurd (out below h) | inr h ↦ h ] in
              let size : length (before first fewer f rows) ≡ first + fewer = length-before first fewer f rows (omega arith) in
              let rest = drop (first + fewer) rows in
              ap (λ (rs : List A). get_or rs y d) (clipped ∙ sym (append_assoc (take first rows) (map f (take fewer (drop first rows))) rest))
              ∙ get_or-append_right (before first fewer f rows) rest (first + fewer) y d size (omega arith)
              ∙ get_or-drop (first + fewer) rows (y - (first + fewer)) d
              ∙ ap (λ (m : ℕ). get_or rows m d) (let e : first + fewer + (y - (first + fewer)) ≡ y = omega arith in e)
        ]
  ]

  -- one that is changed
  pub in_inside : (first n : ℕ) (f : A → A) (rows : List A) (y : ℕ) (d : A) → first ≤ y → y < first + n → y < length rows
      → get_or (in_part first n f rows) y d ≡ f (get_or rows y d)
  in_inside first n f rows y d from to inside =
      let fewer = min n (length rows - first) in
      let clipped : in_part first n f rows ≡ in_part first fewer f rows = sym (in_fitting first n f rows (length rows) refl (omega arith)) in
      let size : length (before first fewer f rows) ≡ first + fewer = length-before first fewer f rows (omega arith) in
      let rest = drop (first + fewer) rows in
      let chosen = take fewer (drop first rows) in
      let dropped : length (drop first rows) ≡ length rows - first = length-drop first rows in
      ap (λ (rs : List A). get_or rs y d) (clipped ∙ sym (append_assoc (take first rows) (map f chosen) rest))
      ∙ get_or_append_left (before first fewer f rows) rest d y (omega arith)
      ∙ get_or-append_right (take first rows) (map f chosen) first y d (length-take-le first rows (omega arith)) from
      ∙ get_or-map f chosen (y - first) d d (omega (arith, length-take fewer (drop first rows)))
      ∙ ap f
      (get_or-take fewer (drop first rows) (y - first) d (omega arith)
      ∙ get_or-drop first rows (y - first) d
      ∙ ap (λ (m : ℕ). get_or rows m d) (let e : first + (y - first) ≡ y = omega arith in e))
