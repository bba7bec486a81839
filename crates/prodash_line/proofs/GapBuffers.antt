-- Lists that take the place of earlier ones.
use Rattle.std.proofs.Common.{◌≡◌, ◌≤◌, ◌<◌, ℕ, ◌+◌, ◌-◌, List, [], ◌∷◌, ◌++◌, length, set, take, drop, drop-drop, length-drop, length-append, length-take-le, append_assoc, sym, ap, ◌∙◌, arith}
use Rattle.std.proofs.lemmas.List.{drop_at, drop-set-lt, take_at, take_more_set}
use Rattle.std.proofs.lemmas.List.Edits.{drop-paste, take-paste}
use Rattle.std.proofs.Math.Seq.{paste, take-add}
use Rattle.std.specs.List.{copy_within}

-- the first items of those that are left follow what is written
pub moved_written : {X : Type 0} (xs : List X) (w l n : ℕ) → w ≤ l → l + n ≤ length xs → take (w + n) (copy_within xs l (l + n) w) ≡ take w xs ++ take n (drop l xs)
moved_written xs w l n before within =
    let count : l + n - l ≡ n = omega arith in
    let long = length-drop l xs in
    ap (λ k. take (w + n) (paste xs w (drop l xs) k)) count
    ∙ take-paste xs w (drop l xs) n (let le : w ≤ length xs = omega (arith, before, within) in le) (let le : n ≤ length (drop l xs) = omega (arith, long, within) in le)

-- and the others are left
pub moved_left : {X : Type 0} (xs : List X) (w l n : ℕ) → w ≤ l → l + n ≤ length xs → drop (l + n) (copy_within xs l (l + n) w) ≡ drop (l + n) xs
moved_left xs w l n before within =
    let count : l + n - l ≡ n = omega arith in
    let long = length-drop l xs in
    let far : w + n + (l - w) ≡ l + n = omega (arith, before) in
    let whole = paste xs w (drop l xs) n in
    ap (λ k. drop (l + n) (paste xs w (drop l xs) k)) count
    ∙ ap (λ k. drop k whole) (sym far) ∙ sym (drop-drop (l - w) (w + n) whole)
    ∙ ap (drop (l - w)) (drop-paste xs w (drop l xs) n (let le : w ≤ length xs = omega (arith, before, within) in le) (let le : n ≤ length (drop l xs) = omega (arith, long, within) in le))
    ∙ drop-drop (l - w) (w + n) xs ∙ ap (λ k. drop k xs) far

-- so the first items that are left are written
pub moved : {X : Type 0} (xs : List X) (w l n : ℕ) (lists : List X × List X) → w ≤ l → l ≤ length xs → n ≤ length lists.1 → ◌≡◌ {A = List X × List X} (take w xs, drop l xs) lists
    → ◌≡◌ {A = List X × List X} (take (w + n) (copy_within xs l (l + n) w), drop (l + n) (copy_within xs l (l + n) w)) (lists.0 ++ take n lists.1, drop n lists.1)
moved xs w l n lists before within count view =
    let long : length (drop l xs) ≡ length lists.1 = ap (λ v. length v.1) view in
    let rest = length-drop l xs in
    let end : l + n ≤ length xs = omega (arith, long, rest, count, within) in
    (λ i. (moved_written xs w l n before end i, (moved_left xs w l n before end ∙ sym (drop-drop n l xs)) i)) ∙ ap (λ v. (v.0 ++ take n v.1, drop n v.1)) view

-- also where there is no gap
pub stays : {X : Type 0} (xs : List X) (w l n : ℕ) (lists : List X × List X) → w ≡ l → ◌≡◌ {A = List X × List X} (take w xs, drop l xs) lists
    → ◌≡◌ {A = List X × List X} (take (w + n) xs, drop (l + n) xs) (lists.0 ++ take n lists.1, drop n lists.1)
stays xs w l n lists same view =
    (λ i. ((take-add w n xs ∙ ap (λ k. take w xs ++ take n (drop k xs)) same) i, sym (drop-drop n l xs) i)) ∙ ap (λ v. (v.0 ++ take n v.1, drop n v.1)) view

-- an item may take the place of the first that is left
pub replaced : {X : Type 0} (xs : List X) (w l : ℕ) (x : X) (lists : List X × List X) → w ≤ l → l < length xs → ◌≡◌ {A = List X × List X} (take w xs, drop l xs) lists
    → ◌≡◌ {A = List X × List X} (take (w + 1) (set xs w x), drop (l + 1) (set xs w x)) (lists.0 ++ x ∷ [], drop 1 lists.1)
replaced xs w l x lists before within view =
    (λ i. (
      take_more_set xs w x (let lt : w < length xs = omega (arith, before, within) in lt) i,
      (drop-set-lt (l + 1) xs w x (let lt : w < l + 1 = omega (arith, before) in lt) ∙ sym (drop-drop 1 l xs)) i,
    ))
    ∙ ap (λ v. (v.0 ++ x ∷ [], drop 1 v.1)) view

-- items that are put into a gap are written
pub put : {X : Type 0} (xs zs ys part : List X) (w l m : ℕ) (lists : List X × List X) → w + length part ≤ l → take w zs ≡ take w xs → drop l zs ≡ drop m xs
    → take (w + length part) ys ≡ take w zs ++ part → drop (w + length part) ys ≡ drop (w + length part) zs
    → ◌≡◌ {A = List X × List X} (take w xs, drop m xs) lists → ◌≡◌ {A = List X × List X} (take (w + length part) ys, drop l ys) (lists.0 ++ part, lists.1)
put xs zs ys part w l m lists gap first last written left view =
    let end = w + length part in
    let far : end + (l - end) ≡ l = omega (arith, gap) in
    (λ i. (
      (written ∙ ap (λ t. t ++ part) first) i,
      (ap (λ k. drop k ys) (sym far) ∙ sym (drop-drop (l - end) end ys) ∙ ap (drop (l - end)) left ∙ drop-drop (l - end) end zs ∙ ap (λ k. drop k zs) far ∙ last) i,
    ))
    ∙ ap (λ v. (v.0 ++ part, v.1)) view

-- what stands behind a part that is replaced is the same
pub after_part : {X : Type 0} (xs old part new : List X) (len a n : ℕ) → old ≡ xs → new ≡ part → n ≡ length part → a + n ≤ len → len ≡ length xs
    → drop (a + n) (take len ((take a old ++ (new ++ drop (a + n - a) (drop a old))) ++ drop (length (take a old ++ (new ++ drop (a + n - a) (drop a old)))) xs)) ≡ drop (a + n) xs
after_part xs old part new len a n same is count within whole =
    let rest = drop (a + n) xs in
    let all = take a xs ++ (part ++ rest) in
    let back : a + (a + n - a) ≡ a + n = omega arith in
    let put : take a old ++ (new ++ drop (a + n - a) (drop a old)) ≡ all =
    ap (λ t. take a old ++ (new ++ t)) (drop-drop (a + n - a) a old) ∙ (λ i. take a (same i) ++ (is i ++ drop (back i) (same i))) in
    let first : length (take a xs) ≡ a = length-take-le a xs (let le : a ≤ length xs = omega (arith, within, whole) in le) in
    let tail = length-drop (a + n) xs in
    let head = length-append (take a xs) part in
    let size : length (take a xs ++ part) ≡ a + n = omega (arith, head, first, count) in
    let joined : (take a xs ++ part) ++ rest ≡ all = append_assoc (take a xs) part rest in
    let sum = length-append (take a xs ++ part) rest in
    let long : length all ≡ len = ap length (sym joined) ∙ (let sums : length ((take a xs ++ part) ++ rest) ≡ len = omega (arith, sum, size, tail, whole, within) in sums) in
    ap (λ ws. drop (a + n) (take len (ws ++ drop (length ws) xs))) put
    ∙ ap (drop (a + n)) (take_at all (drop (length all) xs) len long)
    ∙ ap (drop (a + n)) (sym joined) ∙ drop_at (take a xs ++ part) rest (a + n) size
