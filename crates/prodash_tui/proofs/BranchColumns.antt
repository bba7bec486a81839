-- The branches that lead to a row have a column for each of its levels, and one between any two.
use Prim.Native.Char.{code}
use Rattle.std.proofs.Common.{◌≡◌, ℕ, ◌+◌, ◌-◌, ◌*◌, ◌<◌, ◌≤◌, Bool, true, false, Some, List, [], ◌∷◌, ◌++◌, chars, length, map, take, get_or, encode_utf8_all, refl, sym, ap, subst, ◌∙◌, arith, slice_get}
use Rattle.std.specs.Option.{option_map, option_map_or}
use Rattle.std.specs.Prelude.{codes, min, String, string_bytes}
use Rattle.std.specs.Str.{IsUtf8}
use Rattle.std.proofs.lemmas.List.{get_or-map, length-map, length-take, map-append}
use Rattle.std.proofs.lemmas.Option.{slice_get-get_or}
use Rattle.std.proofs.lemmas.Str.{IsUtf8-string_bytes, chars-append, chars_from_encodes}
use Rattle.unicode_width.proofs.Computing.{unicode_width}
use Rattle.prodash_base.specs.Adjacency.{adjacency, locations}
use Rattle.prodash_base.specs.Path.{Path}
use Rattle.prodash_base.specs.Rows.{PathRow, row_of, rows_of}
use Rattle.prodash_base.specs.declared.progress.Row.{Row}
use Rattle.prodash_base.specs.declared.progress.key.adjacency.SiblingLocation.{SiblingLocation}
use Rattle.prodash_base.specs.declared.progress.key.adjacency.SiblingLocation.TheVariants.{Above, Below, AboveAndBelow, NotFound}
use Rattle.prodash_core.specs.Prefixes.{ancestor_branch, branches, is_orphan, own_branch, prefix_of}
use Rattle.prodash_line.specs.CellRows.{char_columns, text_columns}
use Rattle.prodash_line.specs.DrawnLines.{safe_char}
use Rattle.prodash_line.proofs.Columns.{utf8-printable}
use Rattle.prodash_tui.specs.Frames.{is_certain}
use Rattle.prodash_tui.specs.RowTexts.{branches_of, no_row, row_at, tree_text}
use Rattle.prodash_tui.specs.Texts.{drawn_text}
use Rattle.prodash_tui.proofs.CertainChars.{column_as_drawn}
use Rattle.prodash_tui.proofs.PaneRows.{length_rows, said_by}

-- the columns that a text counts for a character
abbrev counted : ℕ → ℕ
counted c = min (char_columns (safe_char c)) 2

one : (c : ℕ) → is_certain c ≡ true → counted c ≡ 1
one c h = sym (column_as_drawn c h)

dot : counted 0xB7 ≡ 1
unfolding unicode_width
dot = refl

own_one : (first orphan : Bool) (l : SiblingLocation) → counted (own_branch first orphan l) ≡ 1
own_one true orphan Above = one (code "├") refl
own_one true orphan Below = one (code "│") refl
own_one true orphan AboveAndBelow = one (code "├") refl
own_one true orphan NotFound = one (code "│") refl
own_one false orphan Above = one (code "└") refl
own_one false orphan Below = one (code "┌") refl
own_one false orphan AboveAndBelow = one (code "├") refl
own_one false true NotFound = one (code " ") refl
own_one false false NotFound = dot

ancestor_one : (first orphan : Bool) (l : SiblingLocation) → counted (ancestor_branch first orphan l) ≡ 1
ancestor_one first orphan Above = one (code "└") refl
ancestor_one first orphan Below = one (code "┌") refl
ancestor_one first orphan AboveAndBelow = one (code "│") refl
ancestor_one true orphan NotFound = one (code "│") refl
ancestor_one false true NotFound = dot
ancestor_one false false NotFound = one (code " ") refl

columns_of_all : (first orphan : Bool) (ls : List SiblingLocation) → text_columns char_columns (map safe_char (branches first orphan ls)) ≡ 2 * length ls - 1
columns_of_all first orphan [] = refl
columns_of_all first orphan (own ∷ []) = omega (arith, own_one first orphan own)
columns_of_all first orphan (l ∷ next ∷ more) =
    omega (arith, ancestor_one first orphan l, one 32 refl, columns_of_all false orphan (next ∷ more))

-- the branches that lead to a row
columns_of_branches : (rows : List PathRow) (i : ℕ) → i < length rows → length (row_at rows i).0 ≤ 6 → IsUtf8 (branches_of rows i)
    → text_columns char_columns (drawn_text (branches_of rows i)) ≡ 2 * length (row_at rows i).0 - 1
columns_of_branches rows i inside few utf8 =
    let paths : List Path = map (λ (row : PathRow). row.0) rows in
    let p : Path = (row_at rows i).0 in
    let ls : List SiblingLocation = take (length p) (locations (adjacency paths p)) in
    let prefix : List ℕ = prefix_of (adjacency paths p) (length p) in
    let at : slice_get paths i ≡ Some p =
    slice_get-get_or paths i [] (omega (arith, length-map rows (λ (row : PathRow). row.0)))
    ∙ ap (λ (q : Path). Some q) (get_or-map (λ (row : PathRow). row.0) rows i no_row [] inside) in
    let spelled : encode_utf8_all prefix ≡ branches_of rows i =
    sym (ap (λ o. option_map_or encode_utf8_all (option_map (λ (q : Path). prefix_of (adjacency paths q) (length q)) o) []) at) in
    let are : prefix ≡ chars (branches_of rows i) = chars_from_encodes prefix (branches_of rows i) utf8 spelled in
    let levels : length ls ≡ length p = length-take (length p) (locations (adjacency paths p)) ∙ (let e : min (length p) 6 ≡ length p = omega arith in e) in
    ap (λ (t : List ℕ). text_columns char_columns (map safe_char t)) (sym are)
    ∙ columns_of_all true (is_orphan (adjacency paths p) (length p)) ls
    ∙ ap (λ (n : ℕ). 2 * n - 1) levels

-- ---- texts behind one another

columns_of_both : (columns : ℕ → ℕ) (a b : List ℕ) → text_columns columns (a ++ b) ≡ text_columns columns a + text_columns columns b
columns_of_both columns [] b = omega arith
columns_of_both columns (c ∷ a) b = omega (arith, columns_of_both columns a b)

columns-append : (a b : List ℕ) → IsUtf8 a
    → text_columns char_columns (drawn_text (a ++ b)) ≡ text_columns char_columns (drawn_text a) + text_columns char_columns (drawn_text b)
columns-append a b utf8 =
    ap (λ (t : List ℕ). text_columns char_columns (map safe_char t)) (chars-append a b utf8)
    ∙ ap (text_columns char_columns) (map-append safe_char (chars a) (chars b))
    ∙ columns_of_both char_columns (drawn_text a) (drawn_text b)

space : text_columns char_columns (drawn_text (codes " ")) ≡ 1
unfolding unicode_width
space = refl

-- ---- rows of a list

-- a text has the branches that lead to row i, which is r
pub record HasBranches {Z : Type 0} (rows : List Row) (i : ℕ) (r : Row) (text : String Z) : Type 0 where
  pub inside : i < length rows
  pub row : r ≡ get_or rows i r
  pub levels : length r.key ≤ 6
  pub bytes : string_bytes text ≡ branches_of (rows_of rows) i

utf8_of : {Z : Type 0} (rows : List Row) (i : ℕ) (r : Row) (text : String Z) → HasBranches rows i r text → IsUtf8 (branches_of (rows_of rows) i)
utf8_of rows i r text has = subst IsUtf8 has.bytes (IsUtf8-string_bytes text)

pub branches_width : {Z : Type 0} (rows : List Row) (i : ℕ) (r : Row) (text : String Z) → HasBranches rows i r text
    → text_columns char_columns (drawn_text (branches_of (rows_of rows) i)) ≡ 2 * length r.key - 1
branches_width rows i r text has =
    let said : row_at (rows_of rows) i ≡ row_of r = said_by rows i r has.inside has.row in
    let size : length (row_at (rows_of rows) i).0 ≡ length r.key = ap (λ (row : PathRow). length row.0) said in
    columns_of_branches (rows_of rows) i (let h : i < length (rows_of rows) = (let inside : i < length rows = has.inside in omega (arith, length_rows rows)) in h)
    (let h : length (row_at (rows_of rows) i).0 ≤ 6 = (let levels : length r.key ≤ 6 = has.levels in omega arith) in h) (utf8_of rows i r text has)
    ∙ ap (λ (n : ℕ). 2 * n - 1) size

-- a row of the tree: its branches, a space, and its name
pub tree_text_width : {Z : Type 0} (rows : List Row) (i : ℕ) (r : Row) (text : String Z) → HasBranches rows i r text
    → text_columns char_columns (drawn_text (tree_text (rows_of rows) i)) ≡ 2 * length r.key - 1 + (1 + text_columns char_columns (drawn_text r.name))
tree_text_width rows i r text has =
    let said : row_at (rows_of rows) i ≡ row_of r = said_by rows i r has.inside has.row in
    let branches : List ℕ = branches_of (rows_of rows) i in
    let name : List ℕ = (row_at (rows_of rows) i).1.name in
    let named : name ≡ r.name = ap (λ (row : PathRow). row.1.name) said in
    let behind : text_columns char_columns (drawn_text (codes " " ++ name)) ≡ 1 + text_columns char_columns (drawn_text name) =
    columns-append (codes " ") name (utf8-printable (codes " ") refl) ∙ ap (λ (n : ℕ). n + text_columns char_columns (drawn_text name)) space in
    columns-append branches (codes " " ++ name) (utf8_of rows i r text has)
    ∙ (λ j. branches_width rows i r text has j + behind j)
    ∙ ap (λ (t : List ℕ). 2 * length r.key - 1 + (1 + text_columns char_columns (drawn_text t))) named
