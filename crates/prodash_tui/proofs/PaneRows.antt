-- The rows of a progress pane, and lines that are drawn one after another.
use Rattle.std.proofs.Common.{◌≡◌, ℕ, suc, ◌+◌, ◌-◌, ◌/◌, ◌<◌, Option, Some, None, List, [], ◌∷◌, ◌++◌, length, get_or, map, take, drop, refl, sym, ap, subst, inl, inr, ◌∙◌, arith}
use Rattle.std.specs.Prelude.{◌↔◌, Bool, true, false, IsTrue, String, encode_utf8_all, string_bytes, max, min, sum, if◌then◌else◌}
use Rattle.std.specs.Option.{is_some, option_map, option_map_or}
use Rattle.std.proofs.Math.Utf8.{encode}
use Rattle.std.proofs.lemmas.Bool.{cases_lt}
use Rattle.std.proofs.lemmas.List.{drop-map, drop_all, get_or-map, length-append, length-drop, length-map, length-take, map-append, take-map, take_all}
use Rattle.std.proofs.lemmas.List.Sums.{sum_by-append}
use Rattle.prodash_base.specs.Adjacency.{paths_of}
use Rattle.prodash_base.specs.Appending.{Appends}
use Rattle.prodash_base.specs.Numbers.{same_numbers}
use Rattle.prodash_base.specs.Path.{Path, SharesPrefix}
use Rattle.prodash_base.specs.Rows.{PathRow, RowProgress, progress_of, row_of, rows_of}
use Rattle.prodash_base.specs.declared.progress.Row.{Row}
use Rattle.prodash_base.specs.declared.progress.Value.{Value}
use Rattle.prodash_base.specs.plumbing.EqualityTests.{itself, sound, texts}
use Rattle.prodash_core.specs.Prefixes.{AppendsPrefixAt, prefix_at}
use Rattle.prodash_core.specs.declared.render.tui.event.Rect.{Rect}
use Rattle.prodash_tui.specs.declared.draw.progress.lines.Lines.{Lines}
use Rattle.prodash_tui.specs.Grids.{Sheet}
use Rattle.prodash_tui.specs.ProgressPanes.{behind_branches, greatest, hidden, mean_share, overflows, row_share, rows_area, rule_columns, total_share, with_branches, with_group, with_hidden, with_lines, with_overflow, with_progress, with_row}
use Rattle.prodash_tui.specs.Rates.{Rates}
use Rattle.prodash_tui.specs.Rects.{bottom_of, line_bound}
use Rattle.prodash_tui.specs.RowTexts.{branches_of, has_child, has_progress, is_from, keys_text, no_row, row_at}
use Rattle.prodash_tui.specs.Panes.{vertical_line}

-- row i says what the row of the list does
pub said_by : (rows : List Row) (i : ℕ) (r : Row) → i < length rows → r ≡ get_or rows i r → row_at (rows_of rows) i ≡ row_of r
said_by rows i r inside is = get_or-map row_of rows i r no_row inside ∙ ap row_of (sym is)

pub length_rows : (rows : List Row) → length (rows_of rows) ≡ length rows
length_rows rows = length-map rows row_of

paths_said : (rows : List Row) → map (λ (row : PathRow). row.0) (rows_of rows) ≡ paths_of rows
paths_said [] = refl
paths_said (r ∷ rows) = ap (λ (ps : List Path). r.key ∷ ps) (paths_said rows)

behind : (o : Option (List ℕ)) (before after : List ℕ) → option_map (λ prefix. before ++ encode_utf8_all prefix) o ≡ Some after → after ≡ before ++ option_map_or encode_utf8_all o []
behind None before after h = cc
behind (Some chars) before after h = cc

-- the branches of a row behind a text
pub branches_behind : {Z : Type 0} → (rows : List Row) (i : ℕ) (before after : String Z) → AppendsPrefixAt (paths_of rows) i before after → Appends before (branches_of (rows_of rows) i) after
branches_behind rows i before after h =
    behind (prefix_at (paths_of rows) i) (string_bytes before) (string_bytes after) h
    ∙ ap (λ (ps : List Path). string_bytes before ++ option_map_or encode_utf8_all (prefix_at ps i) []) (sym (paths_said rows))

-- one more line
pub line_more : (n : ℕ) (draw : ℕ → Sheet → Sheet) (g : Sheet) → with_lines (n + 1) draw g ≡ draw n (with_lines n draw g)
line_more n draw g = ap (λ (k : ℕ). with_lines k draw g) (let e : n + 1 ≡ suc n = omega arith in e)

pub greatest_more : (n : ℕ) (numbers : ℕ → ℕ) → greatest (n + 1) numbers ≡ max (greatest n numbers) (numbers n)
greatest_more n numbers = ap (λ (k : ℕ). greatest k numbers) (let e : n + 1 ≡ suc n = omega arith in e)

-- ---- paths

from_if_shared : (p q : Path) → SharesPrefix (length p) p q → is_from p q ≡ true
from_if_shared p q h =
    let same : take (length p) q ≡ p = sym h.2 ∙ take_all (length p) p (omega arith) in
    ap (same_numbers p) same ∙ itself texts p

shared_if_from : (p q : Path) → is_from p q ≡ true → SharesPrefix (length p) p q
shared_if_from p q h =
    let same : p ≡ take (length p) q = sound texts p (take (length p) q) h in
    let size : length p ≡ length (take (length p) q) = ap length same in
    (omega arith, omega (arith, length-take (length p) q), take_all (length p) p (omega arith) ∙ same)

from_own : (b : Bool) (p q : Path) → (IsTrue b ↔ SharesPrefix (length p) p q) → b ≡ is_from p q
from_own true p q h = sym (from_if_shared p q (h.0 refl))
from_own false p q h =
    let go : (t : Bool) → is_from p q ≡ t → false ≡ t = λ t. elim t as (λ t. is_from p q ≡ t → false ≡ t) [
      | true ↦ λ e. h.1 (shared_if_from p q e)
      | false ↦ λ e. refl
    ] in
    go (is_from p q) refl

-- a test that is true exactly of paths from p on
pub from_shared : (b : Bool) (n : ℕ) (p q : Path) → n ≡ length p → (IsTrue b ↔ SharesPrefix n p q) → b ≡ is_from p q
from_shared b n p q size h =
    let P : ℕ → Type 0 = λ n. IsTrue b ↔ SharesPrefix n p q in
    from_own b p q (subst P size h)

pub progress_said : (o : Option Value) → is_some o ≡ true → has_progress (option_map progress_of o) ≡ true
progress_said None h = cc
progress_said (Some v) h = refl

-- a group
pub group_row : (rows : List PathRow) (rates : Rates) (lines : Lines) (line : ℕ) (g : Sheet) → (row_at rows (lines.offset + line)).1.progress ≡ None
    → with_row rows rates lines line g
    ≡ with_group (row_at rows (lines.offset + line)).1.name (rule_columns (has_child rows (lines.offset + line)) lines.area.width)
    (behind_branches rows (lines.offset + line) (line_bound lines.area line)) (with_branches rows (lines.offset + line) (line_bound lines.area line) g)
group_row rows rates lines line g h =
    let bound = line_bound lines.area line in
    let i = lines.offset + line in
    ap (λ (p : Option RowProgress). with_progress p rows rates lines line (behind_branches rows i bound) (with_branches rows i bound g)) h

-- ---- rows that are hidden

take_front : (n : ℕ) (rows : List Row) → take (min n (length rows)) rows ≡ take n rows
take_front n rows = elim (cases_lt n (length rows)) [
  | inl fewer ↦ ap (λ (k : ℕ). take k rows) (let e : min n (length rows) ≡ n = omega arith in e)
  | inr all ↦ take_all (min n (length rows)) rows (omega arith) ∙ sym (take_all n rows all)
]

drop_front : (n : ℕ) (rows : List Row) → drop (min n (length rows)) rows ≡ drop n rows
drop_front n rows = elim (cases_lt n (length rows)) [
  | inl fewer ↦ ap (λ (k : ℕ). drop k rows) (let e : min n (length rows) ≡ n = omega arith in e)
  | inr all ↦ drop_all (min n (length rows)) rows (omega arith) ∙ sym (drop_all n rows all)
]

total-append : (a b : List PathRow) → total_share (a ++ b) ≡ total_share a + total_share b
total-append a b =
    let f : PathRow → ℕ = λ row. row_share row.1.progress in
    ap sum (map-append f a b) ∙ sum_by-append (λ (n : ℕ). n) (map f a) (map f b)

mean-append : (a b : List Row) → (total_share (rows_of a) + total_share (rows_of b)) / max (length a + length b) 1 ≡ mean_share (rows_of a ++ rows_of b)
mean-append a b =
    let both : length (rows_of a ++ rows_of b) ≡ length (rows_of a) + length (rows_of b) = length-append (rows_of a) (rows_of b) in
    let first : length (rows_of a) ≡ length a = length_rows a in
    let second : length (rows_of b) ≡ length b = length_rows b in
    let count : max (length a + length b) 1 ≡ max 1 (length (rows_of a ++ rows_of b)) = omega arith in
    let all : total_share (rows_of a) + total_share (rows_of b) ≡ total_share (rows_of a ++ rows_of b) = sym (total-append (rows_of a) (rows_of b)) in
    λ i. all i / count i

-- the mean of those before an offset and those behind the shown ones
pub mean_of_parts : (rows : List Row) (offset shown x y : ℕ) → x ≡ min offset (length rows) → y ≡ min (offset + shown) (length rows)
    → (total_share (rows_of (take x rows)) + total_share (rows_of (take (length rows - y) (drop y rows)))) / max (length (take x rows) + length (take (length rows - y) (drop y rows))) 1
    ≡ mean_share (hidden offset shown (rows_of rows))
mean_of_parts rows offset shown x y is_x is_y =
    let above : take x rows ≡ take offset rows = ap (λ (n : ℕ). take n rows) is_x ∙ take_front offset rows in
    let below : take (length rows - y) (drop y rows) ≡ drop (offset + shown) rows =
    take_all (length rows - y) (drop y rows) (omega (arith, length-drop y rows)) ∙ ap (λ (n : ℕ). drop n rows) is_y ∙ drop_front (offset + shown) rows in
    (λ i. (total_share (rows_of (above i)) + total_share (rows_of (below i))) / max (length (above i) + length (below i)) 1)
    ∙ mean-append (take offset rows) (drop (offset + shown) rows)
    ∙ (λ i. mean_share (sym (take-map row_of offset rows) i ++ sym (drop-map row_of (offset + shown) rows) i))

-- the line that says what is hidden, if rows don't fit
pub hidden_line : (rows : List PathRow) (offset tree : ℕ) (area : Rect) (g : Sheet) → true ≡ overflows rows area
    → with_overflow rows offset (rows_area rows area).height tree (bottom_of area) g ≡ with_hidden rows offset tree area g
hidden_line rows offset tree area g are =
    ap (λ (b : Bool). if b then with_overflow rows offset (rows_area rows area).height tree (bottom_of area) g else g) are

-- ---- texts

pub line_bytes : 0xE2 ∷ 0x94 ∷ 0x82 ∷ [] ≡ vertical_line
unfolding encode
line_bytes = refl

-- the keys that scroll, as they stand in the code
abbrev pub keys : List ℕ
keys =
    0xE2 ∷ 0x87 ∷ 0x8A ∷ 32 ∷ 61 ∷ 32 ∷ 100 ∷ 124
    ∷ 0xE2 ∷ 0x86 ∷ 0x93 ∷ 32 ∷ 61 ∷ 32 ∷ 106 ∷ 124
    ∷ 0xE2 ∷ 0x87 ∷ 0x88 ∷ 32 ∷ 61 ∷ 32 ∷ 117 ∷ 124
    ∷ 0xE2 ∷ 0x86 ∷ 0x91 ∷ 32 ∷ 61 ∷ 32 ∷ 107 ∷ 32
    ∷ []

pub keys_bytes : keys ≡ keys_text
unfolding encode
keys_bytes = refl
