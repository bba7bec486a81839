-- The rows that fit a window, and those that don't.
use Rattle.std.proofs.Common.{◌≡◌, ℕ, ◌+◌, ◌-◌, ◌≤◌, nat_lt, Bool, true, false, cond, List, [], ◌∷◌, ◌++◌, length, map, take, drop, refl, sym, ap, subst, ◌∙◌, append_assoc, length-append, arith, Option}
use Rattle.std.specs.Prelude.{min, max, ◌&&◌}
use Rattle.std.proofs.lemmas.List.{map-append, length-map, length-take, length-drop, take_at, take_all, take-append-drop, drop_all}
use Rattle.std.proofs.lemmas.List.Elements.{filter-append}
use Rattle.prodash_base.specs.Rows.{PathRow, row_of, rows_of}
use Rattle.prodash_base.specs.Trackers.{Tracker}
use Rattle.prodash_base.specs.declared.progress.Row.{Row}
use Rattle.prodash_line.specs.declared.render.line.draw.input.Options.{Options}
use Rattle.prodash_line.specs.declared.render.line.draw.layout.Layout.{Layout}
use Rattle.prodash_line.specs.declared.render.line.draw.layout.Layout.TheVariants.{Overwriting, Erasing}
use Rattle.prodash_line.specs.DrawnLines.{erases_rows, layout_of}
use Rattle.prodash_line.specs.Lines.{Line}
use Rattle.prodash_line.specs.Frames.{covered}
use Rattle.prodash_line.specs.ProgressRows.{DrawnRow, is_row_drawn, filtered, fitting_count, preferred, fitting, more_lines}
use Rattle.prodash_line.specs.RowRanks.{rank_of, ranks_of, places}
use Rattle.prodash_line.specs.declared.render.line.draw.rank.Rank.{Rank}
use Rattle.prodash_line.specs.declared.render.line.draw.rank.Quotas.{Quotas}
use Rattle.prodash_base.specs.declared.unit.display.Throughput.{Throughput}
use Rattle.prodash_line.specs.plumbing.Choosing.{quota, taken, chosen}
use Rattle.prodash_line.specs.plumbing.Observing.{shown_by, throughput_by, observe_by, observe_all}
use Rattle.prodash_line.specs.plumbing.OverwriteBytes.{lines_bytes}
use Rattle.prodash_line.specs.plumbing.FrameWriting.{count_of, shown_rows, SplitsFitting, DrawsFirst, chosen_rows, quotas_for}
use Rattle.prodash_line.proofs.Choosing.{below, chosen_are, length-below, below_all}
use Rattle.prodash_line.proofs.Observing.{shown_by-append, observe_all-append, length-shown_by}
use Rattle.prodash_line.proofs.OverwriteBytes.{lines_bytes-append}

-- rows in two parts
pub filtered-append : (levels : Option (ℕ × ℕ)) (xs ys : List Row) → filtered levels (rows_of (xs ++ ys)) ≡ filtered levels (rows_of xs) ++ filtered levels (rows_of ys)
filtered-append levels xs ys = ap (filtered levels) (map-append row_of xs ys) ∙ filter-append (is_row_drawn levels) (rows_of xs) (rows_of ys)

pub count_of-append : (levels : Option (ℕ × ℕ)) (xs ys : List Row) → count_of levels (xs ++ ys) ≡ count_of levels xs + count_of levels ys
count_of-append levels xs ys = ap length (filtered-append levels xs ys) ∙ length-append (filtered levels (rows_of xs)) (filtered levels (rows_of ys))

-- of all rows those up to an index are a part
pub count_within : (levels : Option (ℕ × ℕ)) (rows : List Row) (n : ℕ) → count_of levels (take n rows) ≤ count_of levels rows
count_within levels rows n =
    let whole : count_of levels rows ≡ count_of levels (take n rows) + count_of levels (drop n rows) =
    ap (count_of levels) (sym (take-append-drop n rows)) ∙ count_of-append levels (take n rows) (drop n rows) in
    omega arith

split_within : (levels : Option (ℕ × ℕ)) (rows shown others : List Row) → rows ≡ shown ++ others → count_of levels shown ≤ count_of levels rows
split_within levels rows shown others e =
    let whole : count_of levels rows ≡ count_of levels shown + count_of levels others = ap (count_of levels) e ∙ count_of-append levels shown others in
    omega (arith, whole)

all_fit : (options : Options) (rows shown others : List Row) → SplitsFitting (layout_of options) options.level_filter rows shown others → count_of options.level_filter others ≡ 0
    → count_of options.level_filter rows ≤ fitting_count (layout_of options) (count_of options.level_filter rows)
all_fit options rows shown others h none =
    let levels = options.level_filter in
    let whole : count_of levels rows ≡ count_of levels shown + count_of levels others = ap (count_of levels) h.whole ∙ count_of-append levels shown others in
    omega (arith, whole, none, h.count)

-- the paths of rows that are shown
paths_of_shown : (tracker : Option Tracker) (rows : List PathRow) → map (λ (drawn : DrawnRow). drawn.0) (shown_by tracker rows) ≡ rows
paths_of_shown tracker [] = refl
paths_of_shown tracker (row ∷ rows) = ap (λ (others : List PathRow). row ∷ others) (paths_of_shown (observe_by tracker row) rows)

length_by : (b : Bool) (n : ℕ) (rows : List DrawnRow) → length (cond b (preferred n rows) (take n rows)) ≡ min n (length rows)
length_by true n rows =
    let paths = map (λ (drawn : DrawnRow). drawn.0) rows in
    let size : length paths ≡ length rows = length-map rows (λ (drawn : DrawnRow). drawn.0) in
    length-below n paths rows (sym size) ∙ ap (min n) size
length_by false n rows = length-take n rows

-- the first rows are drawn where those of running tasks aren't preferred, or all fit
first_by : (b : Bool) (n : ℕ) (rows : List DrawnRow) → (b ≡ true → length rows ≤ n) → cond b (preferred n rows) (take n rows) ≡ take n rows
first_by true n rows h =
    let paths = map (λ (drawn : DrawnRow). drawn.0) rows in
    let size : length paths ≡ length rows = length-map rows (λ (drawn : DrawnRow). drawn.0) in
    below_all n paths rows (sym size) (subst (λ (k : ℕ). k ≤ n) (sym size) (h refl)) ∙ sym (take_all n rows (h refl))
first_by false n rows h = refl

-- how many rows fit
pub length-fitting : (options : Options) (rows : List DrawnRow) → length (fitting options rows) ≡ min (fitting_count (layout_of options) (length rows)) (length rows)
length-fitting options rows = length_by options.prefer_running (fitting_count (layout_of options) (length rows)) rows

-- the rows that fit are those of the first part
pub fits_first : (options : Options) (tracker : Option Tracker) (rows shown others : List Row)
    → SplitsFitting (layout_of options) options.level_filter rows shown others → DrawsFirst options others
    → fitting options (shown_rows options tracker rows) ≡ shown_rows options tracker shown
fits_first options tracker rows shown others h firsts =
    let layout = layout_of options in
    let levels = options.level_filter in
    let first = filtered levels (rows_of shown) in
    let rest = filtered levels (rows_of others) in
    let all = shown_by tracker (filtered levels (rows_of rows)) in
    let parts : filtered levels (rows_of rows) ≡ first ++ rest = ap (λ (rs : List Row). filtered levels (rows_of rs)) h.whole ∙ filtered-append levels shown others in
    let both : all ≡ shown_by tracker first ++ shown_by (observe_all tracker first) rest =
    ap (shown_by tracker) parts ∙ shown_by-append tracker first rest in
    let size : length all ≡ count_of levels rows = length-shown_by tracker (filtered levels (rows_of rows)) in
    let own : length (shown_by tracker first) ≡ count_of levels shown = length-shown_by tracker first in
    let fit : options.prefer_running ≡ true → length all ≤ fitting_count layout (length all) =
    λ e. subst (λ (n : ℕ). n ≤ fitting_count layout n) (sym size) (all_fit options rows shown others h (firsts e)) in
    first_by options.prefer_running (fitting_count layout (length all)) all fit
    ∙ ap (λ (n : ℕ). take (fitting_count layout n) all) size
    ∙ ap (λ (rs : List DrawnRow). take (fitting_count layout (count_of levels rows)) rs) both
    ∙ take_at (shown_by tracker first) (shown_by (observe_all tracker first) rest) (fitting_count layout (count_of levels rows)) (own ∙ h.count)

-- and how many do not
hidden_by : (options : Options) (tracker : Option Tracker) (rows shown others : List Row) (fit : List DrawnRow)
    → SplitsFitting (layout_of options) options.level_filter rows shown others → length fit ≡ count_of options.level_filter shown
    → length (shown_rows options tracker rows) - length fit ≡ count_of options.level_filter others
hidden_by options tracker rows shown others fit h own =
    let levels = options.level_filter in
    let size : length (shown_rows options tracker rows) ≡ count_of levels rows = length-shown_by tracker (filtered levels (rows_of rows)) in
    let whole : count_of levels rows ≡ count_of levels shown + count_of levels others = ap (count_of levels) h.whole ∙ count_of-append levels shown others in
    omega (arith, size, whole, own)

pub others_are : (options : Options) (tracker : Option Tracker) (rows shown others : List Row)
    → SplitsFitting (layout_of options) options.level_filter rows shown others → DrawsFirst options others
    → length (shown_rows options tracker rows) - length (fitting options (shown_rows options tracker rows)) ≡ count_of options.level_filter others
others_are options tracker rows shown others h firsts =
    hidden_by options tracker rows shown others (fitting options (shown_rows options tracker rows)) h
    (ap length (fits_first options tracker rows shown others h firsts) ∙ length-shown_by tracker (filtered options.level_filter (rows_of shown)))

-- where those of running tasks are preferred, the rows that fit are those that quotas choose
pub fits_preferred : (options : Options) (tracker : Option Tracker) (rows shown others : List Row)
    → SplitsFitting (layout_of options) options.level_filter rows shown others → options.prefer_running ≡ true
    → fitting options (shown_rows options tracker rows) ≡ chosen_rows options (quotas_for options.level_filter rows (count_of options.level_filter shown)) tracker rows
fits_preferred options tracker rows shown others h e =
    let layout = layout_of options in
    let levels = options.level_filter in
    let drawn = filtered levels (rows_of rows) in
    let all = shown_rows options tracker rows in
    let size : length all ≡ count_of levels rows = length-shown_by tracker drawn in
    ap (λ (b : Bool). cond b (preferred (fitting_count layout (length all)) all) (take (fitting_count layout (length all)) all)) e
    ∙ ap (λ (n : ℕ). preferred n all) (ap (fitting_count layout) size ∙ sym h.count)
    ∙ ap (λ (paths : List PathRow). below (count_of levels shown) (places paths) all) (paths_of_shown tracker drawn)
    ∙ sym (chosen_are (count_of levels shown) drawn all)

pub others_preferred : (options : Options) (tracker : Option Tracker) (rows shown others : List Row)
    → SplitsFitting (layout_of options) options.level_filter rows shown others
    → length (shown_rows options tracker rows) - length (fitting options (shown_rows options tracker rows)) ≡ count_of options.level_filter others
others_preferred options tracker rows shown others h =
    let levels = options.level_filter in
    let all = shown_rows options tracker rows in
    let size : length all ≡ count_of levels rows = length-shown_by tracker (filtered levels (rows_of rows)) in
    let fit : fitting_count (layout_of options) (length all) ≡ count_of levels shown = ap (fitting_count (layout_of options)) size ∙ sym h.count in
    let few : count_of levels shown ≤ count_of levels rows = split_within levels rows shown others h.whole in
    hidden_by options tracker rows shown others (fitting options all) h
    (length-fitting options all ∙ (λ i. min (fit i) (size i)) ∙ omega (arith, few))

-- the rows that quotas choose, one by one: the next row, for which there is room
pub chosen_next : (options : Options) (q q' : Quotas) (t t' : Option Tracker) (rows others : List Row) (row : PathRow) (throughput : Option Throughput) (rank : Rank)
    → filtered options.level_filter (rows_of rows) ≡ row ∷ filtered options.level_filter (rows_of others)
    → rank ≡ rank_of row (filtered options.level_filter (rows_of others)) → throughput ≡ throughput_by t row → t' ≡ observe_by t row
    → q' ≡ taken q rank → nat_lt 0 (quota q rank) ≡ true
    → chosen_rows options q t rows ≡ (row, throughput) ∷ chosen_rows options q' t' others
chosen_next options q q' t t' rows others row throughput rank e k h o l left =
    let rest = filtered options.level_filter (rows_of others) in
    let after : Rank → List DrawnRow = λ it. chosen (taken q it) (ranks_of rest) (shown_by (observe_by t row) rest) in
    ap (λ (rs : List PathRow). chosen q (ranks_of rs) (shown_by t rs)) e
    ∙ ap (λ (it : Rank). cond (nat_lt 0 (quota q it)) ((row, throughput_by t row) ∷ after it) (after it)) (sym k)
    ∙ ap (λ (b : Bool). cond b ((row, throughput_by t row) ∷ after rank) (after rank)) left
    ∙ (λ i. (row, sym h i) ∷ chosen (sym l i) (ranks_of rest) (shown_by (sym o i) rest))

-- and one for which there is none
pub chosen_passed : (options : Options) (q q' : Quotas) (t t' : Option Tracker) (rows others : List Row) (row : PathRow) (rank : Rank)
    → filtered options.level_filter (rows_of rows) ≡ row ∷ filtered options.level_filter (rows_of others)
    → rank ≡ rank_of row (filtered options.level_filter (rows_of others)) → t' ≡ observe_by t row
    → q' ≡ taken q rank → nat_lt 0 (quota q rank) ≡ false
    → chosen_rows options q t rows ≡ chosen_rows options q' t' others
chosen_passed options q q' t t' rows others row rank e k o l left =
    let rest = filtered options.level_filter (rows_of others) in
    let after : Rank → List DrawnRow = λ it. chosen (taken q it) (ranks_of rest) (shown_by (observe_by t row) rest) in
    ap (λ (rs : List PathRow). chosen q (ranks_of rs) (shown_by t rs)) e
    ∙ ap (λ (it : Rank). cond (nat_lt 0 (quota q it)) ((row, throughput_by t row) ∷ after it) (after it)) (sym k)
    ∙ ap (λ (b : Bool). cond b ((row, throughput_by t row) ∷ after rank) (after rank)) left
    ∙ (λ i. chosen (sym l i) (ranks_of rest) (shown_by (sym o i) rest))

pub observes_both : (levels : Option (ℕ × ℕ)) (tracker : Option Tracker) (rows shown others : List Row) → rows ≡ shown ++ others
    → observe_all (observe_all tracker (filtered levels (rows_of shown))) (filtered levels (rows_of others)) ≡ observe_all tracker (filtered levels (rows_of rows))
observes_both levels tracker rows shown others e =
    sym (observe_all-append tracker (filtered levels (rows_of shown)) (filtered levels (rows_of others)))
    ∙ ap (observe_all tracker) (sym (filtered-append levels shown others) ∙ ap (λ (rs : List Row). filtered levels (rows_of rs)) (sym e))

-- all rows fit where lines are written over others
fit_all : (layout : Layout) (levels : Option (ℕ × ℕ)) (rows shown others : List Row) → layout ≡ Overwriting → SplitsFitting layout levels rows shown others → count_of levels others ≡ 0
fit_all layout levels rows shown others e h =
    let whole : count_of levels rows ≡ count_of levels shown + count_of levels others = ap (count_of levels) h.whole ∙ count_of-append levels shown others in
    let all : count_of levels shown ≡ count_of levels rows = h.count ∙ ap (λ (l : Layout). fitting_count l (count_of levels rows)) e in
    omega arith

-- below the lines of the rows that fit there is no line on screen that the line that counts the others is written over
more_over : (layout : Layout) (widths : List ℕ) (n : ℕ) (lines : List Line) → (layout ≡ Overwriting → lines ≡ [])
    → lines_bytes layout (drop n (covered layout widths)) lines ≡ lines_bytes layout [] lines
more_over Overwriting widths n lines h = ap (lines_bytes Overwriting (drop n widths)) (h refl) ∙ ap (lines_bytes Overwriting []) (sym (h refl))
more_over (Erasing height synchronized whole) widths n lines h = ap (λ (w : List ℕ). lines_bytes (Erasing height synchronized whole) w lines) (drop_all n [] (omega arith))

-- the bytes of both
pub both_written : (layout : Layout) (options : Options) (levels : Option (ℕ × ℕ)) (widths : List ℕ) (rows shown others : List Row) (lines : List Line) (before first all : List ℕ)
    → SplitsFitting layout levels rows shown others → first ≡ before ++ lines_bytes layout (covered layout widths) lines
    → all ≡ first ++ lines_bytes layout [] (more_lines options (count_of levels others))
    → all ≡ before ++ lines_bytes layout (covered layout widths) (lines ++ more_lines options (count_of levels others))
both_written layout options levels widths rows shown others lines before first all h f a =
    let more = more_lines options (count_of levels others) in
    let over = covered layout widths in
    let drawn = lines_bytes layout over lines in
    let none : layout ≡ Overwriting → more ≡ [] = λ e. ap (more_lines options) (fit_all layout levels rows shown others e h) in
    a ∙ ap (λ (t : List ℕ). t ++ lines_bytes layout [] more) f
    ∙ append_assoc before drawn (lines_bytes layout [] more)
    ∙ ap (λ (t : List ℕ). before ++ (drawn ++ t)) (sym (more_over layout widths (length lines) more none))
    ∙ ap (λ (t : List ℕ). before ++ t) (sym (lines_bytes-append layout over lines more))

-- lines over rows that are erased first
pub lines_joined : (layout : Layout) (lines more : List Line) → lines_bytes layout [] (lines ++ more) ≡ lines_bytes layout [] lines ++ lines_bytes layout [] more
lines_joined layout lines more =
    lines_bytes-append layout [] lines more
    ∙ ap (λ (over : List ℕ). lines_bytes layout [] lines ++ lines_bytes layout over more) (drop_all (length lines) [] (omega arith))

pub none_covered : (options : Options) (widths : List ℕ) → erases_rows options ≡ true → covered (layout_of options) widths ≡ []
none_covered options widths e =
    ap (λ (b : Bool). covered (cond b (Erasing options.terminal_dimensions.1 options.synchronized options.whole_messages) Overwriting) widths) e

pub first_true : (a b : Bool) → (a && b) ≡ true → a ≡ true
first_true true b e = refl
first_true false b e = cc

pub second_true : (a b : Bool) → (a && b) ≡ true → b ≡ true
second_true true b e = e
second_true false b e = cc

pub max_assoc : (a b c : ℕ) → max (max a b) c ≡ max a (max b c)
max_assoc a b c = omega arith

pub rest_whole : (rows : List Row) (k : ℕ) → take (length rows - k) (drop k rows) ≡ drop k rows
rest_whole rows k = take_all (length rows - k) (drop k rows) (omega (arith, length-drop k rows))
