-- Rows that get the names that they lack.
use Rattle.std.proofs.Common.{◌≡◌, ◌∙◌, ap, sym, subst, ℕ, ◌+◌, ◌<◌, ◌≤◌, ◌++◌, ◌∷◌, [], List, refl, Bool, true, false, nat_eq, drop, length, get_or, set, map, append_assoc, append-nil, arith}
use Rattle.std.proofs.lemmas.List.{drop_more, drop_all, drop-set-lt, length-append}
use Rattle.std.specs.Prelude.{if◌then◌else◌}
use Rattle.std.specs.Cmp.Lexicographic.{pointwise}
use Rattle.prodash_base.specs.Path.{Path}
use Rattle.prodash_base.specs.plumbing.EqualityTests.{sound, texts}
use Rattle.prodash_base.specs.Rows.{row_of}
use Rattle.prodash_base.specs.declared.progress.Row.{Row}
use Rattle.prodash_core.specs.Tables.{BoxedTask, pair_of, RowShows}
use Rattle.prodash_core.proofs.RowsOfTasks.{ShowsRestAt, shows_replaced, shows_pushed}
use Rattle.prodash_core.specs.plumbing.MissingNames.{missing_name, missing_names}

-- a row that has the name lacks none
pub has_name : (name wanted : List ℕ) → pointwise nat_eq name wanted ≡ true → missing_name name wanted ≡ []
has_name name wanted h = ap (λ b. if b then [] else wanted ∷ []) h

pub lacks_name : (name wanted : List ℕ) → pointwise nat_eq name wanted ≡ false → missing_name name wanted ≡ wanted ∷ []
lacks_name name wanted h = ap (λ b. if b then [] else wanted ∷ []) h

none_by : (name wanted : List ℕ) (others : List (List ℕ)) (b : Bool) → pointwise nat_eq name wanted ≡ b → [] ≡ (if b then [] else wanted ∷ []) ++ others → (others ≡ []) × (name ≡ wanted)
none_by name wanted others true e h = (sym h, sound texts name wanted e)
none_by name wanted others false e h = cc

-- no name is there for a row, so it has its own
pub none_lacks : (name wanted : List ℕ) (others : List (List ℕ)) → [] ≡ missing_name name wanted ++ others → (others ≡ []) × (name ≡ wanted)
none_lacks name wanted others h = none_by name wanted others (pointwise nat_eq name wanted) refl h

-- the names that one more row lacks
missing_more : {C : Type 0} (names pushed all : List (List ℕ)) (tasks : List (Path × BoxedTask C)) (rows : List Row) → names ++ missing_names tasks rows ≡ all
    → (task : Path × BoxedTask C) (others : List (Path × BoxedTask C)) → tasks ≡ task ∷ others → (row : Row) (rest : List Row) → rows ≡ row ∷ rest
    → pushed ≡ names ++ missing_name row.name task.1.value.name → pushed ++ missing_names others rest ≡ all
missing_more names pushed all tasks rows h task others t row rest r p =
    ap (λ ns. ns ++ missing_names others rest) p
    ∙ append_assoc names (missing_name row.name task.1.value.name) (missing_names others rest)
    ∙ (λ i. names ++ missing_names (sym t i) (sym r i))
    ∙ h

pub missing_pushed : {C : Type 0} (names pushed all : List (List ℕ)) (tasks : List (Path × BoxedTask C)) (rows : List Row) → names ++ missing_names tasks rows ≡ all
    → (task : Path × BoxedTask C) (others : List (Path × BoxedTask C)) → tasks ≡ task ∷ others → (row : Row) (rest : List Row) → rows ≡ row ∷ rest
    → pointwise nat_eq row.name task.1.value.name ≡ false → pushed ≡ names ++ task.1.value.name ∷ [] → pushed ++ missing_names others rest ≡ all
missing_pushed names pushed all tasks rows h task others t row rest r e p =
    missing_more names pushed all tasks rows h task others t row rest r (p ∙ ap (λ ns. names ++ ns) (sym (lacks_name row.name task.1.value.name e)))

pub missing_same : {C : Type 0} (names all : List (List ℕ)) (tasks : List (Path × BoxedTask C)) (rows : List Row) → names ++ missing_names tasks rows ≡ all
    → (task : Path × BoxedTask C) (others : List (Path × BoxedTask C)) → tasks ≡ task ∷ others → (row : Row) (rest : List Row) → rows ≡ row ∷ rest
    → pointwise nat_eq row.name task.1.value.name ≡ true → names ++ missing_names others rest ≡ all
missing_same names all tasks rows h task others t row rest r e =
    missing_more names names all tasks rows h task others t row rest r (sym (append-nil names) ∙ ap (λ ns. names ++ ns) (sym (has_name row.name task.1.value.name e)))

-- the name of a task behind the last row
pub missing_past : {C : Type 0} (names pushed all : List (List ℕ)) (tasks : List (Path × BoxedTask C)) (rows : List Row) → names ++ missing_names tasks rows ≡ all
    → (task : Path × BoxedTask C) (others : List (Path × BoxedTask C)) → tasks ≡ task ∷ others → rows ≡ []
    → pushed ≡ names ++ task.1.value.name ∷ [] → pushed ++ missing_names others rows ≡ all
missing_past names pushed all tasks rows h task others t r p =
    (λ i. p i ++ missing_names others (r i))
    ∙ append_assoc names (task.1.value.name ∷ []) (missing_names others [])
    ∙ (λ i. names ++ missing_names (sym t i) (sym r i))
    ∙ h

pub missing_all : {C : Type 0} (names all : List (List ℕ)) (tasks : List (Path × BoxedTask C)) (rows : List Row) → names ++ missing_names tasks rows ≡ all → tasks ≡ [] → names ≡ all
missing_all names all tasks rows h t = sym (append-nil names) ∙ (λ i. names ++ missing_names (sym t i) rows) ∙ h

same_heads : (x y : List ℕ) (xs ys : List (List ℕ)) → x ∷ xs ≡ y ∷ ys → (xs ≡ ys) × (x ≡ y)
same_heads x y xs ys h = (cc, cc)

-- a row takes the name that it lacks
pub takes_name : (name wanted taken : List ℕ) (names more after : List (List ℕ)) → pointwise nat_eq name wanted ≡ false → names ≡ missing_name name wanted ++ more
    → names ≡ taken ∷ after → (after ≡ more) × (taken ≡ wanted)
takes_name name wanted taken names more after e h t = same_heads taken wanted after more (sym t ∙ h ∙ ap (λ ns. ns ++ more) (lacks_name name wanted e))

-- a row keeps the name that it has
pub keeps_name : (name wanted : List ℕ) (names more : List (List ℕ)) → pointwise nat_eq name wanted ≡ true → names ≡ missing_name name wanted ++ more
    → (names ≡ more) × (name ≡ wanted)
keeps_name name wanted names more e h = (h ∙ ap (λ ns. ns ++ more) (has_name name wanted e), sound texts name wanted e)

pub without_names : (name wanted : List ℕ) (names more : List (List ℕ)) → names ≡ [] → names ≡ missing_name name wanted ++ more
    → (names ≡ more) × (name ≡ wanted)
without_names name wanted names more n h =
    let both = none_lacks name wanted more (sym n ∙ h) in
    (n ∙ sym both.0, both.1)

-- the first n rows are put, and the names are those that the others lack
abbrev pub Puts : {C : Type 0} → (C → ℕ → Type 0) → List (Path × BoxedTask C) → List Row → ℕ → List (Path × BoxedTask C) → List (List ℕ) → Type 0
Puts shows all rows n left names = ShowsRestAt shows (map pair_of all) rows n (map pair_of left) × (names ≡ missing_names left (drop n rows))

pub puts_within : {C : Type 0} (shows : C → ℕ → Type 0) (all : List (Path × BoxedTask C)) (rows : List Row) (n : ℕ) (left : List (Path × BoxedTask C)) (names : List (List ℕ)) → Puts shows all rows n left names
    → (task : Path × BoxedTask C) (others : List (Path × BoxedTask C)) → left ≡ task ∷ others → n < length rows → (old : Row) → old ≡ get_or rows n old → (row : Row) (after : List (List ℕ))
    → ((more : List (List ℕ)) → names ≡ missing_name old.name task.1.value.name ++ more → (after ≡ more) × RowShows shows (pair_of task) (row_of row))
    → (now : List Row) → now ≡ set rows n row → Puts shows all now (n + 1) others after
puts_within shows all rows n left names h task others l inside old at row after f now p =
    let more = missing_names others (drop (n + 1) rows) in
    let fit = f more (h.1 ∙ (λ i. missing_names (l i) (drop_more rows n old inside i)) ∙ ap (λ (r : Row). missing_name r.name task.1.value.name ++ more) (sym at)) in (
      shows_replaced shows (map pair_of all) rows n (map pair_of left) h.0 (pair_of task) (map pair_of others) (ap (map pair_of) l) row fit.1 inside now p,
      fit.0 ∙ ap (missing_names others) (sym (ap (drop (n + 1)) p ∙ drop-set-lt (n + 1) rows n row (omega arith))),
    )

pub puts_past : {C : Type 0} (shows : C → ℕ → Type 0) (all : List (Path × BoxedTask C)) (rows : List Row) (n : ℕ) (left : List (Path × BoxedTask C)) (names : List (List ℕ)) → Puts shows all rows n left names
    → (task : Path × BoxedTask C) (others : List (Path × BoxedTask C)) → left ≡ task ∷ others → length rows ≤ n → (row : Row) (taken : List ℕ) (after : List (List ℕ)) → names ≡ taken ∷ after
    → (taken ≡ task.1.value.name → RowShows shows (pair_of task) (row_of row))
    → (now : List Row) → now ≡ rows ++ row ∷ [] → Puts shows all now (n + 1) others after
puts_past shows all rows n left names h task others l outside row taken after t f now p =
    let heads = same_heads taken task.1.value.name after (missing_names others []) (sym t ∙ h.1 ∙ (λ i. missing_names (l i) (drop_all n rows outside i))) in
    let len : length now ≡ length rows + 1 = ap length p ∙ length-append rows (row ∷ []) in (
      shows_pushed shows (map pair_of all) rows n (map pair_of left) h.0 (pair_of task) (map pair_of others) (ap (map pair_of) l) row (f heads.1) outside now p,
      heads.0 ∙ ap (missing_names others) (sym (drop_all (n + 1) now (omega arith))),
    )

-- a task behind the last row has a name
pub name_past : {C : Type 0} (shows : C → ℕ → Type 0) (all : List (Path × BoxedTask C)) (rows : List Row) (n : ℕ) (left : List (Path × BoxedTask C)) (names : List (List ℕ)) → Puts shows all rows n left names
    → (task : Path × BoxedTask C) (others : List (Path × BoxedTask C)) → left ≡ task ∷ others → length rows ≤ n → names ≡ [] → ⊥
name_past shows all rows n left names h task others l outside e =
    let both : [] ≡ task.1.value.name ∷ missing_names others [] = sym e ∙ h.1 ∙ (λ i. missing_names (l i) (drop_all n rows outside i)) in cc
