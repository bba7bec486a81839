-- Rows that are made one after another, and rows whose counters each have one number.
use Rattle.std.proofs.Common.{◌≡◌, ◌∙◌, ap, sym, subst, ℕ, ◌+◌, ◌<◌, ◌≤◌, ◌++◌, ◌∷◌, [], List, refl, append_assoc, append-nil, map, length, length-append, length-set, set, take, take_all, arith, Option, Some, None, Result, Ok, Err, IfOk}
use Rattle.std.specs.List.{AllZip}
use Rattle.std.proofs.lemmas.List.{map-append, take_more_set}
use Rattle.std.specs.Option.{option_map}
use Rattle.prodash_base.specs.Path.{Path}
use Rattle.prodash_base.specs.Rows.{RowProgress, PathRow, row_of, rows_of}
use Rattle.prodash_base.specs.declared.progress.Row.{Row}
use Rattle.prodash_core.specs.Tables.{TaskEntry, TaskProgress, RowShows, ProgressShows, progress_at, frozen}

-- whatever rows show the entries that are left, they complete the rows so far
abbrev pub ShowsRest : {C : Type 0} → (C → ℕ → Type 0) → List (Path × TaskEntry C) → List PathRow → List (Path × TaskEntry C) → Type 0
ShowsRest shows all rows left = (more : List PathRow) → AllZip (RowShows shows) left more → AllZip (RowShows shows) all (rows ++ more)

pub shows_more : {C : Type 0} (shows : C → ℕ → Type 0) (all : List (Path × TaskEntry C)) (rows : List PathRow) (left : List (Path × TaskEntry C)) → ShowsRest shows all rows left
    → (e : Path × TaskEntry C) (others : List (Path × TaskEntry C)) → left ≡ e ∷ others → (row : PathRow) → RowShows shows e row
    → (pushed : List PathRow) → pushed ≡ rows ++ row ∷ [] → ShowsRest shows all pushed others
shows_more shows all rows left h e others l row r pushed p = λ more z.
    let whole = h (row ∷ more) (subst (λ es. AllZip (RowShows shows) es (row ∷ more)) (sym l) (r, z)) in
    subst (λ xs. AllZip (RowShows shows) all xs) (sym (ap (λ xs. xs ++ more) p ∙ append_assoc rows (row ∷ []) more)) whole

-- the same of the first n rows of a list, if the row is behind them
shows_put : {C : Type 0} (shows : C → ℕ → Type 0) (all : List (Path × TaskEntry C)) (rows : List Row) (n : ℕ) (left : List (Path × TaskEntry C)) → ShowsRest shows all (rows_of (take n rows)) left
    → (e : Path × TaskEntry C) (others : List (Path × TaskEntry C)) → left ≡ e ∷ others → (row : Row) → RowShows shows e (row_of row)
    → (now : List Row) → take (n + 1) now ≡ take n rows ++ row ∷ [] → ShowsRest shows all (rows_of (take (n + 1) now)) others
shows_put shows all rows n left h e others l row r now p =
    shows_more shows all (rows_of (take n rows)) left h e others l (row_of row) r (rows_of (take (n + 1) now)) (ap rows_of p ∙ map-append row_of (take n rows) (row ∷ []))

-- the first n rows are in the list, and whatever rows show the entries that are left, they complete them
abbrev pub ShowsRestAt : {C : Type 0} → (C → ℕ → Type 0) → List (Path × TaskEntry C) → List Row → ℕ → List (Path × TaskEntry C) → Type 0
ShowsRestAt shows all rows n left = (n ≤ length rows) × ShowsRest shows all (rows_of (take n rows)) left

-- a row replaces the one behind the first n
pub shows_replaced : {C : Type 0} (shows : C → ℕ → Type 0) (all : List (Path × TaskEntry C)) (rows : List Row) (n : ℕ) (left : List (Path × TaskEntry C)) → ShowsRestAt shows all rows n left
    → (e : Path × TaskEntry C) (others : List (Path × TaskEntry C)) → left ≡ e ∷ others → (row : Row) → RowShows shows e (row_of row)
    → n < length rows → (now : List Row) → now ≡ set rows n row → ShowsRestAt shows all now (n + 1) others
shows_replaced shows all rows n left h e others l row r inside now p =
    let len : length now ≡ length rows = ap length p ∙ length-set rows n row in
    (omega arith, shows_put shows all rows n left h.1 e others l row r now (ap (take (n + 1)) p ∙ take_more_set rows n row inside))

-- a row is pushed behind the first n, which are all
pub shows_pushed : {C : Type 0} (shows : C → ℕ → Type 0) (all : List (Path × TaskEntry C)) (rows : List Row) (n : ℕ) (left : List (Path × TaskEntry C)) → ShowsRestAt shows all rows n left
    → (e : Path × TaskEntry C) (others : List (Path × TaskEntry C)) → left ≡ e ∷ others → (row : Row) → RowShows shows e (row_of row)
    → length rows ≤ n → (now : List Row) → now ≡ rows ++ row ∷ [] → ShowsRestAt shows all now (n + 1) others
shows_pushed shows all rows n left h e others l row r outside now p =
    let len : length now ≡ length rows + 1 = ap length p ∙ length-append rows (row ∷ []) in
    let whole : take (n + 1) now ≡ now = take_all (n + 1) now (omega arith) in
    let before : rows ≡ take n rows = sym (take_all n rows outside) in
    (omega arith, shows_put shows all rows n left h.1 e others l row r now (whole ∙ p ∙ ap (λ xs. xs ++ row ∷ []) before))

pub shows_all : {C : Type 0} (shows : C → ℕ → Type 0) (all : List (Path × TaskEntry C)) (rows : List PathRow) (left : List (Path × TaskEntry C)) → ShowsRest shows all rows left
    → left ≡ [] → AllZip (RowShows shows) all rows
shows_all shows all rows left h l = subst (λ xs. AllZip (RowShows shows) all xs) (append-nil rows) (h [] (subst (λ es. AllZip (RowShows shows) es []) (sym l) tt))

-- rows are what they show, if each counter has one number
shown_progress : {C : Type 0} (number : C → ℕ) (p : Option (TaskProgress C)) (shown : Option RowProgress) → ProgressShows (λ c n. n ≡ number c) p shown
    → shown ≡ option_map (λ p. progress_at (number p.counter) p) p
shown_progress number None shown h = h
shown_progress number (Some p) shown h = h.2 ∙ ap (λ n. Some (progress_at n p)) h.1

pub shown_rows : {C : Type 0} (number : C → ℕ) (es : List (Path × TaskEntry C)) (rows : List PathRow) → AllZip (RowShows (λ c n. n ≡ number c)) es rows → rows ≡ map (frozen number) es
shown_rows number [] [] h = refl
shown_rows number [] (row ∷ rows) h = absurd h
shown_rows number (e ∷ es) [] h = absurd h
shown_rows number (e ∷ es) (row ∷ rows) h = λ i.
    (h.0.path i, record { name = h.0.name i; id = h.0.id i; progress = shown_progress number e.1.progress row.1.progress h.0.progress i }) ∷ shown_rows number es rows h.1 i

-- what holds of a result, weakened
pub if_ok : {A E : Type 0} (r : Result A E) (P Q : A → Type 0) → ((x : A) → P x → Q x) → IfOk r P → IfOk r Q
if_ok (Ok x) P Q f h = f x h
if_ok (Err e) P Q f h = tt
