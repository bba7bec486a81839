-- What is kept of all keys, and what was kept of them before.
use Rattle.std.proofs.Common.{◌≡◌, ℕ, zero, suc, ◌+◌, ◌<◌, Bool, true, false, cond, List, [], ◌∷◌, ◌++◌, map, length, get_or, take, drop, set, Option, Some, None, refl, sym, ap, subst, ◌∙◌, arith, ◌&&◌, is_some, IfSome, IfOk, IfErr, Result, Ok, Err, append-nil, take-append-drop, take_all, drop-set-lt, drop-drop, length-set}
use Rattle.std.specs.Prelude.{T, insert, slice_set}
use Rattle.std.specs.List.{AllZip, filter}
use Rattle.std.specs.List.Sorted.{IsBinarySearchResult, IsSearchInRange}
use Rattle.std.specs.Option.{unwrap_or}
use Rattle.std.specs.Ordering.{is_lt}
use Rattle.std.specs.FinMap as finite
use Rattle.std.specs.FinMap.{find, get, is_sorted, get-from_entries}
use Rattle.std.specs.FinMap.Entries.{below_all}
use Rattle.std.proofs.lemmas.Cmp.{nat_list_cmp_total}
use Rattle.std.proofs.lemmas.List.{take_more_set, drop_all}
use Rattle.std.proofs.lemmas.List.Elements.{all_zip_more}
use Rattle.prodash_base.specs.Path.{Path, path_cmp}
use Rattle.prodash_base.specs.Held.{Summary, Summaries}
use Rattle.prodash_base.specs.plumbing.Summaries.{Summarize, summary, summary_after}
use Rattle.prodash_base.specs.Trackers.{Observations, observations_of, with_observation}
use Rattle.prodash_base.specs.plumbing.KeptTables.{summary_of, entry_of, summaries_of, AreSorted, Keeps, KeepsBoth, before_of, with_entry, entries_before, IsKept, IsTakenBack, IsCopy, IsAt, IsNewAt}
use Rattle.prodash_base.specs.declared.throughput.kept.Kept.{Kept}
use Rattle.prodash_base.specs.declared.throughput.sample.Observation.{Observation}
use Rattle.prodash_base.proofs.KeptTables.{first, second, sorted-filter, summaries-filter, entries-cloned, searchable}
use Rattle.prodash_base.proofs.PathMaps.{same_path}
use Rattle.prodash_base.proofs.Summarizing.{Fits, summarize-none, summarize-more, summarize-retain}

-- a loop over all keys that has got so far
pub record Reached (R : Kept → Kept → Type 0) (old now : List Kept) (i : ℕ) : Type 0 where
  pub done : AllZip R (take i old) (take i now)
  pub left : drop i now ≡ drop i old
  pub long : length now ≡ length old

first_of : (kept : List Kept) (i : ℕ) (d : Kept) → i < length kept → get_or kept i d ≡ get_or (drop i kept) 0 d
first_of [] i d lt = absurd (omega arith)
first_of (k ∷ kept) zero d lt = refl
first_of (k ∷ kept) (suc i) d lt = first_of kept i d (omega arith)

drop_next : (old now : List Kept) (i : ℕ) → drop i now ≡ drop i old → drop (i + 1) now ≡ drop (i + 1) old
drop_next old now i e = sym (drop-drop 1 i now) ∙ ap (drop 1) e ∙ drop-drop 1 i old

at_left : (old now : List Kept) (i : ℕ) (x : Kept) → i < length now → length now ≡ length old → drop i now ≡ drop i old → x ≡ get_or now i x → x ≡ get_or old i x
at_left old now i x lt long left is =
    is ∙ first_of now i x lt ∙ ap (λ (l : List Kept). get_or l 0 x) left ∙ sym (first_of old i x (omega (arith, long)))

pub reached_more : (R : Kept → Kept → Type 0) (old now : List Kept) (i : ℕ) (x y : Kept) → i < length now → x ≡ get_or now i x → R x y → Reached R old now i → Reached R old (set now i y) (i + 1)
reached_more R old now i x y lt is r h = record {
  done = subst (λ (l : List Kept). AllZip R (take (i + 1) old) l) (sym (take_more_set now i y lt))
      (all_zip_more R old (take i now) i x y (omega (arith, h.long)) (at_left old now i x lt h.long h.left is) h.done r);
  left = drop-set-lt (i + 1) now i y (omega arith) ∙ drop_next old now i h.left;
  long = length-set now i y ∙ h.long;
}

-- a new key has nothing before
before-append : (xs ys : List Kept) (x : Kept) → before_of x ≡ None → entries_before (xs ++ x ∷ ys) ≡ entries_before (xs ++ ys)
before-append [] ys x h = ap (λ o. with_entry x.key o (entries_before ys)) h
before-append (y ∷ xs) ys x h = ap (with_entry y.key (before_of y)) (before-append xs ys x h)

pub before-insert : (kept : List Kept) (index : ℕ) (x : Kept) → before_of x ≡ None → entries_before (insert kept index x) ≡ entries_before kept
before-insert kept index x h = before-append (take index kept) (drop index kept) x h ∙ ap entries_before (take-append-drop index kept)

-- a write of a key with the same before
pub before-set : (kept : List Kept) (index : ℕ) (d x : Kept) → index < length kept → x.key ≡ (get_or kept index d).key → before_of x ≡ before_of (get_or kept index d)
    → entries_before (slice_set kept index x) ≡ entries_before kept
before-set [] index d x l k b = absurd (omega arith)
before-set (y ∷ kept) zero d x l k b = λ i. with_entry (k i) (b i) (entries_before kept)
before-set (y ∷ kept) (suc index) d x l k b = ap (with_entry y.key (before_of y)) (before-set kept index d x (omega arith) k b)

-- the keys alone that had something before
pub before-filter : (kept : List Kept) → entries_before (filter (λ k. is_some (before_of k)) kept) ≡ entries_before kept
before-filter [] = refl
before-filter (k ∷ kept) =
    let rest : List Kept = filter (λ k. is_some (before_of k)) kept in
    elim (before_of k) as (λ o. before_of k ≡ o → entries_before (cond (is_some o) (k ∷ rest) rest) ≡ with_entry k.key o (entries_before kept)) [
      | None ↦ λ e. before-filter kept
      | Some s ↦ λ e. ap (λ o. with_entry k.key o (entries_before rest)) e ∙ ap (λ es. (k.key, s) ∷ es) (before-filter kept)
    ] refl

-- all are kept
pub kept-entries : (old new : List Kept) → AllZip (λ k l. IsKept k l) old new → map entry_of new ≡ map entry_of old
kept-entries [] [] h = refl
kept-entries [] (y ∷ new) h = absurd h
kept-entries (x ∷ old) [] h = absurd h
kept-entries (x ∷ old) (y ∷ new) h = let rest = kept-entries old new h.1 in λ i. (h.0.key i, h.0.summary i) ∷ rest i

pub kept-before : (old new : List Kept) → AllZip (λ k l. IsKept k l) old new → entries_before new ≡ map entry_of old
kept-before [] [] h = refl
kept-before [] (y ∷ new) h = absurd h
kept-before (x ∷ old) [] h = absurd h
kept-before (x ∷ old) (y ∷ new) h = let rest = kept-before old new h.1 in λ i. with_entry (h.0.key i) (h.0.before i) (rest i)

-- all are taken back
pub taken-before : (old new : List Kept) → AllZip (λ k l. IsTakenBack k l) old new → entries_before new ≡ entries_before old
taken-before [] [] h = refl
taken-before [] (y ∷ new) h = absurd h
taken-before (x ∷ old) [] h = absurd h
taken-before (x ∷ old) (y ∷ new) h = let rest = taken-before old new h.1 in λ i. with_entry (h.0.key i) (h.0.before i) (rest i)

taken_first : (k : Kept) (s : Summary) (rest kept new : List Kept) → before_of k ≡ Some s → ((n : List Kept) → AllZip (λ k l. IsTakenBack k l) rest n → map entry_of n ≡ entries_before kept)
    → AllZip (λ k l. IsTakenBack k l) (k ∷ rest) new → map entry_of new ≡ (k.key, s) ∷ entries_before kept
taken_first k s rest kept [] e more h = absurd h
taken_first k s rest kept (y ∷ new) e more h =
    let is : summary_of y ≡ s = subst (λ (o : Option Summary). IfSome o (λ t. summary_of y ≡ t)) e h.0.summary in
    let others = more new h.1 in
    λ i. (h.0.key i, is i) ∷ others i

pub taken-entries : (kept new : List Kept) → AllZip (λ k l. IsTakenBack k l) (filter (λ k. is_some (before_of k)) kept) new → map entry_of new ≡ entries_before kept
taken-entries [] [] h = refl
taken-entries [] (y ∷ new) h = absurd h
taken-entries (k ∷ kept) new h =
    let rest : List Kept = filter (λ k. is_some (before_of k)) kept in
    elim (before_of k) as (λ o. before_of k ≡ o → AllZip (λ k l. IsTakenBack k l) (cond (is_some o) (k ∷ rest) rest) new → map entry_of new ≡ with_entry k.key o (entries_before kept)) [
      | None ↦ λ e g. taken-entries kept new g
      | Some s ↦ λ e g. taken_first k s rest kept new e (taken-entries kept) g
    ] refl h

both : (a b : Bool) → T a → T b → T (a && b)
both true b p q = q
both false b p q = absurd p

-- keys that ascend still do without those that are new
below_before : (low : Path) (kept : List Kept) → T (below_all path_cmp low (map entry_of kept)) → T (below_all path_cmp low (entries_before kept))
below_before low [] h = tt
below_before low (k ∷ kept) h =
    let rest = below_before low kept (second (is_lt (path_cmp low k.key)) _ h) in
    elim (before_of k) as (λ o. T (below_all path_cmp low (with_entry k.key o (entries_before kept)))) [
      | None ↦ rest
      | Some s ↦ both (is_lt (path_cmp low k.key)) _ (first _ _ h) rest
    ]

pub sorted-before : (kept : List Kept) → AreSorted kept → T (is_sorted path_cmp (entries_before kept))
sorted-before [] h = tt
sorted-before (k ∷ kept) h =
    let rest = sorted-before kept (second (below_all path_cmp k.key (map entry_of kept)) _ h) in
    elim (before_of k) as (λ o. T (is_sorted path_cmp (with_entry k.key o (entries_before kept)))) [
      | None ↦ rest
      | Some s ↦ both (below_all path_cmp k.key (entries_before kept)) _ (below_before k.key kept (first _ _ h)) rest
    ]

-- what is kept of entries, and of the map that they are seen as
pub summarize-entries : (m : Observations) (kept : List Kept) → Summarize m (summaries_of kept) → (path : Path) → find path_cmp path (map entry_of kept) ≡ summary (observations_of m path)
summarize-entries m kept h path = sym (get-from_entries nat_list_cmp_total (map entry_of kept) path) ∙ h path

zip-length : (R : Kept → Kept → Type 0) (xs ys : List Kept) → AllZip R xs ys → length ys ≡ length xs
zip-length R [] [] h = refl
zip-length R [] (y ∷ ys) h = absurd h
zip-length R (x ∷ xs) [] h = absurd h
zip-length R (x ∷ xs) (y ∷ ys) h = ap suc (zip-length R xs ys h.1)

-- a list whose elements were all written through a slice
pub all_written : (R : Kept → Kept → Type 0) (items slice now : List Kept) (len : ℕ) → slice ≡ items → length slice ≡ len → AllZip R slice now → take len (now ++ drop (length now) items) ≡ now
all_written R items slice now len same long h =
    let count = zip-length R slice now h in
    ap (λ d. take len (now ++ d)) (drop_all (length now) items (omega (arith, ap length same, count)))
    ∙ ap (take len) (append-nil now) ∙ take_all len now (omega (arith, count, long))

-- what is kept of a list is kept of one with the same entries
pub keeps-same : (m : Observations) (kept new : List Kept) → Keeps m kept → map entry_of new ≡ map entry_of kept → Keeps m new
keeps-same m kept new h e = record {
  sorted = subst (λ (es : List (Path × Summary)). T (is_sorted path_cmp es)) (sym e) h.sorted;
  summaries = subst (λ (es : List (Path × Summary)). Summarize m (finite.from_entries es)) (sym e) h.summaries;
}

-- the paths alone that pass a test
pub keeps-retain : (m : Observations) (p : Path → Bool) (kept new : List Kept) → Keeps m kept → new ≡ filter (λ k. p k.key) kept → Keeps (finite.retain_keys m p) new
keeps-retain m p kept new h e = record {
  sorted = subst AreSorted (sym e) (sorted-filter p kept h.sorted);
  summaries = subst (λ (s : Summaries). Summarize (finite.retain_keys m p) s) (sym (ap summaries_of e ∙ summaries-filter p kept)) (summarize-retain m (summaries_of kept) p h.summaries);
}

-- one more observation of a path
pub keeps-more : (m : Observations) (kept new : List Kept) (path : Path) (o : Observation) → Fits o → Keeps m kept → AreSorted new
    → summaries_of new ≡ finite.insert (summaries_of kept) path (summary_after (finite.get (summaries_of kept) path) o) → Keeps (with_observation m path (Some o)) new
keeps-more m kept new path o fits h sorted e = record {
  sorted = sorted;
  summaries = subst (λ (s : Summaries). Summarize (with_observation m path (Some o)) s) (sym e) (summarize-more m (summaries_of kept) path o fits h.summaries);
}

-- nothing was observed
pub both-none : KeepsBoth finite.empty finite.empty false []
both-none = record {
  pending_kept = record { sorted = tt; summaries = summarize-none };
  before_kept = λ path. sym (ap (λ (o : Option (List Observation)). summary (unwrap_or o [])) (finite.get-empty path_cmp path));
  settled = λ _. refl;
}

-- all observations are kept
pub both-kept : (m : Observations) (kept new : List Kept) → Keeps m kept → AllZip (λ k l. IsKept k l) kept new → KeepsBoth m m false new
both-kept m kept new h z = record {
  pending_kept = keeps-same m kept new h (kept-entries kept new z);
  before_kept = λ path. ap (find path_cmp path) (kept-before kept new z) ∙ summarize-entries m kept h.summaries path;
  settled = λ _. refl;
}

-- and taken back
pub both-taken : (before pending : Observations) (is_pending : Bool) (kept new : List Kept) → KeepsBoth before pending is_pending kept
    → AllZip (λ k l. IsTakenBack k l) (filter (λ k. is_some (before_of k)) kept) new → KeepsBoth before before false new
both-taken before pending is_pending kept new h z =
    let entries = taken-entries kept new z in
    record {
      pending_kept = record {
        sorted = subst (λ (es : List (Path × Summary)). T (is_sorted path_cmp es)) (sym entries) (sorted-before kept h.pending_kept.sorted);
        summaries = λ path. get-from_entries nat_list_cmp_total (map entry_of new) path ∙ ap (find path_cmp path) entries ∙ h.before_kept path;
      };
      before_kept = λ path. ap (find path_cmp path) (taken-before (filter (λ k. is_some (before_of k)) kept) new z ∙ before-filter kept) ∙ h.before_kept path;
      settled = λ _. refl;
    }

pub cloned-before : (kept copies : List Kept) → AllZip (λ k l. IsCopy k l) kept copies → entries_before copies ≡ entries_before kept
cloned-before [] [] h = refl
cloned-before [] (y ∷ copies) h = absurd h
cloned-before (x ∷ kept) [] h = absurd h
cloned-before (x ∷ kept) (y ∷ copies) h =
    let rest = cloned-before kept copies h.1 in
    λ i. with_entry (h.0.entry i).0 (h.0.before i) (rest i)

pub both-cloned : (before pending : Observations) (is_pending : Bool) (kept copies : List Kept) → KeepsBoth before pending is_pending kept → AllZip (λ k l. IsCopy k l) kept copies
    → KeepsBoth before pending is_pending copies
both-cloned before pending is_pending kept copies h z = record {
  pending_kept = keeps-same pending kept copies h.pending_kept (entries-cloned kept copies z);
  before_kept = λ path. ap (find path_cmp path) (cloned-before kept copies z) ∙ h.before_kept path;
  settled = h.settled;
}

-- what a search by halving finds
pub found_at : (kept : List Kept) (key : Path) (r : Result ℕ ℕ) → IsSearchInRange r (length kept) → IsBinarySearchResult (λ (k : Kept). path_cmp k.key key) kept r
    → IfOk r (λ index. IsAt kept key index)
found_at kept key (Ok i) within at = record { within = within; key_is = λ d. same_path _ key (at d) }
found_at kept key (Err i) within at = tt

pub new_at : (kept : List Kept) (key : Path) (r : Result ℕ ℕ) → AreSorted kept → IsSearchInRange r (length kept) → IsBinarySearchResult (λ (k : Kept). path_cmp k.key key) kept r
    → IfErr r (λ index. IsNewAt kept key index)
new_at kept key (Ok i) sorted within at = tt
new_at kept key (Err i) sorted within at = record { within = within; place = at (searchable kept key sorted) }
