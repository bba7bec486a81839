-- What is in memory of the keys of a frame: what the frame needs, and what is needed if it isn't kept.
use Rattle.std.proofs.Common.{◌≡◌, ◌+◌, ◌-◌, ◌≤◌, Bool, true, false, cond, List, [], ◌∷◌, map, length, length-take, Option, Some, None, refl, sym, ap, subst, ◌∙◌, arith, is_some}
use Rattle.std.specs.List.{AllZip, filter}
use Rattle.std.specs.Option.{option_map}
use Rattle.std.specs.Prelude.{T}
use Rattle.std.specs.Ordering.{is_eq, is_lt}
use Rattle.std.specs.Cmp.{Equal-is}
use Rattle.std.specs.declared.cmp.Ordering.{Ordering}
use Rattle.std.specs.declared.cmp.Ordering.TheVariants.{Less, Equal, Greater}
use Rattle.std.specs.FinMap as finite
use Rattle.std.specs.FinMap.{find, get, get-from_entries}
use Rattle.std.specs.FinMap.Entries.{below_all}
use Rattle.std.proofs.lemmas.Cmp.{nat_list_cmp_total}
use Rattle.prodash_base.specs.Path.{Path, path_cmp}
use Rattle.prodash_base.specs.Held.{Summary, Summaries, recent_in, AreFew}
use Rattle.prodash_base.specs.plumbing.Summaries.{Summarize}
use Rattle.prodash_base.specs.Trackers.{Observations}
use Rattle.prodash_base.specs.plumbing.KeptSamples.{recent_of, summary_at, settled_of}
use Rattle.prodash_base.specs.plumbing.KeptTables.{summary_of, entry_of, summaries_of, stored_of, stored_entry, stored, AreSorted, before_of, with_entry, entries_before, IsKept, IsTakenBack, IsCopy, KeepsBoth}
use Rattle.prodash_base.specs.declared.throughput.kept.Kept.{Kept}
use Rattle.prodash_base.specs.declared.throughput.totals.Totals.{Totals}
use Rattle.prodash_base.proofs.KeptSamples.{length-settled}
use Rattle.prodash_base.proofs.KeptTables.{first, second, summaries-filter, entries-cloned}
use Rattle.prodash_base.proofs.KeptBefore.{kept-entries, kept-before, taken-entries, taken-before, before-filter, cloned-before}
use Rattle.prodash_base.proofs.PathMaps.{same_path}
use Rattle.prodash_base.proofs.StoredSamples.{recent-stored}
use Rattle.prodash_base.proofs.Summarizing.{few-held, same-held}

-- what was kept of all keys when a frame was last kept
abbrev pub held_before : List Kept → Summaries
held_before kept = finite.from_entries (entries_before kept)

pub summarize-before : (before pending : Observations) (is_pending : Bool) (kept : List Kept) → KeepsBoth before pending is_pending kept → Summarize before (held_before kept)
summarize-before before pending is_pending kept h path = get-from_entries nat_list_cmp_total (entries_before kept) path ∙ h.before_kept path

-- it is few of each path
pub few-before : (before pending : Observations) (is_pending : Bool) (kept : List Kept) (path : Path) → KeepsBoth before pending is_pending kept → AreFew (recent_in (get (held_before kept) path))
few-before before pending is_pending kept path h = few-held before (held_before kept) path (summarize-before before pending is_pending kept h)

-- the same entries
pub before-same : (kept new : List Kept) → entries_before new ≡ entries_before kept → held_before new ≡ held_before kept
before-same kept new e = ap finite.from_entries e

-- a copy
pub held-cloned : (kept copies : List Kept) → AllZip (λ k l. IsCopy k l) kept copies → summaries_of copies ≡ summaries_of kept
held-cloned kept copies z = ap finite.from_entries (entries-cloned kept copies z)

pub before-cloned : (kept copies : List Kept) → AllZip (λ k l. IsCopy k l) kept copies → held_before copies ≡ held_before kept
before-cloned kept copies z = before-same kept copies (cloned-before kept copies z)

-- a frame in which nothing was observed
pub held-settled : (before pending : Observations) (is_pending : Bool) (kept : List Kept) → KeepsBoth before pending is_pending kept → is_pending ≡ false → summaries_of kept ≡ held_before kept
held-settled before pending is_pending kept h e =
    same-held before (summaries_of kept) (held_before kept) (subst (λ (m : Observations). Summarize m (summaries_of kept)) (h.settled e) h.pending_kept.summaries)
    (summarize-before before pending is_pending kept h)

-- a frame that is taken back
pub held-taken : (kept new : List Kept) → AllZip (λ k l. IsTakenBack k l) (filter (λ k. is_some (before_of k)) kept) new → summaries_of new ≡ held_before kept
held-taken kept new z = ap finite.from_entries (taken-entries kept new z)

pub before-taken : (kept new : List Kept) → AllZip (λ k l. IsTakenBack k l) (filter (λ k. is_some (before_of k)) kept) new → held_before new ≡ held_before kept
before-taken kept new z = ap finite.from_entries (taken-before (filter (λ k. is_some (before_of k)) kept) new z ∙ before-filter kept)

-- a frame that is kept, of the keys that pass a test
pub held-kept : (p : Path → Bool) (kept listed new : List Kept) → listed ≡ filter (λ k. p k.key) kept → AllZip (λ k l. IsKept k l) listed new → summaries_of new ≡ finite.retain_keys (summaries_of kept) p
held-kept p kept listed new e z = ap finite.from_entries (kept-entries listed new z) ∙ ap summaries_of e ∙ summaries-filter p kept

pub before-kept : (p : Path → Bool) (kept listed new : List Kept) → listed ≡ filter (λ k. p k.key) kept → AllZip (λ k l. IsKept k l) listed new → held_before new ≡ finite.retain_keys (summaries_of kept) p
before-kept p kept listed new e z = ap finite.from_entries (kept-before listed new z) ∙ ap summaries_of e ∙ summaries-filter p kept

-- those of a key that are needed if the frame isn't kept are in memory
key-before : (k : Kept) (t : Totals) → length (recent_of t (settled_of k.settled k.settled_change k.samples.items)) ≤ length k.samples.items
key-before k t =
    omega (
      arith,
      length-settled k.settled k.settled_change k.samples.items k.sums_before.within,
      length-take (length (settled_of k.settled k.settled_change k.samples.items) - t.older) (settled_of k.settled k.settled_change k.samples.items),
      k.sums_before.within,
    )

-- the samples of a key are needed by the frame, or if it isn't kept
key-within : (k : Kept) (t : Totals) → k.before ≡ Some t
    → length k.samples.items ≤ length (recent_of k.latest k.samples.items) + length (recent_of t (settled_of k.settled k.settled_change k.samples.items))
key-within k t e =
    let settled = length-settled k.settled k.settled_change k.samples.items k.sums_before.within in
    let none : t.older ≡ 0 = k.settles.all t e in
    let now = length-take (length k.samples.items - k.latest.older) k.samples.items in
    let before = length-take (length (settled_of k.settled k.settled_change k.samples.items) - t.older) (settled_of k.settled k.settled_change k.samples.items) in
    omega (arith, settled, none, now, before, k.settles.within)

abbrev before_by : Kept → Option Totals → Option Summary
before_by k b = option_map (λ t. summary_at t (settled_of k.settled k.settled_change k.samples.items)) b

stored-within : (kept : List Kept) (key : Path)
    → length (recent_in (find path_cmp key (map stored_entry kept))) ≤ length (recent_in (find path_cmp key (map entry_of kept))) + length (recent_in (find path_cmp key (entries_before kept)))
stored-within [] key = omega arith
stored-within (k ∷ kept) key =
    let others = stored-within kept key in
    elim k.before as (λ b. k.before ≡ b → length (recent_in (find path_cmp key (map stored_entry (k ∷ kept))))
    ≤ length (recent_in (find path_cmp key (map entry_of (k ∷ kept)))) + length (recent_in (find path_cmp key (with_entry k.key (before_by k b) (entries_before kept))))) [
      | None ↦ λ e.
          elim (is_eq (path_cmp key k.key)) as (λ b. length (recent_in (cond b (Some (stored_of k)) (find path_cmp key (map stored_entry kept))))
          ≤ length (recent_in (cond b (Some (summary_of k)) (find path_cmp key (map entry_of kept)))) + length (recent_in (find path_cmp key (entries_before kept)))) [
            | true ↦ omega (arith, ap (λ (s : Summary). length s.recent) (recent-stored k e))
            | false ↦ others
          ]
      | Some t ↦ λ e.
          elim (is_eq (path_cmp key k.key)) as (λ b. length (recent_in (cond b (Some (stored_of k)) (find path_cmp key (map stored_entry kept))))
          ≤ length (recent_in (cond b (Some (summary_of k)) (find path_cmp key (map entry_of kept))))
          + length (recent_in (cond b (Some (summary_at t (settled_of k.settled k.settled_change k.samples.items))) (find path_cmp key (entries_before kept))))) [
            | true ↦ key-within k t e
            | false ↦ others
          ]
    ] refl

pub all-needed : (kept : List Kept) (key : Path)
    → length (recent_in (get (stored kept) key)) ≤ length (recent_in (get (summaries_of kept) key)) + length (recent_in (get (held_before kept) key))
all-needed kept key =
    omega (
      arith,
      stored-within kept key,
      ap (λ o. length (recent_in o)) (get-from_entries nat_list_cmp_total (map stored_entry kept) key),
      ap (λ o. length (recent_in o)) (get-from_entries nat_list_cmp_total (map entry_of kept) key),
      ap (λ o. length (recent_in o)) (get-from_entries nat_list_cmp_total (entries_before kept) key),
    )

-- of a key what the frame needs is in memory
frame-stored : (kept : List Kept) (key : Path) → length (recent_in (find path_cmp key (map entry_of kept))) ≤ length (recent_in (find path_cmp key (map stored_entry kept)))
frame-stored [] key = omega arith
frame-stored (k ∷ kept) key =
    elim (is_eq (path_cmp key k.key)) as (λ b. length (recent_in (cond b (Some (summary_of k)) (find path_cmp key (map entry_of kept))))
    ≤ length (recent_in (cond b (Some (stored_of k)) (find path_cmp key (map stored_entry kept))))) [
      | true ↦ omega (arith, length-take (length k.samples.items - k.latest.older) k.samples.items)
      | false ↦ frame-stored kept key
    ]

same_key : (k : Kept) (key : Path) → is_eq (path_cmp key k.key) ≡ true → k.key ≡ key
same_key k key e = sym (same_path key k.key ((Equal-is (path_cmp key k.key)).0 e))

less-differs : (o : Ordering) → T (is_lt o) → is_eq o ≡ false
less-differs Less h = refl
less-differs Equal h = absurd h
less-differs Greater h = absurd h

-- a key below all others is none of them
none-below : (key : Path) (kept : List Kept) → T (below_all path_cmp key (map entry_of kept)) → find path_cmp key (entries_before kept) ≡ None
none-below key [] h = refl
none-below key (k ∷ kept) h =
    elim (before_of k) as (λ o. find path_cmp key (with_entry k.key o (entries_before kept)) ≡ None) [
      | None ↦ none-below key kept (second (is_lt (path_cmp key k.key)) _ h)
      | Some s ↦
          ap (λ b. cond b (Some s) (find path_cmp key (entries_before kept))) (less-differs (path_cmp key k.key) (first _ _ h))
          ∙ none-below key kept (second (is_lt (path_cmp key k.key)) _ h)
    ]

only-first : (k : Kept) (kept : List Kept) (key : Path) → AreSorted (k ∷ kept) → is_eq (path_cmp key k.key) ≡ true → find path_cmp key (entries_before kept) ≡ None
only-first k kept key r e = none-below key kept (subst (λ q. T (below_all path_cmp q (map entry_of kept))) (same_key k key e) (first _ _ r))

-- and so is what is needed if the frame isn't kept
before-stored : (kept : List Kept) (key : Path) → AreSorted kept
    → length (recent_in (find path_cmp key (entries_before kept))) ≤ length (recent_in (find path_cmp key (map stored_entry kept)))
before-stored [] key r = omega arith
before-stored (k ∷ kept) key r =
    let others = before-stored kept key (second (below_all path_cmp k.key (map entry_of kept)) _ r) in
    elim k.before as (λ b. length (recent_in (find path_cmp key (with_entry k.key (before_by k b) (entries_before kept))))
    ≤ length (recent_in (find path_cmp key (map stored_entry (k ∷ kept))))) [
      | None ↦
          elim (is_eq (path_cmp key k.key)) as (λ b. is_eq (path_cmp key k.key) ≡ b → length (recent_in (find path_cmp key (entries_before kept)))
          ≤ length (recent_in (cond b (Some (stored_of k)) (find path_cmp key (map stored_entry kept))))) [
            | true ↦ λ e. omega (arith, ap (λ o. length (recent_in o)) (only-first k kept key r e))
            | false ↦ λ e. others
          ] refl
      | Some t ↦
          elim (is_eq (path_cmp key k.key)) as (λ b. length (recent_in (cond b (Some (summary_at t (settled_of k.settled k.settled_change k.samples.items))) (find path_cmp key (entries_before kept))))
          ≤ length (recent_in (cond b (Some (stored_of k)) (find path_cmp key (map stored_entry kept))))) [
            | true ↦ key-before k t
            | false ↦ others
          ]
    ]

pub frame-needed : (kept : List Kept) (key : Path) → length (recent_in (get (summaries_of kept) key)) ≤ length (recent_in (get (stored kept) key))
frame-needed kept key =
    omega (
      arith,
      frame-stored kept key,
      ap (λ o. length (recent_in o)) (get-from_entries nat_list_cmp_total (map stored_entry kept) key),
      ap (λ o. length (recent_in o)) (get-from_entries nat_list_cmp_total (map entry_of kept) key),
    )

pub before-needed : (kept : List Kept) (key : Path) → AreSorted kept → length (recent_in (get (held_before kept) key)) ≤ length (recent_in (get (stored kept) key))
before-needed kept key r =
    omega (
      arith,
      before-stored kept key r,
      ap (λ o. length (recent_in o)) (get-from_entries nat_list_cmp_total (map stored_entry kept) key),
      ap (λ o. length (recent_in o)) (get-from_entries nat_list_cmp_total (entries_before kept) key),
    )
