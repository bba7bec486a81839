-- What is in memory of all keys.
use Rattle.std.proofs.Common.{◌≡◌, suc, ◌-◌, Bool, true, false, cond, List, [], ◌∷◌, map, length, take, Some, None, refl, sym, ap, subst, ◌∙◌, arith}
use Rattle.std.specs.List.{filter, AllZip}
use Rattle.std.specs.Option.{option_map}
use Rattle.std.specs.FinMap as finite
use Rattle.std.specs.FinMap.{get}
use Rattle.prodash_base.specs.Path.{Path}
use Rattle.prodash_base.specs.Held.{Summaries, joined, recent_in, AreFew}
use Rattle.prodash_base.specs.plumbing.Summaries.{Summarize, summary_after}
use Rattle.prodash_base.specs.Trackers.{Observations, with_observation, with_held, recent_samples}
use Rattle.prodash_base.specs.plumbing.KeptSamples.{recent_of, summary_at, settled_of}
use Rattle.prodash_base.specs.plumbing.KeptTables.{summary_of, entry_of, summaries_of, stored_of, stored_entry, stored, before_of, with_entry, entries_before, AreSorted, IsCopy, KeepsAll}
use Rattle.prodash_base.specs.declared.throughput.kept.Kept.{Kept}
use Rattle.prodash_base.specs.declared.throughput.sample.Observation.{Observation}
use Rattle.prodash_base.proofs.KeptSamples.{recent-all}
use Rattle.prodash_base.proofs.KeptTables.{entries-cloned, summaries-filter}
use Rattle.prodash_base.proofs.KeptBefore.{cloned-before, keeps-same, keeps-retain, keeps-more}
use Rattle.prodash_base.proofs.Summarizing.{Fits, summarize-none, held-insert, recent-held, few-held}

-- all samples of a key are needed, if no frame was kept
pub recent-stored : (k : Kept) → k.before ≡ None → summary_of k ≡ stored_of k
recent-stored k e =
    let none : k.latest.older ≡ 0 = let settled = k.settles.none e in omega (arith, settled, k.settles.within) in
    let all : recent_of k.latest k.samples.items ≡ k.samples.items = ap (λ n. take (length k.samples.items - n) k.samples.items) none ∙ recent-all k.samples.items in
    ap (λ recent. record { value = k.latest.value; recent = recent; rate = k.latest.rate }) all

pub entries-stored : (kept : List Kept) → entries_before kept ≡ [] → map entry_of kept ≡ map stored_entry kept
entries-stored [] h = refl
entries-stored (k ∷ kept) h =
    elim k.before as (λ b. k.before ≡ b → with_entry k.key (option_map (λ t. summary_at t (settled_of k.settled k.settled_change k.samples.items)) b) (entries_before kept) ≡ [] → map entry_of (k ∷ kept) ≡ map stored_entry (k ∷ kept)) [
      | None ↦ λ e g. let first = recent-stored k e in let rest = entries-stored kept g in λ i. (k.key, first i) ∷ rest i
      | Some t ↦ λ e g. let none : suc (length (entries_before kept)) ≡ 0 = ap length g in absurd (omega (arith, none))
    ] refl h

pub stored-is : (kept : List Kept) → entries_before kept ≡ [] → stored kept ≡ summaries_of kept
stored-is kept h = ap finite.from_entries (sym (entries-stored kept h))

-- no frame was kept of the keys that pass a test either
pub none-filter : (p : Path → Bool) (kept : List Kept) → entries_before kept ≡ [] → entries_before (filter (λ k. p k.key) kept) ≡ []
none-filter p [] h = refl
none-filter p (k ∷ kept) h =
    let others : List Kept = filter (λ k. p k.key) kept in
    elim (before_of k) as (λ o. before_of k ≡ o → with_entry k.key o (entries_before kept) ≡ [] → entries_before (cond (p k.key) (k ∷ others) others) ≡ []) [
      | None ↦ λ e g.
          let rest = none-filter p kept g in
          elim (p k.key) as (λ b. entries_before (cond b (k ∷ others) others) ≡ []) [
            | true ↦ ap (λ o. with_entry k.key o (entries_before others)) e ∙ rest
            | false ↦ rest
          ]
      | Some s ↦ λ e g. let none : suc (length (entries_before kept)) ≡ 0 = ap length g in absurd (omega (arith, none))
    ] refl h

-- what is in memory is what is kept of the observations
pub summarize-stored : (m : Observations) (kept : List Kept) → KeepsAll m kept → Summarize m (stored kept)
summarize-stored m kept h = subst (λ (s : Summaries). Summarize m s) (sym (stored-is kept h.none_before)) h.kept_now.summaries

-- nothing is in memory of no keys
pub stored-none : (kept : List Kept) → kept ≡ [] → stored kept ≡ finite.empty
stored-none kept e = ap stored e

pub keeps-none : (m : Observations) (kept : List Kept) → m ≡ finite.empty → kept ≡ [] → KeepsAll m kept
keeps-none m kept e f = record {
  kept_now = record {
    sorted = subst AreSorted (sym f) tt;
    summaries = subst (λ (m : Observations). Summarize m (summaries_of kept)) (sym e) (subst (λ (kept : List Kept). Summarize finite.empty (summaries_of kept)) (sym f) summarize-none);
  };
  none_before = ap entries_before f;
}

-- a copy
pub stored-cloned : (m : Observations) (kept copies : List Kept) → KeepsAll m kept → AllZip (λ k l. IsCopy k l) kept copies → stored copies ≡ stored kept
stored-cloned m kept copies h z =
    stored-is copies (cloned-before kept copies z ∙ h.none_before) ∙ ap finite.from_entries (entries-cloned kept copies z) ∙ sym (stored-is kept h.none_before)

pub keeps-cloned : (m n : Observations) (kept copies : List Kept) → KeepsAll m kept → n ≡ m → AllZip (λ k l. IsCopy k l) kept copies → KeepsAll n copies
keeps-cloned m n kept copies h e z = subst (λ (m : Observations). KeepsAll m copies) (sym e) (record {
  kept_now = keeps-same m kept copies h.kept_now (entries-cloned kept copies z);
  none_before = cloned-before kept copies z ∙ h.none_before;
})

-- the keys alone that pass a test
pub stored-retain : (m : Observations) (p : Path → Bool) (kept new : List Kept) → KeepsAll m kept → new ≡ filter (λ k. p k.key) kept → stored new ≡ finite.retain_keys (stored kept) p
stored-retain m p kept new h e =
    ap stored e ∙ stored-is (filter (λ k. p k.key) kept) (none-filter p kept h.none_before) ∙ summaries-filter p kept
    ∙ ap (λ (s : Summaries). finite.retain_keys s p) (sym (stored-is kept h.none_before))

pub keeps-all-retain : (m n : Observations) (p : Path → Bool) (kept new : List Kept) → KeepsAll m kept → n ≡ finite.retain_keys m p → new ≡ filter (λ k. p k.key) kept → KeepsAll n new
keeps-all-retain m n p kept new h e f = subst (λ (m : Observations). KeepsAll m new) (sym e) (record {
  kept_now = keeps-retain m p kept new h.kept_now f;
  none_before = ap entries_before f ∙ none-filter p kept h.none_before;
})

-- one more observation of a path
pub stored-more : (m : Observations) (kept new : List Kept) (path : Path) (o : Observation) → Fits o → KeepsAll m kept → entries_before new ≡ entries_before kept
    → summaries_of new ≡ finite.insert (summaries_of kept) path (summary_after (finite.get (summaries_of kept) path) o) → stored new ≡ with_held (stored kept) m path (Some o)
stored-more m kept new path o fits h b e =
    stored-is new (b ∙ h.none_before) ∙ e ∙ held-insert m (summaries_of kept) path o fits h.kept_now.summaries
    ∙ ap (λ (s : Summaries). with_held s m path (Some o)) (sym (stored-is kept h.none_before))

pub keeps-all-more : (m n : Observations) (kept new : List Kept) (path : Path) (o : Observation) → Fits o → KeepsAll m kept → n ≡ with_observation m path (Some o) → AreSorted new → entries_before new ≡ entries_before kept
    → summaries_of new ≡ finite.insert (summaries_of kept) path (summary_after (finite.get (summaries_of kept) path) o) → KeepsAll n new
keeps-all-more m n kept new path o fits h e sorted b s = subst (λ (m : Observations). KeepsAll m new) (sym e) (record {
  kept_now = keeps-more m kept new path o fits h.kept_now sorted s;
  none_before = b ∙ h.none_before;
})

-- what is in memory of a path are its samples after the last mark, which are few
pub recent-in-memory : (m : Observations) (kept : List Kept) (path : Path) → KeepsAll m kept → recent_in (finite.get (stored kept) path) ≡ joined (recent_samples m path)
recent-in-memory m kept path h = recent-held m (stored kept) path (summarize-stored m kept h)

pub few-in-memory : (m : Observations) (kept : List Kept) (path : Path) → KeepsAll m kept → AreFew (recent_in (finite.get (stored kept) path))
few-in-memory m kept path h = few-held m (stored kept) path (summarize-stored m kept h)

-- a refused observation
pub stored-same : (m : Observations) (kept new : List Kept) → KeepsAll m kept → entries_before new ≡ entries_before kept → summaries_of new ≡ summaries_of kept → stored new ≡ stored kept
stored-same m kept new h b e = stored-is new (b ∙ h.none_before) ∙ e ∙ sym (stored-is kept h.none_before)
