-- What is kept of the observations of a path is enough: after one more observation it is what is kept of all.
use Rattle.std.proofs.Common.{◌≡◌, ℕ, ◌<◌, Bool, true, false, cond, List, [], ◌∷◌, Option, Some, None, refl, sym, ap, subst, ◌∙◌, ◌+◌, length, drop}
use Rattle.std.specs.Prelude.{nat_lt}
use Rattle.std.specs.Option.{unwrap_or}
use Rattle.std.specs.BTreeMap.{is_at}
use Rattle.std.specs.FinMap as finite
use Rattle.prodash_base.specs.Path.{Path, path_cmp}
use Rattle.prodash_base.specs.Samples.{one_second, duration, rate_over, per_second, samples_of, sample_of, after_mark, to_mark, rate_at, rate}
use Rattle.prodash_base.specs.Held.{Summary, Summaries, held_after, with_sample, joined, recent_in, AreFew}
use Rattle.prodash_base.specs.plumbing.Summaries.{Summarize, summary, summary_after}
use Rattle.prodash_base.specs.Trackers.{Observations, observations_of, with_held}
use Rattle.prodash_base.specs.declared.throughput.sample.Observation.{Observation}
use Rattle.prodash_base.specs.declared.throughput.sample.Sample.{Sample}
use Rattle.prodash_base.proofs.PathMaps.{get-insert_at, get-retain_at, same_table}
use Rattle.prodash_base.proofs.SampleLaws.{is_below, latest_over-recent, after_mark-short}
use Rattle.prodash_base.proofs.JoinedSamples.{duration-joined, rate-joined, few-recent}

-- the samples since the mark before take more than a second, so that the rate at a mark needs no older ones
rate_at_mark : (s t : Sample) (older : List Sample) → nat_lt one_second (duration (s ∷ after_mark (t ∷ older))) ≡ true
    → rate_at (s ∷ t ∷ older) ≡ Some (rate_over (s ∷ after_mark (t ∷ older)))
rate_at_mark s t older e =
    ap (λ xs. Some (per_second xs)) (latest_over-recent one_second s (t ∷ older) (is_below one_second (duration (s ∷ after_mark (t ∷ older))) e))

abbrev keep : ℕ → List Sample → Option ℕ → Summary
keep value recent rate = record { value = value; recent = recent; rate = rate }

-- an elapsed time is below 2^64
abbrev pub Fits : Observation → Type 0
Fits o = o.elapsed < 18446744073709551616

rate_of_mark : (s t : Sample) (older : List Sample) → s.elapsed < 18446744073709551616 → nat_lt one_second (duration (s ∷ after_mark (t ∷ older))) ≡ true
    → Some (rate_over (s ∷ joined (after_mark (t ∷ older)))) ≡ rate_at (s ∷ t ∷ older)
rate_of_mark s t older fits e =
    ap Some (rate-joined s (after_mark (t ∷ older)) fits (after_mark-short (t ∷ older)) (is_below one_second (duration (s ∷ after_mark (t ∷ older))) e))
    ∙ sym (rate_at_mark s t older e)

by_mark : (s t : Sample) (older : List Sample) (value : ℕ) (b : Bool) → s.elapsed < 18446744073709551616 → nat_lt one_second (duration (s ∷ after_mark (t ∷ older))) ≡ b
    → cond b (keep value [] (Some (rate_over (s ∷ joined (after_mark (t ∷ older)))))) (keep value (with_sample s (joined (after_mark (t ∷ older)))) (rate_at (to_mark (t ∷ older))))
    ≡ keep value (joined (cond b [] (s ∷ after_mark (t ∷ older)))) (rate_at (drop (length (cond b [] (s ∷ after_mark (t ∷ older)))) (s ∷ t ∷ older)))
by_mark s t older value true fits e = ap (keep value []) (rate_of_mark s t older fits e)
by_mark s t older value false fits e = refl

by_test_of : (s t : Sample) (older : List Sample) (value : ℕ)
    → cond (nat_lt one_second (duration (s ∷ joined (after_mark (t ∷ older))))) (keep value [] (Some (rate_over (s ∷ joined (after_mark (t ∷ older)))))) (keep value (with_sample s (joined (after_mark (t ∷ older)))) (rate_at (to_mark (t ∷ older))))
    ≡ cond (nat_lt one_second (duration (s ∷ after_mark (t ∷ older)))) (keep value [] (Some (rate_over (s ∷ joined (after_mark (t ∷ older)))))) (keep value (with_sample s (joined (after_mark (t ∷ older)))) (rate_at (to_mark (t ∷ older))))
by_test_of s t older value =
    ap (λ n. cond (nat_lt one_second (s.elapsed + n)) (keep value [] (Some (rate_over (s ∷ joined (after_mark (t ∷ older)))))) (keep value (with_sample s (joined (after_mark (t ∷ older)))) (rate_at (to_mark (t ∷ older)))))
    (duration-joined (after_mark (t ∷ older)))

-- what is kept after one more observation is what is held of all
pub held-more : (o : Observation) (older : List Observation) → Fits o → summary_after (summary older) o ≡ held_after o older
held-more o [] fits = refl
held-more o (p ∷ older) fits =
    let s = sample_of o (p ∷ older) in
    let t = sample_of p older in
    by_test_of s t (samples_of older) o.value
    ∙ by_mark s t (samples_of older) o.value (nat_lt one_second (duration (s ∷ after_mark (samples_of (p ∷ older))))) fits refl

pub summary-more : (o : Observation) (older : List Observation) → Fits o → Some (summary_after (summary older) o) ≡ summary (o ∷ older)
summary-more o older fits = ap Some (held-more o older fits)

recent-summary : (all : List Observation) → recent_in (summary all) ≡ joined (after_mark (samples_of all))
recent-summary [] = refl
recent-summary (o ∷ older) = refl

-- of a path the samples after its last mark are held
pub recent-held : (m : Observations) (held : Summaries) (path : Path) → Summarize m held → recent_in (finite.get held path) ≡ joined (after_mark (samples_of (observations_of m path)))
recent-held m held path h = ap recent_in (h path) ∙ recent-summary (observations_of m path)

-- and they are few
pub few-held : (m : Observations) (held : Summaries) (path : Path) → Summarize m held → AreFew (recent_in (finite.get held path))
few-held m held path h = subst AreFew (sym (recent-held m held path h)) (few-recent (observations_of m path))

-- what is held is determined by the observations
pub same-held : (m : Observations) (held other : Summaries) → Summarize m held → Summarize m other → held ≡ other
same-held m held other h g = same_table held other (λ q. h q ∙ sym (g q))

pub summarize-none : Summarize finite.empty finite.empty
summarize-none path = finite.get-empty path_cmp path ∙ sym (ap (λ (o : Option (List Observation)). summary (unwrap_or o [])) (finite.get-empty path_cmp path))

by_test : (b : Bool) (s t : Option Summary) (more : List Observation) (before : Option (List Observation)) → s ≡ summary more → t ≡ summary (unwrap_or before [])
    → cond b s t ≡ summary (unwrap_or (cond b (Some more) before) [])
by_test true s t more before e f = e
by_test false s t more before e f = f

-- one more observation of a path
pub summarize-more : (m : Observations) (kept : Summaries) (path : Path) (o : Observation) → Fits o → Summarize m kept
    → Summarize (finite.insert m path (o ∷ observations_of m path)) (finite.insert kept path (summary_after (finite.get kept path) o))
summarize-more m kept path o fits h q =
    get-insert_at kept path (summary_after (finite.get kept path) o) q
    ∙ by_test (is_at (path_cmp path) q) (Some (summary_after (finite.get kept path) o)) (finite.get kept q) (o ∷ observations_of m path) (finite.get m q)
    (ap (λ (s : Option Summary). Some (summary_after s o)) (h path) ∙ summary-more o (observations_of m path) fits) (h q)
    ∙ sym (ap (λ (l : Option (List Observation)). summary (unwrap_or l [])) (get-insert_at m path (o ∷ observations_of m path) q))

-- what is held with one more observation of a path
pub held-insert : (m : Observations) (held : Summaries) (path : Path) (o : Observation) → Fits o → Summarize m held
    → finite.insert held path (summary_after (finite.get held path) o) ≡ with_held held m path (Some o)
held-insert m held path o fits h =
    ap (finite.insert held path) (ap (λ (s : Option Summary). summary_after s o) (h path) ∙ held-more o (observations_of m path) fits)

abbrev rate_in : Option Summary → Option ℕ
rate_in None = None
rate_in (Some s) = s.rate

-- the rate after one more observation of a path
pub summarize-rate : (m : Observations) (kept : Summaries) (path : Path) (o : Observation) → Fits o → Summarize m kept
    → (summary_after (finite.get kept path) o).rate ≡ rate (o ∷ observations_of m path)
summarize-rate m kept path o fits h = ap (λ (s : Option Summary). (summary_after s o).rate) (h path) ∙ ap rate_in (summary-more o (observations_of m path) fits)

kept_by : (b : Bool) (s : Option Summary) (l : Option (List Observation)) → s ≡ summary (unwrap_or l []) → cond b s None ≡ summary (unwrap_or (cond b l None) [])
kept_by true s l e = e
kept_by false s l e = refl

-- the paths alone that pass a test
pub summarize-retain : (m : Observations) (kept : Summaries) (p : Path → Bool) → Summarize m kept → Summarize (finite.retain_keys m p) (finite.retain_keys kept p)
summarize-retain m kept p h q =
    get-retain_at kept p q ∙ kept_by (p q) (finite.get kept q) (finite.get m q) (h q)
    ∙ sym (ap (λ (l : Option (List Observation)). summary (unwrap_or l [])) (get-retain_at m p q))
