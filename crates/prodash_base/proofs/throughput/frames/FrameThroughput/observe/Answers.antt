use Rattle.std.proofs.Common.{rules, ◌≡◌, ◌∙◌, ap, sym, subst, true, Some, true≢false, arith}
use Rattle.std.specs.FinMap as finite
use Rattle.prodash_base.specs.Path.{path_cmp}
use Rattle.prodash_base.specs.Held.{Summaries, recent_in, AreFew}
use Rattle.prodash_base.specs.Trackers.{Observations, rate_after}
use Rattle.prodash_base.specs.plumbing.KeptTables.{Keeps, summaries_of}
use Rattle.prodash_base.proofs.KeptBefore.{keeps-more}
use Rattle.prodash_base.proofs.Summarizing.{Fits, summarize-rate, held-insert, recent-held, few-held}
use Rattle.prodash_base.proofs.FrameSamples.{few-before, before-same}
use Rattle.prodash_base.proofs.throughput.frames.FrameThroughput.observe.Goals as goal

pub invariant_of-self-2 : goal.invariant_of-self-2
invariant_of-self-2 c =
    let all = c.self.inside.history.observations in
    let kept = c.self.inside.kept.items in
    let new = c.add_observation.new.kept.items in
    record {
      pending_kept = subst (λ (m : Observations). Keeps m new) (sym c.after-self-inside.ensures)
          (keeps-more all kept new c.args.key.now c.in-Some.observation (omega arith) c.self.invariant.pending_kept c.in_ok-rate.ensures.sorted c.in_ok-rate.ensures.ok);
      before_kept = λ path. ap (finite.find path_cmp path) c.in_ok-rate.ensures.before ∙ c.self.invariant.before_kept path;
      settled = λ e. absurd (true≢false e);
    }

pub returns-clause-value : goal.returns-clause-value
returns-clause-value c =
    let all = c.self.inside.history.observations in
    let e : c.in_ok-rate.rate ≡ rate_after all c.args.key.now (Some c.in-Some.observation) =
    c.in_ok-rate.ensures.rate ∙ summarize-rate all (summaries_of c.self.inside.kept.items) c.args.key.now c.in-Some.observation (omega arith) c.self.invariant.pending_kept.summaries in
    search (rules, e)

pub returns-clause-ok : goal.returns-clause-ok
returns-clause-ok c =
    let o = c.in-Some.observation in
    let fits : Fits o = omega arith in
    let now = c.in_ok-rate.ensures.ok ∙ held-insert c.self.inside.history.observations (summaries_of c.self.inside.kept.items) c.args.key.now o fits c.self.invariant.pending_kept.summaries in
    let before = before-same c.self.inside.kept.items c.add_observation.new.kept.items c.in_ok-rate.ensures.before in
    search (rules, now, before)

pub returns-clause-held : goal.returns-clause-held
returns-clause-held c =
    recent-held c.after-self-inside.result.observations (summaries_of c.add_observation.new.kept.items) c.args.key.now (invariant_of-self-2 c).pending_kept.summaries

pub returns-clause-bound : goal.returns-clause-bound
returns-clause-bound c =
    few-held c.after-self-inside.result.observations (summaries_of c.add_observation.new.kept.items) c.args.key.now (invariant_of-self-2 c).pending_kept.summaries

pub returns-clause-bound_before : goal.returns-clause-bound_before
returns-clause-bound_before c =
    few-before c.self.inside.history_before.observations c.after-self-inside.result.observations true c.add_observation.new.kept.items c.args.key.now (invariant_of-self-2 c)

-- nothing is recorded
pub returns-in_default-clause-bound : goal.returns-in_default-clause-bound
returns-in_default-clause-bound c =
    rw (← c.self.view_is) (few-held c.self.inside.history.observations (summaries_of c.self.inside.kept.items) c.args.key.now c.self.invariant.pending_kept.summaries)

pub returns-in_default-clause-bound_before : goal.returns-in_default-clause-bound_before
returns-in_default-clause-bound_before c =
    rw (← c.self.view_is) (few-before c.self.inside.history_before.observations c.self.inside.history.observations c.self.inside.is_pending c.self.inside.kept.items c.args.key.now c.self.invariant)

-- a refusal
pub returns-in_err-rate-clause-bound : goal.returns-in_err-rate-clause-bound
returns-in_err-rate-clause-bound c =
    subst (λ (s : Summaries). AreFew (recent_in (finite.get s c.args.key.now))) (sym c.in_err-rate.ensures.err)
    (few-held c.self.inside.history.observations (summaries_of c.self.inside.kept.items) c.args.key.now c.self.invariant.pending_kept.summaries)

pub returns-in_err-rate-clause-bound_before : goal.returns-in_err-rate-clause-bound_before
returns-in_err-rate-clause-bound_before c =
    subst (λ (s : Summaries). AreFew (recent_in (finite.get s c.args.key.now))) (sym (before-same c.self.inside.kept.items c.add_observation.new.kept.items c.in_err-rate.ensures.before))
    (few-before c.self.inside.history_before.observations c.self.inside.history.observations c.self.inside.is_pending c.self.inside.kept.items c.args.key.now c.self.invariant)
