use Rattle.std.proofs.Common.{rules, ◌≡◌, ◌∙◌, arith, Some, ap, sym, subst}
use Rattle.std.specs.FinMap as finite
use Rattle.prodash_base.specs.Held.{Summaries, recent_in, AreFew}
use Rattle.prodash_base.specs.Trackers.{rate_after}
use Rattle.prodash_base.specs.plumbing.KeptTables.{summaries_of}
use Rattle.prodash_base.proofs.Summarizing.{Fits, summarize-rate}
use Rattle.prodash_base.proofs.StoredSamples.{keeps-all-more, stored-more, stored-same, recent-in-memory, few-in-memory}
use Rattle.prodash_base.proofs.throughput.Throughput.update_and_get.Goals as goal

pub invariant_of-self-2 : goal.invariant_of-self-2
invariant_of-self-2 c =
    let o = c.in-Some.observation in
    let fits : Fits o = omega arith in
    keeps-all-more c.self.inside.history.observations c.after-self-inside.result.observations c.self.inside.kept.items c.add_observation.new.kept.items c.args.key.now o
    fits c.self.invariant c.after-self-inside.ensures c.in_ok-rate.ensures.sorted c.in_ok-rate.ensures.before c.in_ok-rate.ensures.ok

pub returns-clause-value : goal.returns-clause-value
returns-clause-value c =
    let all = c.self.inside.history.observations in
    let fits : Fits c.in-Some.observation = omega arith in
    let e : c.in_ok-rate.rate ≡ rate_after all c.args.key.now (Some c.in-Some.observation) =
    c.in_ok-rate.ensures.rate ∙ summarize-rate all (summaries_of c.self.inside.kept.items) c.args.key.now c.in-Some.observation fits c.self.invariant.kept_now.summaries in
    search (rules, e)

pub returns-clause-ok : goal.returns-clause-ok
returns-clause-ok c =
    let o = c.in-Some.observation in
    let fits : Fits o = omega arith in
    let held = stored-more c.self.inside.history.observations c.self.inside.kept.items c.add_observation.new.kept.items c.args.key.now o fits c.self.invariant
    c.in_ok-rate.ensures.before c.in_ok-rate.ensures.ok in
    search (rules, held)

pub returns-clause-held : goal.returns-clause-held
returns-clause-held c =
    recent-in-memory c.after-self-inside.result.observations c.add_observation.new.kept.items c.args.key.now (invariant_of-self-2 c)

pub returns-clause-bound : goal.returns-clause-bound
returns-clause-bound c =
    few-in-memory c.after-self-inside.result.observations c.add_observation.new.kept.items c.args.key.now (invariant_of-self-2 c)

-- nothing is recorded
pub returns-in_default-clause-held : goal.returns-in_default-clause-held
returns-in_default-clause-held c =
    rw (← c.self.view_is) (recent-in-memory c.self.inside.history.observations c.self.inside.kept.items c.args.key.now c.self.invariant)

pub returns-in_default-clause-bound : goal.returns-in_default-clause-bound
returns-in_default-clause-bound c =
    rw (← c.self.view_is) (few-in-memory c.self.inside.history.observations c.self.inside.kept.items c.args.key.now c.self.invariant)

-- a refusal
pub returns-in_err-rate-clause-err : goal.returns-in_err-rate-clause-err
returns-in_err-rate-clause-err c =
    let same = stored-same c.self.inside.history.observations c.self.inside.kept.items c.add_observation.new.kept.items c.self.invariant c.in_err-rate.ensures.before c.in_err-rate.ensures.err in
    search (rules, same)

pub returns-in_err-rate-clause-held : goal.returns-in_err-rate-clause-held
returns-in_err-rate-clause-held c =
    let same = stored-same c.self.inside.history.observations c.self.inside.kept.items c.add_observation.new.kept.items c.self.invariant c.in_err-rate.ensures.before c.in_err-rate.ensures.err in
    ap (λ (s : Summaries). recent_in (finite.get s c.args.key.now)) same
    ∙ recent-in-memory c.self.inside.history.observations c.self.inside.kept.items c.args.key.now c.self.invariant

pub returns-in_err-rate-clause-bound : goal.returns-in_err-rate-clause-bound
returns-in_err-rate-clause-bound c =
    let same = stored-same c.self.inside.history.observations c.self.inside.kept.items c.add_observation.new.kept.items c.self.invariant c.in_err-rate.ensures.before c.in_err-rate.ensures.err in
    subst (λ (s : Summaries). AreFew (recent_in (finite.get s c.args.key.now))) (sym same)
    (few-in-memory c.self.inside.history.observations c.self.inside.kept.items c.args.key.now c.self.invariant)
