use Rattle.std.proofs.Common.{ap, subst, List}
use mathlib.Core.List.{IsPrefix}
use Rattle.prodash.specs.declared.tree.recorded.history.HistoryEntry.{HistoryEntry}
use Rattle.prodash.proofs.HistoryLaws.{covered}
use Rattle.prodash.proofs.tree.recorded.history.HistoryPrefix.covers.Goals as goal

pub returns : goal.returns
returns g c = λ es is.
    let both = c.learn.new.self.log in
    let again : IsPrefix c.self.inside.seen.log both = subst (λ (h : List HistoryEntry). IsPrefix h both) (ap (λ s. s.log) c.again-both.ensures) c.learn.ensures.2 in
    let this : IsPrefix c.args.self.now both = subst (λ (h : List HistoryEntry). IsPrefix h both) c.self.view_is again in
    let other : IsPrefix c.args.other.now both = subst (λ (h : List HistoryEntry). IsPrefix h both) c.other.view_is c.learn.ensures.3 in
    covered es c.args.self.now c.args.other.now both is this other c.learn.ensures.4.1.orderly
