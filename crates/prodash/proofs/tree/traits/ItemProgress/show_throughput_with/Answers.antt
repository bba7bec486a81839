use Rattle.std.proofs.Common.{rules, ◌≡◌, ℕ, List, OnOk, subst}
use Rattle.prodash_base.specs.ThroughputMessages.{done_message}
use Rattle.prodash.specs.Turns.{Changes, Sends}
use Rattle.prodash.proofs.tree.traits.ItemProgress.show_throughput_with.Goals as goal

pub returns-clause-ok : goal.returns-clause-ok
returns-clause-ok g c =
    let a = c.args in
    let sends : List ℕ → Type 0 = λ text. OnOk c.message.result (Changes g.R.TakesTurns.found
    g.R.TakesTurns.left (Sends a.self.now.path a.now a.level text)) in
    let is_text : c.deref.result.now ≡ done_message a.unit a.step a.start a.now = search rules in
    subst sends is_text c.message.ensures.ok
