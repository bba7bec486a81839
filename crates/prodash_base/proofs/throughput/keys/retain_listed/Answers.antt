use Rattle.std.proofs.Common.{rules, sym}
use Rattle.std.proofs.lemmas.Fn.{always_returns_same, filter_same}
use Rattle.prodash_base.specs.Rows.{rows_of}
use Rattle.prodash_base.specs.Trackers.{is_listed}
use Rattle.prodash_base.specs.plumbing.KeptTables.{NeverDescends}
use Rattle.prodash_base.specs.declared.progress.Row.{Row}
use Rattle.prodash_base.specs.declared.throughput.kept.Kept.{Kept}
use Rattle.prodash_base.proofs.throughput.keys.retain_listed.Goals as goal

pub returns-then-is_sorted_by_key : goal.returns-then-is_sorted_by_key
returns-then-is_sorted_by_key c =
    let up : NeverDescends c.args.rows.now = λ k d l. sym (c.if-is_sorted_by_key.ensures.cases (λ (row : Row). row.key) (always_returns_same _ _ _ (λ a r f' k. search rules)) k d l) in
    filter_same _ (λ (k : Kept). is_listed (rows_of c.args.rows.now) k.key) _ (λ k b f' called. search (rules, called, up)) c.args.kept.now.items c.retain.new.self.items c.retain.ensures.filtered

pub returns-else-is_sorted_by_key : goal.returns-else-is_sorted_by_key
returns-else-is_sorted_by_key c =
    filter_same _ (λ (k : Kept). is_listed (rows_of c.args.rows.now) k.key) _ (λ k b f' called. search (rules, called)) c.args.kept.now.items
    c.retain-else-is_sorted_by_key.new.self.items c.retain-else-is_sorted_by_key.ensures.filtered
