use Rattle.std.proofs.Common.{rules, List, sym, subst, is_some, ◌∙◌}
use Rattle.std.specs.List.{AllZip, filter}
use Rattle.std.proofs.lemmas.Fn.{filter_same}
use Rattle.prodash_base.specs.plumbing.KeptTables.{before_of, IsTakenBack}
use Rattle.prodash_base.specs.declared.throughput.kept.Kept.{Kept}
use Rattle.prodash_base.proofs.KeptBefore.{all_written}
use Rattle.prodash_base.proofs.throughput.keys.take_back_all.Goals as goal

pub returns : goal.returns
returns c =
    let items = c.retain.new.self.items in
    let now = c.take_back_each.new.kept in
    let were_kept = filter_same _ (λ (k : Kept). is_some (before_of k)) _ (λ k b f' called. search (rules, called)) c.args.kept.now.items items c.retain.ensures.filtered in
    subst (λ (new : List Kept). AllZip (λ k l. IsTakenBack k l) (filter (λ k. is_some (before_of k)) c.args.kept.now.items) new)
    (sym (all_written (λ k l. IsTakenBack k l) items c.deref_mut.result.now now c.retain.new.self.len c.deref_mut.ensures.value c.deref_mut.ensures.len c.take_back_each.ensures))
    (subst (λ (old : List Kept). AllZip (λ k l. IsTakenBack k l) old now) (c.deref_mut.ensures.value ∙ were_kept) c.take_back_each.ensures)
