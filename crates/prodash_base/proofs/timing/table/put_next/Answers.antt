use Rattle.std.proofs.Common.{◌≡◌, [], Some, length, get_or, slice_set, ap, sym, subst, ◌∙◌, true}
use Rattle.std.proofs.Math.Seq.{set-append_seam, get_or-append_seam}
use Rattle.std.specs.FinMap.{put}
use Rattle.prodash_base.specs.Path.{path_cmp}
use Rattle.prodash_base.specs.Rows.{progress_of}
use Rattle.prodash_base.specs.Timers.{Timings, next_timing}
use Rattle.prodash_base.specs.plumbing.TimedTables.{AreSorted, is_past_last}
use Rattle.prodash_base.proofs.TimedTables.{Entry, sorted-put, put_last}
use Rattle.prodash_base.proofs.timing.table.put_next.Goals as goal

index_is : (c : goal.After-timings-1) → c.len-index.result ≡ length c.args.timings.now.items
index_is c = c.len-index.ensures ∙ c.args.timings.now.ok.0

-- the copy, changed in its place
next : (c : goal.After-timings-1) → c.see.new.self ≡ (c.args.key, next_timing (Some c.args.known.now.1) c.args.now (progress_of c.args.value.now))
next c =
    let old = c.args.timings.now.items in
    let copied : c.index_mut.result.now ≡ c.copy.result =
    c.index_mut.ensures.value ∙ (λ i. get_or (c.in_ok-push.ensures.items i) (index_is c i) c.index_mut.result.now) ∙ get_or-append_seam old c.copy.result [] c.index_mut.result.now in
    c.see.ensures ∙ ap (λ (e : Entry). (e.0, next_timing (Some e.1) c.args.now (progress_of c.args.value.now))) (copied ∙ c.copy.ensures)

added : (c : goal.After-timings-1) → slice_set c.push.new.self.items c.len-index.result c.see.new.self
    ≡ put path_cmp c.args.key (next_timing (Some c.args.known.now.1) c.args.now (progress_of c.args.value.now)) c.args.timings.now.items
added c =
    let old = c.args.timings.now.items in
    let last : is_past_last old c.args.key ≡ true = ap (λ (es : Timings). is_past_last es c.args.key) (sym c.deref.ensures.value) ∙ sym c.is_past_last.ensures ∙ c.if-not-is_past_last.false in
    (λ i. slice_set (c.in_ok-push.ensures.items i) (index_is c i) (next c i)) ∙ set-append_seam old c.copy.result [] _ ∙ put_last old c.args.key _ c.requires last

pub returns-clause-sorted : goal.returns-clause-sorted
returns-clause-sorted c = subst AreSorted (sym (added c)) (sorted-put c.args.timings.now.items c.args.key _ c.requires)

pub returns-clause-ok : goal.returns-clause-ok
returns-clause-ok c = added c
