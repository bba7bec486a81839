use Rattle.std.proofs.Common.{◌≡◌, slice_set, ap, sym, subst, ◌∙◌}
use Rattle.std.specs.FinMap.{put}
use Rattle.prodash_base.specs.Path.{Path, path_cmp}
use Rattle.prodash_base.specs.Timers.{Timings}
use Rattle.prodash_base.specs.plumbing.TimedTables.{AreSorted, IsAt, IsNewAt}
use Rattle.prodash_base.proofs.TimedTables.{Entry, sorted-put, put_known, put_first}
use Rattle.prodash_base.proofs.timing.table.put.Goals as goal

-- the search finds the path
at : (c : goal.After-timings-1) → IsAt c.args.timings.now.items c.args.timed.0 c.in-Ok.index
at c =
    subst (λ (es : Timings). IsAt es c.args.timed.0 c.in-Ok.index) c.deref.ensures.value
    (subst (λ (path : Path). IsAt c.deref.result.now path c.in-Ok.index) (ap (λ (e : Entry). e.0) c.timed.view_is) c.in-Ok.ensures.found)

over : (c : goal.After-timings-1) → slice_set c.args.timings.now.items c.in-Ok.index c.args.timed ≡ put path_cmp c.args.timed.0 c.args.timed.1 c.args.timings.now.items
over c = put_known c.args.timings.now.items c.in-Ok.index c.args.timed c.requires (at c)

pub returns-in-Ok-clause-sorted : goal.returns-in-Ok-clause-sorted
returns-in-Ok-clause-sorted c = subst AreSorted (sym (over c)) (sorted-put c.args.timings.now.items c.args.timed.0 c.args.timed.1 c.requires)

pub returns-in-Ok-clause-ok : goal.returns-in-Ok-clause-ok
returns-in-Ok-clause-ok c = over c

-- the search finds the place of a new path
new : (c : goal.In_ok-insert-in-Err) → IsNewAt c.args.timings.now.items c.args.timed.0 c.in-Err.index
new c =
    subst (λ (es : Timings). IsNewAt es c.args.timed.0 c.in-Err.index) c.deref.ensures.value
    (subst (λ (path : Path). IsNewAt c.deref.result.now path c.in-Err.index) (ap (λ (e : Entry). e.0) c.timed.view_is) c.in-Err.ensures.place)

added : (c : goal.In_ok-insert-in-Err) → c.insert.new.self.items ≡ put path_cmp c.args.timed.0 c.args.timed.1 c.args.timings.now.items
added c = c.in_ok-insert-in-Err.ensures.items ∙ put_first c.args.timings.now.items c.in-Err.index c.args.timed (new c)

pub returns-in_ok-insert-in-Err-clause-sorted : goal.returns-in_ok-insert-in-Err-clause-sorted
returns-in_ok-insert-in-Err-clause-sorted c = subst AreSorted (sym (added c)) (sorted-put c.args.timings.now.items c.args.timed.0 c.args.timed.1 c.requires)

pub returns-in_ok-insert-in-Err-clause-ok : goal.returns-in_ok-insert-in-Err-clause-ok
returns-in_ok-insert-in-Err-clause-ok c = added c
