use Rattle.std.proofs.Common.{◌≡◌, ◌<◌, ◌≤◌, ◌∙◌, ap, sym, subst, arith, length, map, get_or, Some, None, Option, List}
use Rattle.std.specs.FinMap as finite
use Rattle.std.specs.FinMap.{put}
use Rattle.std.proofs.lemmas.Result.{on_ok_weaker, on_err_weaker, IfOk-weaker}
use Rattle.prodash_base.specs.Path.{path_cmp}
use Rattle.prodash_base.specs.Held.{Summary}
use Rattle.prodash_base.specs.plumbing.Summaries.{next_summary, summary_after}
use Rattle.prodash_base.specs.plumbing.KeptTables.{summary_of, entry_of, summaries_of, entries_before, IsAt, IsNewAt}
use Rattle.prodash_base.specs.declared.throughput.kept.Kept.{Kept}
use Rattle.prodash_base.proofs.KeptTables.{put_known, put_first, summaries-put, sorted-put, get_known, get_new, an_element, IsNewPlace}
use Rattle.prodash_base.proofs.KeptBefore.{before-insert, before-set}
use Rattle.prodash_base.proofs.PathMaps.{insert_same}
use Rattle.prodash_base.proofs.throughput.keys.add_observation.Goals as goal
use Rattle.prodash_base.proofs.throughput.keys.add_observation.Goals.{After-add_to_known, In_ok-insert-in-Err}

-- the search finds the key
at : (c : After-add_to_known) → IsAt c.args.kept.now.items c.args.key c.in-Ok.index
at c = subst (λ (xs : List Kept). IsAt xs c.args.key c.in-Ok.index) c.deref.ensures.value c.in-Ok.ensures.found

inside : (c : After-add_to_known) → c.in-Ok.index < length c.args.kept.now.items
inside c = (at c).within

known : (c : After-add_to_known) → Kept
known c = an_element c.args.kept.now.items (let i = inside c in omega arith)

found : (c : After-add_to_known) → (get_or c.args.kept.now.items c.in-Ok.index (known c)).key ≡ c.args.key
found c = (at c).key_is (known c)

shown : (c : After-add_to_known) → finite.get (summaries_of c.args.kept.now.items) c.args.key ≡ Some (summary_of (get_or c.args.kept.now.items c.in-Ok.index (known c)))
shown c = get_known c.args.kept.now.items c.in-Ok.index (known c) c.args.key c.requires (inside c) (found c)

changed : (c : After-add_to_known)
    → map entry_of c.add_to_known.new.kept.items ≡ put path_cmp c.args.key (summary_of (get_or c.add_to_known.new.kept.items c.in-Ok.index (known c))) (map entry_of c.args.kept.now.items)
changed c =
    put_known c.args.kept.now.items c.add_to_known.new.kept.items c.in-Ok.index (known c) c.args.key c.requires (inside c) (found c)
    (c.add_to_known.ensures.changed.set (known c)) (c.add_to_known.ensures.changed.key (known c))

next : (c : After-add_to_known) → next_summary (summary_of (get_or c.args.kept.now.items c.in-Ok.index (known c))) c.args.observation ≡ summary_after (finite.get (summaries_of c.args.kept.now.items) c.args.key) c.args.observation
next c = ap (λ (o : Option Summary). summary_after o c.args.observation) (sym (shown c))

pub returns-in-Ok-clause-sorted : goal.returns-in-Ok-clause-sorted
returns-in-Ok-clause-sorted c = sorted-put c.args.kept.now.items _ c.args.key _ (changed c) c.requires

pub returns-in-Ok-clause-rate : goal.returns-in-Ok-clause-rate
returns-in-Ok-clause-rate c =
    IfOk-weaker c.add_to_known.result _ _ (λ rate e. e (known c) ∙ ap (λ (s : Summary). s.rate) (next c)) c.add_to_known.ensures.rate

pub returns-in-Ok-clause-ok : goal.returns-in-Ok-clause-ok
returns-in-Ok-clause-ok c =
    on_ok_weaker c.add_to_known.result (λ added. summaries-put c.args.kept.now.items _ c.args.key _ (changed c)
    ∙ ap (finite.insert (summaries_of c.args.kept.now.items) c.args.key) (added (known c) ∙ next c)) c.add_to_known.ensures.ok

pub returns-in-Ok-clause-err : goal.returns-in-Ok-clause-err
returns-in-Ok-clause-err c =
    on_err_weaker c.add_to_known.result (λ same. summaries-put c.args.kept.now.items _ c.args.key _ (changed c)
    ∙ ap (finite.insert (summaries_of c.args.kept.now.items) c.args.key) (same (known c))
    ∙ insert_same (summaries_of c.args.kept.now.items) c.args.key _ (shown c)) c.add_to_known.ensures.err

pub returns-in-Ok-clause-before : goal.returns-in-Ok-clause-before
returns-in-Ok-clause-before c =
    let added = c.add_to_known.ensures.changed in
    ap entries_before (added.set (known c))
    ∙ before-set c.args.kept.now.items c.in-Ok.index (known c) _ (inside c) (added.key (known c)) (added.before (known c))

-- the search finds the place of a new key
new : (c : In_ok-insert-in-Err) → IsNewAt c.args.kept.now.items c.args.key c.in-Err.index
new c = subst (λ (xs : List Kept). IsNewAt xs c.args.key c.in-Err.index) c.deref.ensures.value c.in-Err.ensures.place

is_new : (c : In_ok-insert-in-Err) → IsNewPlace c.args.kept.now.items c.args.key c.in-Err.index
is_new c = (new c).place

not_shown : (c : In_ok-insert-in-Err) → finite.get (summaries_of c.args.kept.now.items) c.args.key ≡ None
not_shown c = get_new c.args.kept.now.items c.in-Err.index c.args.key c.requires (is_new c)

placed : (c : In_ok-insert-in-Err) → c.in-Err.index ≤ length c.args.kept.now.items
placed c = (new c).within

added : (c : In_ok-insert-in-Err) → map entry_of c.insert.new.self.items ≡ put path_cmp c.args.key (summary_of c.first.result) (map entry_of c.args.kept.now.items)
added c =
    ap (map entry_of) c.in_ok-insert-in-Err.ensures.items
    ∙ put_first c.args.kept.now.items c.in-Err.index c.args.key c.first.result (is_new c) (placed c) c.first.ensures.key

pub returns-in_ok-insert-in-Err-clause-sorted : goal.returns-in_ok-insert-in-Err-clause-sorted
returns-in_ok-insert-in-Err-clause-sorted c = sorted-put c.args.kept.now.items _ c.args.key _ (added c) c.requires

pub returns-in_ok-insert-in-Err-clause-rate : goal.returns-in_ok-insert-in-Err-clause-rate
returns-in_ok-insert-in-Err-clause-rate c = ap (λ (o : Option Summary). (summary_after o c.args.observation).rate) (sym (not_shown c))

pub returns-in_ok-insert-in-Err-clause-ok : goal.returns-in_ok-insert-in-Err-clause-ok
returns-in_ok-insert-in-Err-clause-ok c =
    summaries-put c.args.kept.now.items _ c.args.key _ (added c)
    ∙ ap (finite.insert (summaries_of c.args.kept.now.items) c.args.key) (c.first.ensures.summary ∙ ap (λ (o : Option Summary). summary_after o c.args.observation) (sym (not_shown c)))

pub returns-in_ok-insert-in-Err-clause-before : goal.returns-in_ok-insert-in-Err-clause-before
returns-in_ok-insert-in-Err-clause-before c =
    ap entries_before c.in_ok-insert-in-Err.ensures.items ∙ before-insert c.args.kept.now.items c.in-Err.index c.first.result c.first.ensures.before
