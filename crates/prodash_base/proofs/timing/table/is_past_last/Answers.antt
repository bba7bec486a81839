use Rattle.std.proofs.Common.{◌≡◌, ◌-◌, length, get_or, ap, sym, ◌∙◌, arith}
use Rattle.std.proofs.lemmas.Option.{get_or_from_slice_get}
use Rattle.std.specs.Ordering.{is_lt}
use Rattle.prodash_base.specs.Path.{path_cmp}
use Rattle.prodash_base.proofs.TimedTables.{Entry, past_last}
use Rattle.prodash_base.proofs.timing.table.is_past_last.Goals as goal

pub returns-in-Some : goal.returns-in-Some
returns-in-Some c =
    let timings = c.args.timings.now in
    let last = c.in-Some.last.now in
    let path : c.last-in-Some.inside.key ≡ (get_or timings (length timings - 1) last).0 =
    ap (λ (e : Entry). e.0) (c.last-in-Some.view_is ∙ sym (get_or_from_slice_get timings (length timings - 1) last last (sym c.in-Some.ensures.value))) in
    c.is_lt.ensures ∙ ap is_lt c.cmp.ensures ∙ ap (λ p. is_lt (path_cmp p c.args.key.now)) path
    ∙ past_last timings c.args.key.now last (omega (arith, c.in-Some.ensures.item))
