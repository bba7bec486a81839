use Rattle.std.proofs.Common.{ap, sym, ◌∙◌, Some}
use Rattle.prodash_base.proofs.TimedTables.{Entry, find_known, find_none}
use Rattle.prodash_base.proofs.timing.table.find.Goals as goal

pub returns-in-Ok : goal.returns-in-Ok
returns-in-Ok c =
    ap (λ (e : Entry). Some e.1) c.index-timings-index.is
    ∙ sym (find_known c.args.timings.now c.in-Ok.index c.index-timings-index.result c.args.key.now c.requires c.in-Ok.ensures.found)

pub returns-in-Err : goal.returns-in-Err
returns-in-Err c = sym (find_none c.args.timings.now c.in-Err.field-0 c.args.key.now c.requires c.in-Err.ensures.place)
