use Rattle.std.proofs.Common.{◌≡◌, ◌^◌, ◌-◌, ◌≤◌, rules}
use Rattle.prodash_pipe.specs.Counts.{count_after}
use Rattle.prodash_pipe.proofs.Counting.{counts_all, room_once}
use Rattle.prodash_pipe.proofs.meter.Meter.add.Goals as goal

pub returns-clause-counts : goal.returns-clause-counts
returns-clause-counts g c =
    let s = c.self.inside in
    let fits : s.count ≤ 2 ^ 64 - 1 = search rules in
    let count : c.saturating_add-self-inside.result ≡ count_after s.unit s.count c.args.bytes.now =
    rw (c.saturating_add-self-inside.ensures, c.size.ensures) (room_once (2 ^ 64 - 1) s.count _ fits) in
    rw (← c.self.view_is, count) (counts_all _ c.args.bytes.now _ (rw count at c.show.ensures))
