use Rattle.std.proofs.Common.{arith, ◌≤◌, ◌+◌, ap, length, List}
use Rattle.std.specs.FinMap.{get}
use Rattle.prodash_base.specs.Held.{recent_in}
use Rattle.prodash_base.specs.plumbing.KeptTables.{stored, summaries_of}
use Rattle.prodash_base.specs.declared.throughput.kept.Kept.{Kept}
use Rattle.prodash_base.proofs.FrameSamples.{held_before, frame-needed, before-needed, all-needed}
use Rattle.prodash_base.proofs.throughput.frames.FrameThroughput.kept_samples.Goals as goal

pub returns : goal.returns
returns c =
    let kept = c.self.inside.kept.items in
    let key = c.args.key.now in
    let same = ap (λ (kept : List Kept). length (recent_in (get (stored kept) key))) c.deref.ensures.value in
    let frame : length (recent_in (get (summaries_of kept) key)) ≤ c.kept_samples.result =
    omega (arith, c.kept_samples.ensures, same, frame-needed kept key) in
    let before : length (recent_in (get (held_before kept) key)) ≤ c.kept_samples.result =
    omega (arith, c.kept_samples.ensures, same, before-needed kept key c.self.invariant.pending_kept.sorted) in
    let most : c.kept_samples.result ≤ length (recent_in (get (summaries_of kept) key)) + length (recent_in (get (held_before kept) key)) =
    omega (arith, c.kept_samples.ensures, same, all-needed kept key) in
    rw (← c.self.view_is) record { frame = frame; before = before; most = most }
