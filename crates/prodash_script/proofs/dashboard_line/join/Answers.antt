use Rattle.std.proofs.Common.{refl}
use Rattle.prodash_script.proofs.CopiedLines.{plain_copies}
use Rattle.prodash_script.proofs.dashboard_line.join.Goals as goal

pub returns-in-Ok-clause-event : goal.returns-in-Ok-clause-event
returns-in-Ok-clause-event c =
    let cloned = rw c.in-Ok.is at c.clone-copy.ensures.cases in
    (c.in-Ok.lines, refl, plain_copies c.push.new.self.items c.in-Ok.lines.items cloned.0)
