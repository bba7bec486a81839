use Rattle.std.proofs.Common.{◌≡◌, length, ap, ◌∙◌, arith}
use Rattle.prodash_tui.proofs.SplicedRows.{length-split}
use Rattle.prodash_tui.proofs.row.Row.begin.Goals as goal

pub returns-clause-inside : goal.returns-clause-inside
returns-clause-inside c =
    let size : length c.heal_before.new.self ≡ length c.args.self.now = ap length c.heal_before.ensures ∙ length-split c.args.x c.args.self.now (omega arith) in
    record { at = omega arith; end = omega arith; last = tt }
