use Rattle.std.proofs.Common.{arith}
use Rattle.prodash_tui.proofs.BlankParts.{same_between}
use Rattle.prodash_tui.proofs.frame.shared_blank.Goals as goal

pub returns : goal.returns
returns c = record {
  order = omega arith;
  within = omega arith;
  same = same_between c.blank_part-a.result c.blank_part-b.result c.max-first.result c.min-last.result c.args.old.now c.args.new.now c.blank_part-a.ensures c.blank_part-b.ensures
      (omega arith) (omega arith) (omega arith) (omega arith) (omega arith);
}
