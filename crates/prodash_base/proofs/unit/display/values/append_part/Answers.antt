use Rattle.prodash_base.proofs.Prefixes.{split_at_prefix}
use Rattle.prodash_base.proofs.unit.display.values.append_part.Goals as goal

pub undo_if_refused-requires : goal.undo_if_refused-requires
undo_if_refused-requires g c = split_at_prefix c.args.out.now c.push_part-appended.new.out c.len-length.result c.push_part-appended.ensures.1 c.len-length.ensures
