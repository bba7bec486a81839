use Rattle.prodash_base.proofs.Prefixes.{split_at_prefix}
use Rattle.prodash_base.proofs.unit.scaled.append_scaled.Goals as goal

pub undo_if_refused-requires : goal.undo_if_refused-requires
undo_if_refused-requires c = split_at_prefix c.args.out.now c.push_scaled-appended.new.out c.len-length.result c.push_scaled-appended.ensures.1 c.len-length.ensures
