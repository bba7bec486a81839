use Rattle.prodash_base.proofs.Prefixes.{split_at_prefix}
use Rattle.prodash_base.proofs.appending.append_decimal.Goals as goal

pub undo_if_refused-requires : goal.undo_if_refused-requires
undo_if_refused-requires c = split_at_prefix c.args.out.now c.push_decimal-appended.new.out c.len-length.result c.push_decimal-appended.ensures.1 c.len-length.ensures
