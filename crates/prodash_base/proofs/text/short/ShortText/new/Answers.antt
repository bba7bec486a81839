use Rattle.std.proofs.Common.{◌∙◌}
use Rattle.prodash_base.proofs.ShortTexts.{padded}
use Rattle.prodash_base.proofs.text.short.ShortText.new.Goals as goal

pub invariant_of-result : goal.invariant_of-result
invariant_of-result c = padded _ c.args.text.now (c.copy_from_slice.ensures.after ∙ c.as_bytes.ensures.value) c.utf8.text c.requires
