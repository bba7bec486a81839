use Rattle.std.proofs.Common.{◌∙◌}
use Rattle.prodash_base.proofs.ShortTexts.{padded}
use Rattle.prodash_base.proofs.text.short.ShortText.replace.Goals as goal

pub invariant_of-self : goal.invariant_of-self
invariant_of-self c =
    padded _ c.args.text.now (c.copy_from_slice.ensures.after ∙ c.as_bytes.ensures.value) c.utf8.text c.requires
