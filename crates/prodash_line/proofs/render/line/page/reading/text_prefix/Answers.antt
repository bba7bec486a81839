use Rattle.std.proofs.Common.{◌≡◌, length, arith, ap, ◌∙◌}
use Rattle.std.specs.Prelude.{min}
use Rattle.std.proofs.lemmas.List.{length-take}
use Rattle.prodash_line.proofs.render.line.page.reading.text_prefix.Goals as goal

pub returns-in-Ok-from_utf8-clause-longest : goal.returns-in-Ok-from_utf8-clause-longest
returns-in-Ok-from_utf8-clause-longest c m l h u =
    let valid = c.in-Err.ensures.cases.1 in
    let size : length c.in-Ok-from_utf8.text.now ≡ min c.valid_up_to.result (length c.args.bytes.now) =
    ap length c.in-Ok-from_utf8.ensures.cases.0 ∙ length-take c.valid_up_to.result c.args.bytes.now in
    valid.longest m (omega (arith, valid.short, c.valid_up_to.ensures)) u
