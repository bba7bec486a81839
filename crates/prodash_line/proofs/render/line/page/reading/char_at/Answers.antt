use Rattle.std.proofs.Common.{length, arith, sym, ap, ◌∙◌}
use Rattle.prodash_line.proofs.Chars.{char_begins, no_char}
use Rattle.prodash_line.proofs.render.line.page.reading.char_at.Goals as goal

pub returns : goal.returns
returns c = char_begins c.args.bytes.now c.text_prefix.result.now _ _ c.in_ok-c.c c.min.result c.len_utf8.result
    c.text_prefix.ensures.begins (sym c.chars.ensures.rest ∙ c.in_ok-c.ensures.steps.0) c.len_utf8.ensures.value

pub returns-in_err-c : goal.returns-in_err-c
returns-in_err-c c = rw c.from_residual.ensures (no_char c.args.bytes.now c.min.result c.min.ensures
    (λ m low fits utf8. c.text_prefix.ensures.longest m (omega (arith, ap length c.chars.ensures.rest, c.in_err-c.ensures.steps.0.0)) fits utf8))
