use Rattle.std.proofs.Common.{ap, ◌∙◌, ◌++◌, subst, arith}
use Rattle.std.specs.Str.{IsUtf8}
use Rattle.prodash_line.specs.plumbing.Writing.{open_bytes, reset_bytes}
use Rattle.prodash_line.proofs.LineWriting.{appends_text}
use Rattle.prodash_line.proofs.render.line.draw.line_writer.LineWriter.push_drawn.Goals as goal

pub returns : goal.returns
returns c =
    let line = c.in_ok-reset_style.ensures.line in
    let opened = c.in_ok-open_style.ensures.line in
    appends_text c.args.self.now _ c.args.style c.args.drawn.now.width c.args.drawn.now.text.now c.fit_text-room.result.0.now _ _
    (subst IsUtf8 c.as_bytes.ensures.value c.as_bytes.ensures.utf8) c.fit_text-room.ensures.text c.requires
    (c.in_ok-open_style.ensures.bytes ∙ ap (λ s. c.args.self.now.bytes ++ open_bytes s) c.style_of_length-style.ensures)
    (c.in_ok-extend_from_slice.ensures ∙ ap (λ t. c.open_style.new.self.bytes ++ t) c.as_bytes.ensures.value)
    (c.in_ok-reset_style.ensures.bytes ∙ ap (λ s. c.extend_from_slice.new.self ++ reset_bytes s) c.style_of_length-style.ensures)
    (omega (arith, line.width, c.saturating_add-self.ensures, opened.width))
    (line.limit ∙ opened.limit) (line.room ∙ c.fit_text-room.ensures.room)
