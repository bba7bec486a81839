use Rattle.std.proofs.Common.{refl}
use Rattle.prodash_line.proofs.LineWriting.{appends_printable}
use Rattle.prodash_line.proofs.render.line.draw.line_writer.LineWriter.push_printable.Goals as goal

pub returns : goal.returns
returns c = appends_printable c.args.text.now _ c.count_printable-count.result c.requires.printable refl c.count_printable-count.ensures c.in_ok-push_prefix.ensures.bytes c.in_ok-push_prefix.ensures.line
