use Rattle.prodash_script.proofs.LinesRead.{ReadsPart}
use Rattle.prodash_script.proofs.stream.Lines.read_line.Given as goal

abbrev pub invariant-loop : goal.invariant-loop
invariant-loop g l = ReadsPart l.fn.self l.self l.line
