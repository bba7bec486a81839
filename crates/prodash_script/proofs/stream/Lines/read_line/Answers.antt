use Rattle.std.proofs.Common.{rules}
use Rattle.prodash_script.proofs.LinesRead.{fails, filled, took_all, took_line}
use Rattle.prodash_script.proofs.stream.Lines.read_line.Goals as goal

pub returns-in_err-fill : goal.returns-in_err-fill
returns-in_err-fill g c =
    let (read, given, waiting, _) = c.fill.ensures in
    fails c.args.self.now c.fill.new.self c.loop.line (filled c.args.self.now c.loop.self c.fill.new.self c.loop.line c.loop.invariant read given waiting) _ (search rules) _

pub returns-in_err-take_part : goal.returns-in_err-take_part
returns-in_err-take_part g c =
    let (read, given, waiting, _) = c.fill.ensures in
    let sofar = filled c.args.self.now c.loop.self c.fill.new.self c.loop.line c.loop.invariant read given waiting in
    rw (c.in_err-take_part.ensures.err) (fails c.args.self.now c.fill.new.self c.loop.line sofar _ (search rules) _)

pub returns-then-branch : goal.returns-then-branch
returns-then-branch g c =
    let (read, given, waiting, _) = c.fill.ensures in
    let sofar = filled c.args.self.now c.loop.self c.fill.new.self c.loop.line c.loop.invariant read given waiting in
    let taken = rw c.if-branch.true at c.in_ok-take_part.ensures.ok in
    rw c.outcome.ensures (took_line c.args.self.now c.fill.new.self c.take_part.new.self c.loop.line sofar c.take_part.new.line c.in_ok-take_part.ensures.to_come taken)

pub loop-preserved : goal.loop-preserved
loop-preserved g c =
    let (read, given, waiting, _) = c.fill.ensures in
    let sofar = filled c.args.self.now c.loop.self c.fill.new.self c.loop.line c.loop.invariant read given waiting in
    let taken = rw c.if-branch.false at c.in_ok-take_part.ensures.ok in
    took_all c.args.self.now c.fill.new.self c.take_part.new.self c.loop.line sofar c.take_part.new.line c.in_ok-take_part.ensures.to_come taken
