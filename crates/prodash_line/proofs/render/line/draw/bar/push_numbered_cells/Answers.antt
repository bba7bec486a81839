use Rattle.std.proofs.Common.{◌≡◌, ◌-◌, ◌++◌, append-nil, sym, ap, ◌∙◌, arith}
use Rattle.prodash_line.specs.ProgressRows.{numbered_cells}
use Rattle.prodash_line.proofs.LineWriting.{same_line, same_then}
use Rattle.prodash_line.proofs.NumberedCells.{one_cell_more}
use Rattle.prodash_line.proofs.render.line.draw.bar.push_numbered_cells.Goals as goal

pub loop-number-init : goal.loop-number-init
loop-number-init c = record {
  upward = c.requires;
  written = sym (append-nil c.args.out.now.bytes)
      ∙ ap (λ n. c.args.out.now.bytes ++ numbered_cells c.args.end n) (let none : 0 ≡ c.args.end - c.args.end = omega arith in none);
  line = same_line c.args.out.now;
}

pub loop-number-preserved : goal.loop-number-preserved
loop-number-preserved c = record {
  upward = omega (arith, c.loop-number-test.true);
  written =
      one_cell_more c.args.out.now.bytes c.loop-number.out.bytes _ (c.loop-number.number - 1) c.loop-number.number c.args.end c.numbered_cell.result (omega (arith, c.loop-number-test.true)) c.loop-number.auto.number
      c.numbered_cell.ensures c.loop-number.invariant.written c.in_ok-push_prefix.ensures.bytes;
  line = same_then c.loop-number.invariant.line c.in_ok-push_prefix.ensures.line;
}
