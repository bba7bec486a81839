use Rattle.std.proofs.Common.{List, ap, sym, subst, ◌∙◌}
use Rattle.prodash_line.specs.declared.render.line.draw.latest_rows.RowLine.{RowLine}
use Rattle.prodash_line.specs.plumbing.KeptLines.{drawn_in}
use Rattle.prodash_line.specs.plumbing.LineCopying.{IsLeft}
use Rattle.prodash_line.proofs.LineCopying.{left_below}
use Rattle.prodash_line.proofs.render.line.draw.line_copier.LineCopier.go_on_to.Goals as goal

pub loop-line-preserved : goal.loop-line-preserved
loop-line-preserved c =
    let old = c.loop-line.self in
    let skips = c.loop-line.invariant.skips in
    let gave = c.give_up.ensures in
    record {
      skips = record {
        left = λ options midpoint h.
            subst (λ (ls : List RowLine × List RowLine). IsLeft options midpoint (drawn_in old.before) ls.1 old.bytes.1 old.end) (sym gave)
            (left_below options midpoint (drawn_in old.before) old.lines.1 old.bytes.1 old.end 1 (skips.left options midpoint h));
        bytes = skips.bytes;
        lines = ap (λ (ls : List RowLine × List RowLine). ls.0) gave ∙ skips.lines;
      };
    }
