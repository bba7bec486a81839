use Rattle.std.proofs.Common.{rules, arith, ◌≡◌, ◌+◌, ◌∷◌, drop, ap, sym, ◌∙◌}
use Rattle.std.proofs.lemmas.Grind.{common_steps}
use Rattle.prodash_base.specs.Rows.{row_of, rows_of}
use Rattle.prodash_line.specs.ProgressRows.{filtered}
use Rattle.prodash_line.specs.RowRanks as ranks
use Rattle.prodash_line.proofs.Choosing.{above_reached, above_passed}
use Rattle.prodash_line.proofs.render.line.draw.rank.is_above.Goals as goal
use Rattle.prodash_line.proofs.render.line.draw.rank.is_above.Goals.{then-is_row_drawn+else-not-is_deeper+else-has_standing, else-is_row_drawn}

pub returns-then-has_standing : goal.returns-then-has_standing
returns-then-has_standing c =
    let rest = filtered c.args.levels (rows_of (drop (c.loop-other.other-index + 1) c.args.after.now)) in
    let rows : filtered c.args.levels (rows_of (drop c.loop-other.other-index c.args.after.now)) ≡ row_of c.other-item.result ∷ rest = grind (arith, common_steps) in
    sym (ap (ranks.is_above c.args.standing (row_of c.args.row.now)) rows
    ∙ above_reached c.args.standing (row_of c.args.row.now) (row_of c.other-item.result) rest (search rules) (search rules)) ∙ c.loop-other.invariant

pub loop-other-preserved : goal.loop-other-preserved
loop-other-preserved c = elim c.if-is_row_drawn.branch [
  | then-is_row_drawn+else-not-is_deeper+else-has_standing w ↦
      (let rest = filtered c.args.levels (rows_of (drop (c.loop-other.other-index + 1) c.args.after.now)) in
      let rows : filtered c.args.levels (rows_of (drop c.loop-other.other-index c.args.after.now)) ≡ row_of c.other-item.result ∷ rest = grind (arith, common_steps) in
      sym (ap (ranks.is_above c.args.standing (row_of c.args.row.now)) rows
      ∙ above_passed c.args.standing (row_of c.args.row.now) (row_of c.other-item.result) rest (search rules) (search rules)) ∙ c.loop-other.invariant)
  | else-is_row_drawn w ↦
      (let rest = filtered c.args.levels (rows_of (drop (c.loop-other.other-index + 1) c.args.after.now)) in
      let rows : filtered c.args.levels (rows_of (drop c.loop-other.other-index c.args.after.now)) ≡ rest = grind (arith, common_steps) in
      sym (ap (ranks.is_above c.args.standing (row_of c.args.row.now)) rows) ∙ c.loop-other.invariant)
]
