use Rattle.std.proofs.Common.{ℕ, ◌-◌, ap, subst, ◌∙◌}
use Rattle.prodash_line.specs.ProgressRows.{bar_columns}
use Rattle.prodash_line.specs.plumbing.RowWriting.{AppendsBar}
use Rattle.prodash_line.proofs.render.line.draw.row.push_in_parts.Goals as goal

pub returns-clause-drawn : goal.returns-clause-drawn
returns-clause-drawn c =
    let o = c.args.drawn.now.options.now in
    record {
      ends = c.in_ok-own.ensures.end;
      between = c.push_values.new.out;
      padded = c.in_ok-own.ensures.line;
      timed = c.push_time.new.out;
      time_follows = c.in_ok-push_time.ensures;
      bar = subst (λ (columns : ℕ). AppendsBar o.colored columns c.args.drawn.now.value.now c.push_time.new.out c.push_bar.new.out)
          (c.bar_columns-columns.ensures ∙ ap (bar_columns o.bar_columns) (c.saturating_sub-left.ensures ∙ ap (λ (used : ℕ). o.terminal_dimensions.0 - used) c.width.ensures))
          c.in_ok-push_bar.ensures;
    }
