use Rattle.std.proofs.Common.{◌-◌, refl, ap, sym, ◌∙◌}
use Rattle.std.specs.Option.{option_map}
use Rattle.prodash_base.specs.Rows.{row_of, progress_of}
use Rattle.prodash_line.specs.Lines.{in_color}
use Rattle.prodash_line.specs.ProgressRows.{times_at, bar_columns, row_line_with, midpoint_with}
use Rattle.prodash_line.specs.TextStyles.{row_style}
use Rattle.prodash_line.proofs.LineWriting.{begun_as}
use Rattle.prodash_line.proofs.RowStarts.{head_begun}
use Rattle.prodash_line.proofs.RowLines.{row_midpoint, padded_begun, timed_begun, row_begun}
use Rattle.prodash_line.proofs.render.line.draw.row.push_row.Goals as goal

pub returns-clause-line : goal.returns-clause-line
returns-clause-line c =
    let time = times_at c.args.measured.timer.now c.args.measured.at (row_of c.args.row.now) in
    let row = row_of c.args.row.now in
    let p = progress_of c.in-Some.value in
    let o = c.args.options.now in
    let head = head_begun c.args.out.now o.colored o.defensive row _ _ c.width_limit.ensures c.layout.ensures c.in_ok-begin_row.ensures c.in_ok-push_name.ensures in
    let h = c.in_ok-own.ensures.drawn in
    begun_as (ap (λ v. in_color o.colored (row_line_with o.defensive o.terminal_dimensions.0 o.bar_columns c.args.midpoint row (option_map progress_of v) c.args.measured.throughput time)) (sym c.in-Some.is))
    (row_begun o.colored o.defensive row p c.args.measured.throughput time o.terminal_dimensions.0 o.bar_columns c.args.midpoint (bar_columns o.bar_columns (o.terminal_dimensions.0 - h.timed.width)) (row_style p)
    (timed_begun o.colored o.defensive o.terminal_dimensions.0 _ time (padded_begun o.colored o.defensive row p c.args.measured.throughput c.args.midpoint head h.padded) h.time_follows) refl refl h.bar)

pub returns-clause-midpoint : goal.returns-clause-midpoint
returns-clause-midpoint c =
    let row = row_of c.args.row.now in
    let p = progress_of c.in-Some.value in
    let o = c.args.options.now in
    c.in_ok-own.ensures.drawn.ends
    ∙ row_midpoint o.colored o.defensive row p c.args.measured.throughput (head_begun c.args.out.now o.colored o.defensive row _ _ c.width_limit.ensures c.layout.ensures c.in_ok-begin_row.ensures c.in_ok-push_name.ensures)
    ∙ ap (λ v. midpoint_with o.defensive row (option_map progress_of v) c.args.measured.throughput) (sym c.in-Some.is)

pub returns-in_default-clause-line : goal.returns-in_default-clause-line
returns-in_default-clause-line c =
    let time = times_at c.args.measured.timer.now c.args.measured.at (row_of c.args.row.now) in
    let o = c.args.options.now in
    begun_as (ap (λ v. in_color o.colored (row_line_with o.defensive o.terminal_dimensions.0 o.bar_columns c.args.midpoint (row_of c.args.row.now) (option_map progress_of v) c.args.measured.throughput time)) (sym c.in_default.is))
    (head_begun c.args.out.now c.args.options.now.colored c.args.options.now.defensive (row_of c.args.row.now) _ _ c.width_limit.ensures c.layout.ensures c.in_ok-begin_row.ensures c.in_ok-push_name.ensures)
