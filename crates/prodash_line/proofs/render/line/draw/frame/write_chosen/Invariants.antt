use Rattle.std.proofs.Common.{◌≡◌, ◌++◌, drop, max}
use Rattle.std.specs.Prelude.{[]}
use Rattle.prodash_base.specs.Rows.{rows_of}
use Rattle.prodash_line.specs.DrawnLines.{layout_of}
use Rattle.prodash_line.specs.Frames.{widths_of}
use Rattle.prodash_line.specs.ProgressRows.{filtered, greatest_midpoint}
use Rattle.prodash_line.specs.Tracking.{kept_of}
use Rattle.prodash_line.specs.plumbing.Observing.{observe_all, ahead_of}
use Rattle.prodash_line.specs.plumbing.OverwriteBytes.{lines_bytes}
use Rattle.prodash_line.specs.plumbing.FrameWriting.{times_in, chosen_rows, chosen_lines, quotas_for}
use Rattle.prodash_line.proofs.render.line.draw.frame.write_chosen.Given as goal

abbrev pub invariant-loop-n : goal.invariant-loop-n
invariant-loop-n l =
    let options = l.scene.options in
    let left = drop l.n l.rows in
    let most = quotas_for options.level_filter l.rows l.most in
    let rest = chosen_rows options l.quotas (ahead_of l.tracker) left in
    let all = chosen_rows options most (ahead_of l.fn.tracker) l.rows in
    let rest_lines = chosen_lines options l.scene.past.now.midpoint (times_in l.scene) l.quotas (ahead_of l.tracker) left in
    let all_lines = chosen_lines options l.scene.past.now.midpoint (times_in l.scene) most (ahead_of l.fn.tracker) l.rows in
    record {
      bytes : l.out.bytes ++ lines_bytes (layout_of options) [] rest_lines ≡ l.fn.out.bytes ++ lines_bytes (layout_of options) [] all_lines;
      widths : l.drawn.widths.items ++ widths_of rest_lines ≡ l.fn.drawn.widths.items ++ widths_of all_lines;
      midpoint : max l.drawn.midpoint (greatest_midpoint options.defensive rest) ≡ max l.fn.drawn.midpoint (greatest_midpoint options.defensive all);
      ahead : observe_all (ahead_of l.tracker) (filtered options.level_filter (rows_of left)) ≡ observe_all (ahead_of l.fn.tracker) (filtered options.level_filter (rows_of l.rows));
      kept : kept_of l.tracker ≡ kept_of l.fn.tracker;
      rows_erased : l.drawn.rows_erased ≡ l.fn.drawn.rows_erased;
      action : l.drawn.action ≡ l.fn.drawn.action;
    }
