use Rattle.std.proofs.Common.{ap, ◌++◌, ◌∙◌, List, ℕ, append_assoc}
use Rattle.prodash_line.specs.Frames.{cursor_up}
use Rattle.prodash_line.specs.Signs.{spelling}
use Rattle.prodash_line.specs.plumbing.OverwriteBytes.{blank_bytes}
use Rattle.prodash_line.proofs.OverwriteBytes.{redrawn}
use Rattle.prodash_line.proofs.render.line.draw.frame.finish_overwriting.Goals as goal

pub returns-clause-redraw : goal.returns-clause-redraw
returns-clause-redraw c = λ before lines n e.
    redrawn c.args.widths.now lines c.args.drawn c.max.result before _ _ _ _ n c.widths_below.ensures c.max.ensures e c.in_ok-write_blanks.ensures c.in_ok-push_up.ensures

pub returns-clause-kept : goal.returns-clause-kept
returns-clause-kept c = record {
  more = blank_bytes c.widths_below.result.now ++ spelling (cursor_up c.max.result);
  bytes = c.in_ok-push_up.ensures ∙ ap (λ (t : List ℕ). t ++ spelling (cursor_up c.max.result)) c.in_ok-write_blanks.ensures
      ∙ append_assoc c.args.out.now.bytes (blank_bytes c.widths_below.result.now) (spelling (cursor_up c.max.result));
}
