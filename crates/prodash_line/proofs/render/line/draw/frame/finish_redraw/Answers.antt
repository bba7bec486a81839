use Rattle.std.proofs.Common.{subst, sym}
use Rattle.prodash_line.specs.declared.render.line.draw.layout.Layout.{Layout}
use Rattle.prodash_line.specs.plumbing.FrameWriting.{FinishesRedraw}
use Rattle.prodash_line.proofs.OverwriteBytes.{redrawn_erasing}
use Rattle.prodash_line.proofs.render.line.draw.frame.finish_redraw.Goals as goal

pub returns-in_ok-finish_overwriting-in-Overwriting-clause-redraw : goal.returns-in_ok-finish_overwriting-in-Overwriting-clause-redraw
returns-in_ok-finish_overwriting-in-Overwriting-clause-redraw c =
    subst (λ (l : Layout). FinishesRedraw l c.args.out.now c.args.widths.now c.args.drawn c.finish_overwriting.new.out) (sym c.in-Overwriting.is) c.in_ok-finish_overwriting-in-Overwriting.ensures.redraw

pub returns-in_ok-finish_overwriting-in-Overwriting-clause-kept : goal.returns-in_ok-finish_overwriting-in-Overwriting-clause-kept
returns-in_ok-finish_overwriting-in-Overwriting-clause-kept c = c.in_ok-finish_overwriting-in-Overwriting.ensures.kept

pub returns-in_ok-finish_erasing-in-Erasing-clause-redraw : goal.returns-in_ok-finish_erasing-in-Erasing-clause-redraw
returns-in_ok-finish_erasing-in-Erasing-clause-redraw c =
    subst (λ (l : Layout). FinishesRedraw l c.args.out.now c.args.widths.now c.args.drawn c.finish_erasing.new.out) (sym c.in-Erasing.is)
    (λ before lines n e. redrawn_erasing c.in-Erasing.height c.in-Erasing.synchronized c.in-Erasing.whole_messages c.args.widths.now lines c.args.drawn before _ _ n e c.in_ok-finish_erasing-in-Erasing.ensures)

pub returns-in_ok-finish_erasing-in-Erasing-clause-kept : goal.returns-in_ok-finish_erasing-in-Erasing-clause-kept
returns-in_ok-finish_erasing-in-Erasing-clause-kept c = record { more = _; bytes = c.in_ok-finish_erasing-in-Erasing.ensures }
