use Rattle.std.proofs.Common.{◌≡◌, ℕ, [], Option, Some, None, ap, sym}
use Rattle.prodash_line.specs.declared.render.line.page.style.Style.{Style}
use Rattle.prodash_line.specs.Lines.{in_color}
use Rattle.prodash_base.specs.Rows.{progress_of}
use Rattle.prodash_line.specs.ProgressRows.{bar}
use Rattle.prodash_line.specs.TextStyles.{row_style}
use Rattle.prodash_line.proofs.LineWriting.{appends_as, appends_no_piece}
use Rattle.prodash_line.proofs.render.line.draw.bar.push_bar.Goals as goal

no_bar : (style : Style) (columns step : ℕ) (bound : Option ℕ) → columns ≡ 0 → bar style columns step bound ≡ []
no_bar style columns step None e = ap (λ (n : ℕ). bar style n step None) e
no_bar style columns step (Some bound) e = ap (λ (n : ℕ). bar style n step (Some bound)) e

pub returns-then-columns-eq0 : goal.returns-then-columns-eq0
returns-then-columns-eq0 c =
    appends_as (ap (in_color c.args.colored) (sym (no_bar (row_style (progress_of c.args.value.now)) c.args.columns c.args.value.now.step c.args.value.now.done_at c.if-columns-eq0.true))) (appends_no_piece c.args.out.now)
