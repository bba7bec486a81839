-- proofs/render/line/draw/latest_rows/are_alike/Answers.antt
use Rattle.std.proofs.Common.{◌≡◌, ◌∷◌, [], List, true, ◌&&◌, Option, ap, sym, ◌∙◌}
use Rattle.std.specs.Option.{option_eq}
use Rattle.prodash_base.specs.Rows.{PathRow, RowProgress, same_progress}
use Rattle.prodash_base.specs.plumbing.EqualityTests.{sound, texts}
use Rattle.prodash_base.specs.plumbing.SameRows as same
use Rattle.prodash_line.proofs.render.line.draw.latest_rows.are_alike.Goals as goal

-- a row of no name with this progress
abbrev row_with : Option RowProgress → PathRow
row_with progress = ([], record { name = []; id = []; progress = progress })

progress_in : Option RowProgress → List PathRow → Option RowProgress
progress_in default [] = default
progress_in default (row ∷ rows) = row.1.progress

equal_progress : (p q : Option RowProgress) → option_eq same_progress p q ≡ true → p ≡ q
unfolding progress_in
equal_progress p q h = ap (progress_in p) (sound same.rows (row_with p ∷ []) (row_with q ∷ []) (ap (λ b. b && true) h))

pub returns : goal.returns
returns c = λ h. record {
  level = sym c.level.ensures.value ∙ c.if-level.false ∙ c.level-2.ensures.value;
  name = sound texts _ _ (sym c.eq.ensures ∙ h);
  progress = equal_progress _ _ (sym c.is_same_progress.ensures ∙ c.if-not-is_same_progress.false);
}
