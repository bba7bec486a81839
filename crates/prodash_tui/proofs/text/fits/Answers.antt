use Rattle.std.proofs.Common.{◌≡◌, ℕ, ◌*◌, ◌≤◌, true, length, arith}
use Rattle.std.specs.Prelude.{nat_le}
use Rattle.std.proofs.lemmas.Bool.Decides.{nat_tests}
use Rattle.prodash_line.specs.CellRows.{char_columns, text_columns}
use Rattle.prodash_tui.specs.Texts.{drawn_text}
use Rattle.prodash_tui.proofs.MeasuredTexts.{columns_of_bytes}
use Rattle.prodash_tui.proofs.text.fits.Goals as goal

within : (m n : ℕ) → m ≤ n → true ≡ nat_le m n
within m n h = grind (arith, nat_tests)

pub returns-then-text-columns : goal.returns-then-text-columns
returns-then-text-columns c =
    let columns = text_columns char_columns (drawn_text c.args.text.now) in
    let most : columns ≤ 2 * length c.args.text.now = columns_of_bytes c.args.text.now c.utf8.text in
    within columns c.args.columns (omega arith)
