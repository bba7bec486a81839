use Rattle.std.proofs.Common.{◌≡◌, ℕ, ◌+◌, ◌-◌, ◌<◌, ◌≤◌, Bool, true, false, List, [], ◌∷◌, ◌++◌, length, sym, ap, ◌∙◌, arith}
use Rattle.std.specs.Prelude.{nat_le}
use Rattle.std.proofs.lemmas.Bool.Decides.{nat_tests}
use Rattle.std.proofs.lemmas.List.{length_push}
use Rattle.prodash_line.specs.CellRows.{char_columns, text_columns}
use Rattle.prodash_tui.specs.declared.cell.Cell.{Cell}
use Rattle.prodash_tui.specs.Cells.{cell_of}
use Rattle.prodash_tui.specs.Rows.{splice}
use Rattle.prodash_tui.specs.Texts.{cut, drawn_text, filling, shortened, text_cells, text_cut, text_shortened}
use Rattle.prodash_tui.proofs.SplicedRows.{splice_more}
use Rattle.prodash_tui.proofs.WrittenTexts.{filled_ellipsis, length-text_cells, shortened_long, shortened_none, shortened_whole, whole_text}
use Rattle.prodash_tui.proofs.row.Row.draw_shortened.Goals as goal
use Rattle.prodash_tui.proofs.row.Row.draw_shortened.Goals.{then-x-end-via-then-x-end, then-x-end-via-else-x-end+then-fits}

fitting : (m n : ℕ) (b : Bool) → b ≡ nat_le m n → b ≡ true → m ≤ n
fitting m n b is h = let e : nat_le m n ≡ true = sym is ∙ h in grind (arith, nat_tests)

too_long : (m n : ℕ) (b : Bool) → b ≡ nat_le m n → b ≡ false → n < m
too_long m n b is h = let e : nat_le m n ≡ false = sym is ∙ h in grind (arith, nat_tests)

-- a text that fits, or has no room at all
whole : (c : goal.After-draw_text) → text_cut c.args.style (c.args.end - c.args.x) c.args.text.now ≡ text_shortened c.args.style (c.args.end - c.args.x) c.args.text.now
whole c =
    let style = c.args.style in
    let text = drawn_text c.args.text.now in
    let cells = text_cells char_columns style text in
    let room = c.args.end - c.args.x in
    let size : length cells ≡ text_columns char_columns text = length-text_cells char_columns style text in
    elim c.then-x-end.branch [
      | then-x-end-via-then-x-end w ↦
          let none : room ≡ 0 = omega arith in
          ap (λ (n : ℕ). cut n cells) none ∙ shortened_none style cells (whole_text char_columns style text) ∙ ap (λ (n : ℕ). shortened style n cells) (sym none)
      | then-x-end-via-else-x-end+then-fits w ↦
          let few : text_columns char_columns text ≤ room = fitting (text_columns char_columns text) room w.fits.result w.fits.ensures w.if-fits.true in
          shortened_whole style room cells (omega arith)
    ]

pub returns-then-x-end-clause-cells : goal.returns-then-x-end-clause-cells
returns-then-x-end-clause-cells c = c.draw_text.ensures.cells ∙ ap (λ (new : List Cell). splice c.args.x new c.args.self.now) (whole c)

pub returns-then-x-end-clause-behind : goal.returns-then-x-end-clause-behind
returns-then-x-end-clause-behind c = c.draw_text.ensures.behind ∙ ap (λ (new : List Cell). c.args.x + length new) (whole c)

-- the cells of one that doesn't, and where the ellipsis is
ellipsis_behind : (c : goal.After-fill) → text_shortened c.args.style (c.args.end - c.args.x) c.args.text.now
    ≡ cut (c.args.end - c.args.x - 1) (text_cells char_columns c.args.style (drawn_text c.args.text.now)) ++ cell_of c.args.style 0x2026 ∷ []
ellipsis_behind c =
    let style = c.args.style in
    let text = drawn_text c.args.text.now in
    let cells = text_cells char_columns style text in
    let room = c.args.end - c.args.x in
    let size : length cells ≡ text_columns char_columns text = length-text_cells char_columns style text in
    let many : room < text_columns char_columns text = too_long (text_columns char_columns text) room c.fits.result c.fits.ensures c.if-fits.false in
    sym (shortened_long style room cells (omega arith) (omega arith))

written_before : (c : goal.After-fill) → c.draw_text-behind.result ≡ c.args.x + length (cut (c.args.end - c.args.x - 1) (text_cells char_columns c.args.style (drawn_text c.args.text.now)))
written_before c =
    c.draw_text-behind.ensures.behind
    ∙ ap (λ (n : ℕ). c.args.x + length (cut n (text_cells char_columns c.args.style (drawn_text c.args.text.now))))
    (let e : c.args.end - 1 - c.args.x ≡ c.args.end - c.args.x - 1 = omega arith in e)

one_filled : (c : goal.After-fill) → filling c.args.style (c.draw_text-behind.result + 1 - c.draw_text-behind.result) 0x2026 ≡ cell_of c.args.style 0x2026 ∷ []
one_filled c =
    ap (λ (n : ℕ). filling c.args.style n 0x2026) (let e : c.draw_text-behind.result + 1 - c.draw_text-behind.result ≡ 1 = omega arith in e)
    ∙ filled_ellipsis c.args.style

pub returns-clause-cells : goal.returns-clause-cells
returns-clause-cells c =
    let style = c.args.style in
    let x = c.args.x in
    let before = cut (c.args.end - x - 1) (text_cells char_columns style (drawn_text c.args.text.now)) in
    let last = cell_of style 0x2026 ∷ [] in
    let row : c.draw_text-behind.new.self ≡ splice x before c.args.self.now =
    c.draw_text-behind.ensures.cells
    ∙ ap (λ (n : ℕ). splice x (cut n (text_cells char_columns style (drawn_text c.args.text.now))) c.args.self.now)
    (let e : c.args.end - 1 - x ≡ c.args.end - x - 1 = omega arith in e) in
    c.fill.ensures.cells
    ∙ ap (λ (new : List Cell). splice c.draw_text-behind.result new c.draw_text-behind.new.self) (one_filled c)
    ∙ ap (λ (n : ℕ). splice n last c.draw_text-behind.new.self) (written_before c)
    ∙ ap (splice (x + length before) last) row
    ∙ splice_more x before last c.args.self.now (omega arith)
    ∙ ap (λ (new : List Cell). splice x new c.args.self.now) (sym (ellipsis_behind c))

pub returns-clause-behind : goal.returns-clause-behind
returns-clause-behind c =
    let before = cut (c.args.end - c.args.x - 1) (text_cells char_columns c.args.style (drawn_text c.args.text.now)) in
    let last = cell_of c.args.style 0x2026 ∷ [] in
    c.fill.ensures.behind
    ∙ ap (λ (new : List Cell). c.draw_text-behind.result + length new) (one_filled c)
    ∙ (let e : c.draw_text-behind.result + 1 ≡ c.args.x + length (before ++ last) = omega (arith, written_before c, length_push before (cell_of c.args.style 0x2026)) in e)
    ∙ ap (λ (new : List Cell). c.args.x + length new) (sym (ellipsis_behind c))
