use Rattle.std.proofs.Common.{◌≡◌, ℕ, true, ◌+◌, ◌-◌, ◌≤◌, List, [], ◌∷◌, ◌++◌, length, chars, drop, map, take, sym, ap, ◌∙◌, map-id, arith}
use Rattle.std.proofs.lemmas.List.{length-map, map-append}
use Rattle.std.proofs.lemmas.Iterator.{YieldsList-from_chars}
use Rattle.std.proofs.lemmas.Iterator.Consumers.{YieldsList-end}
use Rattle.prodash_line.specs.CellRows.{char_columns}
use Rattle.prodash_line.specs.DrawnLines.{safe_char}
use Rattle.prodash_line.specs.plumbing.Writing.{is_printable}
use Rattle.prodash_tui.specs.declared.cell.Cell.{Cell}
use Rattle.prodash_tui.specs.declared.row.Pen.{Pen}
use Rattle.prodash_tui.specs.Cells.{cell_of}
use Rattle.prodash_tui.specs.Rows.{front, splice}
use Rattle.prodash_tui.specs.Texts.{drawn_text, text_cells, text_cut}
use Rattle.prodash_tui.specs.plumbing.Writing.{pen_at, after_char, after_text}
use Rattle.prodash_tui.proofs.WrittenTexts.{after_text-last, drawn_row, drawn_at, length-cut}
use Rattle.prodash_tui.proofs.PrintableTexts.{printable_cut}
use Rattle.prodash_tui.proofs.SplicedRows.{length-splice}
use Rattle.prodash_tui.proofs.row.Row.draw_text.Goals as goal

pub loop-c-preserved : goal.loop-c-preserved
loop-c-preserved c =
    let style = c.args.style in
    let self = c.args.self.now in
    let start : List Cell × Pen = (front c.args.x self ++ drop c.args.x self, pen_at c.args.x c.args.end) in
    let next = c.in-Some.c in
    record {
      written = c.push.ensures.step
          ∙ ap (λ (d : ℕ). after_char style (char_columns d) d (c.loop-c.self, c.loop-c.pen)) c.drawn_char.ensures
          ∙ ap (after_char style (char_columns (safe_char next)) (safe_char next)) c.loop-c.invariant.written
          ∙ sym (after_text-last char_columns style (map safe_char c.loop-c.yielded) (safe_char next) start)
          ∙ ap (λ (t : List ℕ). after_text char_columns style t start) (sym (map-append safe_char c.loop-c.yielded (next ∷ [])));
      inside = c.push.ensures.inside;
    }

-- the row and the pen after all characters
all_written : (c : goal.After-heal_behind) → (c.loop-c.self, c.loop-c.pen)
    ≡ after_text char_columns c.args.style (drawn_text c.args.text.now) (front c.args.x c.args.self.now ++ drop c.args.x c.args.self.now, pen_at c.args.x c.args.end)
all_written c =
    let text = c.args.text.now in
    let start : List Cell × Pen = (front c.args.x c.args.self.now ++ drop c.args.x c.args.self.now, pen_at c.args.x c.args.end) in
    let end = YieldsList-end (YieldsList-from_chars text c.utf8.text cc) c.loop-c.yielded _ c.loop-c.yielded_by _ _ c.in-None.is c.next.ensures.steps in
    let all : c.loop-c.yielded ≡ chars text = sym (map-id c.loop-c.yielded) ∙ end.0 in
    c.loop-c.invariant.written ∙ ap (λ (t : List ℕ). after_text char_columns c.args.style (map safe_char t) start) all

-- the cells of printable ASCII characters
printed : (c : goal.After-draw_printable) → map (cell_of c.args.style) (take (c.args.end - c.args.x) c.as_bytes-bytes.result.now) ≡ text_cut c.args.style (c.args.end - c.args.x) c.args.text.now
printed c =
    let room = c.args.end - c.args.x in
    let same = c.as_bytes-bytes.ensures.value in
    let printable : is_printable c.args.text.now ≡ true = sym (ap is_printable same) ∙ (sym c.is_all_printable.ensures ∙ c.if-is_all_printable.true) in
    ap (λ (t : List ℕ). map (cell_of c.args.style) (take room t)) same ∙ printable_cut c.args.style room c.args.text.now printable

pub returns-then-is_all_printable-clause-cells : goal.returns-then-is_all_printable-clause-cells
returns-then-is_all_printable-clause-cells c = c.draw_printable.ensures.cells ∙ ap (λ (new : List Cell). splice c.args.x new c.args.self.now) (printed c)

pub returns-then-is_all_printable-clause-behind : goal.returns-then-is_all_printable-clause-behind
returns-then-is_all_printable-clause-behind c =
    c.draw_printable.ensures.behind
    ∙ ap (λ (n : ℕ). c.args.x + n) (sym (length-map (take (c.args.end - c.args.x) c.as_bytes-bytes.result.now) (cell_of c.args.style)) ∙ ap length (printed c))

pub returns-then-is_all_printable-clause-width : goal.returns-then-is_all_printable-clause-width
returns-then-is_all_printable-clause-width c =
    let new = text_cut c.args.style (c.args.end - c.args.x) c.args.text.now in
    let fits : length new ≤ c.args.end - c.args.x = length-cut (c.args.end - c.args.x) (text_cells char_columns c.args.style (drawn_text c.args.text.now)) in
    ap length (returns-then-is_all_printable-clause-cells c) ∙ length-splice c.args.x new c.args.self.now (omega arith)

pub returns-clause-cells : goal.returns-clause-cells
returns-clause-cells c =
    c.heal_behind.ensures
    ∙ drawn_row char_columns c.args.style (drawn_text c.args.text.now) c.args.x c.args.end c.args.self.now (c.loop-c.self, c.loop-c.pen) c.requires.order c.requires.end (all_written c)

pub returns-clause-behind : goal.returns-clause-behind
returns-clause-behind c =
    drawn_at char_columns c.args.style (drawn_text c.args.text.now) c.args.x c.args.end c.args.self.now (c.loop-c.self, c.loop-c.pen) c.requires.order c.requires.end (all_written c)

pub returns-clause-width : goal.returns-clause-width
returns-clause-width c =
    let new = text_cut c.args.style (c.args.end - c.args.x) c.args.text.now in
    let fits : length new ≤ c.args.end - c.args.x = length-cut (c.args.end - c.args.x) (text_cells char_columns c.args.style (drawn_text c.args.text.now)) in
    ap length (returns-clause-cells c) ∙ length-splice c.args.x new c.args.self.now (omega arith)
