use Rattle.std.proofs.Common.{◌≡◌, ℕ, ◌-◌, ◌≤◌, List, ◌++◌, length, drop, replicate, sym, ap, ◌∙◌, arith}
use Rattle.std.proofs.lemmas.List.{replicate-append-replicate}
use Rattle.prodash_line.specs.CellRows.{char_columns}
use Rattle.prodash_line.specs.DrawnLines.{safe_char}
use Rattle.prodash_tui.specs.declared.cell.Cell.{Cell}
use Rattle.prodash_tui.specs.declared.row.Pen.{Pen}
use Rattle.prodash_tui.specs.Rows.{front}
use Rattle.prodash_tui.specs.Texts.{filling, text_cells}
use Rattle.prodash_tui.specs.plumbing.Writing.{pen_at, after_char, after_text}
use Rattle.prodash_tui.proofs.SplicedRows.{length-splice}
use Rattle.prodash_tui.proofs.WrittenTexts.{after_char-two, after_text-last, drawn_at, drawn_row, length-cut}
use Rattle.prodash_tui.proofs.row.Row.fill.Goals as goal

pub loop-preserved : goal.loop-preserved
loop-preserved c =
    let style = c.args.style in
    let self = c.args.self.now in
    let d = c.drawn_char-c.result in
    let start : List Cell × Pen = (front c.args.x self ++ drop c.args.x self, pen_at c.args.x c.args.end) in
    record {
      written = c.push_columns.ensures.step
          ∙ ap (λ (n : ℕ). after_char style n d (c.loop.self, c.loop.pen)) c.columns_of-columns.ensures.value
          ∙ after_char-two style (char_columns d) d (c.loop.self, c.loop.pen)
          ∙ ap (after_char style (char_columns d) d) c.loop.invariant.written
          ∙ sym (after_text-last char_columns style (replicate c.loop.counter d) d start)
          ∙ ap (λ (t : List ℕ). after_text char_columns style t start) (replicate-append-replicate c.loop.counter 1 d);
      inside = c.push_columns.ensures.inside;
    }

-- the row and the pen after all characters
all_filled : (c : goal.After-heal_behind) → (c.loop.self, c.loop.pen)
    ≡ after_text char_columns c.args.style (replicate (c.args.end - c.args.x) (safe_char c.args.c)) (front c.args.x c.args.self.now ++ drop c.args.x c.args.self.now, pen_at c.args.x c.args.end)
all_filled c =
    let style = c.args.style in
    let room = c.args.end - c.args.x in
    let start : List Cell × Pen = (front c.args.x c.args.self.now ++ drop c.args.x c.args.self.now, pen_at c.args.x c.args.end) in
    let all : c.loop.counter ≡ room = omega arith in
    c.loop.invariant.written
    ∙ ap (λ (n : ℕ). after_text char_columns style (replicate n c.drawn_char-c.result) start) all
    ∙ ap (λ (d : ℕ). after_text char_columns style (replicate room d) start) c.drawn_char-c.ensures

pub returns-clause-cells : goal.returns-clause-cells
returns-clause-cells c =
    c.heal_behind.ensures
    ∙ drawn_row char_columns c.args.style (replicate (c.args.end - c.args.x) (safe_char c.args.c)) c.args.x c.args.end c.args.self.now (c.loop.self, c.loop.pen) c.requires.order c.requires.end (all_filled c)

pub returns-clause-behind : goal.returns-clause-behind
returns-clause-behind c =
    drawn_at char_columns c.args.style (replicate (c.args.end - c.args.x) (safe_char c.args.c)) c.args.x c.args.end c.args.self.now (c.loop.self, c.loop.pen) c.requires.order c.requires.end (all_filled c)

pub returns-clause-width : goal.returns-clause-width
returns-clause-width c =
    let room = c.args.end - c.args.x in
    let fits : length (filling c.args.style room c.args.c) ≤ room = length-cut room (text_cells char_columns c.args.style (replicate room (safe_char c.args.c))) in
    ap length (returns-clause-cells c) ∙ length-splice c.args.x (filling c.args.style room c.args.c) c.args.self.now (omega arith)
