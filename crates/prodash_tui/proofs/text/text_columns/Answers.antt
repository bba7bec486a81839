use Rattle.std.proofs.Common.{◌≡◌, ℕ, ◌+◌, List, [], ◌∷◌, ◌++◌, chars, length, map, rules, sym, ap, ◌∙◌, map-id, arith}
use Rattle.std.specs.Prelude.{min}
use Rattle.std.proofs.lemmas.List.{map-append}
use Rattle.std.proofs.lemmas.Iterator.{YieldsList-from_chars}
use Rattle.std.proofs.lemmas.Iterator.Consumers.{YieldsList-end}
use Rattle.prodash_line.specs.CellRows.{char_columns, text_columns}
use Rattle.prodash_line.specs.DrawnLines.{safe_char}
use Rattle.prodash_tui.specs.Texts.{drawn_text}
use Rattle.prodash_tui.proofs.PrintableTexts.{columns_of_printable}
use Rattle.prodash_tui.proofs.WrittenTexts.{text_columns-last}
use Rattle.prodash_tui.proofs.text.text_columns.Goals as goal

pub returns-then-is_all_printable : goal.returns-then-is_all_printable
returns-then-is_all_printable c =
    let text = c.args.text.now in
    let each : text_columns char_columns (drawn_text text) ≡ length text = columns_of_printable text (search rules) in
    omega arith

pub loop-c-preserved : goal.loop-c-preserved
loop-c-preserved c =
    let text = map safe_char c.loop-c.yielded in
    let next = c.in-Some.c in
    let more : text_columns char_columns (map safe_char (c.loop-c.yielded ++ next ∷ [])) ≡ text_columns char_columns text + min (char_columns (safe_char next)) 2 =
    ap (text_columns char_columns) (map-append safe_char c.loop-c.yielded (next ∷ [])) ∙ text_columns-last char_columns text (safe_char next) in
    let width : c.drawn_columns-more.result ≡ min (char_columns (safe_char next)) 2 = c.drawn_columns-more.ensures.value in
    let so_far : c.loop-c.columns ≡ min (text_columns char_columns text) 65536 = c.loop-c.invariant in
    let all : c.min-columns.result ≡ min (text_columns char_columns (map safe_char (c.loop-c.yielded ++ next ∷ []))) 65536 = omega arith in
    all

pub returns : goal.returns
returns c =
    let text = c.args.text.now in
    let end = YieldsList-end (YieldsList-from_chars text c.utf8.text cc) c.loop-c.yielded _ c.loop-c.yielded_by _ _ c.in-None.is c.next.ensures.steps in
    let all : c.loop-c.yielded ≡ chars text = sym (map-id c.loop-c.yielded) ∙ end.0 in
    c.loop-c.invariant ∙ ap (λ (t : List ℕ). min (text_columns char_columns (map safe_char t)) 65536) all
