use Rattle.std.proofs.Common.{◌≡◌, ℕ, ◌+◌, ◌<◌, refl, ◌∙◌, ap, arith, nat_eq, false}
use Rattle.std.proofs.lemmas.Bool.Decides.{nat_tests}
use Rattle.prodash_tui.specs.Panes.{with_text_at_right}
use Rattle.prodash_tui.specs.MessagePanes.{scroll_keys}
use Rattle.prodash_tui.proofs.DrawnPieces.{shortened_as}
use Rattle.prodash_tui.proofs.draw.messages.draw_hidden.Goals as goal

not_zero : (n : ℕ) → 0 < n → nat_eq n 0 ≡ false
not_zero n h = grind (arith, nat_tests)

pub returns-clause-ok : goal.returns-clause-ok
unfolding lib.Utf8.encode
returns-clause-ok c =
    let drawn = c.draw_text_with_ellipsis.ensures ∙ shortened_as {g = c.args.grid.now} c.offset_x.ensures c.bold.ensures (c.as_str.ensures.value ∙ c.in_ok-text.ensures.ok) refl in
    let some : nat_eq (c.args.skipped + c.args.more) 0 ≡ false = not_zero (c.args.skipped + c.args.more) (omega arith) in
    rw some (c.draw_at_right.ensures ∙ ap (with_text_at_right c.args.area scroll_keys) drawn)
