use Rattle.std.proofs.Common.{◌≡◌, ℕ, List, [], ◌∷◌, ◌++◌, ◌+◌, chars, drop, ap, sym, ◌∙◌, arith}
use Rattle.std.specs.Prelude.{max}
use Rattle.prodash_line.specs.Lines.{piece, columns_of, in_color}
use Rattle.prodash_line.specs.Signs.{spelling}
use Rattle.prodash_line.specs.Frames.{row_start, message_layout}
use Rattle.prodash_line.specs.DrawnLines.{drawn_chars, message_limit_of, layout_of}
use Rattle.prodash_line.specs.MessageLines.{message_line, origin_width, greatest_width}
use Rattle.prodash_line.proofs.MessageLines.{greatest_width-append}
use Rattle.prodash_line.proofs.OverwriteBytes.{left_from, message_more, origin_more}
use Rattle.prodash_line.proofs.render.line.draw.frame.write_messages.Goals as goal

drawn_is : (c : goal.In_ok-push) → chars c.in_ok-origin.origin.text.now ≡ drawn_chars c.args.options.now.defensive c.message-item.result.origin
drawn_is c = c.in_ok-origin.ensures.text ∙ ap (drawn_chars c.args.options.now.defensive) c.as_str-origin.ensures

own_is : (c : goal.In_ok-push) → c.in_ok-origin.origin.width ≡ origin_width c.args.options.now.defensive c.message-item.result.origin
own_is c = c.in_ok-origin.ensures.width ∙ ap (λ (text : List ℕ). columns_of (piece text ∷ [])) (drawn_is c)

greatest_is : (c : goal.In_ok-push) → c.max-greatest.result ≡ max (greatest_width c.loop-message.origin_widths.items) c.in_ok-origin.origin.width
greatest_is c = c.max-greatest.ensures ∙ ap (λ n. max n c.in_ok-origin.origin.width) c.loop-message.invariant.greatest

left_is : (c : goal.In_ok-push) → drop c.loop-message.message-index c.args.messages.now ≡ c.message-item.result ∷ drop (c.loop-message.message-index + 1) c.args.messages.now
left_is c = left_from c.args.messages.now c.loop-message.message-index c.message-item.result (omega arith) c.message-item.is

pub loop-message-preserved : goal.loop-message-preserved
loop-message-preserved c =
    let m = c.message-item.result in
    let others = drop (c.loop-message.message-index + 1) c.args.messages.now in
    let left = drop c.loop-message.message-index c.args.messages.now in
    record {
      bytes = message_more (message_layout (layout_of c.args.options.now)) c.args.options.now c.loop-message.left.now c.loop-message.origin_widths.items c.push.new.self.items c.loop-message.out.bytes _ _ _ m others left
          c.max-greatest.result c.in_ok-origin.origin.width _ _ (own_is c) (greatest_is c) c.in_ok-push.ensures.items c.split_first_width-width.ensures.first c.split_first_width-width.ensures.others
          (c.in_ok-start_row.ensures ∙ ap (λ layout. c.loop-message.out.bytes ++ spelling (row_start layout)) (c.of_messages-layout.ensures ∙ ap message_layout c.layout.ensures))
          (c.in_ok-end_line_over.ensures.bytes (message_limit_of c.args.options.now) c.start_row.new.out (in_color c.args.options.now.colored (message_line c.args.options.now c.max-greatest.result m)) c.in_ok-push_message.ensures.line).bytes (left_is c) c.loop-message.invariant.bytes;
      origins = origin_more c.args.options.now.defensive c.loop-message.origin_widths.items c.push.new.self.items _ m others left c.in_ok-origin.origin.width (own_is c) c.in_ok-push.ensures.items (left_is c) c.loop-message.invariant.origins;
      greatest = greatest_is c ∙ sym (greatest_width-append c.loop-message.origin_widths.items c.in_ok-origin.origin.width) ∙ ap greatest_width (sym c.in_ok-push.ensures.items);
    }
