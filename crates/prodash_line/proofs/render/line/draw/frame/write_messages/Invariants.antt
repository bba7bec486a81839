use Rattle.std.proofs.Common.{◌≡◌, ◌++◌, drop}
use Rattle.prodash_line.specs.MessageLines.{message_lines, widths_of_origins, greatest_width}
use Rattle.prodash_line.specs.plumbing.OverwriteBytes.{lines_bytes}
use Rattle.prodash_line.specs.DrawnLines.{layout_of}
use Rattle.prodash_line.specs.Frames.{message_layout}
use Rattle.prodash_line.proofs.render.line.draw.frame.write_messages.Given as goal

abbrev pub invariant-loop-message : goal.invariant-loop-message
invariant-loop-message l = record {
  bytes : l.out.bytes ++ lines_bytes (message_layout (layout_of l.options)) l.left (message_lines l.options l.origin_widths.items (drop l.message-index l.messages))
      ≡ l.fn.out.bytes ++ lines_bytes (message_layout (layout_of l.options)) l.widths (message_lines l.options l.fn.origin_widths.items l.messages);
  origins : l.origin_widths.items ++ widths_of_origins l.options.defensive (drop l.message-index l.messages) ≡ l.fn.origin_widths.items ++ widths_of_origins l.options.defensive l.messages;
  greatest : l.greatest ≡ greatest_width l.origin_widths.items;
}
