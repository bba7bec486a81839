-- Lines that are copied from what is left of an earlier frame.
use Rattle.std.proofs.Common.{◌≡◌, ◌≤◌, ℕ, Bool, true, zero, suc, ◌+◌, ◌-◌, List, [], ◌∷◌, ◌++◌, length, take, drop, length-drop, drop-drop, refl, sym, ap, subst, ◌∙◌, arith, append_assoc, Result, Ok, Err, Option, Some, None}
use Rattle.std.specs.Prelude.{OnOk, slice_get}
use Rattle.std.proofs.lemmas.List.Elements.{All-drop, All-get_or, All-nil}
use Rattle.std.proofs.lemmas.Option.{get_or_from_slice_get, slice_get_within}
use Rattle.prodash_base.specs.FrameTrackers.{FrameTracker}
use Rattle.prodash_base.specs.Rows.{PathRow}
use Rattle.prodash_base.specs.declared.progress.Row.{Row}
use Rattle.prodash_base.specs.declared.unit.display.Throughput.{Throughput}
use Rattle.prodash_line.specs.declared.render.line.draw.action.Drawn.{Drawn}
use Rattle.prodash_line.specs.declared.render.line.draw.input.Options.{Options}
use Rattle.prodash_line.specs.declared.render.line.draw.latest_rows.KeptLines.{KeptLines}
use Rattle.prodash_line.specs.declared.render.line.draw.latest_rows.LineSize.{LineSize}
use Rattle.prodash_line.specs.declared.render.line.draw.latest_rows.RowLine.{RowLine}
use Rattle.prodash_line.specs.declared.render.line.draw.line_copier.LineCopier.{LineCopier}
use Rattle.prodash_line.specs.Lines.{columns_of}
use Rattle.prodash_line.specs.ProgressRows.{DrawnRow}
use Rattle.prodash_line.specs.plumbing.KeptLines.{AreAmong, IsAmong, IsPlaced, ShowsNone, drawn_in, own_bytes, untimed_line}
use Rattle.prodash_line.specs.plumbing.LineCopying.{Begins, FindsLine, HasLeft, IsLeft, IsLineOf, Skips, Writes}
use Rattle.prodash_line.specs.plumbing.OverwriteBytes.{row_end}
use Rattle.prodash_line.specs.plumbing.WrittenRows.{KeepsRun, KeepsRunIn, left_at}
use Rattle.prodash_line.proofs.KeptLines.{at_place, run_bytes, same_size}
use Rattle.prodash_line.proofs.WrittenRows.{starts}

-- all is left of a frame that has ended
pub left_whole : (options : Options) (midpoint : ℕ) (rows : List PathRow) (lines : List RowLine) (bytes : List ℕ) → AreAmong options midpoint rows bytes lines
    → IsLeft options midpoint rows lines bytes (length bytes)
left_whole options midpoint rows lines bytes a = record {
  whole = bytes;
  ends = refl;
  left = ap (λ (n : ℕ). drop n bytes) (let zero : 0 ≡ length bytes - length bytes = omega arith in zero);
  lines = a;
}

-- and nothing of none
pub left_none : (options : Options) (midpoint : ℕ) (rows : List PathRow) → IsLeft options midpoint rows [] [] 0
left_none options midpoint rows = record { whole = []; ends = refl; left = refl; lines = All-nil (IsAmong options midpoint rows []) }

-- what is left is not longer than the frame
pub left_within : (options : Options) (midpoint : ℕ) (rows : List PathRow) (lines : List RowLine) (bytes : List ℕ) (end : ℕ) → IsLeft options midpoint rows lines bytes end → length bytes ≤ end
left_within options midpoint rows lines bytes end h =
    let long : length bytes ≡ length h.whole - (end - length bytes) = ap length h.left ∙ length-drop (end - length bytes) h.whole in
    let ends = h.ends in
    omega (arith, long, ends)

-- fewer bytes are left
pub left_after : (options : Options) (midpoint : ℕ) (rows : List PathRow) (lines : List RowLine) (bytes : List ℕ) (end n : ℕ) → n ≤ length bytes → IsLeft options midpoint rows lines bytes end
    → IsLeft options midpoint rows lines (drop n bytes) end
left_after options midpoint rows lines bytes end n l h =
    let within = left_within options midpoint rows lines bytes end h in
    let long : length (drop n bytes) ≡ length bytes - n = length-drop n bytes in
    let gone : end - length bytes + n ≡ end - length (drop n bytes) = omega (arith, within, long, l) in
    record {
      whole = h.whole;
      ends = h.ends;
      left = ap (drop n) h.left ∙ drop-drop n (end - length bytes) h.whole ∙ ap (λ (k : ℕ). drop k h.whole) gone;
      lines = h.lines;
    }

-- fewer lines are left
pub left_below : (options : Options) (midpoint : ℕ) (rows : List PathRow) (lines : List RowLine) (bytes : List ℕ) (end n : ℕ) → IsLeft options midpoint rows lines bytes end
    → IsLeft options midpoint rows (drop n lines) bytes end
left_below options midpoint rows lines bytes end n h = record {
  whole = h.whole;
  ends = h.ends;
  left = h.left;
  lines = All-drop (IsAmong options midpoint rows h.whole) n lines h.lines;
}

-- the first bytes that are left are a run of the frame
pub left_run : (options : Options) (midpoint : ℕ) (rows : List PathRow) (lines : List RowLine) (bytes : List ℕ) (end start next : ℕ) (h : IsLeft options midpoint rows lines bytes end)
    → start ≡ end - length bytes → take (next - start) bytes ≡ run_bytes h.whole start next
left_run options midpoint rows lines bytes end start next h gone = ap (take (next - start)) (h.left ∙ ap (λ (k : ℕ). drop k h.whole) (sym gone))

-- a line that begins where what is left does
pub line_left : (options : Options) (midpoint : ℕ) (rows : List PathRow) (lines : List RowLine) (bytes : List ℕ) (end start : ℕ) (row : PathRow) (size : LineSize) (h : IsLeft options midpoint rows lines bytes end)
    → start ≡ end - length bytes → IsPlaced options midpoint row h.whole start size → IsLineOf options midpoint (row, None) bytes size
line_left options midpoint rows lines bytes end start row size h gone p = record {
  size = p.size;
  bytes = ap (take size.length) (h.left ∙ ap (λ (k : ℕ). drop k h.whole) (sym gone))
      ∙ at_place start size.length (own_bytes options (untimed_line options midpoint (row, None))) h.whole p.place p.size.bytes;
}

-- and with a throughput that isn't shown
pub line_with : (options : Options) (midpoint : ℕ) (row : PathRow) (throughput : Option Throughput) (bytes : List ℕ) (size : LineSize) → ShowsNone row throughput
    → IsLineOf options midpoint (row, None) bytes size → IsLineOf options midpoint (row, throughput) bytes size
line_with options midpoint row throughput bytes size s h = record {
  size = same_size options midpoint (row, None) (row, throughput) size (sym (s.line options midpoint)) (sym (s.midpoint options.defensive)) h.size;
  bytes = h.bytes ∙ ap (own_bytes options) (sym (s.line options midpoint));
}

-- what stands at an index of what is left
slice_get-drop : {X : Type 0} (n : ℕ) (xs : List X) (i : ℕ) → slice_get (drop n xs) i ≡ slice_get xs (n + i)
slice_get-drop zero xs i = ap (slice_get xs) (let same : i ≡ 0 + i = omega arith in same)
slice_get-drop (suc n) [] i = refl
slice_get-drop (suc n) (x ∷ xs) i = slice_get-drop n xs i ∙ ap (slice_get (x ∷ xs)) (let next : suc (n + i) ≡ suc n + i = omega arith in next)

-- stands in the frame
pub byte_left : (options : Options) (midpoint : ℕ) (rows : List PathRow) (lines : List RowLine) (bytes : List ℕ) (end i byte : ℕ) (h : IsLeft options midpoint rows lines bytes end)
    → end - length bytes ≤ i → slice_get bytes (i - (end - length bytes)) ≡ Some byte → slice_get h.whole i ≡ Some byte
byte_left options midpoint rows lines bytes end i byte h l found =
    let gone = end - length bytes in
    let index : gone + (i - gone) ≡ i = omega (arith, l) in
    ap (slice_get h.whole) (sym index) ∙ sym (slice_get-drop gone h.whole (i - gone)) ∙ ap (λ (t : List ℕ). slice_get t (i - gone)) (sym h.left) ∙ found

-- the first line that is left is among the lines of the frame
pub first_left : (options : Options) (midpoint : ℕ) (rows : List PathRow) (lines : List RowLine) (bytes : List ℕ) (end : ℕ) (line : RowLine) (h : IsLeft options midpoint rows lines bytes end)
    → slice_get lines 0 ≡ Some line → IsAmong options midpoint rows h.whole line
first_left options midpoint rows lines bytes end line h found =
    subst (IsAmong options midpoint rows h.whole) (get_or_from_slice_get lines 0 line line found) (All-get_or (IsAmong options midpoint rows h.whole) lines 0 line (slice_get_within lines 0 line found) h.lines)

-- the first bytes that are left are written, then others
pub skip_written : {E : Type 0} (old on new : LineCopier) (result : Result (Unit {0}) E) (n : ℕ) (end : List ℕ) (bytes : List ℕ × List ℕ) (lines : List RowLine × List RowLine) → n ≤ length old.bytes.1
    → ◌≡◌ {A = List ℕ × List ℕ} bytes (old.bytes.0 ++ take n old.bytes.1, drop n old.bytes.1) → ◌≡◌ {A = List RowLine × List RowLine} lines (old.lines.0, drop 1 old.lines.1)
    → Skips (record old { bytes = bytes; lines = lines }) on → OnOk result (Writes on end new) → OnOk result (Writes old (take n old.bytes.1 ++ end) new)
skip_written old on new (Err e) n end bytes lines within wrote gave skips writes = writes
skip_written old on new (Ok done) n end bytes lines within wrote gave skips writes =
    let between : LineCopier = record old { bytes = bytes; lines = lines } in
    record {
      left = λ options midpoint h. writes.left options midpoint (skips.left options midpoint
          (subst (λ (bs : List ℕ × List ℕ). IsLeft options midpoint (drawn_in old.before) lines.1 bs.1 old.end) (sym wrote)
          (subst (λ (ls : List RowLine × List RowLine). IsLeft options midpoint (drawn_in old.before) ls.1 (drop n old.bytes.1) old.end) (sym gave)
          (left_below options midpoint (drawn_in old.before) old.lines.1 (drop n old.bytes.1) old.end 1
          (left_after options midpoint (drawn_in old.before) old.lines.1 old.bytes.1 old.end n within h)))));
      bytes = writes.bytes ∙ ap (λ (t : List ℕ). t ++ end) (skips.bytes ∙ ap (λ (bs : List ℕ × List ℕ). bs.0) wrote) ∙ append_assoc old.bytes.0 (take n old.bytes.1) end;
      lines = writes.lines ∙ skips.lines ∙ ap (λ (ls : List RowLine × List RowLine). ls.0) gave;
    }

-- nothing is copied of a run that has just begun
pub run_skipped : (tracker : Option FrameTracker) (levels : Option (ℕ × ℕ)) (rows : List Row) (at : ℕ × List ℕ) (old new : LineCopier) (drawn : Drawn) (bytes : List ℕ) → Skips old new → bytes ≡ old.bytes.0
    → KeepsRunIn tracker levels rows old (left_at rows tracker at old.bytes.0 drawn) (left_at rows tracker at bytes drawn) new.lines.0
run_skipped tracker levels rows at old new drawn bytes skips same = λ scene untimed filter left.
    let first = left_at rows tracker at old.bytes.0 drawn in
    subst (λ (t : List ℕ). KeepsRun scene rows first (left_at rows tracker at t drawn) old.lines.0 new.lines.0) (sym same)
    (subst (λ (ls : List RowLine). KeepsRun scene rows first first old.lines.0 ls) (sym skips.lines)
    (record { written = starts scene first; lines = λ among. among }))

-- a frame begins after one whose lines are kept
pub begins_over : (first on new : LineCopier) (kept : KeptLines) (alike : Bool) (bytes : List ℕ) → alike ≡ true
    → ◌≡◌ {A = List RowLine × List RowLine} first.lines ([], kept.lines.items) → ◌≡◌ {A = List ℕ × List ℕ} first.bytes ([], kept.bytes) → first.end ≡ length kept.bytes
    → Skips first on → Writes on bytes new → Begins first.before kept alike bytes new
begins_over first on new kept alike bytes are lines own ends skips writes = record {
  left = λ options midpoint among. writes.left options midpoint (skips.left options midpoint
      (subst (λ (ls : List RowLine × List RowLine). IsLeft options midpoint (drawn_in first.before) ls.1 first.bytes.1 first.end) (sym lines)
      (subst (λ (bs : List ℕ × List ℕ). IsLeft options midpoint (drawn_in first.before) kept.lines.items bs.1 first.end) (sym own)
      (subst (IsLeft options midpoint (drawn_in first.before) kept.lines.items kept.bytes) (sym ends)
      (left_whole options midpoint (drawn_in first.before) kept.lines.items kept.bytes (among are))))));
  bytes = writes.bytes ∙ ap (λ (t : List ℕ). t ++ bytes) (skips.bytes ∙ ap (λ (bs : List ℕ × List ℕ). bs.0) own);
  lines = writes.lines ∙ skips.lines ∙ ap (λ (ls : List RowLine × List RowLine). ls.0) lines;
}

-- the line that was found is copied
pub copied : (old on new : LineCopier) (options : Options) (midpoint : ℕ) (drawn : DrawnRow) (size : LineSize) (width : ℕ) → HasLeft options midpoint old → Skips old on → FindsLine on drawn size
    → Writes on (take size.length on.bytes.1 ++ row_end (width - size.width)) new
    → Writes old (own_bytes options (untimed_line options midpoint drawn) ++ row_end (width - columns_of (untimed_line options midpoint drawn))) new
copied old on new options midpoint drawn size width h skips found writes =
    let line = found options midpoint (skips.left options midpoint h) in
    record {
      left = λ o m h. writes.left o m (skips.left o m h);
      bytes = writes.bytes ∙ (λ i. skips.bytes i ++ (line.bytes i ++ row_end (width - line.size.width i)));
      lines = writes.lines ∙ skips.lines;
    }

-- the line that was composed is written
pub composed : (old on new : LineCopier) (bytes line : List ℕ) → Skips old on → bytes ≡ line → Writes on bytes new → Writes old line new
composed old on new bytes line skips is writes = record {
  left = λ o m h. writes.left o m (skips.left o m h);
  bytes = writes.bytes ∙ (λ i. skips.bytes i ++ is i);
  lines = writes.lines ∙ skips.lines;
}
