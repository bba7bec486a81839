-- What a line writer has written, piece by piece.
use Rattle.std.proofs.Common.{◌≡◌, ℕ, zero, suc, ◌+◌, ◌-◌, ◌≤◌, ◌<◌, ◌^◌, true, false, List, [], ◌∷◌, ◌++◌, Option, Some, None, length, take, replicate, chars, refl, sym, ap, subst, ◌∙◌, append_assoc, append-nil, arith, length-append}
use Rattle.std.specs.Str.{IsUtf8}
use Rattle.std.proofs.lemmas.List.{length-replicate, length-take}
use Rattle.unicode_width.specs.Width.{str_width}
use Rattle.prodash_line.specs.declared.render.line.draw.line_writer.LineWriter.{LineWriter}
use Rattle.prodash_line.specs.declared.render.line.draw.room.Room.{Room}
use Rattle.prodash_line.specs.declared.render.line.draw.room.Room.TheVariants.{Columns}
use Rattle.prodash_line.specs.declared.render.line.page.style.Style.{Style}
use Rattle.prodash_line.specs.Lines.{Piece, Line, piece, styled, capped, width_of, columns_of, cut, cut_to}
use Rattle.prodash_line.specs.plumbing.Cutting.{written_in, room_after, room_of, room_after_line, left_of}
use Rattle.prodash_line.specs.plumbing.Writing.{is_printable, line_bytes, style_of_length, open_bytes, reset_bytes, Writes, Appends, Begun, SameLine, Counts}
use Rattle.prodash_line.proofs.Written.{line_bytes-append, line_bytes-text, line_bytes-printable, line_bytes-joined, styled_bytes}
use Rattle.prodash_line.proofs.Columns.{columns_of-last, printable-take, printable-spaces, width-printable, width-indented}
use Rattle.prodash_line.proofs.Cutting.{cut-last, after-last, cut-nil, columns-cut_to}

-- ---- one call

-- one piece more
pub appends_piece : (old new : LineWriter) (p : Piece) → new.bytes ≡ old.bytes ++ line_bytes (styled p.style (written_in old.room p.text) ∷ [])
    → new.width ≡ capped (old.width + width_of p) → new.limit ≡ old.limit → new.room ≡ room_after old.room p.text → Appends old (p ∷ []) new
appends_piece old new p b w l r = record {
  writes = λ limit before line h.
      let own = line_bytes (cut limit line) in
      let last = λ (room : Room). line_bytes (styled p.style (written_in room p.text) ∷ []) in
      record {
        bytes = b ∙ ap (λ bs. bs ++ last old.room) h.bytes ∙ append_assoc before own (last old.room)
            ∙ ap (λ room. before ++ (own ++ last room)) h.room ∙ ap (λ bs. before ++ bs) (sym (cut-last limit line p));
        width = w ∙ ap (λ n. capped (n + width_of p)) h.width ∙ sym (columns_of-last line p);
        limit = l ∙ h.limit;
        room = r ∙ ap (λ room. room_after room p.text) h.room ∙ sym (after-last (room_of limit) line p);
      };
}

pub begins : (limit : Option ℕ) (old new : LineWriter) → new.bytes ≡ old.bytes → new.width ≡ 0 → new.limit ≡ limit → new.room ≡ room_of limit → Begun limit old [] new
begins limit old new b w l r = record {
  writes = record {
    bytes = b ∙ sym (append-nil old.bytes) ∙ ap (λ bs. old.bytes ++ bs) (sym (cut-nil limit));
    width = w;
    limit = l;
    room = r;
  };
}

-- no piece changes nothing
pub appends_no_piece : (w : LineWriter) → Appends w [] w
appends_no_piece w = record { writes = λ limit before line h. subst (λ (l : Line). Writes limit before l w) (sym (append-nil line)) h }

pub same_line : (w : LineWriter) → SameLine w w
same_line w = record { width = refl; limit = refl; room = refl }

pub same_then : {a b c : LineWriter} → SameLine a b → SameLine b c → SameLine a c
same_then h i = record { width = i.width ∙ h.width; limit = i.limit ∙ h.limit; room = i.room ∙ h.room }

-- pieces follow a line to which nothing was counted since
pub appends_since : {old kept new : LineWriter} {pieces : Line} → kept.bytes ≡ old.bytes → SameLine old kept → Appends kept pieces new → Appends old pieces new
appends_since b s h = record {
  writes = λ limit before line w. h.writes limit before line (record { bytes = b ∙ w.bytes; width = s.width ∙ w.width; limit = s.limit ∙ w.limit; room = s.room ∙ w.room });
}

-- a text behind spaces, of which this many spaces and this prefix are written
pub appends_indented : (old new : LineWriter) (style : Option Style) (n spaces size width : ℕ) (text prefix o spaced w : List ℕ) → IsUtf8 prefix → n ≤ 65535
    → replicate spaces 32 ++ chars prefix ≡ written_in old.room (replicate n 32 ++ chars text)
    → size ≡ spaces + length prefix → width ≡ columns_of (piece (chars text) ∷ []) → o ≡ old.bytes ++ open_bytes (style_of_length style size)
    → spaced ≡ o ++ replicate spaces 32 → w ≡ spaced ++ prefix → new.bytes ≡ w ++ reset_bytes (style_of_length style size)
    → new.width ≡ capped (capped (old.width + n) + width) → new.limit ≡ old.limit → new.room ≡ room_after old.room (replicate n 32 ++ chars text)
    → Appends old (styled style (replicate n 32 ++ chars text) ∷ []) new
appends_indented old new style n spaces size width text prefix o spaced w u fits is sized own eo s ew en columns limit room =
    let blanks : List ℕ = replicate spaces 32 in
    let whole : line_bytes (piece (blanks ++ chars prefix) ∷ []) ≡ blanks ++ prefix =
    sym (line_bytes-joined blanks (chars prefix)) ∙ line_bytes-append (piece blanks ∷ []) (piece (chars prefix) ∷ [])
    ∙ ap (λ t. t ++ line_bytes (piece (chars prefix) ∷ [])) (line_bytes-printable blanks (printable-spaces spaces))
    ∙ ap (λ t. blanks ++ t) (line_bytes-text prefix u) in
    let long : size ≡ length (blanks ++ prefix) = omega (arith, sized, length-append blanks prefix, length-replicate {A = ℕ} spaces 32) in
    let wide : str_width false (replicate n 32 ++ chars text) ≡ n + str_width false (chars text) = width-indented n (chars text) in
    appends_piece old new (styled style (replicate n 32 ++ chars text))
    (styled_bytes old.bytes o w new.bytes style (blanks ++ chars prefix) (blanks ++ prefix) size whole long eo (ew ∙ ap (λ t. t ++ prefix) s ∙ append_assoc o blanks prefix) en
    ∙ ap (λ t. old.bytes ++ line_bytes (styled style t ∷ [])) is)
    (omega (arith, columns, own)) limit room

-- a text of which this prefix is written
pub appends_text : (old new : LineWriter) (style : Option Style) (width : ℕ) (text prefix o w : List ℕ) → IsUtf8 prefix
    → chars prefix ≡ written_in old.room (chars text) → width ≡ columns_of (piece (chars text) ∷ [])
    → o ≡ old.bytes ++ open_bytes (style_of_length style (length prefix)) → w ≡ o ++ prefix → new.bytes ≡ w ++ reset_bytes (style_of_length style (length prefix))
    → new.width ≡ capped (old.width + width) → new.limit ≡ old.limit → new.room ≡ room_after old.room (chars text)
    → Appends old (styled style (chars text) ∷ []) new
appends_text old new style width text prefix o w u is own eo ew en columns limit room =
    appends_piece old new (styled style (chars text))
    (styled_bytes old.bytes o w new.bytes style (chars prefix) prefix (length prefix) (line_bytes-text prefix u) refl eo ew en
    ∙ ap (λ t. old.bytes ++ line_bytes (styled style t ∷ [])) is)
    (omega (arith, columns, own)) limit room

-- a text of printable characters that has been counted, between what begins a style and what ends it
pub appends_counted : {a b o w d : LineWriter} (style : Option Style) (text : List ℕ) (n count : ℕ) → is_printable text ≡ true → length text ≡ n → Counts a n count b
    → o.bytes ≡ b.bytes ++ open_bytes (style_of_length style count) → SameLine b o
    → w.bytes ≡ o.bytes ++ take count text → SameLine o w
    → d.bytes ≡ w.bytes ++ reset_bytes (style_of_length style count) → SameLine w d → Appends a (styled style text ∷ []) d
appends_counted {a} {b} {o} {w} {d} style text n count p size h eo so ew sw ed sd =
    let part = take count text in
    let fits = h.fits text p size in
    let within = h.within in
    let long : count ≡ length part = omega (arith, length-take count text) in
    let wide : str_width false text ≡ length text = width-printable text p in
    appends_piece a d (styled style text)
    (styled_bytes a.bytes o.bytes w.bytes d.bytes style part part count (line_bytes-printable part (printable-take count text p)) long
    (eo ∙ ap (λ t. t ++ open_bytes (style_of_length style count)) h.bytes) ew ed
    ∙ ap (λ t. a.bytes ++ line_bytes (styled style t ∷ [])) (sym fits.written))
    (sd.width ∙ sw.width ∙ so.width ∙ h.width ∙ ap (λ k. capped (a.width + k)) (sym (wide ∙ size)))
    (sd.limit ∙ sw.limit ∙ so.limit ∙ h.limit)
    (sd.room ∙ sw.room ∙ so.room ∙ fits.after)

pub take_copies : (k n c : ℕ) → k ≤ n → take k (replicate n c) ≡ replicate k c
take_copies zero n c l = refl
take_copies (suc k) zero c l = absurd (omega arith)
take_copies (suc k) (suc n) c l = ap (λ t. c ∷ t) (take_copies k n c (omega arith))

-- the same without a style
pub appends_printable : {a b w : LineWriter} (text : List ℕ) (n count : ℕ) → is_printable text ≡ true → length text ≡ n → Counts a n count b
    → w.bytes ≡ b.bytes ++ take count text → SameLine b w → Appends a (piece text ∷ []) w
appends_printable {a} {b} {w} text n count p size h ew sw =
    appends_counted None text n count p size h (sym (append-nil b.bytes)) (same_line b) ew sw (sym (append-nil w.bytes)) (same_line w)

-- ---- one call after another

pub appends_then : {a b c : LineWriter} {xs ys : Line} → Appends a xs b → Appends b ys c → Appends a (xs ++ ys) c
appends_then {a} {b} {c} {xs} {ys} h i = record {
  writes = λ limit before line w. subst (λ (l : Line). Writes limit before l c) (append_assoc line xs ys) (i.writes limit before (line ++ xs) (h.writes limit before line w));
}

pub begun_then : {limit : Option ℕ} {a b c : LineWriter} {xs ys : Line} → Begun limit a xs b → Appends b ys c → Begun limit a (xs ++ ys) c
begun_then {limit} {a} {b} {c} {xs} {ys} h i = record { writes = i.writes limit a.bytes xs h.writes }

-- the same pieces, told in another way
pub appends_as : {a b : LineWriter} {xs ys : Line} → xs ≡ ys → Appends a xs b → Appends a ys b
appends_as {a} {b} e h = subst (λ (l : Line). Appends a l b) e h

pub begun_as : {limit : Option ℕ} {a b : LineWriter} {xs ys : Line} → xs ≡ ys → Begun limit a xs b → Begun limit a ys b
begun_as {limit} {a} {b} e h = subst (λ (l : Line). Begun limit a l b) e h

pub begun_to : {a b : LineWriter} {xs : Line} (limit to : Option ℕ) → limit ≡ to → Begun limit a xs b → Begun to a xs b
begun_to {a} {b} {xs} limit to e h = subst (λ (l : Option ℕ). Begun l a xs b) e h

-- ---- the width of a line that is cut

pub width_limited : {limit : Option ℕ} {before w : LineWriter} (line : Line) (columns : ℕ) → Begun limit before line w → w.limit ≡ Some columns → columns < 2 ^ 16
    → columns - left_of w.room ≡ columns_of (cut limit line)
width_limited {limit} {before} {w} line columns h l fits =
    let is : limit ≡ Some columns = sym h.writes.limit ∙ l in
    let room : left_of w.room ≡ left_of (room_after_line (Columns columns) line) = ap left_of (h.writes.room ∙ ap (λ x. room_after_line (room_of x) line) is) in
    let sum : columns - left_of w.room ≡ columns_of (cut_to columns line) = omega (arith, columns-cut_to columns line) in
    sum ∙ ap (λ x. columns_of (cut x line)) (sym is)

pub width_unlimited : {limit : Option ℕ} {before w : LineWriter} (line : Line) → Begun limit before line w → w.limit ≡ None → w.width ≡ columns_of (cut limit line)
width_unlimited {limit} {before} {w} line h l = h.writes.width ∙ ap (λ x. columns_of (cut x line)) (sym (sym h.writes.limit ∙ l))
