-- Texts of printable characters that a writer counts as one, and that are pieces of their own.
use Rattle.std.proofs.Common.{◌≡◌, ℕ, ◌+◌, ◌-◌, ◌≤◌, ◌<◌, Bool, true, false, nat_le, List, [], ◌∷◌, ◌++◌, length, map, take, refl, sym, ap, subst, ◌∙◌, append_assoc, append-nil, arith, length-append}
use Rattle.std.proofs.lemmas.Bool.{leb-true, leb-false}
use Rattle.std.proofs.lemmas.List.{take_all, take-append-le}
use Rattle.std.specs.List.{AllByRecursion}
use Rattle.prodash_line.specs.declared.render.line.draw.line_writer.LineWriter.{LineWriter}
use Rattle.prodash_line.specs.declared.render.line.draw.room.Room.{Room}
use Rattle.prodash_line.specs.declared.render.line.draw.room.Room.TheVariants.{Unlimited, Columns, Full}
use Rattle.prodash_line.specs.Lines.{piece, capped}
use Rattle.prodash_line.specs.plumbing.Cutting.{written_in, room_after}
use Rattle.prodash_line.specs.plumbing.Writing.{is_printable, Appends}
use Rattle.prodash_line.proofs.Columns.{printable-append, printable-take, width-printable}
use Rattle.prodash_line.proofs.Cutting.{fits_unlimited, fits_whole, fits_prefix, fits_full}
use Rattle.prodash_line.proofs.LineWriting.{appends_piece, appends_then}
use Rattle.prodash_line.proofs.RowLines.{take-parts}
use Rattle.prodash_line.proofs.Written.{line_bytes-printable}

-- ---- what is written of two texts, one after the other

record Joins (room : Room) (xs ys : List ℕ) : Type 0 where
  written : written_in room (xs ++ ys) ≡ written_in room xs ++ written_in (room_after room xs) ys
  after : room_after room (xs ++ ys) ≡ room_after (room_after room xs) ys

-- both are whole
joins_whole : (left : ℕ) (xs ys : List ℕ) → is_printable xs ≡ true → is_printable ys ≡ true → length xs + length ys ≤ left → Joins (Columns left) xs ys
joins_whole left xs ys h i l =
    let sum : length (xs ++ ys) ≡ length xs + length ys = length-append xs ys in
    let one = fits_whole left (length xs) xs h refl (omega arith) in
    let two = fits_whole (left - length xs) (length ys) ys i refl (omega arith) in
    let both = fits_whole left (length (xs ++ ys)) (xs ++ ys) (printable-append xs ys h i) refl (omega arith) in
    record {
      written = both.written ∙ take_all (length (xs ++ ys)) (xs ++ ys) (omega arith)
          ∙ ap (λ t. xs ++ t) (sym (take_all (length ys) ys (omega arith)) ∙ sym two.written ∙ ap (λ room. written_in room ys) one.after)
          ∙ ap (λ t. t ++ written_in (room_after (Columns left) xs) ys) (sym (take_all (length xs) xs (omega arith)) ∙ sym one.written);
      after = sym both.after ∙ ap Columns (let e : left - length (xs ++ ys) ≡ left - length xs - length ys = omega arith in e) ∙ two.after ∙ ap (λ room. room_after room ys) one.after;
    }

-- the second is cut
joins_second : (left : ℕ) (xs ys : List ℕ) → is_printable xs ≡ true → is_printable ys ≡ true → length xs ≤ left → left < length xs + length ys → Joins (Columns left) xs ys
joins_second left xs ys h i l m =
    let sum : length (xs ++ ys) ≡ length xs + length ys = length-append xs ys in
    let one = fits_whole left (length xs) xs h refl l in
    let two = fits_prefix (left - length xs) (length ys) ys i refl (omega arith) in
    let both = fits_prefix left (length (xs ++ ys)) (xs ++ ys) (printable-append xs ys h i) refl (omega arith) in
    record {
      written = both.written ∙ take-parts left xs ys
          ∙ ap (λ t. t ++ take (left - length xs) ys) (take_all left xs l ∙ sym (take_all (length xs) xs (omega arith)) ∙ sym one.written)
          ∙ ap (λ t. written_in (Columns left) xs ++ t) (sym two.written ∙ ap (λ room. written_in room ys) one.after);
      after = sym both.after ∙ two.after ∙ ap (λ room. room_after room ys) one.after;
    }

-- the first is cut, and nothing is written of the second
joins_first : (left : ℕ) (xs ys : List ℕ) → is_printable xs ≡ true → is_printable ys ≡ true → left < length xs → Joins (Columns left) xs ys
joins_first left xs ys h i l =
    let sum : length (xs ++ ys) ≡ length xs + length ys = length-append xs ys in
    let one = fits_prefix left (length xs) xs h refl l in
    let both = fits_prefix left (length (xs ++ ys)) (xs ++ ys) (printable-append xs ys h i) refl (omega arith) in
    record {
      written = both.written ∙ take-append-le left xs ys (omega arith) ∙ sym one.written
          ∙ sym (append-nil (written_in (Columns left) xs)) ∙ ap (λ room. written_in (Columns left) xs ++ written_in room ys) one.after;
      after = sym both.after ∙ ap (λ room. room_after room ys) one.after;
    }

joins_cut : (one both : Bool) (left : ℕ) (xs ys : List ℕ) → nat_le (length xs) left ≡ one → nat_le (length xs + length ys) left ≡ both
    → is_printable xs ≡ true → is_printable ys ≡ true → Joins (Columns left) xs ys
joins_cut true true left xs ys e f h i = joins_whole left xs ys h i (leb-true (length xs + length ys) left f)
joins_cut true false left xs ys e f h i = joins_second left xs ys h i (leb-true (length xs) left e) (leb-false (length xs + length ys) left f)
joins_cut false both left xs ys e f h i = joins_first left xs ys h i (leb-false (length xs) left e)

joins : (room : Room) (xs ys : List ℕ) → is_printable xs ≡ true → is_printable ys ≡ true → Joins room xs ys
joins Unlimited xs ys h i = record { written = refl; after = refl }
joins (Columns left) xs ys h i = joins_cut (nat_le (length xs) left) (nat_le (length xs + length ys) left) left xs ys refl refl h i
joins (Full left) xs ys h i = record { written = refl; after = refl }

-- ---- a writer after a text

-- how much of it is written
fits_columns : (whole : Bool) (left : ℕ) (text : List ℕ) → nat_le (length text) left ≡ whole → is_printable text ≡ true → (count : ℕ) × (written_in (Columns left) text ≡ take count text)
fits_columns true left text e h = (length text, (fits_whole left (length text) text h refl (leb-true (length text) left e)).written)
fits_columns false left text e h = (left, (fits_prefix left (length text) text h refl (leb-false (length text) left e)).written)

fits : (room : Room) (text : List ℕ) → is_printable text ≡ true → (count : ℕ) × (written_in room text ≡ take count text)
fits Unlimited text h = (length text, (fits_unlimited text (length text) refl).written)
fits (Columns left) text h = fits_columns (nat_le (length text) left) left text refl h
fits (Full left) text h = (0, (fits_full left text).written)

abbrev behind : LineWriter → List ℕ → LineWriter
behind a text = record a { bytes = a.bytes ++ written_in a.room text; width = capped (a.width + length text); room = room_after a.room text }

appends_behind : (a : LineWriter) (text : List ℕ) → is_printable text ≡ true → Appends a (piece text ∷ []) (behind a text)
appends_behind a text h =
    let part = written_in a.room text in
    let some = fits a.room text h in
    let printable : is_printable part ≡ true = ap is_printable some.1 ∙ printable-take some.0 text h in
    appends_piece a (behind a text) (piece text) (ap (λ t. a.bytes ++ t) (sym (line_bytes-printable part printable)))
    (ap (λ n. capped (a.width + n)) (sym (width-printable text h))) refl refl

behind-append : (a : LineWriter) (xs ys : List ℕ) → is_printable xs ≡ true → is_printable ys ≡ true → behind (behind a xs) ys ≡ behind a (xs ++ ys)
behind-append a xs ys h i =
    let both = joins a.room xs ys h i in
    let bytes : (behind (behind a xs) ys).bytes ≡ (behind a (xs ++ ys)).bytes = append_assoc a.bytes (written_in a.room xs) _ ∙ ap (λ t. a.bytes ++ t) (sym both.written) in
    let width : (behind (behind a xs) ys).width ≡ (behind a (xs ++ ys)).width = omega (arith, length-append xs ys) in
    let room = sym both.after in
    λ k. record a { bytes = bytes k; width = width k; room = room k }

-- ---- more than two texts

abbrev pub joined : List ℕ → List (List ℕ) → List ℕ
joined x [] = x
joined x (y ∷ ys) = x ++ joined y ys

abbrev pub ArePrintable : List (List ℕ) → Type 0
ArePrintable texts = AllByRecursion (λ t. is_printable t ≡ true) texts

pub printable-joined : (x : List ℕ) (xs : List (List ℕ)) → is_printable x ≡ true → ArePrintable xs → is_printable (joined x xs) ≡ true
printable-joined x [] h all = h
printable-joined x (y ∷ ys) h all = printable-append x (joined y ys) h (printable-joined y ys all.0 all.1)

appends_texts : (a : LineWriter) (x : List ℕ) (xs : List (List ℕ)) → is_printable x ≡ true → ArePrintable xs → Appends a (piece x ∷ map piece xs) (behind a (joined x xs))
appends_texts a x [] h all = appends_behind a x h
appends_texts a x (y ∷ ys) h all =
    subst (λ (w : LineWriter). Appends a (piece x ∷ map piece (y ∷ ys)) w) (behind-append a x (joined y ys) h (printable-joined y ys all.0 all.1))
    (appends_then (appends_behind a x h) (appends_texts (behind a x) y ys all.0 all.1))

-- one piece with all the texts is as good as a piece for each
pub appends_apart : {a b : LineWriter} (x : List ℕ) (xs : List (List ℕ)) → is_printable x ≡ true → ArePrintable xs → Appends a (piece (joined x xs) ∷ []) b → Appends a (piece x ∷ map piece xs) b
appends_apart {a} {b} x xs h all given = record {
  writes = λ limit before line w.
      let own = given.writes limit before line w in
      let whole = (appends_behind a (joined x xs) (printable-joined x xs h all)).writes limit before line w in
      let apart = (appends_texts a x xs h all).writes limit before line w in
      record {
        bytes = own.bytes ∙ sym whole.bytes ∙ apart.bytes;
        width = own.width ∙ sym whole.width ∙ apart.width;
        limit = own.limit;
        room = own.room ∙ sym whole.room ∙ apart.room;
      };
}
