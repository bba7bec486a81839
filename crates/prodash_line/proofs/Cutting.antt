-- Lines that are cut, piece by piece.
use Rattle.std.proofs.Common.{◌≡◌, ℕ, ◌+◌, ◌-◌, ◌<◌, ◌≤◌, Bool, true, false, cond, nat_le, List, [], ◌∷◌, ◌++◌, length, take, refl, sym, ap, ◌∙◌, arith, append_assoc, append-nil, Option, Some, None}
use Rattle.std.specs.Prelude.{sum_by, min, replicate}
use Rattle.std.proofs.lemmas.Bool.{leb-true, leb-false, le-leb, lt-leb}
use Rattle.std.proofs.lemmas.List.{take_all}
use Rattle.std.proofs.lemmas.List.Sums.{sum_by-cons}
use Rattle.unicode_width.specs.Width.{str_width}
use Rattle.prodash_line.specs.declared.render.line.draw.room.Room.{Room}
use Rattle.prodash_line.specs.declared.render.line.draw.room.Room.TheVariants.{Unlimited, Columns, Full}
use Rattle.prodash_line.specs.Lines.{Piece, Line, styled, width_of, columns_of, longest_prefix, cut_to, cut}
use Rattle.prodash_line.specs.plumbing.Cutting.{written_in, room_after, room_of, room_after_line, left_of, Fits}
use Rattle.prodash_line.specs.plumbing.Writing.{is_printable, line_bytes}
use Rattle.prodash_line.proofs.Columns.{width-printable, width-indented, width-spaces}
use Rattle.prodash_line.proofs.Written.{line_bytes-nil, line_bytes-append}
use Rattle.prodash_line.proofs.Prefixes.{prefix_within, prefix-printable, prefix-width, prefix-indented, prefix-spaces}

-- ---- one text

pub fits_unlimited : (text : List ℕ) (count : ℕ) → length text ≡ count → Fits Unlimited text count Unlimited
fits_unlimited text count e = record { written = sym (take_all count text (omega arith)); after = refl }

pub fits_full : (left : ℕ) (text : List ℕ) → Fits (Full left) text 0 (Full left)
fits_full left text = record { written = refl; after = refl }

pub fits_whole : (left count : ℕ) (text : List ℕ) → is_printable text ≡ true → length text ≡ count → count ≤ left → Fits (Columns left) text count (Columns (left - count))
fits_whole left count text h e l =
    let own : str_width false text ≡ count = width-printable text h ∙ e in
    let test : nat_le (str_width false text) left ≡ true = le-leb (str_width false text) left (omega arith) in
    record {
      written = ap (λ b. cond b text (longest_prefix left text)) test ∙ sym (take_all count text (omega arith));
      after = ap (λ n. Columns (left - n)) (sym own) ∙ ap (λ b. cond b (Columns (left - str_width false text)) (Full (left - str_width false (longest_prefix left text)))) (sym test);
    }

pub fits_prefix : (left count : ℕ) (text : List ℕ) → is_printable text ≡ true → length text ≡ count → left < count → Fits (Columns left) text left (Full 0)
fits_prefix left count text h e l =
    let own : str_width false text ≡ count = width-printable text h ∙ e in
    let test : nat_le (str_width false text) left ≡ false = lt-leb (str_width false text) left (omega arith) in
    let taken : longest_prefix left text ≡ take left text = prefix-printable left text h ∙ ap (λ n. take n text) (let same : min left (length text) ≡ left = omega arith in same) in
    let size : left - str_width false (longest_prefix left text) ≡ 0 = omega (arith, prefix-width left text h (omega arith)) in
    record {
      written = ap (λ b. cond b text (longest_prefix left text)) test ∙ taken;
      after = ap Full (sym size) ∙ ap (λ b. cond b (Columns (left - str_width false text)) (Full (left - str_width false (longest_prefix left text)))) (sym test);
    }

-- what is written of a text that fits or doesn't
pub whole_written : (left : ℕ) (text : List ℕ) → str_width false text ≤ left → written_in (Columns left) text ≡ text
whole_written left text l = ap (λ b. cond b text (longest_prefix left text)) (le-leb (str_width false text) left l)

pub whole_after : (left : ℕ) (text : List ℕ) → str_width false text ≤ left → room_after (Columns left) text ≡ Columns (left - str_width false text)
whole_after left text l =
    ap (λ b. cond b (Columns (left - str_width false text)) (Full (left - str_width false (longest_prefix left text)))) (le-leb (str_width false text) left l)

pub prefix_written : (left : ℕ) (text : List ℕ) → left < str_width false text → written_in (Columns left) text ≡ longest_prefix left text
prefix_written left text l = ap (λ b. cond b text (longest_prefix left text)) (lt-leb (str_width false text) left l)

pub prefix_after : (left : ℕ) (text : List ℕ) → left < str_width false text → room_after (Columns left) text ≡ Full (left - str_width false (longest_prefix left text))
prefix_after left text l =
    ap (λ b. cond b (Columns (left - str_width false text)) (Full (left - str_width false (longest_prefix left text)))) (lt-leb (str_width false text) left l)

-- ---- a text behind spaces

-- spaces alone
pub indented_spaces : (left n : ℕ) (text none : List ℕ) → none ≡ [] → left < n
    → (replicate left 32 ++ none ≡ written_in (Columns left) (replicate n 32 ++ text)) × (Full 0 ≡ room_after (Columns left) (replicate n 32 ++ text))
indented_spaces left n text none empty few =
    let all = replicate n 32 ++ text in
    let wide : str_width false all ≡ n + str_width false text = width-indented n text in
    let is = prefix-spaces left n text few in
    let size : left - str_width false (longest_prefix left all) ≡ 0 = omega (arith, ap (str_width false) is, width-spaces left) in
    (ap (λ t. replicate left 32 ++ t) empty ∙ append-nil (replicate left 32) ∙ sym is ∙ sym (prefix_written left all (omega arith)), ap Full (sym size) ∙ sym (prefix_after left all (omega arith)))

-- all spaces, and what is written of the text in the room behind them
indented_by : (whole : Bool) (left n : ℕ) (text : List ℕ) → nat_le (str_width false text) (left - n) ≡ whole → n ≤ left
    → (replicate n 32 ++ written_in (Columns (left - n)) text ≡ written_in (Columns left) (replicate n 32 ++ text))
    × (room_after (Columns (left - n)) text ≡ room_after (Columns left) (replicate n 32 ++ text))
indented_by true left n text e some =
    let all = replicate n 32 ++ text in
    let wide : str_width false all ≡ n + str_width false text = width-indented n text in
    let fits : str_width false text ≤ left - n = leb-true (str_width false text) (left - n) e in
    let rest : left - n - str_width false text ≡ left - str_width false all = omega arith in (
      ap (λ t. replicate n 32 ++ t) (whole_written (left - n) text fits) ∙ sym (whole_written left all (omega arith)),
      whole_after (left - n) text fits ∙ ap Columns rest ∙ sym (whole_after left all (omega arith)),
    )
indented_by false left n text e some =
    let all = replicate n 32 ++ text in
    let prefix = longest_prefix (left - n) text in
    let wide : str_width false all ≡ n + str_width false text = width-indented n text in
    let cut : left - n < str_width false text = leb-false (str_width false text) (left - n) e in
    let is : replicate n 32 ++ prefix ≡ longest_prefix left all = sym (prefix-indented left n text some) in
    let rest : left - n - str_width false prefix ≡ left - str_width false (longest_prefix left all) = omega (arith, ap (str_width false) is, width-indented n prefix) in (
      ap (λ t. replicate n 32 ++ t) (prefix_written (left - n) text cut) ∙ is ∙ sym (prefix_written left all (omega arith)),
      prefix_after (left - n) text cut ∙ ap Full rest ∙ sym (prefix_after left all (omega arith)),
    )

pub indented_rest : (left n : ℕ) (text : List ℕ) → n ≤ left
    → (replicate n 32 ++ written_in (Columns (left - n)) text ≡ written_in (Columns left) (replicate n 32 ++ text))
    × (room_after (Columns (left - n)) text ≡ room_after (Columns left) (replicate n 32 ++ text))
indented_rest left n text some = indented_by (nat_le (str_width false text) (left - n)) left n text refl some

-- ---- lines

-- what is written of each piece
abbrev pub written_pieces : Room → Line → Line
written_pieces room [] = []
written_pieces room (p ∷ line) = styled p.style (written_in room p.text) ∷ written_pieces (room_after room p.text) line

bytes-cons : (p : Piece) (line : Line) → line_bytes (p ∷ line) ≡ line_bytes (p ∷ []) ++ line_bytes line
bytes-cons p line = line_bytes-append (p ∷ []) line

bytes-empty : (style : Option _) → line_bytes (styled style [] ∷ []) ≡ []
unfolding line_bytes
bytes-empty None = refl
bytes-empty (Some style) = refl

pieces_unlimited : (line : Line) → written_pieces Unlimited line ≡ line
pieces_unlimited [] = refl
pieces_unlimited (p ∷ line) = ap (λ ps. p ∷ ps) (pieces_unlimited line)

pieces_full : (left : ℕ) (line : Line) → line_bytes (written_pieces (Full left) line) ≡ []
pieces_full left [] = line_bytes-nil
pieces_full left (p ∷ line) = bytes-cons (styled p.style []) (written_pieces (Full left) line) ∙ ap (λ bs. bs ++ line_bytes (written_pieces (Full left) line)) (bytes-empty p.style) ∙ pieces_full left line

after_full : (left : ℕ) (line : Line) → room_after_line (Full left) line ≡ Full left
after_full left [] = refl
after_full left (p ∷ line) = after_full left line

cut_step : (b : Bool) (others : ℕ) (p : Piece) (t : List ℕ) (line : Line) (left : ℕ) → line_bytes (cut_to left line) ≡ line_bytes (written_pieces (Columns left) line)
    → line_bytes (cond b (p ∷ cut_to left line) (styled p.style t ∷ [])) ≡ line_bytes (styled p.style (cond b p.text t) ∷ written_pieces (cond b (Columns left) (Full others)) line)
cut_step true others p t line left h =
    bytes-cons p (cut_to left line) ∙ ap (λ bs. line_bytes (p ∷ []) ++ bs) h ∙ sym (bytes-cons p (written_pieces (Columns left) line))
cut_step false others p t line left h =
    sym (append-nil (line_bytes (styled p.style t ∷ []))) ∙ ap (λ bs. line_bytes (styled p.style t ∷ []) ++ bs) (sym (pieces_full others line))
    ∙ sym (bytes-cons (styled p.style t) (written_pieces (Full others) line))

cut_to-pieces : (columns : ℕ) (line : Line) → line_bytes (cut_to columns line) ≡ line_bytes (written_pieces (Columns columns) line)
cut_to-pieces columns [] = refl
cut_to-pieces columns (p ∷ line) =
    cut_step (nat_le (width_of p) columns) (columns - str_width false (longest_prefix columns p.text)) p (longest_prefix columns p.text) line (columns - width_of p) (cut_to-pieces (columns - width_of p) line)

cut-pieces : (limit : Option ℕ) (line : Line) → line_bytes (cut limit line) ≡ line_bytes (written_pieces (room_of limit) line)
cut-pieces None line = ap line_bytes (sym (pieces_unlimited line))
cut-pieces (Some columns) line = cut_to-pieces columns line

pieces-last : (room : Room) (line : Line) (p : Piece)
    → line_bytes (written_pieces room (line ++ p ∷ [])) ≡ line_bytes (written_pieces room line) ++ line_bytes (styled p.style (written_in (room_after_line room line) p.text) ∷ [])
pieces-last room [] p = ap (λ bs. bs ++ line_bytes (styled p.style (written_in room p.text) ∷ [])) (sym line_bytes-nil)
pieces-last room (x ∷ line) p =
    let own = styled x.style (written_in room x.text) in
    let after = room_after room x.text in
    let last = line_bytes (styled p.style (written_in (room_after_line after line) p.text) ∷ []) in
    bytes-cons own (written_pieces after (line ++ p ∷ [])) ∙ ap (λ bs. line_bytes (own ∷ []) ++ bs) (pieces-last after line p)
    ∙ sym (append_assoc (line_bytes (own ∷ [])) (line_bytes (written_pieces after line)) last)
    ∙ ap (λ bs. bs ++ last) (sym (bytes-cons own (written_pieces after line)))

-- one piece more on a line that is cut
pub cut-last : (limit : Option ℕ) (line : Line) (p : Piece)
    → line_bytes (cut limit (line ++ p ∷ [])) ≡ line_bytes (cut limit line) ++ line_bytes (styled p.style (written_in (room_after_line (room_of limit) line) p.text) ∷ [])
cut-last limit line p =
    cut-pieces limit (line ++ p ∷ []) ∙ pieces-last (room_of limit) line p
    ∙ ap (λ bs. bs ++ line_bytes (styled p.style (written_in (room_after_line (room_of limit) line) p.text) ∷ [])) (sym (cut-pieces limit line))

pub after-last : (room : Room) (line : Line) (p : Piece) → room_after_line room (line ++ p ∷ []) ≡ room_after (room_after_line room line) p.text
after-last room [] p = refl
after-last room (x ∷ line) p = after-last (room_after room x.text) line p

pub cut-nil : (limit : Option ℕ) → line_bytes (cut limit []) ≡ []
cut-nil None = line_bytes-nil
cut-nil (Some columns) = line_bytes-nil

-- ---- the columns of a line that is cut

columns_step : (b : Bool) (columns : ℕ) (p : Piece) (t : List ℕ) (line : Line) → nat_le (width_of p) columns ≡ b → str_width false t ≤ columns
    → sum_by width_of (cut_to (columns - width_of p) line) + left_of (room_after_line (Columns (columns - width_of p)) line) ≡ columns - width_of p
    → sum_by width_of (cond b (p ∷ cut_to (columns - width_of p) line) (styled p.style t ∷ []))
    + left_of (room_after_line (cond b (Columns (columns - width_of p)) (Full (columns - str_width false t))) line) ≡ columns
columns_step true columns p t line e l h =
    omega (arith, leb-true (width_of p) columns e, sum_by-cons width_of p (cut_to (columns - width_of p) line), h)
columns_step false columns p t line e l h =
    omega (arith, ap left_of (after_full (columns - str_width false t) line), sum_by-cons width_of (styled p.style t) [], l)

-- those that it takes and those that are left
pub columns-cut_to : (columns : ℕ) (line : Line) → sum_by width_of (cut_to columns line) + left_of (room_after_line (Columns columns) line) ≡ columns
columns-cut_to columns [] = omega arith
columns-cut_to columns (p ∷ line) =
    columns_step (nat_le (width_of p) columns) columns p (longest_prefix columns p.text) line refl (prefix_within columns p.text) (columns-cut_to (columns - width_of p) line)

-- it takes no more than those to which it is cut
pub cut_within : (columns : ℕ) (line : Line) → columns_of (cut (Some columns) line) ≤ columns
cut_within columns line = omega (arith, columns-cut_to columns line)
