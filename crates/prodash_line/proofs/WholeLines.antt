-- Pieces of a line that are written whole.
use Rattle.std.proofs.Common.{◌≡◌, ℕ, ◌+◌, ◌-◌, ◌≤◌, false, List, [], ◌∷◌, ◌++◌, Option, append_assoc, append-nil, refl, sym, ap, ◌∙◌, arith}
use Rattle.std.specs.Prelude.{sum_by}
use Rattle.std.proofs.lemmas.List.Sums.{sum_by-cons}
use Rattle.unicode_width.specs.Width.{str_width}
use Rattle.prodash_line.specs.declared.render.line.draw.line_writer.LineWriter.{LineWriter}
use Rattle.prodash_line.specs.declared.render.line.draw.room.Room.TheVariants.{Columns}
use Rattle.prodash_line.specs.declared.render.line.page.style.Style.{Style}
use Rattle.prodash_line.specs.Lines.{Line, styled, capped, width_of}
use Rattle.prodash_line.specs.plumbing.Cutting.{written_in, room_after}
use Rattle.prodash_line.specs.plumbing.Writing.{line_bytes, Appends}
use Rattle.prodash_line.proofs.Cutting.{whole_written, whole_after}
use Rattle.prodash_line.proofs.LineWriting.{appends_no_piece, appends_piece, appends_since, appends_then}
use Rattle.prodash_line.proofs.Written.{line_bytes-append, line_bytes-nil}

-- one more text of a line with this much room
pub appends_whole : (old new : LineWriter) (left : ℕ) (style : Option Style) (text : List ℕ) → old.room ≡ Columns left → str_width false text ≤ left
    → new.bytes ≡ old.bytes ++ line_bytes (styled style text ∷ []) → new.width ≡ capped (old.width + str_width false text)
    → new.limit ≡ old.limit → new.room ≡ Columns (left - str_width false text) → Appends old (styled style text ∷ []) new
appends_whole old new left style text room fits bytes width limit after =
    let written : text ≡ written_in old.room text = sym (whole_written left text fits) ∙ ap (λ r. written_in r text) (sym room) in
    appends_piece old new (styled style text) (bytes ∙ ap (λ t. old.bytes ++ line_bytes (styled style t ∷ [])) written) width limit
    (after ∙ sym (whole_after left text fits) ∙ ap (λ r. room_after r text) (sym room))

-- all the pieces that the line has room for
pub appends_all : (old new : LineWriter) (left n : ℕ) (pieces : Line) → old.room ≡ Columns left → n ≡ sum_by width_of pieces → n ≤ left → old.width ≤ 65535
    → new.bytes ≡ old.bytes ++ line_bytes pieces → new.width ≡ capped (old.width + n)
    → new.limit ≡ old.limit → new.room ≡ Columns (left - n) → Appends old pieces new
appends_all old new left n [] room sum fits short bytes width limit after =
    let same : left - n ≡ left = omega (arith, sum) in
    appends_since (bytes ∙ ap (λ t. old.bytes ++ t) line_bytes-nil ∙ append-nil old.bytes)
    (record { width = omega (arith, width, sum); limit = limit; room = after ∙ ap Columns same ∙ sym room }) (appends_no_piece new)
appends_all old new left n (p ∷ ps) room sum fits short bytes width limit after =
    let own : ℕ = width_of p in
    let cons : sum_by width_of (p ∷ ps) ≡ own + sum_by width_of ps = sum_by-cons width_of p ps in
    let between : LineWriter = record old { bytes = old.bytes ++ line_bytes (p ∷ []); width = capped (old.width + own); room = Columns (left - own) } in
    let rest : ℕ = sum_by width_of ps in
    let end : left - n ≡ left - own - rest = omega (arith, sum, cons) in
    appends_then (appends_whole old between left p.style p.text room (omega (arith, sum, cons)) refl refl refl refl)
    (appends_all between new (left - own) rest ps refl refl (omega (arith, sum, cons)) (omega arith)
    (bytes ∙ ap (λ t. old.bytes ++ t) (line_bytes-append (p ∷ []) ps) ∙ sym (append_assoc old.bytes (line_bytes (p ∷ [])) (line_bytes ps)))
    (omega (arith, width, sum, cons)) limit (after ∙ ap Columns end))
