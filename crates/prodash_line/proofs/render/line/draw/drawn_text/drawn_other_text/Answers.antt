use Rattle.std.proofs.Common.{◌≡◌, ℕ, Bool, List, [], ◌∷◌, ◌++◌, chars, map, sym, ap, ◌∙◌, append-nil, map-id}
use Rattle.std.specs.Char.{encode_utf8}
use Rattle.std.specs.Str.{encode_utf8_all}
use Rattle.std.proofs.lemmas.List.{map-append}
use Rattle.std.proofs.lemmas.Str.{chars_from_encodes, encodes-append}
use Rattle.std.proofs.lemmas.Iterator.{YieldsList-from_chars}
use Rattle.std.proofs.lemmas.Iterator.Consumers.{YieldsList-end}
use Rattle.prodash_line.specs.DrawnLines.{safe_char, drawn_chars}
use Rattle.prodash_line.proofs.DrawnTexts.{drawn_as_is}
use Rattle.prodash_line.proofs.render.line.draw.drawn_text.drawn_other_text.Goals as goal
use Rattle.prodash_line.proofs.render.line.draw.drawn_text.drawn_other_text.Goals.{then-not-defensive-via-then-not-defensive, then-not-defensive-via-else-not-defensive+then-not-has_unsafe}

pub returns-then-not-defensive-clause-text : goal.returns-then-not-defensive-clause-text
returns-then-not-defensive-clause-text c = elim c.then-not-defensive.branch [
  | then-not-defensive-via-then-not-defensive w ↦ ap (λ (d : Bool). drawn_chars d c.args.text.now) (sym w.if-not-defensive.true)
  | then-not-defensive-via-else-not-defensive+then-not-has_unsafe w ↦ drawn_as_is c.args.defensive c.args.text.now (sym w.has_unsafe.ensures ∙ w.if-not-has_unsafe.true)
]

pub loop-c-preserved : goal.loop-c-preserved
loop-c-preserved c =
    let before = encode_utf8_all (map safe_char c.loop-c.yielded) in
    c.in_ok-push.ensures.bytes
    ∙ ap (λ (bs : List ℕ). bs ++ encode_utf8 c.safe_char.result) c.loop-c.invariant
    ∙ ap (λ (x : ℕ). before ++ encode_utf8 x) c.safe_char.ensures
    ∙ ap (λ (bs : List ℕ). before ++ bs) (sym (append-nil (encode_utf8 (safe_char c.in-Some.c))))
    ∙ sym (encodes-append (map safe_char c.loop-c.yielded) (safe_char c.in-Some.c ∷ []))
    ∙ ap encode_utf8_all (sym (map-append safe_char c.loop-c.yielded (c.in-Some.c ∷ [])))

pub returns-clause-text : goal.returns-clause-text
returns-clause-text c =
    let text = c.args.text.now in
    let end = YieldsList-end (YieldsList-from_chars text c.utf8.text cc) c.loop-c.yielded _ c.loop-c.yielded_by _ _ c.in-None.is c.next.ensures.steps in
    let all : c.loop-c.yielded ≡ chars text = sym (map-id c.loop-c.yielded) ∙ end.0 in
    sym (chars_from_encodes (map safe_char c.loop-c.yielded) c.as_str-drawn.result.now c.as_str-drawn.utf8 (sym (c.as_str-drawn.ensures.value ∙ c.loop-c.invariant)))
    ∙ ap (map safe_char) all
    ∙ ap (λ (d : Bool). drawn_chars d text) (sym c.if-not-defensive.false)
