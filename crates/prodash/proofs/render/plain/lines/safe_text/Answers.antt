use Rattle.std.proofs.Common.{◌≡◌, ℕ, List, [], ◌∷◌, ◌++◌, chars, map, sym, ap, ◌∙◌, append-nil, map-id}
use Rattle.std.specs.Char.{encode_utf8}
use Rattle.std.specs.Str.{encode_utf8_all}
use Rattle.std.proofs.lemmas.List.{map-append}
use Rattle.std.proofs.lemmas.Str.{encodes-append}
use Rattle.std.proofs.lemmas.Iterator.{YieldsList-from_chars}
use Rattle.std.proofs.lemmas.Iterator.Consumers.{YieldsList-end}
use Rattle.prodash_line.specs.DrawnLines.{safe_char}
use Rattle.prodash.proofs.render.plain.lines.safe_text.Goals as goal

pub loop-c-preserved : goal.loop-c-preserved
loop-c-preserved c =
    let before = encode_utf8_all (map safe_char c.loop-c.yielded) in
    c.in_ok-push.ensures.bytes
    ∙ ap (λ (bs : List ℕ). bs ++ encode_utf8 c.safe_char.result) c.loop-c.invariant
    ∙ ap (λ (x : ℕ). before ++ encode_utf8 x) c.safe_char.ensures
    ∙ ap (λ (bs : List ℕ). before ++ bs) (sym (append-nil (encode_utf8 (safe_char c.in-Some.c))))
    ∙ sym (encodes-append (map safe_char c.loop-c.yielded) (safe_char c.in-Some.c ∷ []))
    ∙ ap encode_utf8_all (sym (map-append safe_char c.loop-c.yielded (c.in-Some.c ∷ [])))

pub returns : goal.returns
returns c =
    let text = c.args.text.now in
    let end = YieldsList-end (YieldsList-from_chars text c.utf8.text cc) c.loop-c.yielded _ c.loop-c.yielded_by _ _ c.in-None.is c.next.ensures.steps in
    let all : c.loop-c.yielded ≡ chars text = sym (map-id c.loop-c.yielded) ∙ end.0 in
    c.loop-c.invariant ∙ ap (λ t. encode_utf8_all (map safe_char t)) all
