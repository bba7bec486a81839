use Rattle.std.proofs.Common.{◌≡◌, ℕ, List, [], ◌∷◌, ◌++◌, ap, ◌∙◌, append_assoc}
use Rattle.std.specs.Char.{encode_utf8}
use Rattle.std.specs.Fmt.{decimal}
use Rattle.std.specs.Prelude.{codes, string_bytes}
use Rattle.prodash_tui.proofs.draw.progress.texts.push_skipped.Goals as goal

regroup : (old a b d e : List ℕ) → (((old ++ a) ++ b) ++ d) ++ e ≡ old ++ (a ++ (b ++ (d ++ e)))
regroup old a b d e = simp append_assoc

pub returns : goal.returns
returns c =
    let old = string_bytes c.args.text.now in
    let dots = c.in_ok-push.ensures.bytes ∙ ap (λ (t : List ℕ). t ++ encode_utf8 0x2026) c.in_ok-push_str.ensures.bytes in
    let count = c.in_ok-push_str-2.ensures.bytes ∙ (λ i. dots i ++ c.format.ensures.text i) in
    c.in_ok-push_str-3.ensures.bytes
    ∙ ap (λ (t : List ℕ). t ++ codes " skipped and ") count
    ∙ regroup old (32 ∷ []) (encode_utf8 0x2026) (decimal c.args.above) (codes " skipped and ")
