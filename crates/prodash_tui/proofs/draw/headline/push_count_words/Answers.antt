use Rattle.std.proofs.Common.{◌≡◌, List, ℕ, ◌++◌, ap, ◌∙◌, append_assoc}
use Rattle.std.specs.Fmt.{decimal}
use Rattle.std.specs.Prelude.{codes, string_bytes}
use Rattle.prodash_tui.specs.Headlines.{in_three}
use Rattle.prodash_tui.proofs.draw.headline.push_count_words.Goals as goal

regroup : (old a b d e f g h : List ℕ) → ((((((old ++ a) ++ b) ++ d) ++ e) ++ f) ++ g) ++ h ≡ old ++ (a ++ (b ++ (d ++ (e ++ (f ++ (g ++ h))))))
regroup old a b d e f g h = simp append_assoc

pub returns : goal.returns
returns c =
    let old = string_bytes c.args.text.now in
    let counts = c.args.counts in
    let running = in_three counts.running in
    let waiting = in_three counts.waiting in
    let groups = in_three counts.groups in
    let first = c.in_ok-push_str.ensures.bytes ∙ ap (λ (t : List ℕ). t ++ codes " running + ") c.in_ok-push_in_three.ensures in
    let second = c.in_ok-push_str-2.ensures.bytes
    ∙ ap (λ (t : List ℕ). t ++ codes " blocked + ") (c.in_ok-push_in_three-2.ensures ∙ ap (λ (t : List ℕ). t ++ waiting) first) in
    let third = c.in_ok-push_str-3.ensures.bytes
    ∙ ap (λ (t : List ℕ). t ++ codes " groups = ") (c.in_ok-push_in_three-3.ensures ∙ ap (λ (t : List ℕ). t ++ groups) second) in
    c.in_ok-push_str-4.ensures.bytes
    ∙ (λ i. third i ++ c.format.ensures.text i)
    ∙ regroup old running (codes " running + ") waiting (codes " blocked + ") groups (codes " groups = ") (decimal c.args.all)
