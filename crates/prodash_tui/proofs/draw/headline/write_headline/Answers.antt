use Rattle.std.proofs.Common.{◌≡◌, List, ℕ, ◌++◌, ap, ◌∙◌, append_assoc}
use Rattle.std.specs.Prelude.{codes}
use Rattle.prodash_base.specs.Rows.{rows_of}
use Rattle.prodash_tui.specs.Headlines.{counts_text, interrupt_text, interval_text}
use Rattle.prodash_tui.proofs.draw.headline.write_headline.Goals as goal

regroup : (a b d e f g h : List ℕ) → (((((a ++ b) ++ d) ++ e) ++ f) ++ g) ++ h ≡ a ++ (b ++ (d ++ (e ++ (f ++ (g ++ h)))))
regroup a b d e f g h = simp append_assoc

pub returns-clause-ok : goal.returns-clause-ok
returns-clause-ok c =
    let space = codes " " in
    let quit = interrupt_text c.args.mode in
    let interval = interval_text c.args.interval c.args.now.now in
    let counts = counts_text (rows_of c.args.rows.now) in
    let first = c.in_ok-push_str.ensures.bytes ∙ ap (λ (t : List ℕ). t ++ space) c.clear.ensures.bytes in
    let second = c.in_ok-push_str-2.ensures.bytes ∙ (λ i. first i ++ c.interrupt_text.ensures i) in
    let third = c.in_ok-push_str-3.ensures.bytes ∙ ap (λ (t : List ℕ). t ++ space) second in
    let fourth = c.in_ok-push_str-4.ensures.bytes ∙ ap (λ (t : List ℕ). t ++ space) (c.in_ok-push_interval.ensures ∙ ap (λ (t : List ℕ). t ++ interval) third) in
    c.in_ok-push_str-5.ensures.bytes
    ∙ ap (λ (t : List ℕ). t ++ space) (c.in_ok-push_counts.ensures ∙ ap (λ (t : List ℕ). t ++ counts) fourth)
    ∙ regroup space quit space interval space counts space
