use Rattle.std.proofs.Common.{◌≡◌, Bool, ℕ, List, [], ◌∷◌, ◌++◌, ◌+◌, ◌-◌, codes, length, replicate, append_assoc, length-append, refl, ap, sym, subst, ◌∙◌, arith}
use Rattle.std.proofs.lemmas.List.{length-replicate}
use Rattle.prodash_base.specs.Rows.{progress_of}
use Rattle.prodash_line.specs.ProgressRows.{bar_with}
use Rattle.prodash_line.specs.TextStyles.{row_style}
use Rattle.prodash_line.specs.plumbing.Writing.{AppendsIn}
use Rattle.prodash_line.proofs.Columns.{printable-repeated}
use Rattle.prodash_line.proofs.JoinedTexts.{joined, ArePrintable, printable-joined, appends_apart}
use Rattle.prodash_line.proofs.LineWriting.{appends_printable, same_then}
use Rattle.prodash_line.proofs.RowLines.{length-parts, parts_written}
use Rattle.prodash_line.proofs.render.line.draw.bar.push_bar_with.Goals as goal

pub returns : goal.returns
returns c =
    let n = c.args.cells - c.args.filled in
    let filled : List ℕ = replicate c.args.filled 61 in
    let others : List ℕ = replicate n 45 in
    let texts = filled ∷ codes ">" ∷ others ∷ codes "]" ∷ [] in
    let bar = joined (codes " [") texts in
    let parts : bar ≡ codes " [" ++ ((filled ++ codes ">") ++ (others ++ codes "]")) = ap (λ t. codes " [" ++ t) (sym (append_assoc filled (codes ">") (others ++ codes "]"))) in
    let printable : ArePrintable texts = (printable-repeated c.args.filled 61 (omega arith) (omega arith), (refl, (printable-repeated n 45 (omega arith) (omega arith), (refl, tt)))) in
    let run : length (filled ++ codes ">") ≡ c.args.filled + 1 = omega (arith, length-append filled (codes ">"), length-replicate {A = ℕ} c.args.filled 61) in
    let size : length bar ≡ c.args.cells + 4 =
    omega (
      arith,
      length-parts bar (codes " [") (filled ++ codes ">") (others ++ codes "]") parts,
      run,
      length-append others (codes "]"),
      length-replicate {A = ℕ} n 45,
      c.requires.within,
    ) in
    subst (λ (colored : Bool). AppendsIn colored c.args.out.now (bar_with (row_style (progress_of c.args.value.now)) c.args.cells c.args.filled) c.push_run_prefix-2.new.self) (sym c.if-colored.false)
    (appends_apart (codes " [") texts refl printable
    (appends_printable bar _ c.count_printable-count.result (printable-joined (codes " [") texts refl printable) size c.count_printable-count.ensures
    (parts_written c.count_printable-count.new.self.bytes _ _ _ bar (codes " [") (filled ++ codes ">") (others ++ codes "]") c.count_printable-count.result _ _ parts
    c.in_ok-count.ensures.bytes c.in_ok-count.ensures.more c.in_ok-count-2.ensures.bytes (c.in_ok-count-2.ensures.more ∙ ap (λ k. c.in_ok-count.count - k) (sym run)) c.in_ok-push_run_prefix.ensures.bytes)
    (same_then c.in_ok-count.ensures.line (same_then c.in_ok-count-2.ensures.line c.in_ok-push_run_prefix.ensures.line))))
