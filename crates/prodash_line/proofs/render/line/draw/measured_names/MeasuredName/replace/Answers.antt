use Rattle.std.proofs.Common.{◌≡◌, ℕ, List, [], sym, subst, ◌∙◌, string_bytes}
use Rattle.prodash_line.specs.plumbing.MeasuredNames.{IsDrawnAsIs}
use Rattle.prodash_line.proofs.DrawnTexts.{empty_as_is}
use Rattle.prodash_line.proofs.render.line.draw.measured_names.MeasuredName.replace.Goals as goal

pub invariant_of-self : goal.invariant_of-self
invariant_of-self c =
    let empty : string_bytes c.push_str.new.self ≡ [] = c.in_err-push_str.ensures.bytes ∙ c.clear.ensures.bytes in
    subst (λ (name : List ℕ). IsDrawnAsIs name 0) (sym empty) empty_as_is
