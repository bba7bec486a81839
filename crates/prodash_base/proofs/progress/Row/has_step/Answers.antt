use Rattle.std.proofs.Common.{rules, ◌≡◌, Some, ap, arith}
use Rattle.std.specs.Option.{option_map}
use Rattle.std.proofs.lemmas.Bool.Decides.{nat_tests}
use Rattle.prodash_base.specs.Rows.{PathRow, row_of, progress_of}
use Rattle.prodash_base.proofs.SteppedRows.{with_step-none, with_step-same, with_step-only}
use Rattle.prodash_base.proofs.progress.Row.has_step.Goals as goal

pub returns-in-None : goal.returns-in-None
returns-in-None c =
    (λ _. with_step-none c.args.step (row_of c.args.self.now) (ap (option_map progress_of) c.in-None.is), λ _. search rules)

pub returns-in-Some : goal.returns-in-Some
returns-in-Some c =
    let row : PathRow = row_of c.args.self.now in
    let is : row.1.progress ≡ Some (progress_of c.in-Some.value) = ap (option_map progress_of) c.in-Some.is in (
      λ yes. with_step-same c.args.step row (progress_of c.in-Some.value) is (grind (arith, nat_tests)),
      λ same. (
          let at : c.in-Some.value.step ≡ c.args.step = with_step-only c.args.step row (progress_of c.in-Some.value) is same in
          grind (arith, nat_tests)
          ),
    )
