use Rattle.std.proofs.Common.{rules, tests, ◌≡◌, true, nat_eq, arith, length, sym, subst}
use Rattle.std.specs.Cmp.Lexicographic.{pointwise}
use Rattle.std.proofs.lemmas.Bool.Decides.{nat_tests}
use Rattle.prodash_base.specs.plumbing.KeyHash.{same_path}
use Rattle.prodash_base.proofs.ListedRows.{AreListed, all_listed, listed_more}
use Rattle.prodash_base.proofs.throughput.keys.are_listed.Goals as goal
use Rattle.prodash_base.proofs.throughput.keys.are_listed.Goals.{then-found-kept+then-eq, else-found-kept}

pub loop-row-preserved : goal.loop-row-preserved
loop-row-preserved c =
    let rows = c.args.rows.now in
    let kept = c.args.kept.now in
    elim c.if-found-kept.branch [
      | then-found-kept+then-eq w ↦
          let test : pointwise nat_eq w.index-kept-found.result.key c.row-item.result.key ≡ true = search (rules, tests) in
          let same : w.index-kept-found.result.key ≡ c.row-item.result.key = same_path w.index-kept-found.result.key c.row-item.result.key test in
          record {
            within = omega (arith, w.found-is, w.if-found-kept.true);
            listed = subst (AreListed rows kept) (sym w.found-is)
                (listed_more rows kept c.loop-row.found c.loop-row.row-index c.row-item.result w.index-kept-found.result c.loop-row.invariant.listed (omega (arith, c.loop-row-test.true)) c.row-item.is
                (omega (arith, w.if-found-kept.true)) same w.index-kept-found.is);
          }
      | else-found-kept w ↦ record {
        within = omega (arith, w.found-is, c.loop-row.invariant.within);
        listed = subst (AreListed rows kept) (sym w.found-is) c.loop-row.invariant.listed;
      }
    ]

pub returns : goal.returns
returns c = λ e.
    let all : c.loop-row.found ≡ length c.args.kept.now = grind (arith, nat_tests) in
    all_listed c.args.rows.now c.args.kept.now (subst (AreListed c.args.rows.now c.args.kept.now) all c.loop-row.invariant.listed)
