use Rattle.std.proofs.Common.{rules, ◌≡◌, ◌∙◌, sym, List}
use Rattle.std.specs.Cmp.Lexicographic.{pointwise}
use Rattle.std.specs.Cmp.Derive.Mapped.{pointwise-map}
use Rattle.prodash_base.specs.declared.progress.Row.{Row}
use Rattle.prodash_base.specs.Rows.{row_of, rows_of, same_row, same_rows}
use Rattle.prodash_base.specs.plumbing.EqualityTests.{exact}
use Rattle.prodash_base.specs.plumbing.SameRows as same
use Rattle.prodash_base.specs.contracts.progress.RowPartialEq.TheImpl as row
use Rattle.prodash_base.proofs.SameKinds.{same_as_unit}
use Rattle.prodash_base.proofs.progress.rows.RowsPartialEq.eq.Goals as goal

same_as_row : (r s : Row) → row.ghosts.eq r s ≡ same_row (row_of r) (row_of s)
same_as_row r s = search (rules, same_as_unit)

same_as_rows : (rows others : List Row) → pointwise row.ghosts.eq rows others ≡ same_rows (rows_of rows) (rows_of others)
same_as_rows rows others = (λ i. pointwise (λ r s. same_as_row r s i) rows others) ∙ sym (pointwise-map row_of same_row rows others)

pub returns-clause-value : goal.returns-clause-value
returns-clause-value c = search (rules, same_as_rows)

pub returns-clause-exact : goal.returns-clause-exact
returns-clause-exact c = exact same.rows _ c.args.self.now c.args.other.now (returns-clause-value c)
