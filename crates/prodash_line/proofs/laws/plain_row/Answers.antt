use Rattle.prodash_line.proofs.PlainRows as rows
use Rattle.prodash_line.proofs.laws.plain_row.Goals as goal

pub returns : goal.returns
returns c = rows.plain_row
