use Rattle.prodash_line.proofs.PlainPages as pages
use Rattle.prodash_line.proofs.laws.plain_page.Goals as goal

pub returns : goal.returns
returns c = pages.plain_page
