use Rattle.prodash_line.proofs.OneSpelling as signs
use Rattle.prodash_line.proofs.laws.one_spelling.Goals as goal

pub returns : goal.returns
returns c = signs.one_spelling
