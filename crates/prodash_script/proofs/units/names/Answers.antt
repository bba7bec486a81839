use Rattle.std.proofs.Common.{rules}
use Rattle.prodash_script.proofs.UnitWords.{named}
use Rattle.prodash_script.proofs.units.names.Goals as goal

pub returns : goal.returns
returns c =
    let both = named c.args.word.now c.match-mode.named c.args.unit c.eq-2.result (search rules) (search rules) (search rules) (search rules) (search rules) in
    (λ is. both.0 is, λ names. both.1 names)
