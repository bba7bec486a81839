use Rattle.std.proofs.Common.{rules, codes}
use Rattle.prodash_script.specs.plumbing.Lines.{HasNoWordWith}
use Rattle.prodash_script.proofs.UnitWords.{word_of}
use Rattle.prodash_script.proofs.units.word_of.Goals as goal

pub returns : goal.returns
returns c =
    let both : HasNoWordWith (codes "%/s") c.in-Some.unit = search rules in
    let percentage : HasNoWordWith (codes "%") c.in-Some.unit = search rules in
    let throughput : HasNoWordWith (codes "/s") c.in-Some.unit = search rules in
    let given = word_of c.in-Some.unit c.with_signs-4.result both percentage throughput (search rules) in
    search rules
