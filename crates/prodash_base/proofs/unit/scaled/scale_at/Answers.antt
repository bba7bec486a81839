use Rattle.std.proofs.Common.{rules, tests, nat_le}
use Rattle.std.proofs.lemmas.Iterator.Adapters.{YieldsList-from_rev_slice}
use Rattle.std.proofs.lemmas.Iterator.Search.{find_from_yields_List}
use Rattle.prodash_base.proofs.ScaleLaws.{found_scale}
use Rattle.prodash_base.proofs.unit.scaled.scale_at.Goals as goal

pub returns-in-Some : goal.returns-in-Some
returns-in-Some c =
    let is = find_from_yields_List (λ s. nat_le s.factor c.args.n) _ _ c.find.result c.find.ensures.ran (YieldsList-from_rev_slice c.args.scales.now cc) (λ x b q k. search (rules, tests)) in
    search (rules, found_scale c.args.n c.args.scales.now c.find.result is)

pub returns-in-None : goal.returns-in-None
returns-in-None c =
    let is = find_from_yields_List (λ s. nat_le s.factor c.args.n) _ _ c.find.result c.find.ensures.ran (YieldsList-from_rev_slice c.args.scales.now cc) (λ x b q k. search (rules, tests)) in
    search (rules, found_scale c.args.n c.args.scales.now c.find.result is)
