use Rattle.std.proofs.Common.{◌≡◌, [], arith, sym, subst, IfSome, slice_get}
use Rattle.std.proofs.lemmas.List.{length-map}
use Rattle.std.proofs.lemmas.Option.{slice_get-get_or}
use Rattle.prodash_base.specs.declared.progress.Row.{Row}
use Rattle.prodash_base.specs.Adjacency.{AncestorsOnBothSides, adjacency, paths_of}
use Rattle.prodash_base.specs.plumbing.Branches.{path_at}
use Rattle.prodash_base.proofs.AncestorLaws.{ancestors}
use Rattle.prodash_base.proofs.progress.key.Key.adjacency.Goals as goal

pub returns-clause-ancestors : goal.returns-clause-ancestors
returns-clause-ancestors c =
    let paths = paths_of c.args.sorted.now in
    let p = path_at paths c.args.index in
    let long = length-map c.args.sorted.now (λ (r : Row). r.key) in
    let own = slice_get-get_or paths c.args.index [] (omega arith) in
    let all : AncestorsOnBothSides (adjacency paths p) p = ancestors paths p in
    let same : adjacency paths p ≡ record { 0 = c.location.result; 1 = c.location-2.result; 2 = c.location-3.result; 3 = c.location-4.result; 4 = c.location-5.result; 5 = c.location-6.result } =
    sym (λ i. record { 0 = c.location.ensures i; 1 = c.location-2.ensures i; 2 = c.location-3.ensures i; 3 = c.location-4.ensures i; 4 = c.location-5.ensures i; 5 = c.location-6.ensures i }) in
    subst (λ a. IfSome (slice_get paths c.args.index) (AncestorsOnBothSides a)) same
    (subst (λ o. IfSome o (AncestorsOnBothSides (adjacency paths p))) (sym own) all)
