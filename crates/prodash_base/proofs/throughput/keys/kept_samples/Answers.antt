use Rattle.std.proofs.Common.{rules, ◌≡◌, ◌∙◌, ap, sym, length, get_or, Option}
use Rattle.std.proofs.lemmas.Fn.{always_returns_same}
use Rattle.prodash_base.specs.Held.{Summary, recent_in}
use Rattle.prodash_base.specs.declared.throughput.kept.Kept.{Kept}
use Rattle.prodash_base.proofs.KeptTables.{stored_known, stored_new, searchable}
use Rattle.prodash_base.proofs.PathMaps.{same_path}
use Rattle.prodash_base.proofs.throughput.keys.kept_samples.Goals as goal

pub returns-in-Ok : goal.returns-in-Ok
returns-in-Ok c =
    let kept = c.args.kept.now in
    let known = c.index-kept-index.result in
    let key : (get_or kept c.in-Ok.index known).key ≡ c.args.key.now =
    same_path _ _ (c.in-Ok.ensures.position (λ (k : Kept). k.key) (always_returns_same _ _ _ (λ a r f' k. search rules)) known) in
    c.samples.ensures ∙ ap (λ (k : Kept). length k.samples.items) c.index-kept-index.is
    ∙ sym (ap (λ (o : Option Summary). length (recent_in o)) (stored_known kept c.in-Ok.index known c.args.key.now c.requires c.in-Ok.ensures.bound key))

pub returns-in-Err : goal.returns-in-Err
returns-in-Err c =
    let place = c.in-Err.ensures.position (λ (k : Kept). k.key) (always_returns_same _ _ _ (λ a r f' k. search rules)) (searchable c.args.kept.now c.args.key.now c.requires) in
    sym (ap (λ (o : Option Summary). length (recent_in o)) (stored_new c.args.kept.now c.in-Err.field-0 c.args.key.now c.requires place))
