use Rattle.std.proofs.Common.{rules, ◌≡◌, ◌∙◌, ap, true, false, Bool, cond, None, List, refl}
use Rattle.std.specs.Prelude.{Contains}
use Rattle.std.specs.FinMap as finite
use Rattle.std.specs.Map.{keys_of}
use Rattle.std.specs.Cmp.Lexicographic.{nat_list_eq_equiv}
use Rattle.std.proofs.lemmas.Map.Views.{Contains-from_any, list_any-from_Contains}
use Rattle.prodash_base.specs.Path.{Path}
use Rattle.prodash_base.specs.Rows.{PathRow, rows_of}
use Rattle.prodash_base.specs.Trackers.{Observations, is_listed, KeepsOnly}
use Rattle.prodash_base.specs.plumbing.KeyHash.{same_path}
use Rattle.prodash_base.proofs.PathMaps.{get-retain_at}
use Rattle.prodash_base.proofs.StoredSamples.{keeps-all-retain, stored-retain}
use Rattle.prodash_base.proofs.throughput.Throughput.reconcile.Goals as goal

pub invariant_of-self : goal.invariant_of-self
invariant_of-self c =
    keeps-all-retain c.self.inside.history.observations c.among-self-inside.result.observations (is_listed (rows_of c.args.rows.now)) c.self.inside.kept.items
    c.retain_listed.new.kept.items c.self.invariant c.among-self-inside.ensures c.retain_listed.ensures

unlisted : (rows : List PathRow) (path : Path) (b : Bool) → is_listed rows path ≡ b → (Contains (keys_of rows) path → ⊥) → b ≡ false
unlisted rows path true e none = absurd (none (Contains-from_any same_path path (keys_of rows) e))
unlisted rows path false e none = refl

keeps_only : (rows : List PathRow) (before after : Observations) → after ≡ finite.retain_keys before (is_listed rows) → KeepsOnly (keys_of rows) before after
keeps_only rows before after e =
    let at : (path : Path) → finite.get after path ≡ cond (is_listed rows path) (finite.get before path) None =
    λ path. ap (λ (m : Observations). finite.get m path) e ∙ get-retain_at before (is_listed rows) path in
    record {
      listed = λ path among. at path ∙ ap (λ b. cond b (finite.get before path) None) (list_any-from_Contains nat_list_eq_equiv path (keys_of rows) among);
      others = λ path none. at path ∙ ap (λ b. cond b (finite.get before path) None) (unlisted rows path _ refl none);
    }

pub returns-clause-kept : goal.returns-clause-kept
returns-clause-kept c =
    rw (← c.self.view_is) (keeps_only (rows_of c.args.rows.now) c.self.inside.history.observations c.among-self-inside.result.observations c.among-self-inside.ensures)

pub returns-clause-value : goal.returns-clause-value
returns-clause-value c =
    let held = stored-retain c.self.inside.history.observations (is_listed (rows_of c.args.rows.now)) c.self.inside.kept.items c.retain_listed.new.kept.items c.self.invariant c.retain_listed.ensures in
    search (rules, held)
