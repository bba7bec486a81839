use Rattle.std.proofs.Common.{rules, codes, refl, ap, ◌∙◌, ◌≡◌, ℕ, List}
use Rattle.std.specs.Prelude.{Option, Some, None, Result, Ok, Err, String}
use Rattle.prodash_base.specs.declared.unit.units.Unit.{Unit}
use Rattle.prodash_core.specs.declared.tree.event.Event.TheVariants.{Init}
use Rattle.prodash_script.specs.Lines.{GivesLine, IsLineOf, bound_word, spaced, text_line}
use Rattle.prodash_script.specs.Units.{NamesUnit}
use Rattle.prodash_script.proofs.writing.init.Goals as goal

given : {Z E : Type 0} → (item : ℕ) → (max : Option ℕ) → (unit : Option Unit) → (limit word : List ℕ) → (r : Result (Option (String Z)) E) → limit ≡ bound_word max → NamesUnit unit word → GivesLine r (λ line. line ≡ text_line (codes "init") item (spaced limit word)) → GivesLine r (IsLineOf (Init item max unit))
given item max unit limit word (Ok (Some line)) is names gives = (word, gives ∙ ap (λ l. text_line (codes "init") item (spaced l word)) is, names)
given item max unit limit word (Ok None) is names gives = absurd (gives _ refl)
given item max unit limit word (Err e) is names gives = tt

pub returns-clause-line : goal.returns-clause-line
returns-clause-line c =
    let limit : c.as_str.result.now ≡ bound_word c.args.max = search rules in
    let names : NamesUnit c.args.unit c.as_str-2.result.now = search rules in
    given c.args.item c.args.max c.args.unit c.as_str.result.now c.as_str-2.result.now c.init_line.result limit names c.init_line.ensures
