use Rattle.std.proofs.Common.{◌∙◌, ap, sym, Some}
use Rattle.std.specs.Option.{option_map}
use Rattle.prodash_core.specs.Tables.{entry_in}
use Rattle.prodash_core.proofs.TableChanges.{get-table_of}
use Rattle.prodash_core.proofs.tree.table.TreeCore.name.Goals as goal

pub returns-in-None : goal.returns-in-None
returns-in-None g c =
    let es = c.self.inside.tasks.entries in
    rw (← c.self.view_is) (ap (λ o. option_map (λ e. e.name) (option_map entry_in o)) c.in-None.ensures.value ∙ ap (option_map (λ e. e.name)) (sym (get-table_of es c.args.key)))

pub returns-in-Some : goal.returns-in-Some
returns-in-Some g c =
    let es = c.self.inside.tasks.entries in
    rw (← c.self.view_is) (ap Some c.as_str.ensures ∙ ap (λ t. Some t.name) c.deref.ensures ∙ ap (λ o. option_map (λ e. e.name) (option_map entry_in o)) c.in-Some.ensures.value ∙ ap (option_map (λ e. e.name)) (sym (get-table_of es c.args.key)))
