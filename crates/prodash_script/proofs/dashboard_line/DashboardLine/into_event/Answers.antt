use Rattle.std.proofs.Common.{◌≡◌, refl, rules, subst, sym}
use Rattle.prodash_core.specs.declared.render.tui.event.Event.TheVariants as events
use Rattle.prodash_script.specs.declared.dashboard_line.DashboardLine.{DashboardLine}
use Rattle.prodash_script.specs.DashboardLines.{IsEventOf, plain_lines}
use Rattle.prodash_script.proofs.dashboard_line.DashboardLine.into_event.Goals as goal

pub returns-in_ok-into_string-in-SetTitle-clause-event : goal.returns-in_ok-into_string-in-SetTitle-clause-event
returns-in_ok-into_string-in-SetTitle-clause-event c =
    let made = c.in_ok-into_string-in-SetTitle in
    subst (λ (line : DashboardLine). IsEventOf line (plain_lines c.args.information.now.items) (events.SetTitle made.field-0)) (sym c.in-SetTitle.is)
    (made.field-0, refl, made.ensures)

pub returns-in-ClearInformation-clause-event : goal.returns-in-ClearInformation-clause-event
returns-in-ClearInformation-clause-event c =
    let none : plain_lines c.new.result.items ≡ plain_lines c.clear.new.self.items = search rules in
    subst (λ (line : DashboardLine). IsEventOf line (plain_lines c.clear.new.self.items) (events.SetInformation c.new.result)) (sym c.in-ClearInformation.is)
    (c.new.result, refl, none)
