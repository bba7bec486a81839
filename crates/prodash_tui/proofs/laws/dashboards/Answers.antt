use Rattle.prodash_base.specs.Rows.{rows_of}
use Rattle.prodash_tui.specs.Dashboards.{scroll_of, with_task_pane}
use Rattle.prodash_tui.proofs.FittingGrids.{fitting}
use Rattle.prodash_tui.proofs.KeptPanes.{kept_dashboard, kept_headline, kept_information, kept_message_pane}
use Rattle.prodash_tui.proofs.KeptProgress.{kept_pane}
use Rattle.prodash_tui.proofs.laws.dashboards.Goals as goal

pub returns-clause-information : goal.returns-clause-information
returns-clause-information c = λ lines d area g h. kept_information (fitting d) lines area g h

pub returns-clause-messages : goal.returns-clause-messages
returns-clause-messages c = λ ms overflow offset d area g h. kept_message_pane (fitting d) ms area overflow offset g h

pub returns-clause-headline : goal.returns-clause-headline
returns-clause-headline c = λ text d area g h. kept_headline (fitting d) area text g h

pub returns-clause-progress : goal.returns-clause-progress
returns-clause-progress c = λ rows rates at scroll d area g h. kept_pane (fitting d) rows rates at scroll area g h

pub returns-clause-whole : goal.returns-clause-whole
returns-clause-whole c = λ rates s input d area g h.
    kept_dashboard (fitting d) (with_task_pane rates input s.task_offset) (λ area g h. kept_pane (fitting d) (rows_of input.rows.now) rates input.at (scroll_of input s.task_offset) area g h)
    s input area g h

pub returns-clause-all : goal.returns-clause-all
returns-clause-all c = λ tasks keeps s input d area g h. kept_dashboard (fitting d) tasks (keeps d) s input area g h
