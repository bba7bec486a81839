use Rattle.prodash_tui.proofs.CertainChars.{own_widths}
use Rattle.prodash_tui.proofs.StandingFrames.{shows_only, stands_first, stands_next}
use Rattle.prodash_tui.proofs.StandingRuns.{has_only_own}
use Rattle.prodash_tui.proofs.laws.other_widths.Goals as goal

pub returns-clause-own : goal.returns-clause-own
returns-clause-own c = own_widths

pub returns-clause-only : goal.returns-clause-only
returns-clause-only c = shows_only

pub returns-clause-next : goal.returns-clause-next
returns-clause-next c = stands_next

pub returns-clause-first : goal.returns-clause-first
returns-clause-first c = stands_first

pub returns-clause-runs : goal.returns-clause-runs
returns-clause-runs c = has_only_own
