use Rattle.std.proofs.Common.{◌≤◌, length, rules}
use mathlib.Core.List.{IsPrefix}
use Rattle.prodash.proofs.CallLaws.{seen_front, prefix_is_front, prefix_is_short}
use Rattle.prodash.proofs.tree.recorded.journal.Journal.begins_with.Goals as goal

pub returns-clause-value : goal.returns-clause-value
returns-clause-value g c =
    let es = c.self.inside.entries.items in
    let calls = c.args.look.now in
    let front : IsPrefix calls es = seen_front es c.self.inside.history c.prefix.result.now calls c.self.invariant.1 c.prefix.ensures.open (c.covers.ensures es c.self.invariant.1) c.prefix.ensures.entries in
    let short : length calls ≤ length es = prefix_is_short calls es front in
    search rules

pub returns-clause-front : goal.returns-clause-front
returns-clause-front g c =
    let es = c.self.inside.entries.items in
    let calls = c.args.look.now in
    let front : IsPrefix calls es = seen_front es c.self.inside.history c.prefix.result.now calls c.self.invariant.1 c.prefix.ensures.open (c.covers.ensures es c.self.invariant.1) c.prefix.ensures.entries in
    rw (← c.self.view_is) (prefix_is_front calls es front)

pub returns-clause-length : goal.returns-clause-length
returns-clause-length g c =
    let es = c.self.inside.entries.items in
    let calls = c.args.look.now in
    let front : IsPrefix calls es = seen_front es c.self.inside.history c.prefix.result.now calls c.self.invariant.1 c.prefix.ensures.open (c.covers.ensures es c.self.invariant.1) c.prefix.ensures.entries in
    rw (← c.self.view_is) (prefix_is_short calls es front)
