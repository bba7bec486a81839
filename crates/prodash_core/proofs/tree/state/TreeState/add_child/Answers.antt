use Rattle.std.proofs.Common.{◌∙◌, ap, sym, ◌∷◌, [], ◌++◌}
use Rattle.std.specs.Prelude.{slice_set}
use Rattle.prodash_core.specs.Trees.{slot_at}
use Rattle.prodash_core.specs.plumbing.Handles.{or_gone}
use Rattle.prodash_core.proofs.Handles.{adds_child}
use Rattle.prodash_core.proofs.tree.state.TreeState.add_child.Goals as goal

pub returns : goal.returns
returns c =
    let slots = c.self.inside.handles in
    rw (← c.self.view_is) (adds_child c.self.inside.table c.insert.new.self slots c.push.new.self c.put.new.self c.self.inside.ring c.args.parent c.len-made.result c.in_ok-slot.slot
    c.add_child-key.result c.args.name.now c.args.id (c.in_ok-slot.ensures ∙ ap (λ t. or_gone (slot_at t c.args.parent)) (sym c.self.view_is)) c.len-made.ensures c.add_child-key.ensures.value
    (c.in_ok-push.ensures.ok ∙ ap (λ h. slots ++ h ∷ []) c.new.ensures) c.in_default.ensures.ok
    (c.put.ensures ∙ ap (slice_set c.push.new.self c.args.parent) c.with_child.ensures))
