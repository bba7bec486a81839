use Rattle.std.proofs.Common.{◌<◌, ◌≤◌, length, arith, ◌∙◌}
use Rattle.prodash_base.specs.Path.{max_level}
use Rattle.prodash.proofs.ParentPaths.{child_of_next}
use Rattle.prodash.proofs.render.plain.told.parent_of.Goals as goal

pub loop-level-preserved : goal.loop-level-preserved
loop-level-preserved c =
    let inside : c.loop-level.level < length c.args.key = omega (arith, c.loop-level-test.true, c.level-level-end.ensures.value) in
    let most : length c.args.key ≤ max_level = omega (arith, c.level-level-end.ensures.value, c.level-level-end.ensures.bound) in
    c.add_child-parent.ensures.value
    ∙ child_of_next c.args.key c.loop-level.parent c.loop-level.level c.index.result.now c.loop-level.auto.level inside most c.loop-level.invariant c.index.ensures
