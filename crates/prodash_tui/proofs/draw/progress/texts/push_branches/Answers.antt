use Rattle.std.proofs.lemmas.Result.{on_ok_weaker}
use Rattle.prodash_tui.proofs.PaneRows.{branches_behind}
use Rattle.prodash_tui.proofs.draw.progress.texts.push_branches.Goals as goal

pub returns : goal.returns
returns c =
    on_ok_weaker c.push_level_prefix.result
    (branches_behind c.args.rows.now c.args.index c.args.text.now c.push_level_prefix.new.out) c.push_level_prefix.ensures.ok
