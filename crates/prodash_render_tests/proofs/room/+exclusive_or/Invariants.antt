use Rattle.prodash_render_tests.proofs.room.+exclusive_or.Given as goal

abbrev pub decreases-exclusive_or : goal.decreases-exclusive_or
decreases-exclusive_or l = l.number
