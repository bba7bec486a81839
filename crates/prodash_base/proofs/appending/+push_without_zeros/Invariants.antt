use Rattle.prodash_base.proofs.appending.+push_without_zeros.Given as goal

abbrev pub decreases-push_without_zeros : goal.decreases-push_without_zeros
decreases-push_without_zeros l = l.places
