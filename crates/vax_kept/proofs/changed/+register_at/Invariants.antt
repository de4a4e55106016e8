use Rattle.vax_kept.proofs.changed.+register_at.Given as goal

abbrev pub decreases-register_at : goal.decreases-register_at
decreases-register_at l = l.i
