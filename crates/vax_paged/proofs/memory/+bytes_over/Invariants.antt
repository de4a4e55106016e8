use Rattle.vax_paged.proofs.memory.+bytes_over.Given as goal

abbrev pub decreases-bytes_over : goal.decreases-bytes_over
decreases-bytes_over l = l.first
