use Rattle.vax_paged.proofs.memory.+bytes_in.Given as goal

abbrev pub decreases-bytes_in : goal.decreases-bytes_in
decreases-bytes_in l = l.bytes
