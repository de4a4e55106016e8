use Rattle.vax_paged.proofs.entries.Paged.+first_clear_by_bytes.Given as goal

abbrev pub decreases-first_clear_by_bytes : goal.decreases-first_clear_by_bytes
decreases-first_clear_by_bytes l = l.bytes
