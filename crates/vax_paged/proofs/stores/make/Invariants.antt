use Rattle.std.proofs.Common.{◌≡◌, drop}
use Rattle.vax_arch.specs.Walk.{Tables}
use Rattle.vax_paged.specs.Known.{AreAllKnown}
use Rattle.vax_paged.specs.Puts.{made}
use Rattle.vax_paged.proofs.stores.make.Given as goal

abbrev pub invariant-loop-put : goal.invariant-loop-put
invariant-loop-put l = (made (drop l.put-index l.puts) l.memory ≡ made l.puts l.fn.memory) × ((t : Tables) → AreAllKnown l.fn.memory t l.fn.known → AreAllKnown l.memory t l.known)
