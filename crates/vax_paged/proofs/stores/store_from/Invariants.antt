use Rattle.std.proofs.Common.{◌≡◌, drop, length}
use Rattle.vax_table.specs.Stores.{all_stored}
use Rattle.vax_paged.specs.Known.{IsSameBut}
use Rattle.vax_paged.specs.Paged.{written_place}
use Rattle.vax_paged.proofs.stores.store_from.Given as goal

abbrev pub invariant-loop-store : goal.invariant-loop-store
invariant-loop-store l =
    (all_stored (written_place l.fn.memory l.world) (drop l.store-index l.stores) l.memory ≡ all_stored (written_place l.fn.memory l.world) l.stores l.fn.memory)
    × (IsSameBut l.base l.base l.fn.memory l.memory)
    × (length l.memory ≡ length l.fn.memory)
