use Rattle.std.proofs.Common.{◌≡◌, map}
use Rattle.std.specs.List.{range_with_len}
use Rattle.vv_gen.specs.Config.{generated_guest}
use Rattle.vv_gen.proofs.config.guests.Given as goal

abbrev pub invariant-loop-g : goal.invariant-loop-g
invariant-loop-g l = l.rows.items ≡ map generated_guest (range_with_len 0 l.g)
