use Rattle.std.proofs.Common.{◌≡◌, map}
use Rattle.std.specs.List.{range_with_len}
use Rattle.vv_gen.specs.Config.{generated_terminal}
use Rattle.vv_gen.proofs.config.terminals.Given as goal

abbrev pub invariant-loop-g : goal.invariant-loop-g
invariant-loop-g l = l.rows.items ≡ map generated_terminal (range_with_len 0 l.g)
