use Rattle.std.proofs.Common.{◌<◌, arith, refl}
use Rattle.vax_table.specs.Operations.{operation_of}
use Rattle.vax_table.proofs.TableRows.{meaning_below, operation_narrow}
use Rattle.vax_table.proofs.lookup.operation.Goals as goal

pub returns-clause-value : goal.returns-clause-value
unfolding operation_of
returns-clause-value c = rw c.from.ensures refl

pub returns-clause-means : goal.returns-clause-means
unfolding operation_of
returns-clause-means c = let below : c.args.opcode < 256 = omega arith in rw c.from.ensures (meaning_below c.args.opcode below)

pub returns-clause-narrow : goal.returns-clause-narrow
unfolding operation_of
returns-clause-narrow c = let below : c.args.opcode < 256 = omega arith in rw c.from.ensures (operation_narrow c.args.opcode below)
