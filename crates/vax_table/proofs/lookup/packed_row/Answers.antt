use Rattle.std.proofs.Common.{◌<◌, arith}
use Rattle.vax_table.proofs.TableRows.{row_is}
use Rattle.vax_table.proofs.lookup.packed_row.Goals as goal

pub returns : goal.returns
returns c = let below : c.args.opcode < 256 = omega arith in rw c.from.ensures (row_is c.args.opcode below)
