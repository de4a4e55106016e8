use Rattle.std.proofs.Common.{◌<◌, ◌^◌, arith}
use Rattle.vax_operand.proofs.ByteByByte.{seven_bytes}
use Rattle.vax_paged.proofs.memory.+bytes_in.Goals as goal

pub overflow_mul-result : goal.overflow_mul-result
overflow_mul-result t c = let h : c.bytes_in-rest.result < 2 ^ 56 = seven_bytes _ c.args.bytes c.bytes_in-rest.ensures.fits c.requires.few in omega arith

pub overflow_add-result : goal.overflow_add-result
overflow_add-result t c = let h : c.bytes_in-rest.result < 2 ^ 56 = seven_bytes _ c.args.bytes c.bytes_in-rest.ensures.fits c.requires.few in omega arith
