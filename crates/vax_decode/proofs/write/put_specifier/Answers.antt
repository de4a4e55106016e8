use Rattle.std.proofs.Common.{arith}
use Rattle.vax_decode.proofs.Encodings.{length-spelled_specifier}
use Rattle.vax_decode.proofs.write.put_specifier.Goals as goal

pub put_number-requires : goal.put_number-requires
put_number-requires c = omega (arith, c.requires.room, c.append_byte-else-spec-eq0.ensures.len, length-spelled_specifier c.args.form c.args.spec.now c.if-spec-eq0.false)
