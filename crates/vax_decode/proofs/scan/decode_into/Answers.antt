use Rattle.std.proofs.Common.{arith}
use Rattle.vax_table.proofs.Bytes.{AreBytes-from_index}
use Rattle.vax_decode.proofs.Decodings.{decodes}
use Rattle.vax_decode.proofs.scan.decode_into.Goals as goal

pub returns-clause-spells : goal.returns-clause-spells
returns-clause-spells c = decodes c.args.b.now _ (AreBytes-from_index _ (λ i. omega (arith, c.type_inv.b i))) c.scan.ensures
