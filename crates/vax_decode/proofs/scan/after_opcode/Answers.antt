use Rattle.std.proofs.Common.{sym, arith}
use Rattle.vax_table.proofs.Bytes.{AreBytes-from_index}
use Rattle.vax_decode.proofs.Decodings.{left_over}
use Rattle.vax_decode.proofs.scan.after_opcode.Goals as goal

pub overflow_sub-decoded : goal.overflow_sub-decoded
overflow_sub-decoded c =
    let left = left_over c.args.forms.now c.args.b.now c.operands.new.specs.items c.in-Got.rest.now (AreBytes-from_index _ (λ i. omega (arith, c.type_inv.b i))) (sym c.in-Got.ensures) in left.0

pub overflow_cast-decoded : goal.overflow_cast-decoded
overflow_cast-decoded c =
    let left = left_over c.args.forms.now c.args.b.now c.operands.new.specs.items c.in-Got.rest.now (AreBytes-from_index _ (λ i. omega (arith, c.type_inv.b i))) (sym c.in-Got.ensures) in omega (arith, left.0, left.1)

pub overflow_add-decoded : goal.overflow_add-decoded
overflow_add-decoded c =
    let left = left_over c.args.forms.now c.args.b.now c.operands.new.specs.items c.in-Got.rest.now (AreBytes-from_index _ (λ i. omega (arith, c.type_inv.b i))) (sym c.in-Got.ensures) in omega (arith, left.0, left.1)
