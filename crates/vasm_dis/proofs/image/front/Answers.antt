use Rattle.std.proofs.Common.{arith, refl}
use Rattle.vax_table.proofs.Bytes.{AreBytes-from_index}
use Rattle.vasm_dis.proofs.Lines.{as_front, front_done, front_none}
use Rattle.vasm_dis.proofs.image.front.Goals as goal

pub returns-in-Some : goal.returns-in-Some
returns-in-Some c =
    let f = as_front c.args.image.now c.instruction.result _ c.from.result _ c.instruction.ensures c.from.ensures (front_done c.args.image.now c.in-Some.d (AreBytes-from_index _ (λ i. omega (arith, c.type_inv.image i))) c.requires c.in-Some.ensures) in
    record { text = f.text; some = f.some; most = f.most; rest = f.rest }

pub returns-in-None : goal.returns-in-None
returns-in-None c =
    let f = as_front c.args.image.now c.single_byte.result _ 1 1 c.single_byte.ensures refl (front_none c.args.image.now (AreBytes-from_index _ (λ i. omega (arith, c.type_inv.image i))) c.requires c.in-None.ensures) in
    record { text = f.text; some = f.some; most = f.most; rest = f.rest }
