use Rattle.std.proofs.Common.{arith, length, ◌≡◌, ◌*◌, ap, ℕ, ◌∙◌}
use Rattle.vasm_dis.proofs.Fields.{hex_length}
use Rattle.vasm_dis.proofs.put.put_field.Goals as goal

pub returns-clause-grows : goal.returns-clause-grows
returns-clause-grows c =
    let digits : length c.bytes.result.now ≡ 2 * c.args.size = ap (length {A = ℕ}) (c.bytes.ensures.value ∙ c.hex.ensures) ∙ hex_length (2 * c.args.size) c.args.value in
    omega (arith, digits, c.append.ensures.len, c.append-2.ensures.len)
