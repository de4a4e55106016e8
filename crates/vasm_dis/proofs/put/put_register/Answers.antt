use Rattle.std.proofs.Common.{arith, decimal, length, ap, ℕ, ◌≤◌, ◌≡◌, ◌∙◌}
use Rattle.std.proofs.lemmas.Fmt.{length-decimal-le}
use Rattle.vasm_dis.proofs.put.put_register.Goals as goal

pub returns-in-0-to-11-clause-grows : goal.returns-in-0-to-11-clause-grows
returns-in-0-to-11-clause-grows c =
    let few : length (decimal c.from.result) ≤ 2 = length-decimal-le 2 c.from.result (omega arith) (omega (arith, c.from.ensures)) (omega (arith, c.from.ensures)) in
    let digits : length c.bytes.result.now ≡ length (decimal c.from.result) = ap (length {A = ℕ}) (c.bytes.ensures.value ∙ c.decimal.ensures) in
    omega (arith, few, digits, c.append-in-0-to-11.ensures.len, c.append-in-0-to-11-2.ensures.len)
