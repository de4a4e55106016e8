use Rattle.std.proofs.Common.{arith, length, ap, ℕ, ◌≤◌, ◌≡◌}
use Rattle.vasm_dis.proofs.Lengths.{name_length}
use Rattle.vasm_dis.proofs.image.put_name.Goals as goal

pub append-requires : goal.append-requires
append-requires c =
    let short : length c.in-Some.name.now ≤ 6 = name_length c.args.opcode c.in-Some.name.now (omega arith) c.in-Some.ensures in
    let same : length c.as_bytes.result.now ≡ length c.in-Some.name.now = ap (length {A = ℕ}) c.as_bytes.ensures.value in
    omega (arith, short, same)

pub returns-in-Some-clause-short : goal.returns-in-Some-clause-short
returns-in-Some-clause-short c =
    let short : length c.in-Some.name.now ≤ 6 = name_length c.args.opcode c.in-Some.name.now (omega arith) c.in-Some.ensures in
    let same : length c.as_bytes.result.now ≡ length c.in-Some.name.now = ap (length {A = ℕ}) c.as_bytes.ensures.value in
    omega (arith, short, same, c.append.ensures.len)
