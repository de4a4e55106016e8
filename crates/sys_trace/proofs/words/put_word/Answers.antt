use Rattle.std.proofs.Common.{arith}
use Rattle.sys_trace.proofs.Columns.{digits_long}
use Rattle.sys_trace.proofs.words.put_word.Goals as goal

pub append-requires-4 : goal.append-requires-4
append-requires-4 c =
    let digits = digits_long _ _ _ _ c.hex.ensures c.bytes.ensures.value in
    omega (arith, digits, c.append.ensures.len, c.append-2.ensures.len, c.append-3.ensures.len, c.requires.room, c.requires.short, c.requires.high)

pub returns-clause-grows : goal.returns-clause-grows
returns-clause-grows c =
    let digits = digits_long _ _ _ _ c.hex.ensures c.bytes.ensures.value in
    omega (arith, digits, c.append.ensures.len, c.append-2.ensures.len, c.append-3.ensures.len, c.append-4.ensures.len)
