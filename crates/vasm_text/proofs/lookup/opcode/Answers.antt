use Rattle.std.proofs.Common.{arith, sym, ◌∙◌}
use Rattle.vasm_text.proofs.Names.{opcode_found, opcode_missed}
use Rattle.vasm_text.proofs.lookup.opcode.Goals as goal

pub returns-then-is_named : goal.returns-then-is_named
returns-then-is_named c = sym (opcode_found c.args.name.now c.loop-n.n c.loop-n-test.true c.loop-n.invariant (sym c.is_named.ensures ∙ c.if-is_named.true))

pub returns : goal.returns
returns c = sym (opcode_missed c.args.name.now (λ k below. c.loop-n.invariant k (omega arith)))
