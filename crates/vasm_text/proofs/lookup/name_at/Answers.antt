use Rattle.std.proofs.Common.{sym, ◌∙◌, arith}
use Rattle.vasm_text.proofs.Names.{name_shown, none_shown}
use Rattle.vasm_text.proofs.lookup.name_at.Goals as goal

pub returns-then-is_empty : goal.returns-then-is_empty
returns-then-is_empty c = none_shown c.args.names.now c.requires c.args.opcode c.from.result _ (omega arith) (omega arith) (sym c.is_empty.ensures ∙ c.if-is_empty.true)

pub returns-else-is_empty : goal.returns-else-is_empty
returns-else-is_empty c = name_shown c.args.names.now c.requires c.args.opcode c.from.result _ (omega arith) (omega arith) (sym c.is_empty.ensures ∙ c.if-is_empty.false)
