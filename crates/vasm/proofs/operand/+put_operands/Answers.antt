use Rattle.std.proofs.Common.{sym}
use Rattle.vasm.specs.Labels.{label_address}
use Rattle.vasm.proofs.Steps.{first_fit, resolved_in_range, operand_put}
use Rattle.vasm.proofs.operand.+put_operands.Goals as goal

pub put_operand-requires : goal.put_operand-requires
put_operand-requires t c =
    resolved_in_range (label_address c.args.labels.now) _ _ _ c.in-Ok.spec (first_fit c.args.forms.now c.args.operands.now _ _ c.in-len1-up.len_at_least c.in-len1-up-operands.len_at_least c.requires.fit) (sym c.in-Ok.ensures)

pub returns : goal.returns
returns t c =
    operand_put (label_address c.args.labels.now) c.args.line c.args.at c.operand_size.result c.args.forms.now c.args.operands.now _ _ c.in-Ok.spec c.args.bytes.now.items _ c.put_operands.new.bytes.items c.put_operands.result c.in-len1-up.len_at_least c.in-len1-up-operands.len_at_least c.operand_size.ensures.value c.in-Ok.ensures c.in_ok-put_operand-in-Ok.ensures c.put_operands.ensures
