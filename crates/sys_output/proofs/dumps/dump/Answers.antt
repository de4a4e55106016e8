use Rattle.sys_output.proofs.Parts.{name_fails, psl_fails, registers_fail, rows_end}
use Rattle.sys_devices.proofs.Puts.{hands_on}
use Rattle.sys_output.proofs.dumps.dump.Goals as goal

pub returns-in_err-put_text : goal.returns-in_err-put_text
returns-in_err-put_text g c =
    let memory = (g.H.Hardware.machine c.args.machine.now).memory in
    name_fails _ memory c.args.name.now c.args.g.now c.name_text.result c.args.line _ _ (hands_on _ c.from_residual.result c.from_residual.ensures.1) c.requires.inside c.name_text.ensures.value c.in_err-put_text.ensures

pub returns-in_err-put_registers : goal.returns-in_err-put_registers
returns-in_err-put_registers g c =
    let memory = (g.H.Hardware.machine c.args.machine.now).memory in
    let one = g.L.Lines.lines c.put_text.new.lines in
    registers_fail _ memory c.args.name.now c.args.g.now c.name_text.result c.args.line _ one _ (hands_on _ c.from_residual-in_err-put_registers.result c.from_residual-in_err-put_registers.ensures.1) c.requires.inside c.name_text.ensures.value c.in_ok-put_text.ensures c.in_err-put_registers.ensures

pub returns-in_err-put_text-2 : goal.returns-in_err-put_text-2
returns-in_err-put_text-2 g c =
    let memory = (g.H.Hardware.machine c.args.machine.now).memory in
    let one = g.L.Lines.lines c.put_text.new.lines in
    let two = g.L.Lines.lines c.put_registers.new.lines in
    psl_fails _ memory c.args.name.now c.args.g.now c.name_text.result c.psl_text.result c.args.line _ one two _ (hands_on _ c.from_residual-in_err-put_text-2.result c.from_residual-in_err-put_text-2.ensures.1) c.requires.inside c.name_text.ensures.value c.psl_text.ensures.value c.in_ok-put_text.ensures c.in_ok-put_registers.ensures c.in_err-put_text-2.ensures

pub returns : goal.returns
returns g c =
    let memory = (g.H.Hardware.machine c.args.machine.now).memory in
    let one = g.L.Lines.lines c.put_text.new.lines in
    let two = g.L.Lines.lines c.put_registers.new.lines in
    let three = g.L.Lines.lines c.put_text-2.new.lines in
    rows_end _ memory c.args.name.now c.args.g.now c.name_text.result c.psl_text.result c.args.line _ one two three _ c.requires.inside c.name_text.ensures.value c.psl_text.ensures.value c.in_ok-put_text.ensures c.in_ok-put_registers.ensures c.in_ok-put_text-2.ensures c.put_rows.ensures
