use Rattle.std.proofs.Common.{◌≡◌, ◌*◌, ◌-◌, ◌∙◌, sym, subst, arith}
use Rattle.vm_state.specs.Partition.{part}
use Rattle.sys_state.specs.Dump.{row_lines, text_of_lines}
use Rattle.sys_output.proofs.Lines.{next_row_of, row_in}
use Rattle.sys_devices.proofs.OneLine.{IsButOn, begun_on, goes_on_there, stops_there}
use Rattle.sys_devices.proofs.Puts.{hands_on}
use Rattle.sys_output.proofs.dumps.put_rows.Goals as goal

pub loop-number-init : goal.loop-number-init
loop-number-init g c =
    let lines = g.L.Lines.lines c.args.lines.now in
    let memory = part (g.H.Hardware.machine c.args.machine.now).memory (512 * c.args.g.now.base) (512 * c.args.g.now.pages) in
    let rows = 32 * c.args.g.now.pages in
    let all : rows - 0 ≡ rows = omega arith in
    subst (λ n. IsButOn c.args.line lines lines (text_of_lines (row_lines n 0 memory)) (text_of_lines (row_lines rows 0 memory))) (sym all) (begun_on c.args.line _ _ (omega (arith, g.met.L.Lines.count c.args.lines.now, c.requires.line)))

pub returns-in_err-put_row : goal.returns-in_err-put_row
returns-in_err-put_row g c =
    let memory = (g.H.Hardware.machine c.args.machine.now).memory in
    let base = 512 * c.args.g.now.base in
    let size = 512 * c.args.g.now.pages in
    stops_there c.args.line _ _ _ _ _ _ _ _ (hands_on _ c.from_residual.result c.from_residual.ensures.1) (next_row_of (32 * c.args.g.now.pages) c.loop-number.number (part memory base size) c.row_at.result (omega arith) (c.row_at.ensures ∙ row_in memory base size (16 * c.loop-number.number) (omega arith))) c.loop-number.invariant c.in_err-put_row.ensures

pub loop-number-preserved : goal.loop-number-preserved
loop-number-preserved g c =
    let memory = (g.H.Hardware.machine c.args.machine.now).memory in
    let base = 512 * c.args.g.now.base in
    let size = 512 * c.args.g.now.pages in
    goes_on_there c.args.line _ _ _ _ _ _ _ (next_row_of (32 * c.args.g.now.pages) c.loop-number.number (part memory base size) c.row_at.result (omega arith) (c.row_at.ensures ∙ row_in memory base size (16 * c.loop-number.number) (omega arith))) c.loop-number.invariant c.in_ok-put_row.ensures
