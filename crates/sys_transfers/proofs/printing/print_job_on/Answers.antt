use Rattle.std.proofs.Common.{ℕ, ◌<◌, Option, subst, sym}
use Rattle.std.specs.Prelude.{IfSome}
use Rattle.sys_state.specs.Transfers.{printer_of}
use Rattle.sys_transfers.proofs.Printed.{job_shown, nothing_shown, small_line}
use Rattle.sys_transfers.proofs.printing.print_job_on.Goals as goal

pub show_on-requires : goal.show_on-requires
show_on-requires g c = subst (λ (o : Option ℕ). IfSome o (λ line. line < 32)) (sym c.printer_line-line.ensures) (small_line c.args.config.now c.args.printer c.requires)

pub returns-in-Some : goal.returns-in-Some
returns-in-Some g c = job_shown (printer_of c.args.config.now c.args.printer) c.printer_line-line.result c.in-Some.text c.bytes.result.now c.args.job.now c.printer_line-line.ensures c.bytes.ensures.value c.in-Some.is c.show_on.ensures

pub returns-in_default : goal.returns-in_default
returns-in_default g c = nothing_shown c.args.marks.now _ (printer_of c.args.config.now c.args.printer) c.args.job.now c.in_default.is
