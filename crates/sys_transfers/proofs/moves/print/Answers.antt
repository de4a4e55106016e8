use Rattle.std.proofs.Common.{◌*◌, ◌∙◌, sym}
use Rattle.sys_transfers.specs.Serves.{packet_of}
use Rattle.sys_transfers.proofs.Moving.{lie_inside, print_long, print_moves, print_past, text_printed, text_refused}
use Rattle.vm_guest.specs.Kept.{guest_in}
use Rattle.sys_transfers.proofs.moves.print.Goals as goal

pub returns-then-p-gt-MOST_PRINTED : goal.returns-then-p-gt-MOST_PRINTED
returns-then-p-gt-MOST_PRINTED g c = text_refused c.args.row.now (packet_of c.args.p.now) (guest_in (g.H.Hardware.machine c.args.machine.now).memory c.args.guest.now) _ (print_long (512 * c.args.guest.now.state.pages) (packet_of c.args.p.now) c.if-p-gt-MOST_PRINTED.true)

pub returns-then-is_outside : goal.returns-then-is_outside
returns-then-is_outside g c = text_refused c.args.row.now (packet_of c.args.p.now) (guest_in (g.H.Hardware.machine c.args.machine.now).memory c.args.guest.now) _ (print_past (512 * c.args.guest.now.state.pages) (packet_of c.args.p.now) (sym c.is_outside.ensures ∙ c.if-is_outside.true))

pub job_of-requires-clause-inside : goal.job_of-requires-clause-inside
job_of-requires-clause-inside g c = lie_inside (512 * c.args.guest.now.state.pages) c.args.p.now.buffer c.args.p.now.size (sym c.is_outside.ensures ∙ c.if-is_outside.false)

pub returns : goal.returns
returns g c = text_printed c.args.row.now (packet_of c.args.p.now) (guest_in (g.H.Hardware.machine c.args.machine.now).memory c.args.guest.now) _ c.job_of.result (print_moves (512 * c.args.guest.now.state.pages) (packet_of c.args.p.now) c.if-p-gt-MOST_PRINTED.false (sym c.is_outside.ensures ∙ c.if-is_outside.false)) c.job_of.ensures
