use Rattle.std.proofs.Common.{arith}
use Rattle.sys_transfers.specs.Serves.{packet_of}
use Rattle.sys_transfers.proofs.Served.{serves_one}
use Rattle.sys_transfers.proofs.serving.serve.Goals as goal

pub carry-status-requires-clause-stands : goal.carry-status-requires-clause-stands
carry-status-requires-clause-stands g c = c.requires.stands

pub carry-status-requires-clause-mounted : goal.carry-status-requires-clause-mounted
carry-status-requires-clause-mounted g c = c.requires.mounted

pub answer-requires-clause-stands : goal.answer-requires-clause-stands
answer-requires-clause-stands g c = c.carry-status.ensures.carries.becomes.stands

pub answer-requires-clause-inside : goal.answer-requires-clause-inside
answer-requires-clause-inside g c = omega (arith, c.requires.inside, c.carry-status.ensures.carries.becomes.place.pages)

pub returns : goal.returns
returns g c = serves_one c.args.row.now c.args.mounts.now c.args.at (packet_of c.request_at-p.result) c.args.volumes.now c.carry-status.new.volumes (g.H.Hardware.machine c.args.machine.now) c.args.guest.now c.carry-status.result.0 c.carry-status.result.1 (g.H.Hardware.machine c.carry-status.new.machine) c.carry-status.new.guest (g.H.Hardware.machine c.answer.new.machine) c.answer.new.guest c.requires.stands c.request_at-p.ensures c.carry-status.ensures c.answer.ensures.becomes c.answer.ensures.drops
