use Rattle.std.proofs.Common.{arith}
use Rattle.sys_system.proofs.Mounting.{assembled, seated_at_first}
use Rattle.sys_system.specs.declared.parts.Parts.{Parts}
use Rattle.sys_system.proofs.assembling.assemble.Goals as goal

pub returns-clause-inside : goal.returns-clause-inside
returns-clause-inside g c =
    let parts : Parts = record { kernel = record { config = c.args.config; server = c.server_of-server.result; guests = c.in_ok-guests.guests; marks = _; port = c.in_ok-port.port }; volumes = c.args.volumes; turns = c.in_ok-turns.turns; rounds = 0; counts = c.none-2.result; drives = _ } in
    assembled _ parts c.as_slice-rows.result.now c.requires.accepted c.as_slice-rows.ensures c.in_ok-guests.ensures.placed (seated_at_first _ _ c.requires.accepted c.server_of-server.ensures) c.requires.sizes c.in_ok-turns.ensures (omega arith) c.none-2.ensures
