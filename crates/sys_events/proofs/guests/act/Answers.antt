use Rattle.std.proofs.Common.{◌<◌, ◌∙◌, length, arith, ap}
use Rattle.sys_events.proofs.Happening.{as_many}
use Rattle.sys_events.proofs.Obeying.{as_command, halts, names_known, shows_all, starts}
use Rattle.sys_server.specs.declared.command.Command.TheVariants.{Start, Halt, Show}
use Rattle.sys_events.proofs.Touching.{as_started, none_told}
use Rattle.sys_events.proofs.guests.act.Goals as goal

pub start_at-requires-clause-there : goal.start_at-requires-clause-there
start_at-requires-clause-there g c =
    let k = c.args.kernel.now in
    let named : c.in-Start.guest < length k.config.guests = names_known k.config c.args.command.now (Start c.in-Start.guest) c.in-Start.is c.requires.names in
    let many = as_many (g.H.Hardware.machine c.args.machine.now).memory k c.requires.holds in
    omega (arith, named, many, k.guests.ok.0)

pub halt-requires-clause-there : goal.halt-requires-clause-there
halt-requires-clause-there g c =
    let k = c.args.kernel.now in
    let named : c.in-Halt.guest < length k.config.guests = names_known k.config c.args.command.now (Halt c.in-Halt.guest) c.in-Halt.is c.requires.names in
    let many = as_many (g.H.Hardware.machine c.args.machine.now).memory k c.requires.holds in
    omega (arith, named, many, k.guests.ok.0)

pub show_objects-requires-clause-beside : goal.show_objects-requires-clause-beside
show_objects-requires-clause-beside g c = ap length c.deref.ensures.value ∙ as_many (g.H.Hardware.machine c.args.machine.now).memory c.args.kernel.now c.requires.holds

pub returns-in-Start-clause-does : goal.returns-in-Start-clause-does
returns-in-Start-clause-does g c =
    let k = c.args.kernel.now in
    let m = g.H.Hardware.machine c.args.machine.now in
    let named : c.in-Start.guest < length k.config.guests = names_known k.config c.args.command.now (Start c.in-Start.guest) c.in-Start.is c.requires.names in
    as_command m _ k _ _ _ c.args.terminal c.args.command.now (Start c.in-Start.guest) c.in-Start.is
    (starts m (g.H.Hardware.machine c.start_at.new.machine) k c.start_at.new.guests _ c.args.terminal c.in-Start.guest c.requires.holds named c.start_at.ensures.starts c.start_at.ensures.rest)

pub returns-in-Halt-clause-does : goal.returns-in-Halt-clause-does
returns-in-Halt-clause-does g c =
    let k = c.args.kernel.now in
    let m = g.H.Hardware.machine c.args.machine.now in
    as_command m _ k _ _ _ c.args.terminal c.args.command.now (Halt c.in-Halt.guest) c.in-Halt.is
    (halts m k c.halt.new.kernel _ _ c.args.terminal c.in-Halt.guest c.requires.holds c.requires.there c.halt.ensures.does)

pub returns-in-Show-clause-does : goal.returns-in-Show-clause-does
returns-in-Show-clause-does g c =
    let k = c.args.kernel.now in
    let m = g.H.Hardware.machine c.args.machine.now in
    as_command m _ k _ _ _ c.args.terminal c.args.command.now Show c.in-Show.is
    (shows_all m k c.show_objects.new.marks _ _ c.args.terminal c.deref.result.now c.requires.holds c.deref.ensures.value c.show_objects.ensures)

pub returns-in-Start-clause-present : goal.returns-in-Start-clause-present
returns-in-Start-clause-present g c = as_started _ _ _ c.in-Start.is c.start_at.ensures.present

pub returns-in-Halt-clause-present : goal.returns-in-Halt-clause-present
returns-in-Halt-clause-present g c = as_started _ _ _ c.in-Halt.is c.halt.ensures.present

pub returns-in-Show-clause-present : goal.returns-in-Show-clause-present
returns-in-Show-clause-present g c = as_started _ _ _ c.in-Show.is (none_told c.args.kernel.now.guests.items)

pub returns-in-Connect-clause-present : goal.returns-in-Connect-clause-present
returns-in-Connect-clause-present g c = as_started _ _ _ c.in-Connect.is (none_told c.args.kernel.now.guests.items)

pub returns-in-MountAt-clause-present : goal.returns-in-MountAt-clause-present
returns-in-MountAt-clause-present g c = as_started _ _ _ c.in-MountAt.is (none_told c.args.kernel.now.guests.items)

pub returns-in-Dismount-clause-present : goal.returns-in-Dismount-clause-present
returns-in-Dismount-clause-present g c = as_started _ _ _ c.in-Dismount.is (none_told c.args.kernel.now.guests.items)
