use Rattle.std.proofs.Common.{◌<◌, length, arith}
use Rattle.sys_events.proofs.Happening.{console_guest, line_asked, line_typed}
use Rattle.sys_events.proofs.Touching.{asked_so, typed_so}
use Rattle.sys_events.proofs.events.take_line.Goals as goal

pub type_to-requires : goal.type_to-requires
type_to-requires g c =
    let k = c.args.kernel.now in
    let there : c.in-Some.guest < length k.guests.items = console_guest (g.H.Hardware.machine c.args.machine.now).memory k c.args.terminal c.in-Some.guest c.requires.holds c.requires.there c.in-Some.is in
    omega (arith, there, k.guests.ok.0)

pub returns-in-Some-clause-does : goal.returns-in-Some-clause-does
returns-in-Some-clause-does g c =
    line_typed (g.H.Hardware.machine c.args.machine.now) c.args.kernel.now c.type_to.new.kernel _ c.args.round c.args.terminal c.in-Some.guest c.args.text.now c.requires.holds c.requires.there c.in-Some.is c.type_to.ensures.does

pub returns-in-None-clause-does : goal.returns-in-None-clause-does
returns-in-None-clause-does g c =
    line_asked (g.H.Hardware.machine c.args.machine.now) _ c.args.kernel.now _ _ _ c.args.round c.args.terminal c.args.text.now c.requires.there c.in-None.is c.command.ensures.does

pub returns-in-Some-clause-present : goal.returns-in-Some-clause-present
returns-in-Some-clause-present g c = typed_so (g.H.Hardware.machine c.args.machine.now) c.args.kernel.now _ _ _ c.args.terminal c.args.text.now c.requires.there c.in-Some.is c.type_to.ensures.present

pub returns-in-None-clause-present : goal.returns-in-None-clause-present
returns-in-None-clause-present g c = asked_so (g.H.Hardware.machine c.args.machine.now) c.args.kernel.now _ _ _ c.args.terminal c.args.text.now c.requires.there c.in-None.is c.command.ensures.present
