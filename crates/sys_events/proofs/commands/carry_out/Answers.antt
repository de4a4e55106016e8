use Rattle.sys_events.proofs.Obeying.{as_verdict}
use Rattle.sys_server.specs.declared.command.Verdict.TheVariants.{Granted}
use Rattle.sys_events.proofs.Touching.{as_judged, none_told}
use Rattle.sys_events.proofs.commands.carry_out.Goals as goal

pub returns-in-Granted-clause-does : goal.returns-in-Granted-clause-does
returns-in-Granted-clause-does g c =
    as_verdict (g.H.Hardware.machine c.args.machine.now) _ c.args.kernel.now _ _ _ c.args.terminal c.args.verdict.now (Granted c.in-Granted.command) c.in-Granted.is c.obey.ensures.does

pub returns-in-Granted-clause-present : goal.returns-in-Granted-clause-present
returns-in-Granted-clause-present g c = as_judged _ _ _ c.in-Granted.is c.obey.ensures.present

pub returns-in-BadCommand-clause-present : goal.returns-in-BadCommand-clause-present
returns-in-BadCommand-clause-present g c = as_judged _ _ _ c.in-BadCommand.is (none_told c.args.kernel.now.guests.items)

pub returns-in-NoSuchObject-clause-present : goal.returns-in-NoSuchObject-clause-present
returns-in-NoSuchObject-clause-present g c = as_judged _ _ _ c.in-NoSuchObject.is (none_told c.args.kernel.now.guests.items)

pub returns-in-Denied-clause-present : goal.returns-in-Denied-clause-present
returns-in-Denied-clause-present g c = as_judged _ _ _ c.in-Denied.is (none_told c.args.kernel.now.guests.items)
