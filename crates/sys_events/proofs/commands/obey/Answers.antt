use Rattle.sys_events.proofs.Obeying.{obeys_by, served_holds}
use Rattle.sys_events.proofs.commands.obey.Goals as goal

pub act-requires-clause-holds : goal.act-requires-clause-holds
act-requires-clause-holds g c = served_holds _ c.args.kernel.now _ c.args.terminal c.args.command.now c.requires.holds c.requires.there c.requires.places c.requires.names c.apply-taken.ensures.state

pub returns-clause-does : goal.returns-clause-does
returns-clause-does g c = obeys_by _ _ c.args.kernel.now _ _ _ _ c.args.terminal c.args.command.now c.requires.holds c.requires.there c.requires.places c.requires.names c.apply-taken.ensures.state c.act.ensures.does

pub returns-clause-present : goal.returns-clause-present
returns-clause-present g c = c.act.ensures.present
