use Rattle.std.proofs.Common.{Option, subst, sym}
use Rattle.std.specs.Option.{IfSome}
use Rattle.sys_server.specs.CommandLine.{Asks}
use Rattle.sys_server.specs.declared.command.NamedCommand.{NamedCommand}
use Rattle.sys_server.proofs.Written.{lines_are_written}
use Rattle.sys_server.proofs.line.asked_in.Goals as goal

pub returns-clause-exact : goal.returns-clause-exact
returns-clause-exact c = let P : Option NamedCommand → Type 0 = λ o. IfSome o (Asks c.args.text.now) in subst P (sym c.read.ensures) (lines_are_written c.args.text.now)
