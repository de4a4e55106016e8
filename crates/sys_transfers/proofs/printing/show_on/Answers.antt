use Rattle.std.proofs.Common.{ℕ, ◌<◌, Option, subst}
use Rattle.std.specs.Prelude.{IfSome}
use Rattle.sys_transfers.proofs.Printed.{shown_nowhere, shown_there}
use Rattle.sys_transfers.proofs.printing.show_on.Goals as goal

pub show_whole-requires : goal.show_whole-requires
show_whole-requires g c = subst (λ (o : Option ℕ). IfSome o (λ line. line < 32)) c.in-Some.is c.requires

pub returns-in-Some : goal.returns-in-Some
returns-in-Some g c = shown_there c.args.place c.in-Some.line c.args.bytes.now c.in-Some.is c.show_whole.ensures

pub returns-in_default : goal.returns-in_default
returns-in_default g c = shown_nowhere c.args.marks.now _ c.args.place c.args.bytes.now c.in_default.is
