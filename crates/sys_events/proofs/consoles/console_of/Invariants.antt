use Rattle.std.proofs.Common.{◌≡◌, drop}
use Rattle.sys_state.specs.Consoles.{console_of}
use Rattle.sys_events.proofs.consoles.console_of.Given as goal

abbrev pub invariant-loop-k : goal.invariant-loop-k
invariant-loop-k l = console_of l.terminals l.connected l.guest ≡ console_of (drop l.k l.terminals) (drop l.k l.connected) l.guest
