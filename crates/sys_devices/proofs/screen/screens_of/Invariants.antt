use Rattle.std.proofs.Common.{take}
use Rattle.sys_devices.specs.Screens.{AreScreens}
use Rattle.sys_devices.proofs.screen.screens_of.Given as goal

abbrev pub invariant-loop-terminal : goal.invariant-loop-terminal
invariant-loop-terminal g l = AreScreens (g.L.Lines.lines l.lines) (take l.terminal-index l.terminals) l.screens.items
