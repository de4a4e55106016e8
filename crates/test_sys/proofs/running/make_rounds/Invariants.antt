use Rattle.std.proofs.Common.{◌≡◌, false}
use Rattle.sys_system.specs.System.{IsInMachine}
use Rattle.test_sys.proofs.running.make_rounds.Given as goal

abbrev pub invariant-loop-number : goal.invariant-loop-number
invariant-loop-number g l = record {
  config : l.system.config ≡ l.fn.system.config;
  rounds : l.system.rounds ≡ l.number;
  rests : l.system.turns.is_begun ≡ false;
  stands : IsInMachine (g.H.Hardware.machine l.machine).memory l.system;
}
