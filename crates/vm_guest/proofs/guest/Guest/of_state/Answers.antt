use Rattle.std.proofs.Common.{refl}
use Rattle.vm_guest.proofs.guest.Guest.of_state.Goals as goal
use Rattle.vm_simulation_laws.proofs.Fitting.{new_has}

pub returns-clause-ok : goal.returns-clause-ok
returns-clause-ok g c = record {
  state = refl;
  made = c.in_ok-shadow.ensures.ok;
  present = new_has c.args.state c.args.tables (g.H.Hardware.machine c.args.machine.now) (g.H.Hardware.machine c.new.new.machine) c.in_ok-shadow.shadow c.in_ok-shadow.ensures.ok;
}
