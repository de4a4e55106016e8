use Rattle.std.proofs.Common.{refl}
use Rattle.vm_state.specs.State.{state_of}
use Rattle.vm_guest.proofs.Becoming.{becomes_switched}
use Rattle.vm_guest.proofs.changes.put_state.Goals as goal

pub returns : goal.returns
returns g c = becomes_switched (g.H.Hardware.machine c.args.machine.now) (record { state = c.args.g.now; shadow = c.args.s.now }) (state_of c.args.state) c.args.state (g.H.Hardware.machine c.switch.new.machine) c.switch.new.self c.requires.stands c.requires.place refl c.requires.allowed c.switch.ensures
