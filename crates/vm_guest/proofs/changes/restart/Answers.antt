use Rattle.std.proofs.Common.{◌*◌}
use Rattle.vm_state.specs.Start.{started}
use Rattle.vm_guest.proofs.Becoming.{becomes_switched, reset_present, start_allowed}
use Rattle.vm_guest.proofs.changes.restart.Goals as goal

pub returns-clause-becomes : goal.returns-clause-becomes
returns-clause-becomes g c = becomes_switched (g.H.Hardware.machine c.args.machine.now) (record { state = c.args.g.now; shadow = c.args.s.now }) (started c.args.g.now.start c.args.g.now.modify_faults) c.reset.new.self (g.H.Hardware.machine c.switch.new.machine) c.switch.new.self c.requires.stands c.reset.ensures.place c.reset.ensures.state (start_allowed (512 * c.reset.new.self.pages) c.args.g.now.start c.args.g.now.modify_faults) c.switch.ensures

pub returns-clause-present : goal.returns-clause-present
returns-clause-present g c = reset_present (g.H.Hardware.machine c.args.machine.now) (record { state = c.args.g.now; shadow = c.args.s.now }) (started c.args.g.now.start c.args.g.now.modify_faults) c.reset.new.self (g.H.Hardware.machine c.switch.new.machine) c.switch.new.self c.reset.ensures.state c.switch.ensures
