use Rattle.vax_table.specs.declared.act.Sens.TheVariants.{Chm, Ldpctx, Mfpr, Prober, Probew, Rei, Svpctx, Wait}
use Rattle.vm_emulate.proofs.Dispatching.{chm, halts, ldpctx, mfpr, mtpr, mtpr_shows, rei, shows_nothing, svpctx, waits}
use Rattle.vm_state.specs.Partition.{guest_of}
use Rattle.vm_emulate.proofs.emulating.emulate.Goals as goal

pub returns-in-Halt-clause-emulates : goal.returns-in-Halt-clause-emulates
returns-in-Halt-clause-emulates g c = halts c.args.t.now (g.H.Hardware.machine c.args.machine.now) c.args.s.now c.args.g.now c.halt.new.g c.requires c.halt.result c.in-Halt.is c.halt.ensures.result c.halt.ensures.state c.halt.ensures.place

pub returns-in-Wait-clause-emulates : goal.returns-in-Wait-clause-emulates
returns-in-Wait-clause-emulates g c = waits c.args.t.now (g.H.Hardware.machine c.args.machine.now) c.args.s.now c.args.g.now c.wait.new.g c.requires c.wait.result c.in-Wait.is c.wait.ensures.result c.wait.ensures.state c.wait.ensures.place

pub returns-in-Wait-clause-shown : goal.returns-in-Wait-clause-shown
returns-in-Wait-clause-shown g c = shows_nothing g.T.Port.may c.args.port.now (guest_of (g.H.Hardware.machine c.args.machine.now).memory c.args.g.now) c.args.t.now Wait c.wait.result c.in-Wait.is tt

pub returns-in-Chm-clause-emulates : goal.returns-in-Chm-clause-emulates
returns-in-Chm-clause-emulates g c = chm c.args.t.now (g.H.Hardware.machine c.args.machine.now) c.args.s.now c.args.g.now c.change_mode.result (g.H.Hardware.machine c.change_mode.new.machine) c.change_mode.new.s c.change_mode.new.g c.in-Chm.to c.in-Chm.is c.change_mode.ensures

pub returns-in-Chm-clause-shown : goal.returns-in-Chm-clause-shown
returns-in-Chm-clause-shown g c = shows_nothing g.T.Port.may c.args.port.now (guest_of (g.H.Hardware.machine c.args.machine.now).memory c.args.g.now) c.args.t.now (Chm c.in-Chm.to) c.change_mode.result c.in-Chm.is tt

pub returns-in-Rei-clause-emulates : goal.returns-in-Rei-clause-emulates
returns-in-Rei-clause-emulates g c = rei c.args.t.now (g.H.Hardware.machine c.args.machine.now) c.args.s.now c.args.g.now c.return_from.result (g.H.Hardware.machine c.args.machine.now) c.args.s.now c.return_from.new.g c.in-Rei.is (c.return_from.ensures.senses c.args.s.now c.requires)

pub returns-in-Rei-clause-shown : goal.returns-in-Rei-clause-shown
returns-in-Rei-clause-shown g c = shows_nothing g.T.Port.may c.args.port.now (guest_of (g.H.Hardware.machine c.args.machine.now).memory c.args.g.now) c.args.t.now Rei c.return_from.result c.in-Rei.is tt

pub returns-in-Mtpr-clause-emulates : goal.returns-in-Mtpr-clause-emulates
returns-in-Mtpr-clause-emulates g c = mtpr c.args.t.now (g.H.Hardware.machine c.args.machine.now) c.args.s.now c.args.g.now c.move_to_register.result (g.H.Hardware.machine c.move_to_register.new.machine) c.move_to_register.new.s c.move_to_register.new.g c.in-Mtpr.is c.move_to_register.ensures.senses

pub returns-in-Mtpr-clause-shown : goal.returns-in-Mtpr-clause-shown
returns-in-Mtpr-clause-shown g c = mtpr_shows g.T.Port.may c.args.port.now c.move_to_register.new.port (guest_of (g.H.Hardware.machine c.args.machine.now).memory c.args.g.now) c.args.t.now c.move_to_register.result c.in-Mtpr.is c.move_to_register.ensures.shown

pub returns-in-Mfpr-clause-emulates : goal.returns-in-Mfpr-clause-emulates
returns-in-Mfpr-clause-emulates g c = mfpr c.args.t.now (g.H.Hardware.machine c.args.machine.now) c.args.s.now c.args.g.now c.move_from_register.result (g.H.Hardware.machine c.move_from_register.new.machine) c.move_from_register.new.s c.move_from_register.new.g c.in-Mfpr.is c.move_from_register.ensures

pub returns-in-Mfpr-clause-shown : goal.returns-in-Mfpr-clause-shown
returns-in-Mfpr-clause-shown g c = shows_nothing g.T.Port.may c.args.port.now (guest_of (g.H.Hardware.machine c.args.machine.now).memory c.args.g.now) c.args.t.now Mfpr c.move_from_register.result c.in-Mfpr.is tt

pub returns-in-Ldpctx-clause-emulates : goal.returns-in-Ldpctx-clause-emulates
returns-in-Ldpctx-clause-emulates g c = ldpctx c.args.t.now (g.H.Hardware.machine c.args.machine.now) c.args.s.now c.args.g.now c.load_context.result (g.H.Hardware.machine c.load_context.new.machine) c.load_context.new.s c.load_context.new.g c.in-Ldpctx.is c.load_context.ensures

pub returns-in-Ldpctx-clause-shown : goal.returns-in-Ldpctx-clause-shown
returns-in-Ldpctx-clause-shown g c = shows_nothing g.T.Port.may c.args.port.now (guest_of (g.H.Hardware.machine c.args.machine.now).memory c.args.g.now) c.args.t.now Ldpctx c.load_context.result c.in-Ldpctx.is tt

pub returns-in-Svpctx-clause-emulates : goal.returns-in-Svpctx-clause-emulates
returns-in-Svpctx-clause-emulates g c = svpctx c.args.t.now (g.H.Hardware.machine c.args.machine.now) c.args.s.now c.args.g.now c.save_context.result (g.H.Hardware.machine c.save_context.new.machine) c.save_context.new.s c.save_context.new.g c.in-Svpctx.is c.save_context.ensures

pub returns-in-Svpctx-clause-shown : goal.returns-in-Svpctx-clause-shown
returns-in-Svpctx-clause-shown g c = shows_nothing g.T.Port.may c.args.port.now (guest_of (g.H.Hardware.machine c.args.machine.now).memory c.args.g.now) c.args.t.now Svpctx c.save_context.result c.in-Svpctx.is tt

pub returns-in-Prober-clause-shown : goal.returns-in-Prober-clause-shown
returns-in-Prober-clause-shown g c = shows_nothing g.T.Port.may c.args.port.now (guest_of (g.H.Hardware.machine c.args.machine.now).memory c.args.g.now) c.args.t.now Prober c.probe.result c.in-Prober.is tt

pub returns-in-Probew-clause-shown : goal.returns-in-Probew-clause-shown
returns-in-Probew-clause-shown g c = shows_nothing g.T.Port.may c.args.port.now (guest_of (g.H.Hardware.machine c.args.machine.now).memory c.args.g.now) c.args.t.now Probew c.probe-in-Probew.result c.in-Probew.is tt
