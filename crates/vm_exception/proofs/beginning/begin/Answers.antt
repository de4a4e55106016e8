use Rattle.std.proofs.Common.{◌++◌, List, ℕ, append-nil, refl, subst, sym}
use Rattle.vm_exception.proofs.Telling.{tells}
use Rattle.vm_exception.specs.declared.initiated.Initiated.TheVariants as outcomes
use Rattle.vm_exception.proofs.Making.{begin_stops, begins}
use Rattle.vm_state.specs.Step.{Kind}
use Rattle.vm_exception.proofs.beginning.begin.Goals as goal

pub returns-in-Stopped-clause-shown : goal.returns-in-Stopped-clause-shown
returns-in-Stopped-clause-shown g c = λ kind given h. subst (λ (bytes : List ℕ). g.T.Port.may c.show_stop.new.port (given ++ bytes)) (begin_stops c.in-Stopped.code (g.H.Hardware.machine c.args.machine.now) (g.H.Hardware.machine c.initiate.new.machine) c.args.s.now c.initiate.new.s c.args.g.now c.initiate.new.g c.args.e kind c.in-Stopped.ensures) (c.show_stop.ensures given h)

pub returns-in-Taken : goal.returns-in-Taken
returns-in-Taken g c =
    let on = λ (kind : Kind). begins kind (g.H.Hardware.machine c.args.machine.now) (g.H.Hardware.machine c.initiate.new.machine) c.args.s.now c.initiate.new.s c.args.g.now c.initiate.new.g c.args.e outcomes.Taken (λ code is. cc) c.in-Taken.ensures in
    record {
      makes = λ kind. (on kind).makes;
      shown = λ kind given h. subst (λ (bytes : List ℕ). g.T.Port.may c.args.port.now (given ++ bytes)) (on kind).shown (subst (g.T.Port.may c.args.port.now) (sym (append-nil given)) h);
      note = tells (g.H.Hardware.machine c.args.machine.now) (g.H.Hardware.machine c.initiate.new.machine) c.args.s.now c.initiate.new.s c.args.g.now c.initiate.new.g c.args.e outcomes.Taken c.vector_offset-offset.result _ refl c.vector_offset-offset.ensures.is c.in-Taken.ensures;
    }

pub returns-in-KernelStackBad : goal.returns-in-KernelStackBad
returns-in-KernelStackBad g c =
    let on = λ (kind : Kind). begins kind (g.H.Hardware.machine c.args.machine.now) (g.H.Hardware.machine c.initiate.new.machine) c.args.s.now c.initiate.new.s c.args.g.now c.initiate.new.g c.args.e outcomes.KernelStackBad (λ code is. cc) c.in-KernelStackBad.ensures in
    record {
      makes = λ kind. (on kind).makes;
      shown = λ kind given h. subst (λ (bytes : List ℕ). g.T.Port.may c.args.port.now (given ++ bytes)) (on kind).shown (subst (g.T.Port.may c.args.port.now) (sym (append-nil given)) h);
      note = tells (g.H.Hardware.machine c.args.machine.now) (g.H.Hardware.machine c.initiate.new.machine) c.args.s.now c.initiate.new.s c.args.g.now c.initiate.new.g c.args.e outcomes.KernelStackBad c.vector_offset-offset.result _ refl c.vector_offset-offset.ensures.is c.in-KernelStackBad.ensures;
    }
