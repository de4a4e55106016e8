use Rattle.std.proofs.Common.{◌++◌, List, ℕ, subst}
use Rattle.vm_exception.specs.Sources.{source_of}
use Rattle.vm_exception.proofs.Making.{interrupt_stops, interrupt_taken, request_stays}
use Rattle.vm_exception.proofs.Requests.{has_level}
use Rattle.vm_state.specs.State.{state_of}
use Rattle.vm_exception.proofs.beginning.interrupt.Goals as goal

pub exception-requires : goal.exception-requires
exception-requires g c = has_level (state_of c.args.g.now) (source_of c.args.source) c.requires.due

pub end_request-requires : goal.end_request-requires
end_request-requires g c = request_stays (source_of c.args.source) c.exception.result (g.H.Hardware.machine c.args.machine.now) (g.H.Hardware.machine c.initiate.new.machine) c.args.s.now c.initiate.new.s c.args.g.now c.initiate.new.g c.exception.ensures.is c.in-Taken.ensures c.requires.due

pub returns-in-Taken-clause-makes : goal.returns-in-Taken-clause-makes
returns-in-Taken-clause-makes g c = interrupt_taken (source_of c.args.source) c.exception.result (g.H.Hardware.machine c.args.machine.now) (g.H.Hardware.machine c.initiate.new.machine) c.args.s.now c.initiate.new.s c.args.g.now c.initiate.new.g c.exception.ensures.is c.in-Taken.ensures c.requires.due c.end_request.new.g c.end_request.ensures.state c.end_request.ensures.place

pub returns-in-Stopped-clause-shown : goal.returns-in-Stopped-clause-shown
returns-in-Stopped-clause-shown g c = λ given h. subst (λ (bytes : List ℕ). g.T.Port.may c.show_stop.new.port (given ++ bytes)) (interrupt_stops c.in-Stopped.code (g.H.Hardware.machine c.args.machine.now) (g.H.Hardware.machine c.initiate.new.machine) c.args.s.now c.initiate.new.s c.args.g.now c.initiate.new.g (source_of c.args.source) c.exception.result c.exception.ensures.is c.in-Stopped.ensures) (c.show_stop.ensures given h)
