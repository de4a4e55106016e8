use Rattle.std.proofs.Common.{ℕ, Result, subst}
use Rattle.vm_emulate.specs.Fetched.{MovesFromRegister}
use Rattle.vm_emulate.proofs.FetchingTo.{is_kept}
use Rattle.vm_state.specs.declared.register.ReservedOperand.{ReservedOperand}
use Rattle.vm_emulate.proofs.fetches.move_from_register.Goals as goal

pub returns : goal.returns
returns g c =
    is_kept (g.H.Hardware.machine c.args.machine.now) c.args.s.now c.args.g.now c.args.t.now c.requires c.in-Ok.v c.read_register.new.g c.put_value.new.g c.in_default.not-Memory
    (subst (λ (x : Result ℕ ReservedOperand). MovesFromRegister c.args.g.now c.args.t.now x c.read_register.new.g) c.in-Ok.is c.read_register.ensures.is) c.read_register.ensures.place c.put_value.ensures.state c.put_value.ensures.place
