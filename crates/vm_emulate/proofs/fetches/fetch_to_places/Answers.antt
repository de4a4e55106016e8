use Rattle.std.proofs.Common.{◌∙◌, ℕ, Result, ap, subst, sym}
use Rattle.vax_table.specs.Tries.{first_clear}
use Rattle.vm_emulate.specs.Fetched.{MovesFromRegister}
use Rattle.vm_emulate.proofs.FetchingTo.{is_put}
use Rattle.vm_state.specs.Partition.{guest_of}
use Rattle.vm_state.specs.Translation.{is_clear}
use Rattle.vm_state.specs.declared.register.ReservedOperand.{ReservedOperand}
use Rattle.vm_emulate.proofs.fetches.fetch_to_places.Goals as goal

pub returns-in-Ok : goal.returns-in-Ok
returns-in-Ok g c =
    let m = g.H.Hardware.machine c.args.machine.now in
    is_put m c.args.s.now c.args.g.now c.args.t.now c.requires.stands c.args.at c.requires.dest c.args.places c.in-Ok.v c.read_register.new.g (g.H.Hardware.machine c.put_long.new.machine) c.put_long.new.s
    c.requires.places (sym (c.in-None.ensures ∙ ap (first_clear (is_clear (guest_of m.memory c.args.g.now))) c.addresses.ensures))
    (subst (λ (x : Result ℕ ReservedOperand). MovesFromRegister c.args.g.now c.args.t.now x c.read_register.new.g) c.in-Ok.is c.read_register.ensures.is) c.read_register.ensures.place c.put_long.ensures
