use Rattle.std.proofs.Common.{inl, inr, subst}
use Rattle.vm_exception.specs.Initiated.{Initiates}
use Rattle.vm_exception.specs.declared.initiated.Initiated.{Initiated}
use Rattle.vm_emulate.proofs.Changing.{is_bad, is_taken}
use Rattle.vm_state.specs.declared.exception.Exc.TheVariants.{Chm}
use Rattle.vm_emulate.proofs.changes.begin.Goals as goal

pub returns-in-Taken : goal.returns-in-Taken
returns-in-Taken g c =
    let m = g.H.Hardware.machine c.args.machine.now in
    let m' = g.H.Hardware.machine c.initiate.new.machine in
    let e = Chm c.args.to c.args.code in
    elim c.in-Taken.is [
      | inl k ↦ is_taken e m m' c.args.s.now c.initiate.new.s c.args.g.now c.initiate.new.g (subst (λ (r : Initiated). Initiates e m c.args.s.now c.args.g.now r m' c.initiate.new.s c.initiate.new.g) k c.initiate.ensures)
      | inr k ↦ is_bad e m m' c.args.s.now c.initiate.new.s c.args.g.now c.initiate.new.g (subst (λ (r : Initiated). Initiates e m c.args.s.now c.args.g.now r m' c.initiate.new.s c.initiate.new.g) k c.initiate.ensures)
    ]
