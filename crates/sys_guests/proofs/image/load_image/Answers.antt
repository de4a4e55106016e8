use Rattle.std.proofs.Common.{arith, ap, ◌*◌, ◌∙◌, List, ℕ}
use Rattle.vax_hw.specs.Machine.{Machine}
use Rattle.sys_guests.proofs.Images.{next_long, all_long}
use Rattle.sys_guests.proofs.image.load_image.Goals as goal

pub loop-number-preserved : goal.loop-number-preserved
loop-number-preserved g c =
    next_long _ _ _ (512 * c.args.base) (512 * c.args.pages) c.args.load c.args.image.now c.loop-number.number _ (omega (arith, c.requires.inside)) (λ i. omega (arith, c.type_inv.image i)) c.requires.fits (omega arith) c.loop-number.invariant c.image_long.ensures c.write_long.ensures

pub returns : goal.returns
returns g c =
    let machine = g.H.Hardware.machine in
    let with_memory : List ℕ → Machine = λ y. record (machine c.args.machine.now) { memory = y } in
    c.loop-number.invariant ∙ ap with_memory (all_long (machine c.args.machine.now).memory (512 * c.args.base) (512 * c.args.pages) c.args.load c.args.image.now c.loop-number.number c.requires.fits (omega arith))
