use Rattle.std.proofs.Common.{◌≡◌, ◌*◌, take}
use Rattle.vv_base.specs.Bytes.{overwritten}
use Rattle.vm_state.specs.Start.{memory_with_image}
use Rattle.sys_guests.proofs.image.load_image.Given as goal

-- so much of the image is copied
abbrev pub invariant-loop-number : goal.invariant-loop-number
invariant-loop-number g l =
    let machine = g.H.Hardware.machine in
    machine l.machine ≡ record (machine l.fn.machine) { memory = overwritten (machine l.fn.machine).memory (512 * l.base) (take (4 * l.number) (memory_with_image (512 * l.pages) l.load l.image)) }
