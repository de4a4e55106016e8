use Rattle.std.proofs.Common.{◌≡◌, ◌≤◌, ◌+◌, ◌/◌, ◌^◌, ℕ, List, length, ap, ◌∙◌, arith}
use Rattle.vax_paged.specs.InPage.{stored_from}
use Rattle.vax_paged.proofs.Widths.{long_over, quad_from}
use Rattle.vax_paged.proofs.memory.store_in.Goals as goal

pub returns-in-Quad : goal.returns-in-Quad
returns-in-Quad c =
    let memory = c.args.memory.now in
    let place = c.args.place in
    let value = c.args.value in
    let size : length c.put_u32-in-Quad.new.b ≡ length memory = c.put_u32-in-Quad.auto.b in
    let room : place + 8 ≤ length memory = rw c.in-Quad.is at c.requires in
    rw c.in-Quad.is
    (c.put_u32-in-Quad-2.ensures
    ∙ long_over c.put_u32-in-Quad.new.b (place + 4) (value / 2 ^ 32) (omega (arith, size, room))
    ∙ ap (λ (xs : List ℕ). stored_from 4 (place + 4) (value / 2 ^ 32) xs) (c.put_u32-in-Quad.ensures ∙ long_over memory place value (omega (arith, room)))
    ∙ quad_from memory place value)
