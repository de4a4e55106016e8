use Rattle.std.proofs.Common.{◌+◌, ◌-◌, ◌%◌, ◌^◌, sym, arith}
use Rattle.vax_paged.proofs.Crossing.{over_end_clear}
use Rattle.vax_paged.proofs.Knowing.{known_clear}
use Rattle.vax_paged.proofs.known.Mapped.is_modified_over_end.Goals as goal

pub returns-in-Some-Some : goal.returns-in-Some-Some
returns-in-Some-Some c =
    let memory = c.args.self.now.memory.now in
    let w = c.args.world.now in
    let known = c.args.self.now.known.now in
    let va = c.args.va in
    λ _. over_end_clear memory w c.args.bytes va (omega arith) c.requires.over_end c.requires.few
    (known_clear memory w known va c.in-Some-Some.field-0-0 c.requires.known (sym c.in-Some-Some.ensures.is))
    (known_clear memory w known ((va + (512 - va % 512)) % 2 ^ 32) c.in-Some-Some.field-0-1 c.requires.known (sym c.in-Some-Some.ensures'.is))
