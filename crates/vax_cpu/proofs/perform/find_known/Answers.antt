use Rattle.std.proofs.Common.{refl}
use Rattle.vax_hw.specs.Machine.{seen_psl}
use Rattle.vax_hw.specs.Real.{in_kernel}
use Rattle.vax_table.specs.Spelling.{view}
use Rattle.vax_cpu.proofs.One.{known_found}
use Rattle.vax_cpu.proofs.perform.find_known.Goals as goal

pub returns-in-Ok : goal.returns-in-Ok
returns-in-Ok c =
    let w = c.args.state.now.world in
    let memory = c.mapped-space.ensures.memory in
    let world = c.world-world.ensures in
    let fetches = rw (memory, world) at (c.if-not-has_known_in_page.ensures.fetched refl) in
    let acts = rw (memory, c.is_in_kernel.ensures, c.seen_psl.ensures, world) at c.in-Ok.ensures in
    known_found c.args.state.now.memory w c.mapped-space.result.known.now (in_kernel w) (seen_psl w) c.args.plan.now.r (view c.args.kept.now.prepared.decoded) _ c.mapped-space.ensures.known fetches acts
