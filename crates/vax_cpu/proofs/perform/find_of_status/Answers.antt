use Rattle.std.proofs.Common.{◌≡◌, sym, ◌∙◌}
use Rattle.vax_hw.specs.Machine.{seen_psl}
use Rattle.vax_hw.specs.Real.{in_kernel}
use Rattle.vax_table.specs.Operations.{operation_of}
use Rattle.vax_table.specs.Spelling.{view}
use Rattle.vax_table.specs.declared.meaning.Operation.TheVariants.{MoveStatus, Probe}
use Rattle.vax_cpu.proofs.One.{status_found}
use Rattle.vax_cpu.proofs.perform.find_of_status.Goals as goal

pub returns-in-Ok : goal.returns-in-Ok
returns-in-Ok c =
    let w = c.args.state.now.world in
    let acts = rw c.mapped-space.ensures.memory at c.in-Ok.ensures in
    let same : Probe c.in-Probe.intent ≡ operation_of c.args.kept.now.prepared.decoded.opcode = sym c.in-Probe.is ∙ c.args.kept.now.prepared.does in
    status_found c.args.state.now.memory w c.mapped-space.result.known.now (in_kernel w) (seen_psl w) c.args.plan.now.r (view c.args.kept.now.prepared.decoded) _ (Probe c.in-Probe.intent) c.mapped-space.ensures.known same c.requires.fetched acts

pub returns-in-Ok-moves_status : goal.returns-in-Ok-moves_status
returns-in-Ok-moves_status c =
    let w = c.args.state.now.world in
    let acts = rw (c.mapped-space.ensures.memory, c.seen_psl.ensures, c.world.ensures) at c.in-Ok-moves_status.ensures in
    let same : MoveStatus ≡ operation_of c.args.kept.now.prepared.decoded.opcode = sym c.in-MoveStatus.is ∙ c.args.kept.now.prepared.does in
    status_found c.args.state.now.memory w c.mapped-space.result.known.now (in_kernel w) (seen_psl w) c.args.plan.now.r (view c.args.kept.now.prepared.decoded) _ MoveStatus c.mapped-space.ensures.known same c.requires.fetched acts
