use Rattle.std.proofs.Common.{refl}
use Rattle.vvmm_call.proofs.Workloads.{says_load}
use Rattle.vvmm_call.proofs.top.perform.Goals as goal

pub returns-in-Some-Load : goal.returns-in-Some-Load
returns-in-Some-Load g c = says_load _ c.in-Some-Load.field-0 c.in-Some-Load.number c.load.result _ _ c.in-Some-Load.field-0-is c.in-Some-Load.ensures.wanted (c.load.ensures _) refl (record { keys = refl; errors = refl })
