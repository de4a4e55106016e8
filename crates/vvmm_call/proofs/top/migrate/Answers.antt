use Rattle.std.proofs.Common.{inl, refl}
use Rattle.vvmm_files.specs.declared.stop.CommandFault.TheVariants.{NoMemory}
use Rattle.vvmm_call.proofs.top.migrate.Goals as goal

pub returns : goal.returns
returns g c = inl (record { stop = NoMemory; is = refl; why = tt }, refl)
