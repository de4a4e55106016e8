use Rattle.std.proofs.Common.{[], ◌∷◌, refl}
use Rattle.vax_table.specs.Spelling.{wait}
use Rattle.vax_kept.proofs.kept.Kept.wait.Goals as goal

pub new-prepared-requires : goal.new-prepared-requires
new-prepared-requires c = (0xfd ∷ (1 ∷ []), wait refl (rw c.new.ensures refl))
