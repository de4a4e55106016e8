use Rattle.std.proofs.Common.{◌<◌, ℕ, List, ap, subst, ◌∙◌, slice_index}
use Rattle.vax_hw.specs.Machine.{Machine}
use Rattle.vax_cpu.proofs.state.State.read_long.Goals as goal

pub returns-clause-bytes : goal.returns-clause-bytes
returns-clause-bytes c at = subst (λ (xs : List ℕ). slice_index xs at < 256) (c.deref.ensures.value ∙ ap (λ (m : Machine). m.memory) c.self.view_is) (c.long_in.ensures.bytes at)
