-- Work under the registers of the last switch.
use Rattle.std.proofs.Common.{◌≡◌, ℕ, inl, List, refl, subst}
use Rattle.vax_arch.specs.Walk.{Tables}
use Rattle.vm_simulation_laws.specs.Moves.{Drops, Moves}
use Rattle.vm_shadow.specs.Shadowed.{Fits, Shadowed}
use Rattle.vm_shadow.specs.StandsFor.{Retells}
use Rattle.vm_shadow.proofs.OwnContext.{told_again}

-- nothing is dropped, whatever is written
pub none_dropped : (frames : List ℕ) (s : Shadowed) → Drops frames s s
none_dropped frames s = record { each = λ n. inl refl; told = refl; held = refl }

-- work that drops at most what frames hold, and switches to no other registers
pub moves_alone : (frames memory : List ℕ) (s s' : Shadowed) (t : Tables) → Fits memory s' → s'.told ≡ t → Drops frames s s' → Moves frames t s s'
moves_alone frames memory s s' t f e d = record { between = s'; drops = d; retells = subst (λ u. Retells u s' s') e (told_again memory s' f) }
