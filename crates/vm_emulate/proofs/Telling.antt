-- Shadow page tables that don't switch.
use Rattle.std.proofs.Common.{◌≡◌, ℕ, inl, List, [], refl, subst}
use Rattle.vax_arch.specs.Walk.{Tables}
use Rattle.vm_emulate.specs.Followed.{Follows}
use Rattle.vm_exception.specs.Wrote.{DropsAmong}
use Rattle.vm_shadow.specs.Shadowed.{Fits, Shadowed}
use Rattle.vm_shadow.specs.StandsFor.{Retells}
use Rattle.vm_shadow.proofs.OwnContext.{told_again}

pub nothing_dropped : (s : Shadowed) → DropsAmong [] s s
nothing_dropped s = record { each = λ n. inl refl; rest = refl }

-- of an instruction that writes nothing, and switches to no other registers
pub follows_none : (memory : List ℕ) (s : Shadowed) (t : Tables) → Fits memory s → s.told ≡ t → Follows [] t s s
follows_none memory s t f e = record { between = s; drops = nothing_dropped s; retells = subst (λ u. Retells u s s) e (told_again memory s f); rest = refl }

-- of one that writes frames
pub follows_drops : (frames memory : List ℕ) (s s' : Shadowed) (t : Tables) → Fits memory s' → s'.told ≡ t → DropsAmong frames s s' → Follows frames t s s'
follows_drops frames memory s s' t f e d = record { between = s'; drops = d; retells = subst (λ u. Retells u s' s') e (told_again memory s' f); rest = refl }
