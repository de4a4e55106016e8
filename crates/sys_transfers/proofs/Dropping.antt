-- The frames from which something is dropped when bytes are written.
use Rattle.std.proofs.Common.{◌≡◌, ℕ, suc, ◌+◌, ◌%◌, ◌<◌, inl, inr, true, List, [], ◌∷◌, length, Option, subst, arith}
use Rattle.std.proofs.lemmas.Bool.{cases_Bool, cases_lt, false≢true}
use Rattle.std.specs.Prelude.{◌||◌}
use Rattle.vax_table.specs.Interaction.{IsIn}
use Rattle.vm_stepping.proofs.Closed.{pending_in}
use Rattle.vm_stepping.proofs.Completing.{split}
use Rattle.vm_guest.specs.Kept.{frames_from}
use Rattle.vm_simulation_laws.specs.Moves.{Drops}
use Rattle.vm_shadow.specs.Shadowed.{Shadowed, is_pending, is_read_from, read_at}
use Rattle.vm_shadow.specs.declared.source.Source.{Source}
use Rattle.vm_state.specs.Packets.{status_place}
use Rattle.vm_state.specs.Translation.{frame_at}

-- bytes whose frames are among these
pending_within : (at : ℕ) (bytes fs : List ℕ) (x : Option Source) → ((i : ℕ) → i < length bytes → IsIn (frame_at (at + i)) fs) → is_pending (frames_from at bytes) x ≡ true → is_pending fs x ≡ true
pending_within at [] fs x inside e = absurd (false≢true e)
pending_within at (b ∷ bs) fs x inside e =
    let here : at + 0 ≡ at = omega arith in
    split (cases_Bool (is_read_from (frame_at at) x))
    (λ on. pending_in (frame_at at) fs x (subst (λ n. IsIn (frame_at n) fs) here (inside 0 (omega arith))) on)
    (λ off. pending_within (at + 1) bs fs x (λ i h. let next : at + suc i ≡ at + 1 + i = omega arith in subst (λ n. IsIn (frame_at n) fs) next (inside (suc i) (omega (arith, h)))) (subst (λ c. (c || is_pending (frames_from (at + 1) bs) x) ≡ true) off e))

pub dropped_within : (at : ℕ) (bytes fs : List ℕ) (s s' : Shadowed) → ((i : ℕ) → i < length bytes → IsIn (frame_at (at + i)) fs) → Drops (frames_from at bytes) s s' → Drops fs s s'
dropped_within at bytes fs s s' inside d = record {
  each = λ n. split (d.each n) (λ same. inl same) (λ gone. inr (gone.0, pending_within at bytes fs (read_at s n) inside gone.1));
  told = d.told;
  held = d.held;
}

-- a block lies in two frames, and a status in one
pub block_frames : (at i : ℕ) → i < 512 → IsIn (frame_at (at + i)) (frame_at at ∷ frame_at (at + 511) ∷ [])
block_frames at i h = split (cases_lt (at % 512 + i) 512) (λ low. inl (omega (arith, low))) (λ high. inr (inl (omega (arith, high, h))))

pub status_frames : (at i : ℕ) → at % 4 ≡ 0 → i < 4 → IsIn (frame_at (at + 20 + i)) (frame_at (status_place at) ∷ [])
status_frames at i aligned h = inl (omega (arith, aligned, h))
