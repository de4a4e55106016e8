-- The frames of the bytes that a plain instruction claims are those that it writes.
use Rattle.std.proofs.Common.{◌≡◌, ℕ, List, [], ◌∷◌, ◌++◌, map, refl, ap, ◌∙◌}
use Rattle.std.proofs.lemmas.List.{map-append}
use Rattle.vv_base.specs.Width.{size_of}
use Rattle.vax_table.specs.Claims.{addresses}
use Rattle.vax_table.specs.PlanLaws.{bytes_of_stores}
use Rattle.vax_table.specs.Whole.{is_kernel_mode}
use Rattle.vax_table.specs.declared.effect.Store.{Store}
use Rattle.vax_table.proofs.Wholes.{exactly_claimed}
use Rattle.vm_simulation_laws.specs.Laws.{ClaimedFramesAreWritten}
use Rattle.vm_state.specs.State.{Guest, mode_of_state}
use Rattle.vm_state.specs.Step.{frames_stored}
use Rattle.vm_state.specs.Sensitive.{frames_of_bytes}
use Rattle.vm_state.specs.Translation.{frame_at, guest_write_place, space_of}

bytes_frames : (h : Guest) (vas : List ℕ) → map (λ va. frame_at (guest_write_place h va)) vas ≡ frames_of_bytes h vas
bytes_frames h [] = refl
bytes_frames h (va ∷ vas) = ap (λ (xs : List ℕ). frame_at (guest_write_place h va) ∷ xs) (bytes_frames h vas)

stores_frames : (h : Guest) (xs : List Store) → map (λ va. frame_at (guest_write_place h va)) (bytes_of_stores xs) ≡ frames_stored h xs
stores_frames h [] = refl
stores_frames h (x ∷ xs) =
    map-append (λ va. frame_at (guest_write_place h va)) (addresses (size_of x.width) x.va) (bytes_of_stores xs)
    ∙ (λ j. bytes_frames h (addresses (size_of x.width) x.va) j ++ stores_frames h xs j)

pub claimed_written : ClaimedFramesAreWritten
claimed_written h opcode e done =
    ap (map (λ va. frame_at (guest_write_place h va))) (exactly_claimed (is_kernel_mode (mode_of_state h.state)) h.state.psl h.state.r (space_of h) opcode e done) ∙ stores_frames h e.writes
