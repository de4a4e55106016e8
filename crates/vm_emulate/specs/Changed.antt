-- CHM, of a guest that is past it already.
use Rattle.std.specs.Prelude.{ℕ, ◌==◌, Bool, true, false, [], ◌∷◌, if◌then◌else◌}
use Rattle.vax_arch.specs.Fields.{mode_number}
use Rattle.vax_arch.specs.declared.mode.Mode.{Mode}
use Rattle.vm_emulate.specs.declared.emulated.Emulated.{Emulated}
use Rattle.vm_emulate.specs.declared.emulated.Emulated.TheVariants.{Done}
use Rattle.vm_state.specs.Initiate.{initiate, new_mode}
use Rattle.vm_state.specs.Pushes.{push_walked}
use Rattle.vm_state.specs.Sensed.{Sensed}
use Rattle.vm_state.specs.Sensitive.{chm_walked, mode_changed}
use Rattle.vm_state.specs.State.{Guest, pc_of, pointer_of}
use Rattle.vm_state.specs.declared.exception.Exc.TheVariants.{Chm}

abbrev pub mode_change_sensed : Guest → Mode → ℕ → Sensed
mode_change_sensed h to code =
    let e = Chm to code in
    let m = new_mode h.state e in
    if mode_number m == 0 then mode_changed (initiate h e) else
    chm_walked (initiate h e) (push_walked h m (pointer_of h.state (mode_number m)) (h.state.psl ∷ pc_of h.state ∷ code ∷ []))

abbrev pub is_done : Emulated → Bool
is_done Done = true
is_done _ = false
