-- What a snapshot in the code stands for.
use Rattle.std.specs.Prelude.{ℕ, ◌≡◌, ◌+◌, List, [], ◌∷◌, length, map, take, drop, replicate, All, false, None, Some}
use Rattle.std.specs.declared.result.Result.{Result}
use Rattle.std.specs.declared.result.Result.TheVariants.{Ok, Err}
use Rattle.std.specs.Prelude as results
use Rattle.sys_objects.specs.Condition.{IsConfig}
use Rattle.sys_objects.specs.declared.records.GuestRow.{GuestRow}
use Rattle.sys_state.specs.Run.{Moment}
use Rattle.sys_state.specs.State.{is_running}
use Rattle.sys_snap.specs.Misfits.{misfit_in}
use Rattle.sys_snap.specs.Reader.{snap_in}
use Rattle.sys_snap.specs.declared.fault.SnapError.{SnapError}
use Rattle.sys_snap.specs.declared.fault.SnapError.TheVariants.{Fault, NoMemory}
use Rattle.sys_snap.specs.declared.snap.GuestSnap.{GuestSnap}
use Rattle.sys_snap.specs.declared.snap.Snap.{Snap}
use Rattle.vm_state.specs.State.{Guest, HasPlace, state_of}

abbrev pub snapshot_guest : GuestSnap → Guest
snapshot_guest g = record { memory = g.memory.items; state = state_of g.state }

abbrev pub snapshot_moment : Snap → Moment
snapshot_moment s = record {
  config = s.config;
  made = s.round;
  state = record {
    connected = take (length s.config.terminals) s.server.at;
    mounts = take (length s.config.guests) s.server.mounts;
    guests = map snapshot_guest s.guests.items;
    volumes = map (λ blocks. blocks.items) s.volumes.items;
  };
}

-- guests whose memories lie one after another from a page on, each with the start of its row
abbrev pub ArePlacedSnapshots : ℕ → List GuestRow → List GuestSnap → Type 0
ArePlacedSnapshots base [] [] = Unit {0}
ArePlacedSnapshots base [] (g ∷ guests) = ⊥
ArePlacedSnapshots base (row ∷ rows) [] = ⊥
ArePlacedSnapshots base (row ∷ rows) (g ∷ guests) = HasPlace row.pages base row.start g.state × ArePlacedSnapshots (base + row.pages) rows guests

-- what a moment in the code has beside the moment
pub record HoldsMoment (s : Snap) : Type 0 where
  pub config : IsConfig s.config
  pub terminals : length s.server.at ≡ 32
  pub guests : length s.server.mounts ≡ 16
  pub beyond : All (λ o. o ≡ None) (drop (length s.config.terminals) s.server.at)
  pub unmounted : All (λ units. units ≡ replicate 4 None) (drop (length s.config.guests) s.server.mounts)
  pub running : take (length s.config.guests) s.server.running ≡ map is_running (snapshot_moment s).state.guests
  pub stopped : All (λ runs. runs ≡ false) (drop (length s.config.guests) s.server.running)
  pub places : ArePlacedSnapshots 0 s.config.guests s.guests.items

-- bytes are read as the moment of which they are a snapshot, or refused where they misfit
abbrev pub ReadsSnap : List ℕ → Result Snap SnapError → Type 0
ReadsSnap bytes (Ok s) = (snap_in bytes ≡ results.Ok (snapshot_moment s)) × HoldsMoment s
ReadsSnap bytes (Err (Fault fault)) = misfit_in bytes ≡ Some fault.place
ReadsSnap bytes (Err NoMemory) = Unit {0}
