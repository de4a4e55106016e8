-- Worked examples of purged moments, by computation.
use Rattle.std.specs.Prelude.{◌≡◌, ℕ, List, [], ◌∷◌, codes, false, true, refl, Some, None}
use Rattle.vv_class.specs.Class.{does_flow, is_subset}
use Rattle.sys_objects.specs.declared.records.GuestRow.{GuestRow}
use Rattle.sys_purge.specs.Moments.{purged_moment}
use Rattle.sys_state.specs.Guests.{powered}
use Rattle.sys_state.specs.Run.{Moment, opening}
use Rattle.sys_state.specs.ShownRuns.{both_there, low_alone}
use Rattle.sys_state.specs.ShownSetup.{config, guest, level, mounted, nothing_mounted, terminal, volume}

-- without the high guest, its terminal and its place
pub low_opening : purged_moment (opening both_there) (level 0) ≡ opening low_alone
unfolding does_flow is_subset
low_opening = refl

abbrev row : List ℕ → ℕ → GuestRow
row name n = guest name n 2 4 true None

-- The high guest `A` sits at the high terminal, and has the high volume and a low one; `C` sits at the first terminal, and `B` has
-- the last volume.
abbrev between : Moment
between = record {
  config = config None (terminal (codes "T0") 0 0 ∷ terminal (codes "T1") 1 2 ∷ terminal (codes "T2") 2 0 ∷ [])
      (volume (codes "V0") 0 2 ∷ volume (codes "V1") 1 0 ∷ volume (codes "V2") 2 0 ∷ []) []
      (row (codes "A") 2 ∷ row (codes "B") 0 ∷ row (codes "C") 0 ∷ []);
  made = 7;
  state = record {
    connected = Some 2 ∷ Some 0 ∷ None ∷ [];
    mounts = (mounted 0 true ∷ mounted 1 false ∷ None ∷ None ∷ []) ∷ (None ∷ mounted 2 true ∷ None ∷ None ∷ []) ∷ nothing_mounted ∷ [];
    guests = powered (row (codes "A") 2) [] ∷ powered (row (codes "B") 0) (1 ∷ []) ∷ powered (row (codes "C") 0) (2 ∷ []) ∷ [];
    volumes = ((10 ∷ []) ∷ []) ∷ ((11 ∷ []) ∷ []) ∷ ((12 ∷ []) ∷ []) ∷ [];
  };
}

-- at level 0 the others stand as they did, with places among what is kept, after as many rounds
pub low_moment : purged_moment between (level 0) ≡ record {
  config = config None (terminal (codes "T0") 0 0 ∷ terminal (codes "T2") 2 0 ∷ [])
      (volume (codes "V1") 1 0 ∷ volume (codes "V2") 2 0 ∷ []) []
      (row (codes "B") 0 ∷ row (codes "C") 0 ∷ []);
  made = 7;
  state = record {
    connected = Some 1 ∷ None ∷ [];
    mounts = (None ∷ mounted 1 true ∷ None ∷ None ∷ []) ∷ nothing_mounted ∷ [];
    guests = powered (row (codes "B") 0) (1 ∷ []) ∷ powered (row (codes "C") 0) (2 ∷ []) ∷ [];
    volumes = ((11 ∷ []) ∷ []) ∷ ((12 ∷ []) ∷ []) ∷ [];
  };
}
unfolding does_flow is_subset
low_moment = refl

pub high_stays : purged_moment between (level 2) ≡ between
unfolding does_flow is_subset
high_stays = refl
