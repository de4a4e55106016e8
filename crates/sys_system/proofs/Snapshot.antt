-- A snapshot is its parts, one after another.
use Rattle.std.proofs.Common.{ℕ, ◌≡◌, List, ◌++◌, length, refl, sym, ◌∙◌, ap, append_assoc, false}
use Rattle.std.specs.Prelude.{flat_map}
use Rattle.vv_base.specs.Bytes.{long_bytes}
use Rattle.vv_io.specs.Lines.{Seen}
use Rattle.sys_devices.proofs.Puts.{IsBut, begun, goes_on}
use Rattle.sys_devices.specs.ShownSince.{ShownSince}
use Rattle.sys_state.specs.Run.{Moment}
use Rattle.sys_output.specs.Parts.{head_bytes, unit_bytes, volume_bytes}
use Rattle.sys_snap.specs.Written.{guest_bytes, seat_bytes, snap_bytes, snap_head, state_bytes}

brackets : (head size text made state : List ℕ) → (head ++ (size ++ (text ++ made))) ++ state ≡ head ++ (size ++ (text ++ (made ++ state)))
brackets head size text made state =
    append_assoc head (size ++ (text ++ made)) state
    ∙ ap (λ (xs : List ℕ). head ++ xs) (append_assoc size (text ++ made) state ∙ ap (λ (xs : List ℕ). size ++ xs) (append_assoc text made state))

-- the parts of the state, and each with those after it
abbrev pub seats_on : Moment → List ℕ
seats_on m = seat_bytes m.state.connected

abbrev pub mounts_on : Moment → List ℕ
mounts_on m = flat_map unit_bytes m.state.mounts

abbrev pub guests_on : Moment → List ℕ
guests_on m = flat_map guest_bytes m.state.guests

abbrev pub volumes_on : Moment → List ℕ
volumes_on m = flat_map volume_bytes m.state.volumes

abbrev pub from_guests : Moment → List ℕ
from_guests m = guests_on m ++ volumes_on m

abbrev pub from_mounts : Moment → List ℕ
from_mounts m = mounts_on m ++ from_guests m

abbrev pub from_seats : Moment → List ℕ
from_seats m = seats_on m ++ from_mounts m

pub parts_of : (text : List ℕ) (m : Moment) → snap_bytes text m ≡ head_bytes text m.made ++ from_seats m
parts_of text m = sym (brackets snap_head (long_bytes (length text)) text (long_bytes m.made) (state_bytes m.state))

-- one part after another is shown
pub head_shown : (text : List ℕ) (m : Moment) (start now : Seen) → ShownSince false start now (head_bytes text m.made) → IsBut start now (from_seats m) (snap_bytes text m)
head_shown text m start now shown = goes_on start start now (snap_bytes text m) (head_bytes text m.made) (from_seats m) (snap_bytes text m) (parts_of text m) (begun start (snap_bytes text m)) shown

pub seats_shown : (text : List ℕ) (m : Moment) (start before now : Seen) → IsBut start before (from_seats m) (snap_bytes text m) → ShownSince false before now (seats_on m) → IsBut start now (from_mounts m) (snap_bytes text m)
seats_shown text m start before now so_far shown = goes_on start before now (from_seats m) (seats_on m) (from_mounts m) (snap_bytes text m) refl so_far shown

pub mounts_shown : (text : List ℕ) (m : Moment) (start before now : Seen) → IsBut start before (from_mounts m) (snap_bytes text m) → ShownSince false before now (mounts_on m) → IsBut start now (from_guests m) (snap_bytes text m)
mounts_shown text m start before now so_far shown = goes_on start before now (from_mounts m) (mounts_on m) (from_guests m) (snap_bytes text m) refl so_far shown

pub guests_shown : (text : List ℕ) (m : Moment) (start before now : Seen) → IsBut start before (from_guests m) (snap_bytes text m) → ShownSince false before now (guests_on m) → IsBut start now (volumes_on m) (snap_bytes text m)
guests_shown text m start before now so_far shown = goes_on start before now (from_guests m) (guests_on m) (volumes_on m) (snap_bytes text m) refl so_far shown
