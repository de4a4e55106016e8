-- Snapshots are read as what they were written of, and only they are read.
use Rattle.std.specs.Prelude.{ℕ, ◌≡◌, ◌<◌, List, All, Some, Ok}
use Rattle.sys_snap.specs.Misfits.{misfit_in}
use Rattle.sys_snap.specs.Reader.{snap_in}
use Rattle.sys_snap.specs.Snap.{IsSnap}
use Rattle.sys_state.specs.Run.{Moment}

abbrev pub ReadsEach : Type 0
ReadsEach = (bytes : List ℕ) (m : Moment) → IsSnap bytes m → snap_in bytes ≡ Ok m

-- also of bytes that nobody wrote
abbrev pub ReadsOnlySnaps : Type 0
ReadsOnlySnaps = (bytes : List ℕ) (m : Moment) → All (λ b. b < 256) bytes → snap_in bytes ≡ Ok m → IsSnap bytes m

-- a snapshot is of one moment
abbrev pub AreOfOneMoment : Type 0
AreOfOneMoment = (bytes : List ℕ) (m n : Moment) → IsSnap bytes m → IsSnap bytes n → m ≡ n

-- what is refused is a snapshot of none
abbrev pub RefusedAreNone : Type 0
RefusedAreNone = (bytes : List ℕ) (place : ℕ) → misfit_in bytes ≡ Some place → (m : Moment) → IsSnap bytes m → ⊥
