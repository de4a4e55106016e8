-- What writes of the kernel into a guest's memory leave.
use Rattle.std.specs.Prelude.{◌≡◌, ◌⊎◌, ℕ, ◌+◌, ◌%◌, ◌<◌, ◌≤◌, true, List, [], ◌∷◌, Option, Some, None}
use Rattle.vax_hw.specs.Machine.{Machine}
use Rattle.vm_shadow.specs.Shadowed.{Keeps, Shadowed, is_pending, own, read_at}
use Rattle.vm_shadow.specs.StandsFor.{OnlyGuest}
use Rattle.vm_state.specs.Pushes.{Home, all_put}
use Rattle.vm_state.specs.Translation.{frame_at}

-- of what is recorded of entries, at most what was read from one of some frames is dropped
pub record DropsAmong (frames : List ℕ) (s s' : Shadowed) : Type 0 where
  pub each : (n : ℕ) → (read_at s' n ≡ read_at s n) ⊎ ((read_at s' n ≡ None) × (is_pending frames (read_at s n) ≡ true))
  pub rest : s' ≡ record s { reads = s'.reads; consulted = s'.consulted }

-- The guest's memory becomes this, its shadow page tables stand for its own still, and nothing else of the machine
-- changes; what is dropped was read from one of the frames.
pub record Wrote (frames : List ℕ) (memory : List ℕ) (m : Machine) (s : Shadowed) (m' : Machine) (s' : Shadowed) : Type 0 where
  pub keeps : Keeps [] [] m.memory s → Keeps [] [] m'.memory s'
  pub own : own m'.memory s' ≡ memory
  pub drops : DropsAmong frames s s'
  pub only : OnlyGuest s m m'

-- a byte's home lies in memory, and so does its page's entry, at a multiple of 4
abbrev pub IsEntryPlace : ℕ → Option ℕ → Type 0
IsEntryPlace size None = Unit {0}
IsEntryPlace size (Some place) = (place % 4 ≡ 0) × (place + 4 ≤ size)

abbrev pub IsHome : ℕ → Home → Type 0
IsHome size h = (h.place < size) × IsEntryPlace size h.entry

abbrev pub AreHomes : ℕ → List Home → Type 0
AreHomes size [] = Unit {0}
AreHomes size (h ∷ hs) = IsHome size h × AreHomes size hs

-- the frames of the homes
abbrev pub frames_of : List Home → List ℕ
frames_of [] = []
frames_of (h ∷ hs) = frame_at h.place ∷ frames_of hs

-- the bytes are written to their homes
abbrev pub PutsHomes : List Home → Machine → Shadowed → Machine → Shadowed → Type 0
PutsHomes hs m s m' s' = Wrote (frames_of hs) (all_put hs (own m.memory s)) m s m' s'
