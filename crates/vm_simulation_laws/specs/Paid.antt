-- Misses of the machine, and first touches, of which there are at least as many.
use Rattle.std.specs.Prelude.{◌≡◌, ℕ, zero, suc, ◌+◌, ◌%◌, ◌^◌, ◌≤◌, List, [], None}
use Rattle.vax_arch.specs.declared.walk.Lookup.{Lookup}
use Rattle.vax_hw.specs.Machine.{Machine}
use Rattle.vax_table.specs.Interaction.{IsIn}
use Rattle.vm_simulation_laws.specs.Misses.{KeepsFilled}
use Rattle.vm_simulation_laws.specs.Moves.{Moves}
use Rattle.vm_simulation_laws.specs.Present.{HasEntry, HasPresent, after_touches, to_miss}
use Rattle.vm_shadow.specs.Layout.{IsCovered}
use Rattle.vm_shadow.specs.Shadowed.{Fits, Keeps, Remembers, Shadowed, read_at}
use Rattle.vm_shadow.specs.StandsFor.{Fills, Serves, own_number}
use Rattle.vm_state.specs.Partition.{guest_of}
use Rattle.vm_state.specs.Run.{Run, after_steps}
use Rattle.vm_state.specs.State.{Guest}
use Rattle.vm_state.specs.Step.{Stepped, Touched, executed}
use Rattle.vm_state.specs.Touches.{Present, Touching, touching_step, touching_steps}
use Rattle.vm_state.specs.declared.guest_state.GuestState.{GuestState}
use Rattle.vm_simulation_laws.specs.Touched.{IsTouched}

-- the machine missed `missed` times
abbrev pub Misses : ℕ → Machine → Machine → Type 0
Misses missed m m' = m'.misses % 2 ^ 64 ≡ (m.misses + missed) % 2 ^ 64

-- An instruction that touches these pages is tried: some are missed and filled, and at least as many fewer may be missed yet.
pub record Tries (x : Touched) (m : Machine) (s : Shadowed) (m' : Machine) (s' : Shadowed) : Type 0 where
  pub missed : ℕ
  pub misses : Misses missed m m'
  pub fewer : missed + to_miss s' x ≤ to_miss s x
  pub has : (p : Present) → HasPresent s p → HasPresent s' p

-- Where what is present has entries: a change of first touches counts at least the misses, and what is present after it has
-- entries.
pub record Pays (touching : Touching → Touching) (m : Machine) (s : Shadowed) (m' : Machine) (s' : Shadowed) : Type 0 where
  pub missed : ℕ
  pub misses : Misses missed m m'
  pub counts : (t : Touching) → HasPresent s t.present → t.count + missed ≤ (touching t).count
  pub has : (t : Touching) → HasPresent s t.present → HasPresent s' (touching t).present

-- Two tries, one after another, are one; and so it is with `Pays`.
abbrev pub TriesFollow : Type 0
TriesFollow = (x : Touched) (m m1 m2 : Machine) (s s1 s2 : Shadowed) → Tries x m s m1 s1 → Tries x m1 s1 m2 s2 → Tries x m s m2 s2

abbrev pub PaymentsFollow : Type 0
PaymentsFollow = (f g : Touching → Touching) (m m1 m2 : Machine) (s s1 s2 : Shadowed) → Pays f m s m1 s1 → Pays g m1 s1 m2 s2 → Pays (λ t. g (f t)) m s m2 s2

-- where nothing is missed and no entry is emptied
abbrev pub NothingIsTried : Type 0
NothingIsTried = (x : Touched) (m m' : Machine) (s s' : Shadowed) → m'.misses ≡ m.misses → KeepsFilled s s' → Tries x m s m' s'

abbrev pub NothingIsPaid : Type 0
NothingIsPaid = (m m' : Machine) (s s' : Shadowed) → m'.misses ≡ m.misses → KeepsFilled s s' → Pays (λ t. t) m s m' s'

-- a touched page that was missed is filled
abbrev pub FillsAreTries : Type 0
FillsAreTries = (memory : List ℕ) (page : ℕ) (x : Touched) (seen : Lookup) (m m' : Machine) (s s' : Shadowed) → Fits memory s → Remembers s → IsCovered page → IsTouched page x → read_at s (own_number s page) ≡ None
    → Fills seen (own_number s page) s s' → Misses 1 m m' → Tries x m s m' s'

-- A step that is made after its tries, the last of which may have missed a page: its pages have entries, and the kernel drops for
-- what it writes and for its registers alone.
pub record IsMade (x : Stepped) (g : GuestState) (m1 : Machine) (s1 : Shadowed) (m' : Machine) (s' : Shadowed) : Type 0 where
  pub memory : List ℕ
  pub keeps : Keeps [] [] memory s1
  pub serves : Serves g s1
  pub found : (page : ℕ) → IsIn page x.touched.found → HasEntry s1 s1.slot page
  pub last : ℕ
  pub within : last ≤ to_miss s1 x.touched
  pub misses : Misses last m1 m'
  pub moves : Moves x.written x.guest.state.tables s1 s'

abbrev pub StepsArePaid : Type 0
StepsArePaid = (memory : List ℕ) (x : Stepped) (g : GuestState) (m m1 m' : Machine) (s s1 s' : Shadowed) → Fits memory s → Tries x.touched m s m1 s1 → (made : IsMade x g m1 s1 m' s') → Pays (touching_step (guest_of made.memory g) x) m s m' s'

-- n steps of a guest, of which the first is counted already and reaches its instruction.
abbrev pub touching_counted : ℕ → Guest → Touching → Touching
touching_counted zero h t = t
touching_counted (suc n) h t = touching_steps n (executed h).guest (touching_step h (executed h) t)

-- first touches of steps that follow others
abbrev pub TouchesFollow : Type 0
TouchesFollow = (a b : ℕ) (run : Run) (t : Touching) → touching_steps (a + b) run.guest t ≡ touching_steps b (after_steps a run).guest (touching_steps a run.guest t)

-- In a step whose instruction touches these pages `owed` misses are outstanding: first touches count them at its end alone. With
-- those that can still come they are at most what the step counts.
pub record Owes (owed : ℕ) (x : Touched) (s : Shadowed) (t : Touching) : Type 0 where
  pub has : HasPresent s t.present
  pub within : t.count + owed + to_miss s x ≤ (after_touches x t).count

-- no miss is outstanding as a step begins
abbrev pub NothingIsOwed : Type 0
NothingIsOwed = (memory : List ℕ) (x : Touched) (s : Shadowed) (t : Touching) → Fits memory s → HasPresent s t.present → Owes 0 x s t

-- the misses of a try are outstanding after it
abbrev pub TriesAreOwed : Type 0
TriesAreOwed = (owed : ℕ) (x : Touched) (m m' : Machine) (s s' : Shadowed) (t : Touching) → Owes owed x s t → (tries : Tries x m s m' s') → Owes (owed + tries.missed) x s' t

-- The step counts the outstanding misses, and `last` more.
pub record IsSettled (owed last : ℕ) (t u : Touching) (s : Shadowed) : Type 0 where
  pub has : HasPresent s u.present
  pub counts : t.count + owed + last ≤ u.count

abbrev pub StepsSettle : Type 0
StepsSettle = (owed : ℕ) (x : Stepped) (g : GuestState) (m m' : Machine) (s s' : Shadowed) (t : Touching) → Owes owed x.touched s t → (made : IsMade x g m s m' s') → IsSettled owed made.last t (touching_step (guest_of made.memory g) x t) s'
