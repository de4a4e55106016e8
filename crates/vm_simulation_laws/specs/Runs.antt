-- Runs of the machine for a guest, and first touches in the steps that they make.
use Rattle.std.specs.Prelude.{◌≡◌, ℕ, suc, ◌+◌, ◌%◌, ◌^◌, ◌<◌, ◌≤◌, List, [], Some, None}
use Rattle.vax_arch.specs.Walk.{page_of}
use Rattle.vax_hw.specs.Machine.{Machine}
use Rattle.vax_hw.specs.Real.{real}
use Rattle.vax_hw.specs.declared.world.Exit.{Exit}
use Rattle.vax_hw.specs.declared.world.Exit.TheVariants.{Arithmetic, Budget, Denied, Emulate, Modify, NotValid, Refused}
use Rattle.vax_table.specs.Interaction.{IsIn}
use Rattle.vm_simulation_laws.specs.Paid.{Owes, touching_counted}
use Rattle.vm_simulation_laws.specs.Present.{HasEntry, HasPresent}
use Rattle.vm_shadow.specs.Shadowed.{Keeps, Shadowed, read_at}
use Rattle.vm_shadow.specs.StandsFor.{Serves, own_number}
use Rattle.vm_simulation_laws.specs.Bursts.{IsQuiet, counted_by, with_count}
use Rattle.vm_simulation_laws.specs.Laws.{frames_claimed}
use Rattle.vm_simulation_laws.specs.Loaded.{RunsGuest, as_run}
use Rattle.vm_state.specs.Partition.{guest_of}
use Rattle.vm_state.specs.State.{Guest, state_of}
use Rattle.vm_state.specs.Step as steps
use Rattle.vm_state.specs.Step.{Touched, executed, trapped_in}
use Rattle.vm_state.specs.Touches.{Touching, touching_step, touching_steps}
use Rattle.vm_state.specs.declared.guest_state.GuestState.{GuestState}
use Rattle.vm_simulation_laws.specs.Touched.{AreFilled, IsTouched, NeedsNoPage, touches_now}

-- First touches over steps in which nothing is missed and no entry is emptied: what is present after them has entries, and at
-- least `least` are counted.
pub record ComesTo (s : Shadowed) (least : ℕ) (u : Touching) : Type 0 where
  pub has : HasPresent s u.present
  pub count : least ≤ u.count

-- before an instruction that touches these pages: the step's outstanding misses and what is counted are at least `least`
pub record ComesBefore (x : Touched) (s : Shadowed) (least : ℕ) (u : Touching) : Type 0 where
  pub owed : ℕ
  pub owes : Owes owed x s u
  pub count : least ≤ u.count + owed

-- Before an instruction that the machine didn't retire, with `left` steps left, of which this is the first.
pub record StopsBefore (left least : ℕ) (all : Touching) (s : Shadowed) (h : Guest) : Type 0 where
  pub at : Touching
  pub comes : ComesBefore (touches_now h) s least at
  pub is : all ≡ touching_counted left h at

-- the page that was missed is touched, and isn't filled
pub record MissesThere (va : ℕ) (s : Shadowed) (h : Guest) : Type 0 where
  pub touched : IsTouched (page_of va) (touches_now h)
  pub empty : read_at s (own_number s (page_of va)) ≡ None

-- What an exit says of the pages that the guest's instruction touches: a page that was missed is one of them; where none is
-- to be filled, those that gave bytes are filled.
abbrev pub Reaches : Exit → List ℕ → Shadowed → GuestState → Type 0
Reaches Budget memory s g = Unit {0}
Reaches (Arithmetic kind) memory s g = Unit {0}
Reaches (NotValid va write) memory s g = MissesThere va s (guest_of memory g) × (NeedsNoPage (NotValid va write) memory g → AreFilled s (touches_now (guest_of memory g)).found)
Reaches (Denied va write) memory s g = AreFilled s (touches_now (guest_of memory g)).found
Reaches (Modify va) memory s g = AreFilled s (touches_now (guest_of memory g)).found
Reaches (Emulate x) memory s g = AreFilled s (touches_now (guest_of memory g)).found
Reaches (Refused r) memory s g = AreFilled s (touches_now (guest_of memory g)).found

-- After an instruction that was retired with a trap, in whose step that is initiated.
pub record TrapsAfter (kind left least : ℕ) (all : Touching) (s : Shadowed) (h : Guest) : Type 0 where
  pub memory : List ℕ
  pub before : GuestState
  pub keeps : Keeps [] [] memory s
  pub serves : Serves before s
  pub found : (page : ℕ) → IsIn page (touches_now (guest_of memory before)).found → HasEntry s s.slot page
  pub term : ℕ
  pub step : executed (guest_of memory before) ≡ record (trapped_in (steps.Plain term) (frames_claimed (guest_of memory before)) h (Some kind)) { touched = touches_now (guest_of memory before) }
  pub at : Touching
  pub comes : ComesBefore (touches_now (guest_of memory before)) s least at
  pub is : all ≡ touching_steps left (executed (guest_of memory before)).guest (touching_step (guest_of memory before) (executed (guest_of memory before)) at)

abbrev pub EndsAt : Exit → (left least : ℕ) → (all : Touching) → Shadowed → Guest → Type 0
EndsAt Budget left least all s h = ComesTo s least all
EndsAt (Arithmetic kind) left least all s h = TrapsAfter kind left least all s h
EndsAt (NotValid va write) left least all s h = StopsBefore left least all s h
EndsAt (Denied va write) left least all s h = StopsBefore left least all s h
EndsAt (Modify va) left least all s h = StopsBefore left least all s h
EndsAt (Emulate x) left least all s h = StopsBefore left least all s h
EndsAt (Refused r) left least all s h = StopsBefore left least all s h

-- The machine made `done` of n steps of a counted guest. Misses outstanding in the first are counted, or still outstanding.
pub record IsPaidRun (n : ℕ) (m : Machine) (s : Shadowed) (g : GuestState) (m' : Machine) (e : Exit) : Type 0 where
  pub done : ℕ
  pub left : ℕ
  pub budget : done + left ≡ n
  pub retired : m'.retired % 2 ^ 64 ≡ (m.retired + done) % 2 ^ 64
  pub counts : suc (counted_by e done) ≡ counted_by e (suc done)
  pub reaches : Reaches e m'.memory s (with_count (counted_by e done) (as_run m'.world g))
  pub ends : (owed : ℕ) (t : Touching) → Owes owed (touches_now (guest_of m.memory g)) s t → EndsAt e left (t.count + owed) (touching_counted n (guest_of m.memory g) t) s (guest_of m'.memory (with_count (counted_by e done) (as_run m'.world g)))

abbrev pub RunsArePaid : Type 0
RunsArePaid = (n : ℕ) (m : Machine) (s : Shadowed) (g : GuestState) → 1 ≤ n → g.steps < 2 ^ 32 → RunsGuest [] m s g → IsQuiet n (state_of g) → IsPaidRun n m s g (real n m).0 (real n m).1
