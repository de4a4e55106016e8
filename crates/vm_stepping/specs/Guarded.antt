-- One instruction of a guest, for which pages are granted or opened that it writes.
use Rattle.std.specs.Prelude.{◌≡◌, ◌≢◌, ◌⊎◌, ◌∷◌, IfSome, ℕ, zero, suc, ◌+◌, ◌*◌, ◌/◌, ◌%◌, ◌^◌, ◌<◌, ◌≤◌, Bool, true, false, not, if◌then◌else◌, List, [], length, slice_index, Option, Some, None}
use Rattle.vax_arch.specs.Fields.{is_modified}
use Rattle.vax_arch.specs.Walk.{page_of, with_modify}
use Rattle.vax_hw.specs.Machine.{Machine}
use Rattle.vax_hw.specs.Real.{misses_after}
use Rattle.vax_hw.specs.declared.world.Exit.{Exit}
use Rattle.vax_hw.specs.declared.world.Exit.TheVariants.{Arithmetic, Budget, Denied, Emulate, Modify, NotValid, Refused}
use Rattle.vax_table.specs.Tries.{Clear}
use Rattle.vm_simulation_laws.specs.Runs.{Reaches}
use Rattle.vm_exception.specs.Standing.{Standing}
use Rattle.vm_shadow.specs.Layout.{all_entries}
use Rattle.vm_shadow.specs.Calls.{OnlyTables}
use Rattle.vm_shadow.specs.Shadowed.{Fits, Keeps, Shadowed, is_pending, mapped_frame, read_at, real_at}
use Rattle.vm_shadow.specs.StandsFor.{DropsFrom, StandsFor, closed_for, own_number}
use Rattle.vm_simulation_laws.specs.Bursts.{after_counted, with_plain_steps, with_trap}
use Rattle.vm_state.specs.Run.{Run}
use Rattle.vm_simulation_laws.specs.Laws.{IsUnwritten, Leaves, Meets, frames_claimed}
use Rattle.vm_simulation_laws.specs.Loaded.{HasGuestLoaded, RunsGuest, as_run, frames_opened, guest_try}
use Rattle.vm_state.specs.Partition.{guest_of, partition_of}
use Rattle.vm_state.specs.Step as steps
use Rattle.vm_state.specs.Step.{by_try, executed, trapped_in}
use Rattle.vm_state.specs.Translation.{is_clear}
use Rattle.vm_state.specs.declared.guest_state.GuestState.{GuestState}
use Rattle.vm_simulation_laws.specs.Touched.{AreFilled, touches_now}

-- of the machine's memory the guest's own and its real tables alone change
pub record OnlyBoth (s : Shadowed) (before after : List ℕ) : Type 0 where
  pub size : length after ≡ length before
  pub other : (p : ℕ) → (p < 512 * s.base) ⊎ (512 * (s.base + s.pages) ≤ p) → (p < 512 * s.at) ⊎ (512 * (s.at + 580) ≤ p) → slice_index after p ≡ slice_index before p

-- the machine runs the guest, with some entries opened
pub record RunsSome (m : Machine) (s : Shadowed) (g : GuestState) : Type 0 where
  pub opened : List ℕ
  pub runs : RunsGuest opened m s g

-- what an exit says: of a clear modify bit, that the guest's instruction stops at it
abbrev pub ExitIsMet : Exit → List ℕ → Shadowed → GuestState → Type 0
ExitIsMet (Modify va) memory s g = (va < 2 ^ 32) × (guest_try (guest_of memory g) ≡ Clear va)
ExitIsMet Budget memory s g = ⊥
ExitIsMet (Arithmetic kind) memory s g = ⊥
ExitIsMet (NotValid va write) memory s g = Meets (NotValid va write) memory s g
ExitIsMet (Denied va write) memory s g = Meets (Denied va write) memory s g
ExitIsMet (Emulate t) memory s g = Meets (Emulate t) memory s g
ExitIsMet (Refused r) memory s g = Meets (Refused r) memory s g

-- The instruction retired, and is plain. What was read from a frame that it wrote may be dropped; the pages that gave it bytes
-- are filled.
pub record IsCompleted (opened : List ℕ) (m : Machine) (s : Shadowed) (g : GuestState) (trap : Option ℕ) (m' : Machine) (s' : Shadowed) : Type 0 where
  pub term : ℕ
  pub plain : by_try (guest_of m.memory g) (guest_try (guest_of m.memory g)) ≡ trapped_in (steps.Plain term) (frames_claimed (guest_of m.memory g)) (guest_of m'.memory (as_run m'.world g)) trap
  pub leaves : Leaves (guest_of m.memory g) (guest_of m'.memory (as_run m'.world g)) trap
  pub keeps : Keeps (frames_opened m.memory s opened) opened m'.memory s'
  pub loads : HasGuestLoaded m'.world s' (as_run m'.world g)
  pub high : (as_run m'.world g).psl.0 / 2 ^ 8 ≡ g.psl.0 / 2 ^ 8
  pub each : (n : ℕ) → (read_at s' n ≡ read_at s n) ⊎ ((read_at s' n ≡ None) × (is_pending (frames_claimed (guest_of m.memory g)) (read_at s n) ≡ true))
  pub rest : s' ≡ record s { reads = s'.reads; consulted = s'.consulted; writable = s'.writable }
  pub only : OnlyBoth s m.memory m'.memory
  pub retired : m'.retired ≡ (m.retired + 1) % 2 ^ 64
  pub trail : m'.trail ≡ (m.trail + term) % 2 ^ 64
  pub misses : m'.misses ≡ m.misses
  pub found : AreFilled s (touches_now (guest_of m.memory g)).found

-- The instruction didn't retire, and nothing of the guest changed.
pub record IsUnfinished (opened : List ℕ) (m : Machine) (s : Shadowed) (g : GuestState) (e : Exit) (m' : Machine) (s' : Shadowed) : Type 0 where
  pub keeps : Keeps [] opened m'.memory s'
  pub own : partition_of m'.memory g ≡ partition_of m.memory g
  pub machine : m' ≡ record m { memory = m'.memory; misses = misses_after m.misses e }
  pub rest : s' ≡ record s { writable = s'.writable }
  pub only : OnlyBoth s m.memory m'.memory
  pub tells : ExitIsMet e m'.memory s' g
  pub reaches : Reaches e m'.memory s' g

abbrev pub IsTried : Exit → List ℕ → Standing → Machine → Shadowed → Type 0
IsTried Budget opened h m' s' = IsCompleted opened h.machine h.tables h.state None m' s'
IsTried (Arithmetic kind) opened h m' s' = IsCompleted opened h.machine h.tables h.state (Some kind) m' s'
IsTried (NotValid va write) opened h m' s' = IsUnfinished opened h.machine h.tables h.state (NotValid va write) m' s'
IsTried (Denied va write) opened h m' s' = IsUnfinished opened h.machine h.tables h.state (Denied va write) m' s'
IsTried (Modify va) opened h m' s' = IsUnfinished opened h.machine h.tables h.state (Modify va) m' s'
IsTried (Emulate t) opened h m' s' = IsUnfinished opened h.machine h.tables h.state (Emulate t) m' s'
IsTried (Refused r) opened h m' s' = IsUnfinished opened h.machine h.tables h.state (Refused r) m' s'

abbrev pub is_retired : Exit → Bool
is_retired Budget = true
is_retired (Arithmetic kind) = true
is_retired e = false

-- A page may be made writable: the guest's modify bit is set.
pub record CanAllow (va : ℕ) (m : Machine) (s : Shadowed) (g : GuestState) : Type 0 where
  pub fits : Fits m.memory s
  pub partition : 512 * (g.base + g.pages) ≤ length m.memory
  pub unwritten : IsUnwritten va m.memory s g
  pub set : is_clear (guest_of m.memory g) va ≡ false

-- among the opened now
abbrev pub opened_by : Option ℕ → ℕ → List ℕ → List ℕ
opened_by None n opened = opened
opened_by (Some frame) n opened = n ∷ opened

-- A page is granted, or opened, and then `frame` is the frame that it maps. Its real entry gets the modify bit; no other entry
-- changes, and of what is recorded the flags of writable frames alone.
pub record GrantsOrOpens (va : ℕ) (m : Machine) (s : Shadowed) (frame : Option ℕ) (m' : Machine) (s' : Shadowed) : Type 0 where
  pub keeps : (opened : List ℕ) → Keeps [] opened m.memory s → Keeps [] (opened_by frame (own_number s (page_of va)) opened) m'.memory s'
  pub told : IfSome frame (λ f. f ≡ mapped_frame s (real_at m.memory s (own_number s (page_of va))))
  pub entry : real_at m'.memory s (own_number s (page_of va)) ≡ with_modify (real_at m.memory s (own_number s (page_of va)))
  pub others : (k : ℕ) → k ≢ own_number s (page_of va) → real_at m'.memory s k ≡ real_at m.memory s k
  pub rest : s' ≡ record s { writable = s'.writable }
  pub only : OnlyTables s.at m m'

-- where the instruction retired, the frame of a page that was opened is pending
abbrev pub noted_by : Bool → ℕ → List ℕ → List ℕ
noted_by true frame pending = frame ∷ pending
noted_by false frame pending = pending

abbrev pub drops_by : Bool → ℕ → Shadowed → Shadowed → Type 0
drops_by true frame s s' = DropsFrom frame s s'
drops_by false frame s s' = s' ≡ s

abbrev pub noted_with : Bool → Option ℕ → List ℕ → List ℕ
noted_with retired None pending = pending
noted_with retired (Some frame) pending = noted_by retired frame pending

pub record CanClose (frame : Option ℕ) (retired : Bool) (m : Machine) (s : Shadowed) : Type 0 where
  pub pending : List ℕ
  pub opened : List ℕ
  pub keeps : Keeps (noted_with retired frame pending) opened m.memory s

pub record ClosesOne (n frame : ℕ) (retired : Bool) (m : Machine) (s : Shadowed) (m' : Machine) (s' : Shadowed) : Type 0 where
  pub keeps : (pending opened : List ℕ) → Keeps (noted_by retired frame pending) opened m.memory s → Keeps pending (closed_for n opened) m'.memory s'
  pub drops : drops_by retired frame s s'
  pub only : OnlyTables s.at m m'

abbrev pub ClosesAfter : (n : ℕ) → Option ℕ → Bool → (before after : Machine × Shadowed) → Type 0
ClosesAfter n None retired before after = (after.0 ≡ before.0) × (after.1 ≡ before.1)
ClosesAfter n (Some frame) retired before after = ClosesOne n frame retired before.0 before.1 after.0 after.1

-- how many numbers below another have a property
abbrev pub count_below : (ℕ → Bool) → ℕ → ℕ
count_below p zero = 0
count_below p (suc n) = count_below p n + (if p n then 1 else 0)

-- how many real entries have a clear modify bit
unfoldable pub clear_bits : List ℕ → Shadowed → ℕ
clear_bits memory s = count_below (λ n. not (is_modified (real_at memory s n))) all_entries

-- a run after the initiation of a trap, if there is one
abbrev pub with_trap_of : Option ℕ → Run → Run
with_trap_of None run = run
with_trap_of (Some kind) run = with_trap kind run

-- The instruction retired: the guest's step is plain, and its trap is still to be initiated in it.
pub record StepsGuarded (m : Machine) (s : Shadowed) (g : GuestState) (terms : ℕ) (trap : Option ℕ) (m' : Machine) (s' : Shadowed) (g' : GuestState) : Type 0 where
  pub term : ℕ
  pub step : executed (guest_of m.memory g) ≡ record (trapped_in (steps.Plain term) (frames_claimed (guest_of m.memory g)) (guest_of m'.memory g') trap) { touched = touches_now (guest_of m.memory g) }
  pub leaves : Leaves (guest_of m.memory g) (guest_of m'.memory g') trap
  pub steps : (run : Run) → run.guest ≡ guest_of m.memory g → run.tally.trail < 2 ^ 64 → after_counted 1 run ≡ with_trap_of trap (with_plain_steps run (guest_of m'.memory g') 1 terms)
  pub is : g' ≡ as_run m'.world g
  pub stands : StandsFor m'.memory s' g'
  pub high : g'.psl.0 / 2 ^ 8 ≡ g.psl.0 / 2 ^ 8
  pub each : (n : ℕ) → (read_at s' n ≡ read_at s n) ⊎ ((read_at s' n ≡ None) × (is_pending (frames_claimed (guest_of m.memory g)) (read_at s n) ≡ true))
  pub rest : s' ≡ record s { reads = s'.reads; consulted = s'.consulted; writable = s'.writable }
  pub only : OnlyBoth s m.memory m'.memory
  pub retired : m'.retired % 2 ^ 64 ≡ (m.retired + 1) % 2 ^ 64
  pub trail : m'.trail % 2 ^ 64 ≡ (m.trail + terms) % 2 ^ 64
  pub misses : m'.misses ≡ m.misses
  pub found : AreFilled s (touches_now (guest_of m.memory g)).found

-- The instruction didn't retire: the guest is as it was, and all of the machine but memory, what is loaded, and misses.
pub record StaysGuarded (m : Machine) (s : Shadowed) (g : GuestState) (e : Exit) (m' : Machine) (s' : Shadowed) (g' : GuestState) : Type 0 where
  pub guest : g' ≡ g
  pub stands : StandsFor m'.memory s' g
  pub own : partition_of m'.memory g ≡ partition_of m.memory g
  pub machine : m' ≡ record m { memory = m'.memory; world = m'.world; misses = misses_after m.misses e }
  pub rest : s' ≡ record s { writable = s'.writable }
  pub only : OnlyBoth s m.memory m'.memory
  pub tells : ExitIsMet e m'.memory s' g
  pub reaches : Reaches e m'.memory s' g

abbrev pub IsGuarded : Exit → (terms : ℕ) → (before after : Standing) → Type 0
IsGuarded Budget terms h h' = StepsGuarded h.machine h.tables h.state terms None h'.machine h'.tables h'.state
IsGuarded (Arithmetic kind) terms h h' = StepsGuarded h.machine h.tables h.state terms (Some kind) h'.machine h'.tables h'.state
IsGuarded (NotValid va write) terms h h' = StaysGuarded h.machine h.tables h.state (NotValid va write) h'.machine h'.tables h'.state
IsGuarded (Denied va write) terms h h' = StaysGuarded h.machine h.tables h.state (Denied va write) h'.machine h'.tables h'.state
IsGuarded (Modify va) terms h h' = StaysGuarded h.machine h.tables h.state (Modify va) h'.machine h'.tables h'.state
IsGuarded (Emulate t) terms h h' = StaysGuarded h.machine h.tables h.state (Emulate t) h'.machine h'.tables h'.state
IsGuarded (Refused r) terms h h' = StaysGuarded h.machine h.tables h.state (Refused r) h'.machine h'.tables h'.state
