-- One instruction of the machine, and the guest's own step.
use Rattle.std.specs.Prelude.{◌≡◌, ◌⊎◌, ℕ, ◌+◌, ◌/◌, ◌%◌, ◌^◌, ◌<◌, Bool, true, false, List, map, Option, None, Result, Ok, Err}
use Rattle.vax_arch.specs.Fields.{current_of, is_modified}
use Rattle.vax_arch.specs.Walk.{page_of}
use Rattle.vax_arch.specs.declared.mode.Intent.{Intent}
use Rattle.vax_arch.specs.declared.mode.Intent.TheVariants.{Write}
use Rattle.vax_hw.specs.Machine.{Machine}
use Rattle.vax_hw.specs.Real.{Retired, machine_step}
use Rattle.vax_hw.specs.declared.world.Exit.{Exit}
use Rattle.vax_hw.specs.declared.world.Exit.TheVariants as exits
use Rattle.vax_table.specs.Claims.{claims}
use Rattle.vax_table.specs.Effects.{Effect, long_of}
use Rattle.vax_table.specs.Plan.{probed}
use Rattle.vax_table.specs.Probing.{last_of}
use Rattle.vax_table.specs.Interaction.{At, Cause, IsIn, Test, outcome}
use Rattle.vax_table.specs.Tries.{Clear, Completes, Stopped}
use Rattle.vax_table.specs.Troubles.{intent_of}
use Rattle.vax_table.specs.Whole.{Act, Plain, Probes, Traps, meant, probe_of, trap_of}
use Rattle.vax_table.specs.declared.act.Trapped.{Trapped}
use Rattle.vm_shadow.specs.Laws.{own_place}
use Rattle.vm_shadow.specs.Layout.{IsCovered}
use Rattle.vm_shadow.specs.Shadowed.{Keeps, Shadowed, mapped_frame, read_at, real_at}
use Rattle.vm_shadow.specs.StandsFor.{HasModifiedPage, IsPresent, own_number}
use Rattle.vm_simulation_laws.specs.Loaded.{HasGuestLoaded, OnlyPartition, RunsGuest, as_run, frames_opened, guest_try}
use Rattle.vm_state.specs.Partition.{guest_of}
use Rattle.vm_state.specs.Probe.{Answers, probe}
use Rattle.vm_state.specs.Step as steps
use Rattle.vm_state.specs.State.{Guest, state_of}
use Rattle.vm_state.specs.Step.{by_try, frames_stored, instruction_of, trapped_in, with_effect}
use Rattle.vm_state.specs.Translation.{frame_at, guest_write_place, is_clear, space_of}
use Rattle.vm_state.specs.declared.guest_state.GuestState.{GuestState}

-- a trap is of a sensitive instruction with these operands, or of a PROBE
abbrev pub IsTrap : Trapped → Act → Type 0
IsTrap t (Plain e) = ⊥
IsTrap t (Traps u) = u ≡ t
IsTrap t (Probes i o) = trap_of (probe_of i) o ≡ t

-- Of the two pages that a PROBE which traps asks about, one isn't filled, where both are present.
abbrev pub IsUnfilled : Act → List ℕ → Shadowed → GuestState → Type 0
IsUnfilled (Plain e) memory s g = Unit {0}
IsUnfilled (Traps t) memory s g = Unit {0}
IsUnfilled (Probes i o) memory s g =
    let first = page_of (long_of o 2) in
    let last = page_of (last_of (long_of o 2) (long_of o 1 % 2 ^ 16)) in
    IsPresent (guest_of memory g) first → IsPresent (guest_of memory g) last → (read_at s (own_number s first) ≡ None) ⊎ (read_at s (own_number s last) ≡ None)

-- The guest's instruction completes but for a trap.
pub record IsTrapped (t : Trapped) (memory : List ℕ) (s : Shadowed) (g : GuestState) : Type 0 where
  pub opcode : ℕ
  pub act : Act
  pub is : IsTrap t act
  pub try : guest_try (guest_of memory g) ≡ Completes (meant opcode act)
  pub unfilled : IsUnfilled act memory s g

abbrev pub place_here : List ℕ → GuestState → Intent → ℕ → Result ℕ Cause
place_here memory g i va = own_place memory g (current_of g.psl.0) i va

-- A page was missed: where the guest has no place for the byte, its instruction has this trouble, and else the page isn't
-- filled.
pub record IsMissed (i : Intent) (va : ℕ) (memory : List ℕ) (s : Shadowed) (g : GuestState) : Type 0 where
  pub small : va < 2 ^ 32
  pub fault : (c : Cause) → place_here memory g i va ≡ Err c → guest_try (guest_of memory g) ≡ Stopped (At c i va)
  pub empty : (pa : ℕ) → place_here memory g i va ≡ Ok pa → read_at s (own_number s (page_of va)) ≡ None

-- A byte was refused: the guest has no place for it either, and its instruction has this trouble.
pub record IsDenied (i : Intent) (va : ℕ) (memory : List ℕ) (g : GuestState) : Type 0 where
  pub small : va < 2 ^ 32
  pub cause : Cause
  pub none : place_here memory g i va ≡ Err cause
  pub try : guest_try (guest_of memory g) ≡ Stopped (At cause i va)

-- The machine exited at a clear modify bit of a byte that the guest's instruction would write. Where the guest's bit is clear,
-- its instruction stops at it too; else the page's real entry is filled, and could have the bit set.
pub record IsUnwritten (va : ℕ) (memory : List ℕ) (s : Shadowed) (g : GuestState) : Type 0 where
  pub small : va < 2 ^ 32
  pub covered : IsCovered (page_of va)
  pub home : ℕ
  pub place : place_here memory g Write va ≡ Ok home
  pub frame : mapped_frame s (real_at memory s (own_number s (page_of va))) ≡ home / 512
  pub bit : is_modified (real_at memory s (own_number s (page_of va))) ≡ false
  pub claimed : IsIn va (claims (space_of (guest_of memory g)) (instruction_of (state_of g)))
  pub clear : is_clear (guest_of memory g) va ≡ true → guest_try (guest_of memory g) ≡ Clear va
  pub set : is_clear (guest_of memory g) va ≡ false → HasModifiedPage memory s (own_number s (page_of va))

-- what an exit of the machine before an instruction says of the guest's
abbrev pub Meets : Exit → List ℕ → Shadowed → GuestState → Type 0
Meets exits.Budget memory s g = ⊥
Meets (exits.Arithmetic kind) memory s g = ⊥
Meets (exits.Emulate t) memory s g = IsTrapped t memory s g
Meets (exits.Refused r) memory s g = guest_try (guest_of memory g) ≡ Stopped (Test r)
Meets (exits.NotValid va write) memory s g = IsMissed (intent_of write) va memory s g
Meets (exits.Denied va write) memory s g = IsDenied (intent_of write) va memory g
Meets (exits.Modify va) memory s g = IsUnwritten va memory s g

abbrev pub ExitsMeetTheGuest : Type 0
ExitsMeetTheGuest = (opened : List ℕ) (m : Machine) (s : Shadowed) (g : GuestState) (e : Exit) → RunsGuest opened m s g → machine_step m ≡ Err e → Meets e m.memory s g

-- the frames of the bytes that an instruction would write
abbrev pub frames_claimed : Guest → List ℕ
frames_claimed h = map (λ va. frame_at (guest_write_place h va)) (claims (space_of h) (instruction_of h.state))

abbrev pub ClaimedFramesAreWritten : Type 0
ClaimedFramesAreWritten = (h : Guest) (opcode : ℕ) (e : Effect) → outcome (space_of h) (instruction_of h.state) ≡ Ok (meant opcode (Plain e)) → frames_claimed h ≡ frames_stored h e.writes

-- What a plain instruction or a PROBE leaves: the guest after it, and its arithmetic trap, which isn't initiated yet.
abbrev pub LeavesByAct : Act → Guest → Guest → Option ℕ → Type 0
LeavesByAct (Plain e) h after trap = (after ≡ with_effect h e) × (trap ≡ e.trap)
LeavesByAct (Traps t) h after trap = ⊥
LeavesByAct (Probes i o) h after trap =
    (is_accessible : Bool) × (probe h i (long_of o 0) (long_of o 1) (long_of o 2) ≡ Answers is_accessible true) × (after ≡ with_effect h (probed is_accessible o (h.state.psl % 2 ^ 8))) × (trap ≡ None)

-- The guest's instruction completes, and leaves a guest and a trap.
pub record Leaves (h after : Guest) (trap : Option ℕ) : Type 0 where
  pub opcode : ℕ
  pub act : Act
  pub try : guest_try h ≡ Completes (meant opcode act)
  pub later : LeavesByAct act h after trap

-- The machine retired an instruction. The guest's own is plain, with the same registers and memory after it and the same
-- trap, and writes the frames that it claims. Nothing else of the machine's memory changed. What was read from a frame that an
-- opened entry maps is pending.
pub record IsRetired (opened : List ℕ) (m : Machine) (s : Shadowed) (g : GuestState) (x : Retired) : Type 0 where
  pub term : ℕ
  pub plain : by_try (guest_of m.memory g) (guest_try (guest_of m.memory g)) ≡ trapped_in (steps.Plain term) (frames_claimed (guest_of m.memory g)) (guest_of x.machine.memory (as_run x.machine.world g)) x.trap
  pub leaves : Leaves (guest_of m.memory g) (guest_of x.machine.memory (as_run x.machine.world g)) x.trap
  pub keeps : Keeps (frames_opened m.memory s opened) opened x.machine.memory s
  pub loads : HasGuestLoaded x.machine.world s (as_run x.machine.world g)
  pub high : (as_run x.machine.world g).psl.0 / 2 ^ 8 ≡ g.psl.0 / 2 ^ 8
  pub only : OnlyPartition g m.memory x.machine.memory
  pub retired : x.machine.retired ≡ (m.retired + 1) % 2 ^ 64
  pub trail : x.machine.trail ≡ (m.trail + term) % 2 ^ 64
  pub misses : x.machine.misses ≡ m.misses

abbrev pub RetiresTheGuest : Type 0
RetiresTheGuest = (opened : List ℕ) (m : Machine) (s : Shadowed) (g : GuestState) (x : Retired) → RunsGuest opened m s g → machine_step m ≡ Ok x → IsRetired opened m s g x
