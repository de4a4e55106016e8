-- The emulation of a sensitive instruction, or of a PROBE, over a machine and a guest's shadow page tables.
use Rattle.std.specs.Prelude.{◌≡◌, ◌⊎◌, ℕ, ◌+◌, ◌*◌, ◌/◌, ◌%◌, ◌^◌, Bool, true, false, not, List, [], Some}
use Rattle.vax_arch.specs.Fields.{is_valid}
use Rattle.vax_arch.specs.Walk.{page_of}
use Rattle.vax_arch.specs.declared.mode.Intent.{Intent}
use Rattle.vax_arch.specs.declared.mode.Intent.TheVariants as intents
use Rattle.vax_hw.specs.Machine.{Machine}
use Rattle.vax_table.specs.Arithmetic.{bit_of}
use Rattle.vax_table.specs.Probing.{last_of}
use Rattle.vax_table.specs.declared.act.Sens.{Sens}
use Rattle.vax_table.specs.declared.act.Sens.TheVariants.{Halt, Prober, Probew}
use Rattle.vax_table.specs.declared.act.Trapped.{Trapped}
use Rattle.vm_emulate.specs.Followed.{Follows}
use Rattle.vm_emulate.specs.declared.emulated.Emulated.{Emulated}
use Rattle.vm_emulate.specs.declared.emulated.Emulated.TheVariants as outcomes
use Rattle.vm_exception.specs.Attempted.{Stays}
use Rattle.vm_exception.specs.Initiated.{InitiatesTo, StopsWith}
use Rattle.vm_shadow.specs.Calls.{OnlyTables}
use Rattle.vm_shadow.specs.Shadowed.{Shadowed, read_at, real_at}
use Rattle.vm_shadow.specs.StandsFor.{OnlyGuest, StandsFor, own_number}
use Rattle.vm_state.specs.Partition.{guest_of}
use Rattle.vm_state.specs.Probe.{Answers, NotValid, Probed, probe}
use Rattle.vm_state.specs.Probe as probes
use Rattle.vm_state.specs.Sensed.{ClearAt, Does, Faults, LacksMemory, Sensed, StopsThere}
use Rattle.vm_state.specs.Sensitive.{past_instruction, sensed, with_psw}
use Rattle.vm_state.specs.State.{Guest, HasPlace}
use Rattle.vm_state.specs.Stops.{Halted, stop_code}
use Rattle.vm_state.specs.Translation.{look, marked_by, marks_by}
use Rattle.vm_state.specs.declared.exception.Exc.{Exc}
use Rattle.vm_state.specs.declared.exception.Exc.TheVariants as excs
use Rattle.vm_state.specs.declared.guest_state.GuestState.{GuestState}

-- the guest is this one then
pub record EmulatesTo (h : Guest) (frames : List ℕ) (s : Shadowed) (m' : Machine) (s' : Shadowed) (g' : GuestState) : Type 0 where
  pub guest : guest_of m'.memory g' ≡ h
  pub follows : Follows frames h.state.tables s s'

-- the modify bit of the entry of a byte's page is set, and the instruction begins again
abbrev pub marked_guest : Guest → ℕ → Guest
marked_guest g va = record g { memory = marked_by (look g (page_of va)) g.memory }

-- the modify fault of a guest that has them, at a page with a clear modify bit
abbrev pub clear_fault : ℕ → Exc
clear_fault va = excs.ModifyFault va

-- a place beyond memory
abbrev pub past_memory : ℕ
past_memory = 0x10

-- A sensitive instruction but HALT. What it shows is said beside this.
abbrev pub IsSensed : Sensed → Emulated → Machine → Shadowed → GuestState → Machine → Shadowed → GuestState → Type 0
IsSensed (Does h shown frames) outcomes.Done m s g m' s' g' = EmulatesTo h frames s m' s' g'
IsSensed (Faults e) (outcomes.Fault f) m s g m' s' g' = (f ≡ e) × Stays m s g m' s' g'
IsSensed (ClearAt va) (outcomes.Fault f) m s g m' s' g' = (g.modify_faults ≡ true) × (f ≡ clear_fault va) × Stays m s g m' s' g'
IsSensed (ClearAt va) (outcomes.SetModify at) m s g m' s' g' =
    (at ≡ va) × (g.modify_faults ≡ false) × (g' ≡ g) × InitiatesTo (marked_guest (guest_of m.memory g) va) (marks_by (look (guest_of m.memory g) (page_of va))) s m' s' g'
IsSensed (StopsThere stop) (outcomes.Stopped code) m s g m' s' g' = (code ≡ stop_code stop) × StopsWith code m s g m' s' g'
IsSensed LacksMemory outcomes.PastMemory m s g m' s' g' = StopsWith past_memory m s g m' s' g'
IsSensed _ _ m s g m' s' g' = ⊥

-- HALT; the caller shows that the guest stopped
abbrev pub halted_guest : Guest → Trapped → Guest
halted_guest g t = record g { state = record (past_instruction g.state t) { halt = Some (stop_code Halted) } }

abbrev pub IsHalted : Guest → Emulated → Shadowed → Machine → Shadowed → GuestState → Type 0
IsHalted h (outcomes.Stopped code) s m' s' g' = (code ≡ stop_code Halted) × EmulatesTo h [] s m' s' g'
IsHalted h _ s m' s' g' = ⊥

pub record Senses (x : Sensed) (m : Machine) (s : Shadowed) (g : GuestState) (result : Emulated) (m' : Machine) (s' : Shadowed) (g' : GuestState) : Type 0 where
  pub is : IsSensed x result m s g m' s' g'
  pub stands : StandsFor m'.memory s' g'
  pub place : HasPlace g.pages g.base g.start g'
  pub only : OnlyGuest s m m'

-- an instruction that changes the guest's registers alone
pub record SensesAlone (x : Sensed) (m : Machine) (g : GuestState) (result : Emulated) (g' : GuestState) : Type 0 where
  pub senses : (s : Shadowed) → StandsFor m.memory s g → Senses x m s g result m s g'

-- A PROBE, which the machine leaves to the kernel where a real entry isn't filled. Where it is plain, both are filled, so
-- that the machine does it.
abbrev pub probed_trap : Guest → Intent → Trapped → Probed
probed_trap g i t = probe g i t.a t.b t.c

-- the codes of PROBE: Z where it isn't accessible, N and V clear, C as before
abbrev pub probe_codes : Bool → ℕ → ℕ
probe_codes is_accessible psl = with_psw psl (psl % 2 ^ 8 / 16 * 16 + 4 * bit_of (not is_accessible) + psl % 2 ^ 8 % 2)

abbrev pub with_probe : Bool → Trapped → Guest → Guest
with_probe is_accessible t g = record g { state = record (past_instruction g.state t) { psl = probe_codes is_accessible g.state.psl } }

-- a page's real entry is valid
abbrev pub HasValidEntry : ℕ → Machine → Shadowed → Type 0
HasValidEntry page m s = is_valid (real_at m.memory s (own_number s page)) ≡ true

-- Real entries of two pages are filled: nothing is dropped, and nothing of the guest changes.
pub record FillsTwo (p q : ℕ) (g : GuestState) (m : Machine) (s : Shadowed) (m' : Machine) (s' : Shadowed) : Type 0 where
  pub stands : StandsFor m'.memory s' g
  pub memory : guest_of m'.memory g ≡ guest_of m.memory g
  pub first : HasValidEntry p m' s'
  pub second : HasValidEntry q m' s'
  pub stay : (n : ℕ) → (read_at s' n ≡ read_at s n) ⊎ ((n ≡ own_number s p) ⊎ (n ≡ own_number s q))
  pub rest : s' ≡ record s { reads = s'.reads; consulted = s'.consulted; writable = s'.writable }
  pub only : OnlyTables s.at m m'

abbrev pub IsProbed : Probed → Trapped → Emulated → Machine → Shadowed → GuestState → Machine → Shadowed → GuestState → Type 0
IsProbed (Answers is_accessible true) t outcomes.Filled m s g m' s' g' = (g' ≡ g) × FillsTwo (page_of t.c) (page_of (last_of t.c (t.b % 2 ^ 16))) g m s m' s'
IsProbed (Answers is_accessible false) t outcomes.Done m s g m' s' g' = EmulatesTo (with_probe is_accessible t (guest_of m.memory g)) [] s m' s' g'
IsProbed (NotValid f) t (outcomes.Fault e) m s g m' s' g' = (e ≡ excs.Memory f) × Stays m s g m' s' g'
IsProbed probes.PastMemory t outcomes.PastMemory m s g m' s' g' = StopsWith past_memory m s g m' s' g'
IsProbed _ t _ m s g m' s' g' = ⊥

pub record Probes (i : Intent) (t : Trapped) (m : Machine) (s : Shadowed) (g : GuestState) (result : Emulated) (m' : Machine) (s' : Shadowed) (g' : GuestState) : Type 0 where
  pub is : IsProbed (probed_trap (guest_of m.memory g) i t) t result m s g m' s' g'
  pub stands : StandsFor m'.memory s' g'
  pub place : HasPlace g.pages g.base g.start g'
  pub only : OnlyGuest s m m'

-- by the instruction
abbrev pub IsEmulated : Sens → Trapped → Emulated → Machine → Shadowed → GuestState → Machine → Shadowed → GuestState → Type 0
IsEmulated Prober t result m s g m' s' g' = IsProbed (probed_trap (guest_of m.memory g) intents.Read t) t result m s g m' s' g'
IsEmulated Probew t result m s g m' s' g' = IsProbed (probed_trap (guest_of m.memory g) intents.Write t) t result m s g m' s' g'
IsEmulated Halt t result m s g m' s' g' = IsHalted (halted_guest (guest_of m.memory g) t) result s m' s' g'
IsEmulated op t result m s g m' s' g' = IsSensed (sensed (guest_of m.memory g) t op) result m s g m' s' g'

-- what it shows on the console; the text of a stop isn't among it
abbrev pub shown_by : Emulated → Sensed → List ℕ
shown_by outcomes.Done (Does h shown frames) = shown
shown_by result sense = []

abbrev pub shown_of : Guest → Trapped → Emulated → List ℕ
shown_of g t result = shown_by result (sensed g t t.op)

pub record Emulates (t : Trapped) (m : Machine) (s : Shadowed) (g : GuestState) (result : Emulated) (m' : Machine) (s' : Shadowed) (g' : GuestState) : Type 0 where
  pub is : IsEmulated t.op t result m s g m' s' g'
  pub stands : StandsFor m'.memory s' g'
  pub place : HasPlace g.pages g.base g.start g'
  pub only : OnlyGuest s m m'
