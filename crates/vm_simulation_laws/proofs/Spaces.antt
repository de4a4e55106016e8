-- The machine's space lies below the guest's, and so do its modify bits.
use Rattle.std.proofs.Common.{◌≡◌, ℕ, ◌+◌, ◌*◌, ◌/◌, ◌%◌, ◌^◌, ◌<◌, ◌≤◌, ◌⊎◌, inl, inr, Bool, not, List, length, Option, Result, Ok, Err, refl, ap, ◌∙◌, sym, subst, arith}
use Rattle.std.specs.Prelude.{◌==◌, nat_le, slice_index, if◌then◌else◌}
use Rattle.std.proofs.lemmas.Bool.{cond_both, ltb-false}
use Rattle.vv_base.specs.Bytes.{long_at}
use Rattle.vax_arch.specs.Fields.{current_of, frame_of, is_valid, mode_number, mode_of, previous_of, protection_of}
use Rattle.vax_arch.specs.Ring.{open_of, ring_of}
use Rattle.vax_arch.specs.Walk.{granted, is_past, page_of}
use Rattle.vax_arch.specs.WalkLaws.{IsInside}
use Rattle.vax_arch.specs.declared.mode.Intent.{Intent}
use Rattle.vax_arch.specs.declared.mode.Mode.{Mode}
use Rattle.vax_arch.specs.declared.mode.Mode.TheVariants.{Executive, Kernel, Supervisor, User}
use Rattle.vax_table.specs.Operand.{minus, plus}
use Rattle.vax_table.specs.Probing.{last_of, probe_mode}
use Rattle.vax_arch.specs.declared.walk.Grant.{Grant}
use Rattle.vax_arch.specs.declared.walk.Grant.TheVariants as grants
use Rattle.vax_arch.specs.declared.walk.Lookup.{Lookup}
use Rattle.vax_arch.specs.declared.walk.Lookup.TheVariants.{Beyond, Direct, Fails, Found}
use Rattle.vax_arch.proofs.Walks.{looks_inside}
use Rattle.vax_hw.specs.Machine.{Machine, is_real_bit_clear as machine_clear, seen_psl, machine_space}
use Rattle.vax_hw.specs.Real.{in_kernel}
use Rattle.vax_hw.specs.RealTables.{byte_by as byte_at, is_clear_in, place_in}
use Rattle.vax_table.specs.Interaction.{Absent, Below, Cause, Interaction, Refusing}
use Rattle.vax_table.specs.Tries.{IsMarkedAtLeast, Tried, TriedFar, tried}
use Rattle.vax_table.specs.Whole.{Meant, instruction, is_kernel_mode}
use Rattle.vax_table.proofs.Tries.{tried_far}
use Rattle.vm_shadow.specs.Laws.{HasNone, guest_place, own_place, real_place, relocated}
use Rattle.vm_shadow.specs.Layout.{real_tables}
use Rattle.vm_shadow.specs.Shadowed.{Shadowed}
use Rattle.vm_shadow.proofs.Hearing.{heard, marks, size_is}
use Rattle.vm_shadow.proofs.Lookups.{IsBy, looks_by}
use Rattle.vm_shadow.proofs.Places.{split}
use Rattle.vm_simulation_laws.specs.Loaded.{RunsGuest, guest_try}
use Rattle.vm_simulation_laws.proofs.Narrow.{narrow, narrowly, tried_narrow}
use Rattle.vm_state.specs.Partition.{guest_of, partition_of}
use Rattle.vm_state.specs.State.{Guest}
use Rattle.vm_state.specs.Step.{instruction_of}
use Rattle.vm_state.specs.Translation.{at_entry, is_clear, look, space_of, walk_by, walk_of, walked_byte}
use Rattle.vm_state.specs.declared.guest_state.GuestState.{GuestState}
use Rattle.vm_state.specs.declared.walk.Walk.{Walk}
use Rattle.vm_state.specs.declared.walk.Walk.TheVariants as walks
use Rattle.vm_state.proofs.Parts.{part_byte}

-- A guest's place lies in its memory.
Inside : ℕ → Grant → Type 0
Inside size (grants.Granted frame) = 512 * frame + 512 ≤ size
Inside size grants.Refused = Unit {0}
Inside size grants.Absent = Unit {0}
Inside size grants.Past = Unit {0}

granted_inside : (may : ℕ → Mode → Intent → Bool) (size entry : ℕ) (m : Mode) (i : Intent) → Inside size (granted may size entry m i)
unfolding granted Inside
granted_inside may size entry m i =
    cond_both (not (may (protection_of entry) m i)) _ _ (Inside size) (λ h. tt) (λ h.
    cond_both (not (is_valid entry)) _ _ (Inside size) (λ h. tt) (λ h.
    cond_both (is_past size (512 * frame_of entry) 512) _ _ (Inside size) (λ h. tt) (λ h. ltb-false size (512 * frame_of entry + 512) h)))

abbrev IsWithin : ℕ → Result ℕ Cause → Type 0
IsWithin size (Ok place) = place < size
IsWithin size (Err cause) = Unit {0}

entry_within : (size va place : ℕ) (table : Option ℕ) (i : Intent) (x : Grant) → Inside size x → IsWithin size (guest_place (at_entry va i place table x))
unfolding Inside
entry_within size va place table i (grants.Granted frame) h = omega arith
entry_within size va place table i grants.Refused h = tt
entry_within size va place table i grants.Absent h = tt
entry_within size va place table i grants.Past h = tt

look_within : (g : Guest) (va : ℕ) (m : Mode) (i : Intent) (x : Lookup) → IsInside (length g.memory) x → IsBy (length g.memory) g.state.tables (page_of va) x → IsWithin (length g.memory) (guest_place (walk_by g va m i x))
look_within g va m i (Found place table) inside by = entry_within (length g.memory) va place table i (granted open_of (length g.memory) (long_at g.memory place) m i) (granted_inside open_of (length g.memory) (long_at g.memory place) m i)
look_within g va m i (Direct frame) inside by = let e : frame ≡ va / 2 ^ 9 = by.0 in omega (arith, e, inside)
look_within g va m i (Fails n p) inside by = tt
look_within g va m i Beyond inside by = tt

own_within : (g : Guest) (va : ℕ) (m : Mode) (i : Intent) → IsWithin (length g.memory) (guest_place (walk_of g va m i))
unfolding walk_of
own_within g va m i = look_within g va m i (look g (page_of va)) (looks_inside (length g.memory) g.memory g.state.tables (page_of va)) (looks_by (length g.memory) g.memory g.state.tables (page_of va))

pub place_within : (memory : List ℕ) (g : GuestState) (m : Mode) (i : Intent) (va pa : ℕ) → own_place memory g m i va ≡ Ok pa → pa < length (partition_of memory g)
place_within memory g m i va pa e = subst (IsWithin (length (partition_of memory g))) e (own_within (guest_of memory g) va m i)

-- the byte at a place
space_by : (memory : List ℕ) (w : Walk) → walked_byte memory w ≡ byte_at memory (guest_place w)
space_by memory (walks.Frame pa entry table) = refl
space_by memory (walks.Fault f) = refl
space_by memory walks.Beyond = refl

-- The first has what the second has, or misses, or refuses where the second has none.
abbrev pub Hears : Result ℕ Cause → Result ℕ Cause → Type 0
Hears x y = (x ≡ y) ⊎ ((x ≡ Err Absent) ⊎ ((x ≡ Err Refusing) × HasNone y))

byte_same : (memory own : List ℕ) (base : ℕ) (r : Result ℕ Cause) → ((p : ℕ) → r ≡ Ok p → slice_index memory (base + p) ≡ slice_index own p) → byte_at memory (relocated base r) ≡ byte_at own r
byte_same memory own base (Ok p) h = ap Ok (h p refl)
byte_same memory own base (Err c) h = refl

byte_none : (memory : List ℕ) (r : Result ℕ Cause) → HasNone r → HasNone (byte_at memory r)
byte_none memory (Ok p) h = absurd h
byte_none memory (Err c) h = tt

low : (va : ℕ) → va % 2 ^ 32 < 2 ^ 32
low va = omega arith

-- the mode is in the bits above the status word
pub high_part : (a p : ℕ) → (a / 256 * 256 + p % 256) / 256 ≡ a / 256
high_part a p = grind arith

higher : (p q : ℕ) → q / 256 ≡ p / 256 → q / 2 ^ 24 ≡ p / 2 ^ 24
higher p q e = grind arith

pub same_mode : (p q : ℕ) → q / 256 ≡ p / 256 → current_of q ≡ current_of p
same_mode p q e = ap mode_of (higher p q e)

-- the mode that PROBE asks for, in the ring
ring_of_probe : (p n : Mode) → (if nat_le (mode_number (ring_of p)) (mode_number n) then n else ring_of p) ≡ ring_of (if nat_le (mode_number p) (mode_number n) then n else p)
ring_of_probe Kernel Kernel = refl
ring_of_probe Kernel Executive = refl
ring_of_probe Kernel Supervisor = refl
ring_of_probe Kernel User = refl
ring_of_probe Executive Kernel = refl
ring_of_probe Executive Executive = refl
ring_of_probe Executive Supervisor = refl
ring_of_probe Executive User = refl
ring_of_probe Supervisor Kernel = refl
ring_of_probe Supervisor Executive = refl
ring_of_probe Supervisor Supervisor = refl
ring_of_probe Supervisor User = refl
ring_of_probe User Kernel = refl
ring_of_probe User Executive = refl
ring_of_probe User Supervisor = refl
ring_of_probe User User = refl

pub last_low : (base bytes : ℕ) → base < 2 ^ 32 → last_of base bytes < 2 ^ 32
last_low base bytes h = cond_both (bytes == 0) base (minus (plus base bytes) 1) (λ x. x < 2 ^ 32) (λ e. h) (λ e. omega arith)

module _ (opened : List ℕ) (m : Machine) (s : Shadowed) (g : GuestState) (k : RunsGuest opened m s g) where
  abbrev pub whole : Guest
  whole = guest_of m.memory g

  abbrev pub own_mode : Mode
  own_mode = current_of g.psl.0

  pub machine_byte : (i : Intent) (va : ℕ) → machine_space m i va ≡ byte_at m.memory (real_place m.memory s own_mode i va)
  machine_byte i va = λ j. byte_at m.memory (place_in m.memory (k.loads.tables j) (k.loads.current j) i va)

  pub guest_byte : (i : Intent) (va : ℕ) → space_of whole i va ≡ byte_at (partition_of m.memory g) (own_place m.memory g own_mode i va)
  guest_byte i va = space_by (partition_of m.memory g) (walk_of whole va own_mode i)

  own_same : (p : ℕ) → p < length (partition_of m.memory g) → slice_index m.memory (512 * s.base + p) ≡ slice_index (partition_of m.memory g) p
  own_same p h =
      let size = size_is opened m.memory s g k.keeps k.serves in
      let pages : p < 512 * g.pages = omega (arith, h, size, k.serves.pages) in
      ap (λ b. slice_index m.memory (512 * b + p)) k.serves.base ∙ sym (part_byte m.memory (512 * g.base) (512 * g.pages) p pages)

  pub hears : (i : Intent) (va : ℕ) → va < 2 ^ 32 → Hears (machine_space m i va) (space_of whole i va)
  hears i va small =
      let own = own_place m.memory g own_mode i va in
      let here : (x : Result ℕ Cause) → real_place m.memory s own_mode i va ≡ x → machine_space m i va ≡ byte_at m.memory x = λ x e. machine_byte i va ∙ ap (byte_at m.memory) e in
      split (heard opened m.memory s g k.keeps k.serves own_mode i va small)
      (λ e. inl (here (relocated (512 * s.base) own) e ∙ byte_same m.memory (partition_of m.memory g) (512 * s.base) own (λ p h. own_same p (place_within m.memory g own_mode i va p h)) ∙ sym (guest_byte i va)))
      (λ e. inr (split e (λ a. inl (here (Err Absent) a)) (λ b. inr (here (Err Refusing) b.0, subst HasNone (sym (guest_byte i va)) (byte_none (partition_of m.memory g) own b.1)))))

  pub below : Below (narrow (machine_space m)) (narrow (space_of whole))
  below i va b e =
      let here : machine_space m i (va % 2 ^ 32) ≡ Ok b = e in
      split (hears i (va % 2 ^ 32) (low va)) (λ same. sym same ∙ e) (λ x. split x
      (λ a. let no_byte : machine_space m i (va % 2 ^ 32) ≡ Err Absent = a in cc)
      (λ a. let no_byte : machine_space m i (va % 2 ^ 32) ≡ Err Refusing = a.0 in cc))

  pub machine_bit : (va : ℕ) → machine_clear m va ≡ is_clear_in m.memory (real_tables s.at s.slot) va
  machine_bit va = ap (λ t. is_clear_in m.memory t va) k.loads.tables

  marked : IsMarkedAtLeast (narrowly (machine_clear m)) (narrowly (is_clear whole))
  marked va e = marks opened m.memory s g k.keeps k.serves (va % 2 ^ 32) (low va) (sym (machine_bit (va % 2 ^ 32)) ∙ e)

  pub vm_mode : current_of m.world.vmpsl.0 ≡ own_mode
  vm_mode = same_mode g.psl.0 m.world.vmpsl.0 (sym (high_part m.world.vmpsl.0 m.world.psl.0) ∙ ap (λ x. x / 256) k.loads.psl)

  abbrev pub machine_instruction : Interaction Meant
  machine_instruction = instruction (in_kernel m.world) (seen_psl m.world) m.world.r

  pub same_instruction : machine_instruction ≡ instruction_of whole.state
  same_instruction = λ j. instruction (is_kernel_mode (vm_mode j)) (k.loads.psl j) (k.loads.r j)

  abbrev pub machine_try : Tried Meant
  machine_try = tried (machine_space m) (machine_clear m) machine_instruction

  -- what the machine's try says of the guest's
  pub far : TriedFar (narrow (machine_space m)) (narrow (space_of whole)) (narrowly (machine_clear m)) (narrowly (is_clear whole)) machine_try (guest_try whole)
  far =
      let P : Tried Meant → Tried Meant → Type 0 = TriedFar (narrow (machine_space m)) (narrow (space_of whole)) (narrowly (machine_clear m)) (narrowly (is_clear whole)) in
      let one : machine_try ≡ tried (narrow (machine_space m)) (narrowly (machine_clear m)) (instruction_of whole.state) = tried_narrow (machine_space m) (machine_clear m) machine_instruction ∙ ap (tried (narrow (machine_space m)) (narrowly (machine_clear m))) same_instruction in
      subst (λ x. P x (guest_try whole)) (sym one)
      (subst (λ x. P (tried (narrow (machine_space m)) (narrowly (machine_clear m)) (instruction_of whole.state)) x) (sym (tried_narrow (space_of whole) (is_clear whole) (instruction_of whole.state)))
      (tried_far (narrow (machine_space m)) (narrow (space_of whole)) (narrowly (machine_clear m)) (narrowly (is_clear whole)) (instruction_of whole.state) below marked))

  pub ring_of_asked : (named : ℕ) → probe_mode m.world.psl.0 named ≡ ring_of (probe_mode g.psl.0 named)
  ring_of_asked named = ap (λ p. if nat_le (mode_number p) (mode_number (mode_of named)) then mode_of named else p) k.loads.previous ∙ ring_of_probe (previous_of g.psl.0) (mode_of named)
