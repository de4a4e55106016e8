-- A run of the machine, instruction by instruction.
use Rattle.std.proofs.Common.{◌≡◌, ℕ, zero, suc, ◌+◌, ◌/◌, ◌%◌, ◌^◌, ◌<◌, ◌≤◌, false, ◌&&◌, List, [], ◌++◌, append-nil, Option, Some, None, Result, Ok, Err, refl, ap, ◌∙◌, sym, subst, arith}
use Rattle.std.specs.Prelude.{find, nat_lt}
use Rattle.vax_arch.specs.Fields.{current_of, ipl_of}
use Rattle.vax_arch.specs.Walk.{page_of}
use Rattle.vax_arch.specs.declared.mode.Intent.{Intent}
use Rattle.vax_arch.specs.declared.mode.Intent.TheVariants.{Write}
use Rattle.vax_arch.specs.declared.mode.Mode.{Mode}
use Rattle.vax_arch.specs.declared.walk.Lookup.{Lookup}
use Rattle.vax_arch.specs.declared.walk.Lookup.TheVariants.{Beyond, Direct, Fails, Found}
use Rattle.vax_hw.specs.Machine.{Machine}
use Rattle.vax_hw.specs.Real.{Retired, unless_trapped, going_on, misses_after, machine_step, real}
use Rattle.vax_hw.specs.declared.world.Exit.{Exit}
use Rattle.vax_hw.specs.declared.world.Exit.TheVariants.{Arithmetic, Budget, Denied, Emulate, Modify, NotValid, Refused}
use Rattle.vax_hw.specs.declared.world.World.{World}
use Rattle.vax_table.specs.Claims.{claims}
use Rattle.vax_table.specs.Interaction.{IsIn}
use Rattle.vax_table.specs.Tries.{tried}
use Rattle.vax_table.specs.Troubles.{intent_of}
use Rattle.vax_table.specs.Whole.{Act, Plain, Probes, Traps}
use Rattle.vm_clock.specs.Clock.{ClockState, after_tick}
use Rattle.vm_clock.specs.Ticks.{after_ticks}
use Rattle.vm_shadow.specs.Laws.{guest_place}
use Rattle.vm_shadow.specs.Shadowed.{Shadowed}
use Rattle.vm_shadow.specs.StandsFor.{IsPresent}
use Rattle.vm_simulation_laws.specs.Bursts.{EndsBurst, IsBurst, IsQuiet, RunsGoAsTheGuest, after_counted, counted_by, goes_on, missed_by, with_count, with_plain_steps, with_trap}
use Rattle.vm_simulation_laws.specs.Laws.{IsRetired, IsUnfilled, Meets, frames_claimed, place_here}
use Rattle.vm_simulation_laws.specs.Loaded.{HasGuestLoaded, OnlyPartition, RunsGuest, as_run, guest_try}
use Rattle.vm_simulation_laws.proofs.Meeting.{exits_meet}
use Rattle.vm_simulation_laws.proofs.Retiring.{retires}
use Rattle.vm_state.specs.Initiate.{Initiation, KernelStackBad, StopsGuest, Taken, initiate}
use Rattle.vm_state.specs.Interrupts.{IntervalClock, Kcall, Receiver, Software, Source, Transmitter, due, source_row, sources}
use Rattle.vm_state.specs.Partition.{guest_of, partition_of}
use Rattle.vm_state.specs.Run.{Run, after_step, after_steps}
use Rattle.vm_state.specs.State.{Guest, State, mode_of_state, state_of}
use Rattle.vm_state.specs.Step as steps
use Rattle.vm_state.specs.Step.{Stepped, counted, executed, initiated_in, step, trapped_in}
use Rattle.vm_state.specs.Translation.{is_clear, look, space_of, walk_by, walk_of, walked_byte}
use Rattle.vm_state.specs.declared.exception.Exc.TheVariants as excs
use Rattle.vm_state.specs.declared.guest_state.GuestState.{GuestState}
use Rattle.vm_state.proofs.StepCases.{by_interrupt, step_by, unless_waiting}

-- Requests and the level alone make an interrupt due.
requests_same : (s : State) (r : List ℕ) (psl n : ℕ) (source : Source) → (source_row source).requests (record s { r = r; psl = psl; steps = n }) ≡ (source_row source).requests s
requests_same s r psl n IntervalClock = refl
requests_same s r psl n Kcall = refl
requests_same s r psl n Receiver = refl
requests_same s r psl n Transmitter = refl
requests_same s r psl n (Software level) = refl

same_level : (p q : ℕ) → p / 2 ^ 8 ≡ q / 2 ^ 8 → ipl_of p ≡ ipl_of q
same_level p q e = let h : p / 2 ^ 16 ≡ q / 2 ^ 16 = grind arith in ap (λ n. n % 32) h

pub due_same : (s : State) (r : List ℕ) (psl n : ℕ) → psl / 2 ^ 8 ≡ s.psl / 2 ^ 8 → due (record s { r = r; psl = psl; steps = n }) ≡ due s
unfolding due
due_same s r psl n e = λ i. find (λ source. requests_same s r psl n source i && nat_lt (same_level psl s.psl e i) (source_row source).level) sources

-- a quiet guest's next step comes to its instruction
pub step_is : (h : Guest) → h.state.halt ≡ None → h.state.waiting ≡ false → due (counted h.state) ≡ None → step h ≡ executed (record h { state = counted h.state })
unfolding step
step_is h runs waits none = ap (step_by h) runs ∙ ap (by_interrupt (record h { state = counted h.state })) none ∙ ap (unless_waiting (record h { state = counted h.state })) waits

-- after a plain step without a trap
abbrev next_of : World → GuestState → GuestState
next_of w g = with_count 1 (as_run w g)

pub quiet_next : (n : ℕ) (w : World) (g : GuestState) → (as_run w g).psl.0 / 2 ^ 8 ≡ g.psl.0 / 2 ^ 8 → IsQuiet (suc n) (state_of g) → IsQuiet n (state_of (next_of w g))
unfolding after_ticks
quiet_next n w g high q = record {
  runs = q.runs;
  waits = q.waits;
  none = λ k h. due_same (record (state_of g) { clock = after_ticks (suc k) g.clock }) w.r (as_run w g).psl.0 ((g.steps + 1) % 2 ^ 32) high ∙ q.none (suc k) (omega arith);
}

-- One step from a counted guest.

-- the step of a plain instruction
plain_step : (m : Machine) (s : Shadowed) (g : GuestState) (x : Retired) (r : IsRetired [] m s g x) (run : Run) → run.guest ≡ guest_of m.memory g → after_step run (executed run.guest) ≡ after_step run (trapped_in (steps.Plain r.term) (frames_claimed (guest_of m.memory g)) (guest_of x.machine.memory (as_run x.machine.world g)) x.trap)
unfolding executed
plain_step m s g x r run e =
    let own = guest_of m.memory g in
    ap (λ h. after_step run (executed h)) e ∙ ap (after_step run) (ap (λ (y : Stepped). record y { touched = steps.touched_by own (steps.instruction_of own.state) }) r.plain) ∙ forgets (trapped_in (steps.Plain r.term) (frames_claimed (guest_of m.memory g)) (guest_of x.machine.memory (as_run x.machine.world g)) x.trap)
  where
    forgets : (y : Stepped) → after_step run (record y { touched = steps.touched_by (guest_of m.memory g) (steps.instruction_of (state_of g)) }) ≡ after_step run y
    forgets y = refl

sum_mod : (t a b : ℕ) → ((t + a) % 2 ^ 64 + b) % 2 ^ 64 ≡ (t + (a + b)) % 2 ^ 64
sum_mod t a b = grind arith

same_mod : (n : ℕ) → n % 2 ^ 64 ≡ (n + 0) % 2 ^ 64
same_mod n = ap (λ k. k % 2 ^ 64) (omega arith)

-- the run after one plain step without a trap
one_plain : (m : Machine) (s : Shadowed) (g : GuestState) (x : Retired) (r : IsRetired [] m s g x) (run : Run) → x.trap ≡ None → run.guest ≡ guest_of m.memory g → after_step run (executed run.guest) ≡ with_plain_steps run (guest_of x.machine.memory (as_run x.machine.world g)) 1 r.term
one_plain m s g x r run none e =
    let h = guest_of x.machine.memory (as_run x.machine.world g) in
    plain_step m s g x r run e ∙ ap (λ t. after_step run (trapped_in (steps.Plain r.term) (frames_claimed (guest_of m.memory g)) h t)) none
    ∙ (λ i. record { guest = h; shown = append-nil run.shown i; tally = record run.tally { plain = run.tally.plain + 1; trail = (run.tally.trail + r.term) % 2 ^ 64 } })

-- and after one with a trap
trap_by : (run : Run) (h : Guest) (term kind : ℕ) (written : List ℕ) (i : Initiation) → i ≡ initiate h (excs.Arithmetic kind) → after_step run (initiated_in (steps.Plain term) h i) ≡ record (with_plain_steps run h 1 term) { guest = (initiated_in steps.Idle h i).guest; shown = run.shown ++ (initiated_in steps.Idle h i).shown }
trap_by run h term kind written (Taken x w) e = refl
trap_by run h term kind written (KernelStackBad x w) e = refl
trap_by run h term kind written (StopsGuest stop) e = refl

one_trap : (m : Machine) (s : Shadowed) (g : GuestState) (x : Retired) (r : IsRetired [] m s g x) (kind : ℕ) (run : Run) → x.trap ≡ Some kind → run.guest ≡ guest_of m.memory g → after_step run (executed run.guest) ≡ with_trap kind (with_plain_steps run (guest_of x.machine.memory (as_run x.machine.world g)) 1 r.term)
one_trap m s g x r kind run some e =
    let h = guest_of x.machine.memory (as_run x.machine.world g) in
    plain_step m s g x r run e ∙ ap (λ t. after_step run (trapped_in (steps.Plain r.term) (frames_claimed (guest_of m.memory g)) h t)) some
    ∙ trap_by run h r.term kind (frames_claimed (guest_of m.memory g)) (initiate h (excs.Arithmetic kind)) refl

-- no step more is counted
none_counted : (g : GuestState) → g.steps < 2 ^ 32 → with_count 0 g ≡ g
unfolding after_ticks
none_counted g h = let e : (g.steps + 0) % 2 ^ 32 ≡ g.steps = omega arith in λ i. record g { steps = e i }

none_plainly : (run : Run) → run.tally.trail < 2 ^ 64 → with_plain_steps run run.guest 0 0 ≡ run
none_plainly run h =
    let p : run.tally.plain + 0 ≡ run.tally.plain = omega arith in
    let t : (run.tally.trail + 0) % 2 ^ 64 ≡ run.tally.trail = grind arith in
    λ i. record run { tally = record run.tally { plain = p i; trail = t i } }

-- what was loaded is the guest
pub own_world : (m : Machine) (s : Shadowed) (g : GuestState) → RunsGuest [] m s g → as_run m.world g ≡ g
own_world m s g k = λ i. record g { r = k.loads.r i; psl = record { 0 = k.loads.psl i } }

-- one more counted
pub more_counted : (c : ℕ) (w v : World) (g : GuestState) → with_count c (as_run w (with_count 1 (as_run v g))) ≡ with_count (suc c) (as_run w g)
unfolding after_ticks
more_counted c w v g = let e : ((g.steps + 1) % 2 ^ 32 + c) % 2 ^ 32 ≡ (g.steps + suc c) % 2 ^ 32 = omega arith in λ i. record (as_run w g) { clock = after_ticks c (after_tick g.clock); steps = e i }

counts_on : (e : Exit) (done left : ℕ) (memory : List ℕ) (s : Shadowed) (g : GuestState) → EndsBurst e done left memory s g → suc (counted_by e done) ≡ counted_by e (suc done)
counts_on Budget done left memory s g k = omega (arith, k.1)
counts_on (Arithmetic kind) done left memory s g k = omega (arith, k)
counts_on (NotValid va write) done left memory s g k = refl
counts_on (Denied va write) done left memory s g k = refl
counts_on (Modify va) done left memory s g k = refl
counts_on (Emulate t) done left memory s g k = refl
counts_on (Refused r) done left memory s g k = refl

-- The outcome of a guest's instruction doesn't depend on its clock.
walk_by_counted : (memory : List ℕ) (s : State) (c : ClockState) (n va : ℕ) (m : Mode) (i : Intent) (x : Lookup) → walk_by (record { memory = memory; state = record s { clock = c; steps = n } }) va m i x ≡ walk_by (record { memory = memory; state = s }) va m i x
walk_by_counted memory s c n va m i (Found place table) = refl
walk_by_counted memory s c n va m i (Direct frame) = refl
walk_by_counted memory s c n va m i (Fails v p) = refl
walk_by_counted memory s c n va m i Beyond = refl

walk_counted : (memory : List ℕ) (s : State) (c : ClockState) (n va : ℕ) (m : Mode) (i : Intent) → walk_of (record { memory = memory; state = record s { clock = c; steps = n } }) va m i ≡ walk_of (record { memory = memory; state = s }) va m i
unfolding walk_of
walk_counted memory s c n va m i = walk_by_counted memory s c n va m i (look (record { memory = memory; state = s }) (page_of va))

try_counted : (memory : List ℕ) (s : State) (c : ClockState) (n : ℕ) → guest_try (record { memory = memory; state = record s { clock = c; steps = n } }) ≡ guest_try (record { memory = memory; state = s })
try_counted memory s c n = λ j. tried (λ i va. walked_byte memory (walk_counted memory s c n va (mode_of_state s) i j)) (is_clear (record { memory = memory; state = s })) (steps.instruction_of s)

claims_counted : (memory : List ℕ) (s : State) (c : ClockState) (n : ℕ) → claims (space_of (record { memory = memory; state = record s { clock = c; steps = n } })) (steps.instruction_of s) ≡ claims (space_of (record { memory = memory; state = s })) (steps.instruction_of s)
claims_counted memory s c n = λ j. claims (λ i va. walked_byte memory (walk_counted memory s c n va (mode_of_state s) i j)) (steps.instruction_of s)

place_counted : (memory : List ℕ) (g : GuestState) (c : ClockState) (n : ℕ) (i : Intent) (va : ℕ) → place_here memory (record g { clock = c; steps = n }) i va ≡ place_here memory g i va
place_counted memory g c n i va = ap guest_place (walk_counted (partition_of memory g) (state_of g) c n va (current_of g.psl.0) i)

present_counted : (memory : List ℕ) (g : GuestState) (c : ClockState) (n page : ℕ) → IsPresent (guest_of memory g) page → IsPresent (guest_of memory (record g { clock = c; steps = n })) page
present_counted memory g c n page p = record { entry = p.entry; has = p.has; valid = p.valid; inside = p.inside }

present_more : (memory : List ℕ) (g : GuestState) (c : ClockState) (n page : ℕ) → IsPresent (guest_of memory (record g { clock = c; steps = n })) page → IsPresent (guest_of memory g) page
present_more memory g c n page p = record { entry = p.entry; has = p.has; valid = p.valid; inside = p.inside }

unfilled_counted : (act : Act) (memory : List ℕ) (s : Shadowed) (g : GuestState) (c : ClockState) (n : ℕ) → IsUnfilled act memory s (record g { clock = c; steps = n }) → IsUnfilled act memory s g
unfilled_counted (Plain e) memory s g c n k = tt
unfilled_counted (Traps t) memory s g c n k = tt
unfilled_counted (Probes i o) memory s g c n k = λ p q. k (present_counted memory g c n _ p) (present_counted memory g c n _ q)

unfilled_more : (act : Act) (memory : List ℕ) (s : Shadowed) (g : GuestState) (c : ClockState) (n : ℕ) → IsUnfilled act memory s g → IsUnfilled act memory s (record g { clock = c; steps = n })
unfilled_more (Plain e) memory s g c n k = tt
unfilled_more (Traps t) memory s g c n k = tt
unfilled_more (Probes i o) memory s g c n k = λ p q. k (present_more memory g c n _ p) (present_more memory g c n _ q)

meets_counted : (e : Exit) (memory : List ℕ) (s : Shadowed) (g : GuestState) (c : ClockState) (n : ℕ) → Meets e memory s (record g { clock = c; steps = n }) → Meets e memory s g
meets_counted Budget memory s g c n k = k
meets_counted (Arithmetic kind) memory s g c n k = k
meets_counted (NotValid va write) memory s g c n k = record {
  small = k.small;
  fault = λ x h. sym (try_counted (partition_of memory g) (state_of g) c n) ∙ k.fault x (place_counted memory g c n (intent_of write) va ∙ h);
  empty = λ pa h. k.empty pa (place_counted memory g c n (intent_of write) va ∙ h);
}
meets_counted (Denied va write) memory s g c n k = record { small = k.small; cause = k.cause; none = sym (place_counted memory g c n (intent_of write) va) ∙ k.none; try = sym (try_counted (partition_of memory g) (state_of g) c n) ∙ k.try }
meets_counted (Modify va) memory s g c n k = record {
  small = k.small;
  covered = k.covered;
  home = k.home;
  place = sym (place_counted memory g c n Write va) ∙ k.place;
  frame = k.frame;
  bit = k.bit;
  claimed = subst (IsIn va) (claims_counted (partition_of memory g) (state_of g) c n) k.claimed;
  clear = λ h. sym (try_counted (partition_of memory g) (state_of g) c n) ∙ k.clear h;
  set = k.set;
}
meets_counted (Emulate t) memory s g c n k = record { opcode = k.opcode; act = k.act; is = k.is; unfilled = unfilled_counted k.act memory s g c n k.unfilled; try = sym (try_counted (partition_of memory g) (state_of g) c n) ∙ k.try }
meets_counted (Refused r) memory s g c n k = sym (try_counted (partition_of memory g) (state_of g) c n) ∙ k

pub meets_more : (e : Exit) (memory : List ℕ) (s : Shadowed) (g : GuestState) (c : ClockState) (n : ℕ) → Meets e memory s g → Meets e memory s (record g { clock = c; steps = n })
meets_more Budget memory s g c n k = k
meets_more (Arithmetic kind) memory s g c n k = k
meets_more (NotValid va write) memory s g c n k = record {
  small = k.small;
  fault = λ x h. try_counted (partition_of memory g) (state_of g) c n ∙ k.fault x (sym (place_counted memory g c n (intent_of write) va) ∙ h);
  empty = λ pa h. k.empty pa (sym (place_counted memory g c n (intent_of write) va) ∙ h);
}
meets_more (Denied va write) memory s g c n k = record { small = k.small; cause = k.cause; none = place_counted memory g c n (intent_of write) va ∙ k.none; try = try_counted (partition_of memory g) (state_of g) c n ∙ k.try }
meets_more (Modify va) memory s g c n k = record {
  small = k.small;
  covered = k.covered;
  home = k.home;
  place = place_counted memory g c n Write va ∙ k.place;
  frame = k.frame;
  bit = k.bit;
  claimed = subst (IsIn va) (sym (claims_counted (partition_of memory g) (state_of g) c n)) k.claimed;
  clear = λ h. try_counted (partition_of memory g) (state_of g) c n ∙ k.clear h;
  set = k.set;
}
meets_more (Emulate t) memory s g c n k = record { opcode = k.opcode; act = k.act; is = k.is; unfilled = unfilled_more k.act memory s g c n k.unfilled; try = try_counted (partition_of memory g) (state_of g) c n ∙ k.try }
meets_more (Refused r) memory s g c n k = try_counted (partition_of memory g) (state_of g) c n ∙ k

pub ends_more : (e : Exit) (done left : ℕ) (memory : List ℕ) (s : Shadowed) (g : GuestState) (c : ClockState) (n : ℕ) → EndsBurst e done left memory s g → EndsBurst e done left memory s (record g { clock = c; steps = n })
ends_more Budget done left memory s g c n k = k
ends_more (Arithmetic kind) done left memory s g c n k = k
ends_more (NotValid va write) done left memory s g c n k = (k.0, meets_more (NotValid va write) memory s g c n k.1)
ends_more (Denied va write) done left memory s g c n k = (k.0, meets_more (Denied va write) memory s g c n k.1)
ends_more (Modify va) done left memory s g c n k = (k.0, meets_more (Modify va) memory s g c n k.1)
ends_more (Emulate t) done left memory s g c n k = (k.0, meets_more (Emulate t) memory s g c n k.1)
ends_more (Refused r) done left memory s g c n k = (k.0, meets_more (Refused r) memory s g c n k.1)

-- the end of a run says the same of a longer one, and whatever is counted besides
ends_on : (e : Exit) (done left : ℕ) (memory : List ℕ) (s : Shadowed) (w v : World) (g : GuestState) → EndsBurst e done left memory s (as_run w (with_count 1 (as_run v g))) → EndsBurst e (suc done) left memory s (as_run w g)
ends_on Budget done left memory s w v g k = (k.0, omega arith)
ends_on (Arithmetic kind) done left memory s w v g k = omega arith
ends_on (NotValid va write) done left memory s w v g k = (k.0, meets_counted (NotValid va write) memory s (as_run w g) (after_ticks 1 g.clock) ((g.steps + 1) % 2 ^ 32) k.1)
ends_on (Denied va write) done left memory s w v g k = (k.0, meets_counted (Denied va write) memory s (as_run w g) (after_ticks 1 g.clock) ((g.steps + 1) % 2 ^ 32) k.1)
ends_on (Modify va) done left memory s w v g k = (k.0, meets_counted (Modify va) memory s (as_run w g) (after_ticks 1 g.clock) ((g.steps + 1) % 2 ^ 32) k.1)
ends_on (Emulate t) done left memory s w v g k = (k.0, meets_counted (Emulate t) memory s (as_run w g) (after_ticks 1 g.clock) ((g.steps + 1) % 2 ^ 32) k.1)
ends_on (Refused r) done left memory s w v g k = (k.0, meets_counted (Refused r) memory s (as_run w g) (after_ticks 1 g.clock) ((g.steps + 1) % 2 ^ 32) k.1)

-- before an instruction that doesn't retire
stays : (e : Exit) (n : ℕ) (m : Machine) (s : Shadowed) (g : GuestState) → 1 ≤ n → RunsGuest [] m s g → Meets e m.memory s g → EndsBurst e 0 n m.memory s (as_run m.world g)
stays Budget n m s g h k meets = absurd meets
stays (Arithmetic kind) n m s g h k meets = absurd meets
stays (NotValid va write) n m s g h k meets = (h, subst (Meets (NotValid va write) m.memory s) (sym (own_world m s g k)) meets)
stays (Denied va write) n m s g h k meets = (h, subst (Meets (Denied va write) m.memory s) (sym (own_world m s g k)) meets)
stays (Modify va) n m s g h k meets = (h, subst (Meets (Modify va) m.memory s) (sym (own_world m s g k)) meets)
stays (Emulate t) n m s g h k meets = (h, subst (Meets (Emulate t) m.memory s) (sym (own_world m s g k)) meets)
stays (Refused r) n m s g h k meets = (h, subst (Meets (Refused r) m.memory s) (sym (own_world m s g k)) meets)

goes_nowhere : (e : Exit) (n : ℕ) (memory : List ℕ) (s : Shadowed) (g : GuestState) (run : Run) → Meets e memory s g → after_counted n run ≡ goes_on e n run
goes_nowhere Budget n memory s g run meets = absurd meets
goes_nowhere (Arithmetic kind) n memory s g run meets = absurd meets
goes_nowhere (NotValid va write) n memory s g run meets = refl
goes_nowhere (Denied va write) n memory s g run meets = refl
goes_nowhere (Modify va) n memory s g run meets = refl
goes_nowhere (Emulate t) n memory s g run meets = refl
goes_nowhere (Refused r) n memory s g run meets = refl

counted_none : (e : Exit) (memory : List ℕ) (s : Shadowed) (g : GuestState) → Meets e memory s g → counted_by e 0 ≡ 0
counted_none Budget memory s g meets = absurd meets
counted_none (Arithmetic kind) memory s g meets = absurd meets
counted_none (NotValid va write) memory s g meets = refl
counted_none (Denied va write) memory s g meets = refl
counted_none (Modify va) memory s g meets = refl
counted_none (Emulate t) memory s g meets = refl
counted_none (Refused r) memory s g meets = refl

missed_sum : (n : ℕ) (e : Exit) → misses_after n e % 2 ^ 64 ≡ (n + missed_by e) % 2 ^ 64
missed_sum n (NotValid va write) = grind arith
missed_sum n Budget = same_mod n
missed_sum n (Arithmetic kind) = same_mod n
missed_sum n (Denied va write) = same_mod n
missed_sum n (Modify va) = same_mod n
missed_sum n (Emulate t) = same_mod n
missed_sum n (Refused r) = same_mod n

nothing_else : (g : GuestState) (memory : List ℕ) → OnlyPartition g memory memory
nothing_else g memory = record { size = refl; other = λ p h. refl }

stopped_at : (n : ℕ) (m : Machine) (s : Shadowed) (g : GuestState) (e : Exit) → 1 ≤ n → g.steps < 2 ^ 32 → RunsGuest [] m s g → machine_step m ≡ Err e → IsBurst n m s g (record m { misses = misses_after m.misses e }) e
stopped_at n m s g e h small k is =
    let meets = exits_meet [] m s g e k is in
    let same : with_count (counted_by e 0) (as_run m.world g) ≡ g = ap (λ c. with_count c (as_run m.world g)) (counted_none e m.memory s g meets) ∙ none_counted (as_run m.world g) small ∙ own_world m s g k in
    record {
      done = 0;
      left = n;
      terms = 0;
      budget = omega arith;
      steps = λ run own low. goes_nowhere e n m.memory s g run meets ∙ ap (goes_on e n) (sym (none_plainly run low) ∙ ap (λ x. with_plain_steps run x 0 0) (own ∙ ap (guest_of m.memory) (sym same)));
      runs = record { keeps = k.keeps; serves = record { pages = k.serves.pages; base = k.serves.base; told = k.serves.told }; loads = subst (HasGuestLoaded m.world s) (sym (own_world m s g k)) k.loads };
      high = ap (λ (x : GuestState). x.psl.0 / 2 ^ 8) (own_world m s g k);
      only = nothing_else g m.memory;
      ends = stays e n m s g h k meets;
      retired = same_mod m.retired;
      trail = same_mod m.trail;
      misses = missed_sum m.misses e;
    }

-- after one plain step
next_runs : (m : Machine) (s : Shadowed) (g : GuestState) (x : Retired) → RunsGuest [] m s g → IsRetired [] m s g x → RunsGuest [] x.machine s (as_run x.machine.world g)
next_runs m s g x k r = record { keeps = r.keeps; serves = record { pages = k.serves.pages; base = k.serves.base; told = k.serves.told }; loads = r.loads }

pub next_counted : (m : Machine) (s : Shadowed) (g : GuestState) (x : Retired) → RunsGuest [] m s g → IsRetired [] m s g x → RunsGuest [] x.machine s (next_of x.machine.world g)
next_counted m s g x k r = record {
  keeps = r.keeps;
  serves = record { pages = k.serves.pages; base = k.serves.base; told = k.serves.told };
  loads = record { r = r.loads.r; psl = r.loads.psl; current = r.loads.current; previous = r.loads.previous; tables = r.loads.tables };
}

zero_count : (x : Machine) (g : GuestState) → g.steps < 2 ^ 32 → with_count 0 (as_run x.world g) ≡ as_run x.world g
zero_count x g small = none_counted (as_run x.world g) small

-- the budget is used
used : (m : Machine) (s : Shadowed) (g : GuestState) (x : Retired) → g.steps < 2 ^ 32 → RunsGuest [] m s g → IsRetired [] m s g x → x.trap ≡ None → IsBurst 1 m s g x.machine Budget
used m s g x small k r none = record {
  done = 1;
  left = 0;
  terms = r.term;
  budget = refl;
  steps = λ run own low. one_plain m s g x r run none own ∙ ap (λ h. with_plain_steps run (guest_of x.machine.memory h) 1 r.term) (sym (zero_count x.machine g small));
  runs = next_runs m s g x k r;
  high = r.high;
  only = r.only;
  ends = (refl, omega arith);
  retired = ap (λ n. n % 2 ^ 64) r.retired ∙ grind arith;
  trail = ap (λ n. n % 2 ^ 64) r.trail ∙ grind arith;
  misses = ap (λ n. n % 2 ^ 64) r.misses ∙ same_mod m.misses;
}

-- a trap ends the run after its instruction
trapped : (n : ℕ) (m : Machine) (s : Shadowed) (g : GuestState) (x : Retired) (kind : ℕ) → g.steps < 2 ^ 32 → RunsGuest [] m s g → IsRetired [] m s g x → x.trap ≡ Some kind → IsBurst (suc n) m s g x.machine (Arithmetic kind)
trapped n m s g x kind small k r some = record {
  done = 1;
  left = n;
  terms = r.term;
  budget = omega arith;
  steps = λ run own low. ap (after_steps n) (one_trap m s g x r kind run some own ∙ ap (λ h. with_trap kind (with_plain_steps run (guest_of x.machine.memory h) 1 r.term)) (sym (zero_count x.machine g small)));
  runs = next_runs m s g x k r;
  high = r.high;
  only = r.only;
  ends = omega arith;
  retired = ap (λ n. n % 2 ^ 64) r.retired ∙ grind arith;
  trail = ap (λ n. n % 2 ^ 64) r.trail ∙ grind arith;
  misses = ap (λ n. n % 2 ^ 64) r.misses ∙ same_mod m.misses;
}

-- One instruction more in front of a run.
module _ (n : ℕ) (m : Machine) (s : Shadowed) (g : GuestState) (x : Retired) (m' : Machine) (e : Exit) (small : g.steps < 2 ^ 32) (k : RunsGuest [] m s g) (r : IsRetired [] m s g x) (none : x.trap ≡ None) (q : IsQuiet (suc (suc n)) (state_of g)) (rest : IsBurst (suc n) x.machine s (next_of x.machine.world g) m' e) where
  abbrev w : World
  w = x.machine.world

  abbrev between : Guest
  between = guest_of x.machine.memory (next_of w g)

  -- the second step
  second : step (guest_of x.machine.memory (as_run w g)) ≡ executed between
  unfolding after_ticks
  second = step_is (guest_of x.machine.memory (as_run w g)) q.runs q.waits
      (due_same (record (state_of g) { clock = after_tick g.clock }) w.r (as_run w g).psl.0 ((g.steps + 1) % 2 ^ 32) r.high ∙ q.none 1 (omega arith))

  begins : (run : Run) → run.guest ≡ guest_of m.memory g → after_counted (suc (suc n)) run ≡ after_counted (suc n) (with_plain_steps run between 1 r.term)
  begins run own =
      ap (λ y. after_steps n (after_step y (step y.guest))) (one_plain m s g x r run none own)
      ∙ ap (λ y. after_steps n (after_step (with_plain_steps run (guest_of x.machine.memory (as_run w g)) 1 r.term) y)) second

  goes_alike : (run : Run) (h : Guest) → with_plain_steps (with_plain_steps run between 1 r.term) h rest.done rest.terms ≡ with_plain_steps run h (suc rest.done) (r.term + rest.terms)
  goes_alike run h =
      let p : run.tally.plain + 1 + rest.done ≡ run.tally.plain + suc rest.done = omega arith in
      let t : ((run.tally.trail + r.term) % 2 ^ 64 + rest.terms) % 2 ^ 64 ≡ (run.tally.trail + (r.term + rest.terms)) % 2 ^ 64 = sum_mod run.tally.trail r.term rest.terms in
      λ i. record { guest = h; shown = run.shown; tally = record run.tally { plain = p i; trail = t i } }

  same_end : with_count (counted_by e rest.done) (as_run m'.world (next_of w g)) ≡ with_count (counted_by e (suc rest.done)) (as_run m'.world g)
  same_end = more_counted (counted_by e rest.done) m'.world w g ∙ ap (λ c. with_count c (as_run m'.world g)) (counts_on e rest.done rest.left m'.memory s (as_run m'.world (next_of w g)) rest.ends)

  low : (n : ℕ) → n % 2 ^ 64 < 2 ^ 64
  low n = grind arith

  all_steps : (run : Run) → run.guest ≡ guest_of m.memory g → run.tally.trail < 2 ^ 64 → after_counted (suc (suc n)) run ≡ goes_on e rest.left (with_plain_steps run (guest_of m'.memory (with_count (counted_by e (suc rest.done)) (as_run m'.world g))) (suc rest.done) (r.term + rest.terms))
  all_steps run own is_low =
      begins run own ∙ rest.steps (with_plain_steps run between 1 r.term) refl (low (run.tally.trail + r.term))
      ∙ ap (goes_on e rest.left) (goes_alike run (guest_of m'.memory (with_count (counted_by e rest.done) (as_run m'.world (next_of w g)))) ∙ ap (λ h. with_plain_steps run (guest_of m'.memory h) (suc rest.done) (r.term + rest.terms)) same_end)

  pub more : IsBurst (suc (suc n)) m s g m' e
  more = record {
    done = suc rest.done;
    left = rest.left;
    terms = r.term + rest.terms;
    budget = omega (arith, rest.budget);
    steps = all_steps;
    runs = record {
      keeps = rest.runs.keeps;
      serves = record { pages = rest.runs.serves.pages; base = rest.runs.serves.base; told = rest.runs.serves.told };
      loads = record { r = rest.runs.loads.r; psl = rest.runs.loads.psl; current = rest.runs.loads.current; previous = rest.runs.loads.previous; tables = rest.runs.loads.tables };
    };
    high = rest.high ∙ r.high;
    only = record { size = rest.only.size ∙ r.only.size; other = λ p h. rest.only.other p h ∙ r.only.other p h };
    ends = ends_on e rest.done rest.left m'.memory s m'.world w g rest.ends;
    retired = sums m.retired x.machine.retired m'.retired 1 rest.done rest.retired r.retired ∙ ap (λ z. (m.retired + z) % 2 ^ 64) (omega arith);
    trail = sums m.trail x.machine.trail m'.trail r.term rest.terms rest.trail r.trail;
    misses = rest.misses ∙ ap (λ c. (c + missed_by e) % 2 ^ 64) r.misses;
  }
    where
      sums : (a b c p d : ℕ) → c % 2 ^ 64 ≡ (b + d) % 2 ^ 64 → b ≡ (a + p) % 2 ^ 64 → c % 2 ^ 64 ≡ (a + (p + d)) % 2 ^ 64
      sums a b c p d h i = h ∙ ap (λ z. (z + d) % 2 ^ 64) i ∙ sum_mod a p d

Burst : ℕ → Machine → Shadowed → GuestState → Machine × Exit → Type 0
Burst n m s g y = IsBurst n m s g y.0 y.1

-- what follows a first instruction
Rest : ℕ → Machine → Shadowed → GuestState → Type 0
Rest zero m s g = Unit {0}
Rest (suc n) m s g = (x : Retired) → IsRetired [] m s g x → Burst (suc n) x.machine s (next_of x.machine.world g) (real (suc n) x.machine)

later : (n : ℕ) (m : Machine) (s : Shadowed) (g : GuestState) (x : Retired) (t : Option ℕ) → x.trap ≡ t → g.steps < 2 ^ 32 → RunsGuest [] m s g → IsRetired [] m s g x → IsQuiet (suc n) (state_of g) → Rest n m s g → Burst (suc n) m s g (unless_trapped (real n) x.machine t)
unfolding Burst Rest
later zero m s g x None is small k r q rest = used m s g x small k r is
later (suc n) m s g x None is small k r q rest = more n m s g x (real (suc n) x.machine).0 (real (suc n) x.machine).1 small k r is q (rest x r)
later n m s g x (Some kind) is small k r q rest = trapped n m s g x kind small k r is

by_one : (n : ℕ) (m : Machine) (s : Shadowed) (g : GuestState) (y : Result Retired Exit) → machine_step m ≡ y → g.steps < 2 ^ 32 → RunsGuest [] m s g → IsQuiet (suc n) (state_of g) → Rest n m s g → Burst (suc n) m s g (going_on (real n) m y)
unfolding Burst
by_one n m s g (Err e) is small k q rest = stopped_at (suc n) m s g e (omega arith) small k is
by_one n m s g (Ok x) is small k q rest = later n m s g x x.trap refl small k (retires [] m s g x k is) q rest

burst : (n : ℕ) (m : Machine) (s : Shadowed) (g : GuestState) → g.steps < 2 ^ 32 → RunsGuest [] m s g → IsQuiet (suc n) (state_of g) → Burst (suc n) m s g (real (suc n) m)
unfolding Rest
burst zero m s g small k q = by_one zero m s g (machine_step m) refl small k q tt
burst (suc n) m s g small k q = by_one (suc n) m s g (machine_step m) refl small k q (λ x r. burst n x.machine s (next_of x.machine.world g) (omega arith) (next_counted m s g x k r) (quiet_next (suc n) x.machine.world g r.high q))

pub runs_go : RunsGoAsTheGuest
unfolding Burst
runs_go zero m s g h small k q = absurd (omega arith)
runs_go (suc n) m s g h small k q = burst n m s g small k q
