-- What a step keeps, counts and shows.
use Rattle.std.proofs.Common.{◌≡◌, ℕ, zero, suc, ◌+◌, ◌-◌, ◌*◌, ◌/◌, ◌%◌, ◌^◌, ◌<◌, ◌≤◌, Bool, true, false, ◌&&◌, ltb, List, [], ◌∷◌, length, length-append, Option, Some, None, refl, ap, subst, arith}
use Rattle.std.specs.Prelude.{if◌then◌else◌, find}
use Rattle.std.proofs.lemmas.Bool.{cond_both}
use Rattle.std.proofs.lemmas.Bool.Decides.{nat_tests}
use Rattle.vax_arch.specs.Fields.{ipl_of}
use Rattle.vax_arch.specs.Walk.{page_of}
use Rattle.vax_table.specs.Effects.{Effect, long_of}
use Rattle.vax_table.specs.Plan.{probed}
use Rattle.vax_table.specs.Tries.{Clear, Completes, Tried, tried}
use Rattle.vax_table.specs.Tries as tries
use Rattle.vax_table.specs.Whole.{Act, Meant, Probes, Traps}
use Rattle.vax_table.specs.Whole as whole
use Rattle.vax_table.specs.declared.evaluation.Operands.{Operands}
use Rattle.vm_state.specs.Initiate.{Initiation, KernelStackBad, StopsGuest, Taken, initiate}
use Rattle.vm_state.specs.Interrupts.{IntervalClock, Kcall, Receiver, Software, Source, Transmitter, due, interrupt_of, source_row, sources}
use Rattle.vm_state.specs.Laws.{ShowsFew, StaysStopped, StepKeeps, StepsCount, StepsKeep}
use Rattle.vm_state.specs.Probe.{Answers, NotValid, Probed, probe}
use Rattle.vm_state.specs.Probe as probes
use Rattle.vm_state.specs.Run.{Run, after_step, after_steps}
use Rattle.vm_state.specs.Sensed.{ClearAt, Does, Faults, LacksMemory, Sensed, StopsThere, troubled}
use Rattle.vm_state.specs.Sensitive.{sensed}
use Rattle.vm_state.specs.State.{Guest, State, pc_of}
use Rattle.vm_state.specs.Step.{Fault, Interrupt, Kind, Sensitive, SetModify, Stepped, by_try, clear_met, counted, did, executed, faulted, frames_stored, initiated_in, instruction_of, interrupted, probed_as, sensed_as, step, stepped, stopped, trapped_in, with_effect}
use Rattle.vm_state.specs.Stops.{PastMemory, Stop, stop_code, stop_text}
use Rattle.vm_state.specs.Translation.{guest_write_place, is_clear, look, space_of}
use Rattle.vm_state.specs.declared.exception.Exc.{Exc}
use Rattle.vm_state.specs.declared.exception.Exc.TheVariants as excs
use Rattle.vm_state.proofs.Initiations.{Holds, Initiates, LevelFits, initiate_keeps}
use Rattle.vm_state.proofs.Keeps.{Keeps, low_changed, moved, same}
use Rattle.vm_state.proofs.Kept.{Sensible, holds_then, sensed_sensible, trouble_sensible, with_state}
use Rattle.vm_state.proofs.Registers.{clear_at, even_of, small_of, with_sisr}
use Rattle.vm_state.proofs.Sizes.{marked_by_size, stores_size}
use Rattle.vm_state.proofs.StepCases.{by_interrupt, step_by, unless_waiting}

-- a step of a guest that has counted it
record IsFine (g : Guest) (s : Stepped) : Type 0 where
  holds : Holds g s.guest
  few : length s.shown ≤ 14

holds_same : (g : Guest) → Holds g g
holds_same g = record { size = refl; keeps = same (length g.memory) g.state }

silent : (g h : Guest) (kind : Kind) (written : List ℕ) → Holds g h → IsFine g (stepped h [] kind written)
silent g h kind written k = record { holds = k; few = omega arith }

text_few : (code pc : ℕ) → length (stop_text code pc) ≤ 14
text_few code pc = let is : length (stop_text code pc) ≡ 14 = refl in omega (arith, is)

stop_fine : (g h : Guest) (stop : Stop) (kind : Kind) → Holds g h → IsFine g (stopped h stop kind)
stop_fine g h stop kind k = record {
  holds = holds_then g h _ k (with_state h _ (moved (length h.memory) h.state _ refl refl refl refl refl refl refl refl (λ j. j)));
  few = text_few (stop_code stop) (pc_of h.state);
}

initiated_fine : (kind : Kind) (g h : Guest) (i : Initiation) → Holds g h → Initiates h i → IsFine g (initiated_in kind h i)
initiated_fine kind g h (Taken k written) a b = silent g k kind written (holds_then g h k a b.holds)
initiated_fine kind g h (KernelStackBad k written) a b = silent g k kind written (holds_then g h k a b.holds)
initiated_fine kind g h (StopsGuest stop) a b = stop_fine g h stop kind a

fault_fine : (g : Guest) (e : Exc) → LevelFits e → IsFine g (faulted g e)
fault_fine g e h = initiated_fine Fault g g (initiate g e) (holds_same g) (initiate_keeps g e h)

clear_fine : (g : Guest) (va : ℕ) → IsFine g (clear_met g va)
clear_fine g va =
    cond_both g.state.modify_faults _ _ (IsFine g) (λ t. fault_fine g (excs.ModifyFault va) tt)
    (λ t. silent g _ SetModify _ (record { size = marked_by_size (look g (page_of va)) g.memory; keeps = same (length g.memory) g.state }))

sensed_fine : (g : Guest) (s : Sensed) → Sensible g s → IsFine g (sensed_as g s)
sensed_fine g (Does h shown written) k = record { holds = k.0; few = k.1 }
sensed_fine g (Faults e) k = fault_fine g e k
sensed_fine g (ClearAt va) k = clear_fine g va
sensed_fine g (StopsThere stop) k = stop_fine g g stop Sensitive (holds_same g)
sensed_fine g LacksMemory k = stop_fine g g PastMemory Fault (holds_same g)

low_of : (p : ℕ) → p % 2 ^ 8 < 2 ^ 8
low_of p = grind arith

effect_holds : (g : Guest) (e : Effect) → Holds g (with_effect g e)
effect_holds g e = record {
  size = stores_size (guest_write_place g) e.writes g.memory;
  keeps = moved (length g.memory) g.state _ refl refl refl refl refl refl refl refl (λ k. low_changed g.state.psl (e.psw % 2 ^ 8) (low_of e.psw) k);
}

trap_fine : (kind : Kind) (written : List ℕ) (g h : Guest) (trap : Option ℕ) → Holds g h → IsFine g (trapped_in kind written h trap)
trap_fine kind written g h None k = silent g h kind written k
trap_fine kind written g h (Some type) k =
    let s = initiated_fine kind g h (initiate h (excs.Arithmetic type)) k (initiate_keeps h (excs.Arithmetic type) tt) in
    record { holds = s.holds; few = s.few }

probed_fine : (g : Guest) (opcode : ℕ) (o : Operands) (p : Probed) → IsFine g (probed_as g opcode o p)
probed_fine g opcode o (Answers is_accessible is_plain) = silent g _ _ [] (effect_holds g (probed is_accessible o (g.state.psl % 2 ^ 8)))
probed_fine g opcode o (NotValid f) = fault_fine g (excs.Memory f) tt
probed_fine g opcode o probes.PastMemory = stop_fine g g PastMemory Fault (holds_same g)

did_fine : (g : Guest) (opcode : ℕ) (act : Act) → IsFine g (did g opcode act)
did_fine g opcode (whole.Plain e) = trap_fine _ (frames_stored g e.writes) g (with_effect g e) e.trap (effect_holds g e)
did_fine g opcode (Traps t) = sensed_fine g (sensed g t t.op) (sensed_sensible g t t.op)
did_fine g opcode (Probes i o) = probed_fine g opcode o (probe g i (long_of o 0) (long_of o 1) (long_of o 2))

try_fine : (g : Guest) (x : Tried Meant) → IsFine g (by_try g x)
try_fine g (Completes meant) = did_fine g meant.opcode meant.act
try_fine g (Clear va) = clear_fine g va
try_fine g (tries.Stopped trouble) = sensed_fine g (troubled g trouble) (trouble_sensible g trouble)

executed_fine : (g : Guest) → IsFine g (executed g)
unfolding executed
executed_fine g =
    let s = try_fine g (tried (space_of g) (is_clear g) (instruction_of g.state)) in
    record { holds = s.holds; few = s.few }

-- Interrupts: a source that is due is one of the list, and its request is there.

Every : (Source → Type 0) → List Source → Type 0
Every P [] = Unit {0}
Every P (x ∷ xs) = P x × Every P xs

found_by : (P : Source → Type 0) (p : Source → Bool) (y : Source) (ys : List Source) (x : Source) (b : Bool) → p y ≡ b → P y → (find p ys ≡ Some x → P x × (p x ≡ true)) → (if b then Some y else find p ys) ≡ Some x → P x × (p x ≡ true)
found_by P p y ys x true is h rest e = let one : y ≡ x = cc in subst (λ z. P z × (p z ≡ true)) one (h, is)
found_by P p y ys x false is h rest e = rest e

found : (P : Source → Type 0) (p : Source → Bool) (xs : List Source) (x : Source) → Every P xs → find p xs ≡ Some x → P x × (p x ≡ true)
unfolding Every
found P p [] x h e = cc
found P p (y ∷ ys) x h e = found_by P p y ys x (p y) refl h.0 (λ g. found P p ys x h.1 g) e

-- a software level is 1 to 15
HasLevel : Source → Type 0
HasLevel IntervalClock = Unit {0}
HasLevel Kcall = Unit {0}
HasLevel Receiver = Unit {0}
HasLevel Transmitter = Unit {0}
HasLevel (Software level) = (1 ≤ level) × (level < 16)

levels : Every HasLevel sources
unfolding Every HasLevel
levels = (tt, (tt, (tt, (tt, ((omega arith, omega arith), ((omega arith, omega arith), ((omega arith, omega arith), ((omega arith, omega arith), ((omega arith, omega arith), ((omega arith, omega arith), ((omega arith, omega arith), ((omega arith, omega arith), ((omega arith, omega arith), ((omega arith, omega arith), ((omega arith, omega arith), ((omega arith, omega arith), ((omega arith, omega arith), ((omega arith, omega arith), ((omega arith, omega arith), tt)))))))))))))))))))

level_fits : (x : Source) → HasLevel x → LevelFits (interrupt_of x)
unfolding HasLevel
level_fits IntervalClock h = omega arith
level_fits Kcall h = omega arith
level_fits Receiver h = omega arith
level_fits Transmitter h = omega arith
level_fits (Software level) h = let small : level < 16 = h.1 in omega arith

due_found : (s : State) (x : Source) → due s ≡ Some x → HasLevel x × (((source_row x).requests s && ltb (ipl_of s.psl) (source_row x).level) ≡ true)
unfolding due
due_found s x e = found HasLevel (λ source. (source_row source).requests s && ltb (ipl_of s.psl) (source_row source).level) sources x levels e

first_true : (a b : Bool) → (a && b) ≡ true → a ≡ true
first_true true b e = refl
first_true false b e = cc

-- a request ends; of a software level the bit is there, since initiation leaves the requests
taken_keeps : (size : ℕ) (x : Source) (s t : State) → HasLevel x → (source_row x).requests s ≡ true → t.sisr ≡ s.sisr → Keeps size t ((source_row x).taken t)
unfolding HasLevel
taken_keeps size IntervalClock s t h r e = moved size t _ refl refl refl refl refl refl refl refl (λ k. k)
taken_keeps size Kcall s t h r e = moved size t _ refl refl refl refl refl refl refl refl (λ k. k)
taken_keeps size Receiver s t h r e = moved size t _ refl refl refl refl refl refl refl refl (λ k. k)
taken_keeps size Transmitter s t h r e = moved size t _ refl refl refl refl refl refl refl refl (λ k. k)
taken_keeps size (Software level) s t h r e =
    let asked : t.sisr / 2 ^ level % 2 ≡ 1 = rw e (grind (arith, nat_tests)) in
    with_sisr size t (t.sisr - 2 ^ level) (λ k. clear_at level t.sisr h.0 h.1 (even_of t.sisr k.sisr) (small_of t.sisr k.sisr) asked)

interrupt_fine : (g : Guest) (x : Source) (i : Initiation) → HasLevel x → (source_row x).requests g.state ≡ true → Initiates g i → IsFine g (interrupted g x i)
interrupt_fine g x (Taken h written) l r k = silent g _ Interrupt written (holds_then g h _ k.holds (with_state h _ (taken_keeps (length h.memory) x g.state h.state l r k.sisr)))
interrupt_fine g x (KernelStackBad h written) l r k = silent g h Interrupt written k.holds
interrupt_fine g x (StopsGuest stop) l r k = stop_fine g g stop Interrupt (holds_same g)

waiting_fine : (g : Guest) (b : Bool) → IsFine g (unless_waiting g b)
waiting_fine g true = silent g g _ [] (holds_same g)
waiting_fine g false = executed_fine g

by_source : (g : Guest) (x : Option Source) → due g.state ≡ x → IsFine g (by_interrupt g x)
by_source g None e = waiting_fine g g.state.waiting
by_source g (Some x) e =
    let f = due_found g.state x e in
    interrupt_fine g x (initiate g (interrupt_of x)) f.0 (first_true ((source_row x).requests g.state) _ f.1) (initiate_keeps g (interrupt_of x) (level_fits x f.0))

active_fine : (g : Guest) → IsFine g (by_interrupt g (due g.state))
active_fine g = by_source g (due g.state) refl

-- The step that is counted first.

counting : Guest → Guest
counting g = record g { state = counted g.state }

kept_by : (g h : Guest) → Holds (counting g) h → StepKeeps g h
unfolding counting
kept_by g h k = record {
  size = k.size;
  modify_faults = k.keeps.faults;
  allowed = λ a. k.keeps.allowed (record { p0br = a.p0br; p0lr = a.p0lr; p1br = a.p1br; p1lr = a.p1lr; sbr = a.sbr; slr = a.slr; pcbb = a.pcbb; scbb = a.scbb; astlvl = a.astlvl; sisr = a.sisr; psl = a.psl; packets = a.packets; few = a.few });
}

step_keeps_by : (g : Guest) (x : Option ℕ) → StepKeeps g (step_by g x).guest
unfolding counting
step_keeps_by g (Some code) = record { size = refl; modify_faults = refl; allowed = λ h. h }
step_keeps_by g None = kept_by g _ (active_fine (counting g)).holds

pub steps_keep : StepsKeep
unfolding step
steps_keep g = step_keeps_by g g.state.halt

count_by : (g : Guest) (x : Option ℕ) → x ≡ None → (step_by g x).guest.state.steps ≡ (g.state.steps + 1) % 2 ^ 32
unfolding counting
count_by g (Some code) e = cc
count_by g None e = (active_fine (counting g)).holds.keeps.steps

pub steps_count : StepsCount
unfolding step
steps_count g e = count_by g g.state.halt e

few_by : (g : Guest) (x : Option ℕ) → length (step_by g x).shown ≤ 14
unfolding counting
few_by g (Some code) = omega arith
few_by g None = (active_fine (counting g)).few

step_few : (g : Guest) → length (step g).shown ≤ 14
unfolding step
step_few g = few_by g g.state.halt

pub shows_few : ShowsFew
shows_few zero run = omega arith
shows_few (suc n) run =
    let next : Run = after_step run (step run.guest) in
    let rest : length (after_steps n next).shown ≤ length next.shown + 14 * n = shows_few n next in
    omega (arith, rest, length-append run.shown (step run.guest).shown, step_few run.guest)

pub stays_stopped : StaysStopped
unfolding step
stays_stopped g code e = ap (step_by g) e
