-- A step keeps that a guest runs or has stopped with a stop code.
use Rattle.std.proofs.Common.{◌≡◌, ℕ, zero, suc, ◌+◌, ◌==◌, Bool, true, false, Option, Some, None, Result, Ok, Err, List, [], ◌∷◌, length, refl}
use Rattle.std.specs.Prelude.{slice_index, slice_set}
use Rattle.std.proofs.lemmas.Bool.{cond_both}
use Rattle.vv_base.specs.Bytes.{long_at}
use Rattle.vax_arch.specs.Fields.{is_on_interrupt_stack, mode_number}
use Rattle.vax_arch.specs.Rei.{rei_refuses}
use Rattle.vax_arch.specs.Walk.{is_past}
use Rattle.vax_arch.specs.declared.mode.Mode.{Mode}
use Rattle.vax_arch.specs.declared.mode.Mode.TheVariants.{Kernel}
use Rattle.vax_table.specs.Effects.{long_of}
use Rattle.vax_table.specs.Interaction.{At, Test, Trouble, outcome}
use Rattle.vax_table.specs.Tries.{Clear, Completes, Tried, tried}
use Rattle.vax_table.specs.Tries as tries
use Rattle.vax_table.specs.Whole.{Act, Meant, Probes, Traps}
use Rattle.vax_table.specs.Whole as whole
use Rattle.vax_table.specs.declared.act.Dest.{Dest}
use Rattle.vax_table.specs.declared.act.Dest.TheVariants.{Memory, Nowhere, Register}
use Rattle.vax_table.specs.declared.act.Sens.{Sens}
use Rattle.vax_table.specs.declared.act.Sens.TheVariants.{Chm, Halt, Ldpctx, Mfpr, Mtpr, Prober, Probew, Rei, Svpctx, Wait}
use Rattle.vax_table.specs.declared.act.Trapped.{Trapped}
use Rattle.vax_table.specs.declared.evaluation.Operands.{Operands}
use Rattle.sys_moment_laws.specs.Halts.{StopsWithCodes}
use Rattle.vm_state.specs.Contexts.{Popped, after_pops, after_push, after_reads, control_block_long, is_block_past, is_block_reserved, loaded, loads_context, on_interrupt, saved, saves_context, two_popped}
use Rattle.vm_state.specs.Initiate.{Arrives, Attempt, Halts, Initiation, KernelStackBad, StackFaulty, StopsGuest, Taken, after_walk, attempt, by_vector, in_its_place, initiate, initiated, is_bad_vector, longwords, new_mode, new_stack, vector_offset}
use Rattle.vm_state.specs.Interrupts.{IntervalClock, Kcall, Receiver, Software, Source, Transmitter, due, interrupt_of, source_row}
use Rattle.vm_state.specs.Packets.{accepted}
use Rattle.vm_state.specs.Probe.{Answers, NotValid, Probed, probe}
use Rattle.vm_state.specs.Probe as probes
use Rattle.vm_state.specs.Pushes.{Faulty, Homes, PastMemory, Walked, push_walked}
use Rattle.vm_state.specs.Registers.{Value, Written, after_read, allows, read, read_or_refused, read_to, register_of, register_row, with_pointer, write_by, written}
use Rattle.vm_state.specs.Run.{after_step}
use Rattle.vm_state.specs.Sensed.{ClearAt, Does, Faults, LacksMemory, Sensed, StopsThere, fault_of, troubled}
use Rattle.vm_state.specs.Sensitive.{after_register_read, change_mode, chm_walked, destination_walked, guest_past_instruction, mfpr_by, mode_changed, mtpr_by, packet_taken, past_instruction, put_at, rei_by, sensed, with_codes, with_register_effect}
use Rattle.vm_state.specs.State.{Guest, State, mode_of_state, pointer_of, stack_in}
use Rattle.vm_state.specs.Step.{Fault, Kind, Stepped, by_try, clear_met, counted, did, executed, faulted, frames_stored, initiated_in, instruction_of, interrupted, probed_as, sensed_as, step, trapped_in, with_effect}
use Rattle.vm_state.specs.Stops.{BadVector, ChangedMode, Commanded, Halted, InterruptStackBad, IsHalt, Stop, is_stop_code, stop_code}
use Rattle.vm_state.specs.Stops as stops
use Rattle.vm_state.specs.Translation.{is_clear, space_of, walk_of}
use Rattle.vm_state.specs.declared.exception.Exc.{Exc}
use Rattle.vm_state.specs.declared.exception.Exc.TheVariants as excs
use Rattle.vm_state.specs.declared.register.RegisterEffect.{RegisterEffect as Asks}
use Rattle.vm_state.specs.declared.register.RegisterEffect.TheVariants as effects
use Rattle.vm_state.specs.declared.register.Register.{Register as Named}
use Rattle.vm_state.specs.declared.register.Register.TheVariants as named
use Rattle.vm_state.specs.declared.register.ReservedOperand.{ReservedOperand}
use Rattle.vm_state.specs.declared.transfer.Accept.{Accept}
use Rattle.vm_state.specs.declared.transfer.Accept.TheVariants.{BadPacket, Busy, Queued}
use Rattle.vm_state.specs.declared.walk.Walk.{Walk}
use Rattle.vm_state.specs.declared.walk.Walk.TheVariants as walks
use Rattle.vm_state.proofs.StepCases.{by_interrupt, step_by, unless_waiting}

abbrev Fine : Guest → Type 0
Fine g = IsHalt g.state.halt

abbrev Ends : Stepped → Type 0
Ends s = Fine s.guest

code_is : (s : Stop) → is_stop_code (stop_code s) ≡ true
code_is Commanded = refl
code_is InterruptStackBad = refl
code_is Halted = refl
code_is BadVector = refl
code_is ChangedMode = refl
code_is stops.PastMemory = refl

-- initiations
abbrev Arrived : Attempt → Type 0
Arrived (Arrives h written) = Fine h
Arrived (StackFaulty is_interrupt_stack) = Unit {0}
Arrived (Halts stop) = Unit {0}

walk_fine : (g : Guest) (e : Exc) (vector sp : ℕ) (w : Walked) → Fine g → Arrived (after_walk g e vector sp w)
walk_fine g e vector sp (Homes hs) h = h
walk_fine g e vector sp (Faulty f) h = tt
walk_fine g e vector sp PastMemory h = tt

vector_fine : (g : Guest) (e : Exc) (vector : ℕ) → Fine g → Arrived (by_vector g e vector)
vector_fine g e vector h =
    let sp = pointer_of g.state (new_stack g.state e vector) in
    cond_both (is_bad_vector e vector) (Halts BadVector) _ Arrived (λ t. tt) (λ t. walk_fine g e vector sp (push_walked g (new_mode g.state e) sp (longwords g.state e)) h)

attempt_fine : (g : Guest) (e : Exc) → Fine g → Arrived (attempt g e)
unfolding attempt
attempt_fine g e h =
    let at = g.state.scbb + vector_offset e in
    cond_both (is_past (length g.memory) at 4) (Halts stops.PastMemory) _ Arrived (λ t. tt) (λ t. vector_fine g e (long_at g.memory at) h)

abbrev Began : Initiation → Type 0
Began (Taken h written) = Fine h
Began (KernelStackBad h written) = Fine h
Began (StopsGuest stop) = Unit {0}

place_fine : (a : Attempt) → Arrived a → Began (in_its_place a)
place_fine (Arrives h written) k = k
place_fine (StackFaulty is_interrupt_stack) k = tt
place_fine (Halts stop) k = tt

by_attempt : (g : Guest) (a : Attempt) → Fine g → Arrived a → Began (initiated g a)
by_attempt g (Arrives h written) fine k = k
by_attempt g (StackFaulty true) fine k = tt
by_attempt g (StackFaulty false) fine k = place_fine (attempt g excs.KernelStack) (attempt_fine g excs.KernelStack fine)
by_attempt g (Halts stop) fine k = tt

initiate_fine : (g : Guest) (e : Exc) → Fine g → Began (initiate g e)
unfolding initiate
initiate_fine g e h = by_attempt g (attempt g e) h (attempt_fine g e h)

initiated_fine : (kind : Kind) (g : Guest) (i : Initiation) → Began i → Ends (initiated_in kind g i)
initiated_fine kind g (Taken h written) k = k
initiated_fine kind g (KernelStackBad h written) k = k
initiated_fine kind g (StopsGuest stop) k = code_is stop

faulted_fine : (g : Guest) (e : Exc) → Fine g → Ends (faulted g e)
faulted_fine g e h = initiated_fine Fault g (initiate g e) (initiate_fine g e h)

clear_fine : (g : Guest) (va : ℕ) → Fine g → Ends (clear_met g va)
clear_fine g va h = cond_both g.state.modify_faults (faulted g (excs.ModifyFault va)) _ Ends (λ t. faulted_fine g (excs.ModifyFault va) h) (λ t. h)

-- sensitive instructions
abbrev Did : Sensed → Type 0
Did (Does h shown written) = Fine h
Did (Faults e) = Unit {0}
Did (ClearAt va) = Unit {0}
Did (StopsThere stop) = Unit {0}
Did LacksMemory = Unit {0}

sensed_fine : (g : Guest) (s : Sensed) → Fine g → Did s → Ends (sensed_as g s)
sensed_fine g (Does h shown written) fine k = k
sensed_fine g (Faults e) fine k = faulted_fine g e fine
sensed_fine g (ClearAt va) fine k = clear_fine g va fine
sensed_fine g (StopsThere stop) fine k = code_is stop
sensed_fine g LacksMemory fine k = refl

fault_did : (w : Walk) → Did (fault_of w)
fault_did (walks.Fault f) = tt
fault_did (walks.Frame pa entry table) = tt
fault_did walks.Beyond = tt

trouble_did : (g : Guest) (t : Trouble) → Did (troubled g t)
trouble_did g (At cause i va) = fault_did (walk_of g va (mode_of_state g.state) i)
trouble_did g (Test refusal) = tt

changed_did : (i : Initiation) → Began i → Did (mode_changed i)
changed_did (Taken h written) k = k
changed_did (KernelStackBad h written) k = k
changed_did (StopsGuest stop) k = tt

walked_did : (i : Initiation) (w : Walked) → Began i → Did (chm_walked i w)
walked_did i (Homes hs) k = changed_did i k
walked_did i (Faulty f) k = tt
walked_did i PastMemory k = tt

mode_did : (g : Guest) (t : Trapped) (to : Mode) → Fine g → Did (change_mode g t to)
mode_did g t to h =
    let g' = guest_past_instruction g t in
    let e = excs.Chm to t.a in
    let m = new_mode g.state e in
    let began : Began (initiate g' e) = initiate_fine g' e h in
    cond_both (is_on_interrupt_stack g.state.psl) (StopsThere ChangedMode) _ Did (λ t'. tt)
    (λ t'. cond_both (mode_number m == 0) (mode_changed (initiate g' e)) _ Did (λ u. changed_did (initiate g' e) began)
    (λ u. walked_did (initiate g' e) (push_walked g' m (pointer_of g'.state (mode_number m)) (g.state.psl ∷ t.next_pc ∷ t.a ∷ [])) began))

rei_did : (g : Guest) (t : Trapped) (p : Result Popped Trouble) → Fine g → Did (rei_by g t p)
rei_did g t (Err trouble) h = trouble_did g trouble
rei_did g t (Ok p) h = cond_both (rei_refuses g.state.psl p.psl) (Faults excs.ReservedOperand) _ Did (λ u. tt) (λ u. h)

packet_did : (g : Guest) (s : State) (packet : ℕ) (a : Accept) → IsHalt s.halt → Did (packet_taken g s packet a)
packet_did g s packet BadPacket h = tt
packet_did g s packet Busy h = h
packet_did g s packet Queued h = h

effect_did : (g : Guest) (s : State) (e : Asks) → IsHalt s.halt → Did (with_register_effect g s e)
effect_did g s effects.Done h = h
effect_did g s effects.Remap h = h
effect_did g s (effects.Show byte) h = h
effect_did g s (effects.Kcall packet) h = packet_did g s packet (accepted (length g.memory) s packet) h

pointer_fine : (stack v : ℕ) (s : State) → IsHalt s.halt → IsHalt (with_pointer stack v s).halt
pointer_fine stack v s h = cond_both (stack == stack_in s.psl) (record s { r = slice_set s.r 14 v }) (record s { stacks = slice_set s.stacks stack v }) (λ (x : State). IsHalt x.halt) (λ t. h) (λ t. h)

write_fine : (register : Named) (v : ℕ) (s : State) → IsHalt s.halt → IsHalt ((register_row register).after_write v s).halt
write_fine named.Ksp v s h = pointer_fine 0 v s h
write_fine named.Esp v s h = pointer_fine 1 v s h
write_fine named.Ssp v s h = pointer_fine 2 v s h
write_fine named.Usp v s h = pointer_fine 3 v s h
write_fine named.Isp v s h = pointer_fine 4 v s h
write_fine register v s h = h

abbrev Wrote : Result Written ReservedOperand → Type 0
Wrote (Ok w) = IsHalt w.state.halt
Wrote (Err refused) = Unit {0}

by_register : (s : State) (v : ℕ) (register : Option Named) → IsHalt s.halt → Wrote (write_by s v register)
by_register s v None h = tt
by_register s v (Some register) h = cond_both (allows register v) (Ok _) (Err _) Wrote (λ t. write_fine register v s h) (λ t. tt)

written_fine : (s : State) (number v : ℕ) → IsHalt s.halt → Wrote (written s number v)
unfolding written
written_fine s number v h = by_register s v (register_of number) h

mtpr_did : (g : Guest) (v : ℕ) (w : Result Written ReservedOperand) → Wrote w → Did (mtpr_by g v w)
mtpr_did g v (Err refused) h = tt
mtpr_did g v (Ok w) h = effect_did g (with_codes v w.state) w.effect h

read_fine : (register : Named) (s : State) → IsHalt s.halt → IsHalt (after_read register s).halt
read_fine named.Rxdb s h = h
read_fine register s h = h

abbrev Read : Result Value ReservedOperand → Type 0
Read (Ok v) = IsHalt v.state.halt
Read (Err refused) = Unit {0}

value_fine : (s : State) (register : Named) (v : Option ℕ) → IsHalt s.halt → Read (read_to s register v)
value_fine s register None h = tt
value_fine s register (Some v) h = read_fine register s h

register_read : (size : ℕ) (s : State) (register : Option Named) → IsHalt s.halt → Read (read_or_refused size s register)
register_read size s None h = tt
register_read size s (Some register) h = value_fine s register ((register_row register).value size s) h

reads_fine : (size : ℕ) (s : State) (number : ℕ) → IsHalt s.halt → Read (read size s number)
unfolding read
reads_fine size s number h = register_read size s (register_of number) h

put_did : (g : Guest) (dest : Dest) (v : Value) → IsHalt v.state.halt → Did (put_at g dest v)
put_did g Nowhere v h = h
put_did g (Register n) v h = h
put_did g (Memory at) v h = h

after_did : (g : Guest) (dest : Dest) (clear : Option ℕ) (v : Result Value ReservedOperand) → Read v → Did (after_register_read g dest clear v)
after_did g dest clear (Err refused) h = refused_did clear
  where
    refused_did : (clear : Option ℕ) → Did (after_register_read g dest clear (Err refused))
    refused_did None = tt
    refused_did (Some va) = tt
after_did g dest (Some va) (Ok v) h = tt
after_did g dest None (Ok v) h = put_did g dest v h

mfpr_did : (g : Guest) (t : Trapped) (tries_ : Tried ℕ) → Fine g → Did (mfpr_by g t tries_)
mfpr_did g t (tries.Stopped trouble) h = trouble_did g trouble
mfpr_did g t (Clear va) h = after_did g t.dest (Some va) (read (length g.memory) (past_instruction g.state t) t.a) (reads_fine (length g.memory) (past_instruction g.state t) t.a h)
mfpr_did g t (Completes old) h = after_did g t.dest None (read (length g.memory) (past_instruction g.state t) t.a) (reads_fine (length g.memory) (past_instruction g.state t) t.a h)

-- contexts
push_fine : (g : Guest) (s : State) (w : Walked) → IsHalt s.halt → Did (after_push g s w)
push_fine g s (Homes hs) h = h
push_fine g s (Faulty f) h = tt
push_fine g s PastMemory h = tt

loads_fine : (g : Guest) (next_pc : ℕ) → Fine g → Did (loads_context g next_pc)
unfolding loads_context loaded
loads_fine g next_pc h =
    let s = loaded g next_pc in
    cond_both (is_block_past g) LacksMemory _ Did (λ t. tt)
    (λ t. cond_both (is_block_reserved g) (Faults excs.ReservedOperand) _ Did (λ u. tt)
    (λ u. push_fine g s (push_walked (record g { state = s }) Kernel (slice_index s.r 14) (control_block_long g 76 ∷ control_block_long g 72 ∷ [])) h))

interrupt_fine : (s : State) → IsHalt s.halt → IsHalt (on_interrupt s).halt
interrupt_fine s h = cond_both (is_on_interrupt_stack s.psl) s _ (λ (x : State). IsHalt x.halt) (λ t. h) (λ t. h)

saved_fine : (g : Guest) (s : State) (p : Popped) → IsHalt s.halt → Did (saved g s p)
saved_fine g s p h = cond_both (is_block_past g) LacksMemory _ Did (λ t. tt) (λ t. interrupt_fine s h)

reads_context : (g : Guest) (next_pc : ℕ) (p : Result Popped Trouble) → Fine g → Did (after_reads g next_pc p)
reads_context g next_pc (Ok p) h = saved_fine g (after_pops g.state next_pc) p h
reads_context g next_pc (Err trouble) h = trouble_did g trouble

saves_fine : (g : Guest) (next_pc : ℕ) → Fine g → Did (saves_context g next_pc)
unfolding saves_context
saves_fine g next_pc h = reads_context g next_pc (outcome (space_of g) (two_popped (slice_index g.state.r 14))) h

did_sensed : (g : Guest) (t : Trapped) (op : Sens) → Fine g → Did (sensed g t op)
unfolding sensed
did_sensed g t Halt h = refl
did_sensed g t Wait h = h
did_sensed g t (Chm to) h = mode_did g t to h
did_sensed g t Rei h = rei_did g t (outcome (space_of g) (two_popped (slice_index t.regs 14))) h
did_sensed g t Mtpr h = mtpr_did g t.a (written (past_instruction g.state t) t.b t.a) (written_fine (past_instruction g.state t) t.b t.a h)
did_sensed g t Mfpr h = mfpr_did g t (tried (space_of g) (is_clear g) (destination_walked t.dest)) h
did_sensed g t Ldpctx h = loads_fine g t.next_pc h
did_sensed g t Svpctx h = saves_fine g t.next_pc h
did_sensed g t Prober h = tt
did_sensed g t Probew h = tt

-- plain instructions and PROBE
trap_fine : (kind : Kind) (written : List ℕ) (h : Guest) (trap : Option ℕ) → Fine h → Ends (trapped_in kind written h trap)
trap_fine kind written h None k = k
trap_fine kind written h (Some type) k = initiated_fine kind h (initiate h (excs.Arithmetic type)) (initiate_fine h (excs.Arithmetic type) k)

probed_fine : (g : Guest) (opcode : ℕ) (o : Operands) (p : Probed) → Fine g → Ends (probed_as g opcode o p)
probed_fine g opcode o (Answers is_accessible is_plain) h = h
probed_fine g opcode o (NotValid f) h = faulted_fine g (excs.Memory f) h
probed_fine g opcode o probes.PastMemory h = refl

did_fine : (g : Guest) (opcode : ℕ) (act : Act) → Fine g → Ends (did g opcode act)
did_fine g opcode (whole.Plain e) h = trap_fine _ (frames_stored g e.writes) (with_effect g e) e.trap h
did_fine g opcode (Traps t) h = sensed_fine g (sensed g t t.op) h (did_sensed g t t.op h)
did_fine g opcode (Probes i o) h = probed_fine g opcode o (probe g i (long_of o 0) (long_of o 1) (long_of o 2)) h

try_fine : (g : Guest) (t : Tried Meant) → Fine g → Ends (by_try g t)
try_fine g (Completes meant) h = did_fine g meant.opcode meant.act h
try_fine g (Clear va) h = clear_fine g va h
try_fine g (tries.Stopped trouble) h = sensed_fine g (troubled g trouble) h (trouble_did g trouble)

executed_fine : (g : Guest) → Fine g → Ends (executed g)
unfolding executed
executed_fine g h = try_fine g (tried (space_of g) (is_clear g) (instruction_of g.state)) h

taken_fine : (source : Source) (s : State) → IsHalt s.halt → IsHalt ((source_row source).taken s).halt
taken_fine IntervalClock s h = h
taken_fine Kcall s h = h
taken_fine Receiver s h = h
taken_fine Transmitter s h = h
taken_fine (Software level) s h = h

interrupted_fine : (g : Guest) (source : Source) (i : Initiation) → Began i → Ends (interrupted g source i)
interrupted_fine g source (Taken h written) k = taken_fine source h.state k
interrupted_fine g source (KernelStackBad h written) k = k
interrupted_fine g source (StopsGuest stop) k = code_is stop

waiting_fine : (g : Guest) (waits : Bool) → Fine g → Ends (unless_waiting g waits)
waiting_fine g true h = h
waiting_fine g false h = executed_fine g h

by_interrupt_fine : (g : Guest) (source : Option Source) → Fine g → Ends (by_interrupt g source)
by_interrupt_fine g (Some source) h = interrupted_fine g source (initiate g (interrupt_of source)) (initiate_fine g (interrupt_of source) h)
by_interrupt_fine g None h = waiting_fine g g.state.waiting h

step_by_fine : (g : Guest) (halt : Option ℕ) → Fine g → Ends (step_by g halt)
step_by_fine g (Some code) h = h
step_by_fine g None h = let k : Guest = record g { state = counted g.state } in by_interrupt_fine k (due k.state) h

pub step_fine : (g : Guest) → IsHalt g.state.halt → IsHalt (step g).guest.state.halt
unfolding step
step_fine g h = step_by_fine g g.state.halt h

pub stops_with_codes : StopsWithCodes
stops_with_codes zero run h = h
stops_with_codes (suc n) run h = stops_with_codes n (after_step run (step run.guest)) (step_fine run.guest h)
