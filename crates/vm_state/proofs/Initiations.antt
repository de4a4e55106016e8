-- What an initiation keeps.
use Rattle.std.proofs.Common.{◌≡◌, ℕ, ◌+◌, ◌%◌, ◌<◌, Bool, true, false, eqb, length, refl, arith}
use Rattle.std.specs.Prelude.{if◌then◌else◌}
use Rattle.std.specs.Int.{from_bool}
use Rattle.std.proofs.lemmas.Bool.{cond_both}
use Rattle.vv_base.specs.Bytes.{long_at}
use Rattle.vax_arch.specs.Fields.{ipl_of, mode_number}
use Rattle.vax_arch.specs.Walk.{is_past}
use Rattle.vax_arch.specs.declared.mode.Mode.{Mode}
use Rattle.vax_arch.specs.declared.mode.Mode.TheVariants.{Executive, Kernel, Supervisor, User}
use Rattle.vm_state.specs.Initiate.{Arrives, Attempt, Halts, Initiation, KernelStackBad, StackFaulty, StopsGuest, Taken, after_walk, attempt, begun_at, by_vector, in_its_place, initiate, initiated, is_bad_vector, longwords, new_ipl, new_mode, new_previous, new_stack, uses_interrupt_stack, vector_offset}
use Rattle.vm_state.specs.Pushes.{Faulty, Homes, PastMemory, Walked, pointer_after, push_walked}
use Rattle.vm_state.specs.State.{Guest, State, pointer_of}
use Rattle.vm_state.specs.Stops.{BadVector}
use Rattle.vm_state.specs.Stops as stops
use Rattle.vm_state.specs.declared.exception.Exc.{Exc}
use Rattle.vm_state.specs.declared.exception.Exc.TheVariants.{Arithmetic, Breakpoint, Chm, Customer, Interrupt, KernelStack, Memory, ModifyFault, ReservedAddressing, ReservedInstruction, ReservedOperand}
use Rattle.vm_state.proofs.Keeps.{Keeps, built, moved}
use Rattle.vm_state.proofs.Sizes.{pushed_size}

-- a guest that keeps what another one has
pub record Holds (g h : Guest) : Type 0 where
  pub size : length h.memory ≡ length g.memory
  pub keeps : Keeps (length g.memory) g.state h.state

-- one that an initiation gave: the requests of software levels are as before
pub record Began (g h : Guest) : Type 0 where
  pub holds : Holds g h
  pub sisr : h.state.sisr ≡ g.state.sisr

-- an interrupt's level is below 32
abbrev pub LevelFits : Exc → Type 0
LevelFits (Interrupt level vector) = level < 32
LevelFits ReservedInstruction = Unit {0}
LevelFits Customer = Unit {0}
LevelFits ReservedOperand = Unit {0}
LevelFits ReservedAddressing = Unit {0}
LevelFits (Memory f) = Unit {0}
LevelFits Breakpoint = Unit {0}
LevelFits (Arithmetic type) = Unit {0}
LevelFits KernelStack = Unit {0}
LevelFits (Chm to code) = Unit {0}
LevelFits (ModifyFault va) = Unit {0}

pub mode_small : (m : Mode) → mode_number m < 4
mode_small Kernel = omega arith
mode_small Executive = omega arith
mode_small Supervisor = omega arith
mode_small User = omega arith

bool_small : (b : Bool) → from_bool b < 2
bool_small true = omega arith
bool_small false = omega arith

ipl_small : (psl : ℕ) → ipl_of psl < 32
ipl_small psl = grind arith

kept_ipl : (s : State) (at : ℕ) → (if eqb (at % 4) 1 then 31 else ipl_of s.psl) < 32
kept_ipl s at = cond_both (eqb (at % 4) 1) 31 (ipl_of s.psl) (λ n. n < 32) (λ t. omega arith) (λ t. ipl_small s.psl)

level_small : (s : State) (e : Exc) (at : ℕ) → LevelFits e → new_ipl s e at < 32
level_small s (Interrupt level vector) at h = h
level_small s KernelStack at h = omega arith
level_small s ReservedInstruction at h = kept_ipl s at
level_small s Customer at h = kept_ipl s at
level_small s ReservedOperand at h = kept_ipl s at
level_small s ReservedAddressing at h = kept_ipl s at
level_small s (Memory f) at h = kept_ipl s at
level_small s Breakpoint at h = kept_ipl s at
level_small s (Arithmetic type) at h = kept_ipl s at
level_small s (Chm to code) at h = kept_ipl s at
level_small s (ModifyFault va) at h = kept_ipl s at

pub begun_keeps : (size : ℕ) (s : State) (e : Exc) (vector sp : ℕ) → LevelFits e → Keeps size s (begun_at s e vector sp)
begun_keeps size s e vector sp h =
    moved size s (begun_at s e vector sp) refl refl refl refl refl refl refl refl
    (λ k. built (from_bool (uses_interrupt_stack s e vector)) (mode_number (new_mode s e)) (mode_number (new_previous s e)) (new_ipl s e vector)
    (bool_small (uses_interrupt_stack s e vector)) (mode_small (new_mode s e)) (mode_small (new_previous s e)) (level_small s e vector h))

abbrev pub Attempted : Guest → Attempt → Type 0
Attempted g (Arrives h written) = Began g h
Attempted g (StackFaulty is_interrupt_stack) = Unit {0}
Attempted g (Halts stop) = Unit {0}

walk_keeps : (g : Guest) (e : Exc) (vector sp : ℕ) (w : Walked) → LevelFits e → Attempted g (after_walk g e vector sp w)
walk_keeps g e vector sp (Homes hs) h = record { holds = record { size = pushed_size hs g.memory; keeps = begun_keeps (length g.memory) g.state e vector (pointer_after sp (longwords g.state e)) h }; sisr = refl }
walk_keeps g e vector sp (Faulty f) h = tt
walk_keeps g e vector sp PastMemory h = tt

vector_keeps : (g : Guest) (e : Exc) (vector : ℕ) → LevelFits e → Attempted g (by_vector g e vector)
vector_keeps g e vector h =
    let sp = pointer_of g.state (new_stack g.state e vector) in
    cond_both (is_bad_vector e vector) (Halts BadVector) _ (Attempted g) (λ t. tt) (λ t. walk_keeps g e vector sp (push_walked g (new_mode g.state e) sp (longwords g.state e)) h)

attempt_keeps : (g : Guest) (e : Exc) → LevelFits e → Attempted g (attempt g e)
unfolding attempt
attempt_keeps g e h =
    let at = g.state.scbb + vector_offset e in
    cond_both (is_past (length g.memory) at 4) (Halts stops.PastMemory) _ (Attempted g) (λ t. tt) (λ t. vector_keeps g e (long_at g.memory at) h)

abbrev pub Initiates : Guest → Initiation → Type 0
Initiates g (Taken h written) = Began g h
Initiates g (KernelStackBad h written) = Began g h
Initiates g (StopsGuest stop) = Unit {0}

place_keeps : (g : Guest) (a : Attempt) → Attempted g a → Initiates g (in_its_place a)
place_keeps g (Arrives h written) k = k
place_keeps g (StackFaulty is_interrupt_stack) k = tt
place_keeps g (Halts stop) k = tt

by_attempt : (g : Guest) (a : Attempt) → Attempted g a → Initiates g (initiated g a)
by_attempt g (Arrives h written) k = k
by_attempt g (StackFaulty true) k = tt
by_attempt g (StackFaulty false) k = place_keeps g (attempt g KernelStack) (attempt_keeps g KernelStack tt)
by_attempt g (Halts stop) k = tt

pub initiate_keeps : (g : Guest) (e : Exc) → LevelFits e → Initiates g (initiate g e)
unfolding initiate
initiate_keeps g e h = by_attempt g (attempt g e) (attempt_keeps g e h)
