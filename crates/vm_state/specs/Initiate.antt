-- The initiation of an exception or an interrupt (VAX Architecture Reference Manual: exceptions and interrupts, system
-- control block). Profile: the order of the tests, what vectors with bits 1:0 of 2 and 3 do, that vector 08 always uses
-- the interrupt stack, and that a clear modify bit of a pushed byte's page is set without a fault.
use Rattle.std.specs.Prelude.{ℕ, ◌+◌, ◌*◌, ◌/◌, ◌%◌, ◌==◌, ◌^◌, ◌||◌, Bool, true, false, not, nat_le, if◌then◌else◌, List, [], ◌∷◌, length, slice_set}
use Rattle.std.specs.Int.{from_bool}
use Rattle.vv_base.specs.Bytes.{long_at}
use Rattle.vax_arch.specs.Fields.{ipl_of, is_on_interrupt_stack, mode_number}
use Rattle.vax_arch.specs.Walk.{is_past}
use Rattle.vax_arch.specs.declared.mode.Mode.{Mode}
use Rattle.vax_arch.specs.declared.mode.Mode.TheVariants.{Kernel}
use Rattle.vm_state.specs.Pushes.{Faulty, Homes, PastMemory, Walked, frames_pushed, pointer_after, push_walked, pushed}
use Rattle.vm_state.specs.State.{Guest, State, mode_of_state, pc_of, pointer_of, with_pointer_kept}
use Rattle.vm_state.specs.Stops.{BadVector, InterruptStackBad, Stop}
use Rattle.vm_state.specs.Stops as stops
use Rattle.vm_state.specs.declared.exception.Exc.{Exc}
use Rattle.vm_state.specs.declared.exception.Exc.TheVariants.{Arithmetic, Breakpoint, Chm, Customer, Interrupt, KernelStack, Memory, ModifyFault, ReservedAddressing, ReservedInstruction, ReservedOperand}

-- where its vector is in the system control block
abbrev pub vector_offset : Exc → ℕ
vector_offset KernelStack = 0x08
vector_offset ReservedInstruction = 0x10
vector_offset Customer = 0x14
vector_offset ReservedOperand = 0x18
vector_offset ReservedAddressing = 0x1c
vector_offset (Memory f) = if f.not_valid then 0x24 else 0x20
vector_offset Breakpoint = 0x2c
vector_offset (Arithmetic type) = 0x34
vector_offset (ModifyFault va) = 0x3c
vector_offset (Chm to code) = 0x40 + 4 * mode_number to
vector_offset (Interrupt level vector) = vector

-- what is pushed after PSL and PC, in the order in which it is pushed
abbrev pub parameters : Exc → List ℕ
parameters (Memory f) = f.va ∷ f.param ∷ []
parameters (Arithmetic type) = type ∷ []
parameters (ModifyFault va) = va ∷ 4 ∷ []
parameters (Chm to code) = code ∷ []
parameters e = []

abbrev pub longwords : State → Exc → List ℕ
longwords s e = s.psl ∷ pc_of s ∷ parameters e

abbrev pub more_privileged : Mode → Mode → Mode
more_privileged a b = if nat_le (mode_number a) (mode_number b) then a else b

-- the new mode: kernel, or CHM's, which is never less privileged than the old one
abbrev pub new_mode : State → Exc → Mode
new_mode s (Chm to code) = more_privileged to (mode_of_state s)
new_mode s e = Kernel

-- an interrupt's previous mode is kernel, an exception's the old mode
abbrev pub new_previous : State → Exc → Mode
new_previous s (Interrupt level vector) = Kernel
new_previous s e = mode_of_state s

-- bits 1:0 of a vector: 0 the mode's stack, 1 the interrupt stack; CHM has the first alone
abbrev pub is_bad_vector : Exc → ℕ → Bool
is_bad_vector (Chm to code) vector = not (vector % 4 == 0)
is_bad_vector e vector = nat_le 2 (vector % 4)

-- whether the interrupt stack is used
abbrev pub uses_interrupt_stack : State → Exc → ℕ → Bool
uses_interrupt_stack s KernelStack vector = true
uses_interrupt_stack s e vector = vector % 4 == 1 || is_on_interrupt_stack s.psl

-- an interrupt has its own level; an exception on the interrupt stack by its vector has 31, and another keeps the level
abbrev pub new_ipl : State → Exc → ℕ → ℕ
new_ipl s (Interrupt level vector) at = level
new_ipl s KernelStack at = 31
new_ipl s e at = if at % 4 == 1 then 31 else ipl_of s.psl

abbrev pub new_stack : State → Exc → ℕ → ℕ
new_stack s e vector = if uses_interrupt_stack s e vector then 4 else mode_number (new_mode s e)

abbrev pub new_psl : State → Exc → ℕ → ℕ
new_psl s e vector =
    2 ^ 26 * from_bool (uses_interrupt_stack s e vector) + 2 ^ 24 * mode_number (new_mode s e) + 2 ^ 22 * mode_number (new_previous s e) + 2 ^ 16 * new_ipl s e vector

-- it is taken; or its stack had trouble: a fault, or a place beyond memory; or its vector is none
pub data Attempt : Type 0 where
  Arrives : Guest → (written : List ℕ) → Attempt
  StackFaulty : (is_interrupt_stack : Bool) → Attempt
  Halts : Stop → Attempt

-- it begins at the vector, on the new stack; the old pointer is kept, and waiting ends
abbrev pub begun_at : State → Exc → (vector sp : ℕ) → State
begun_at s e vector sp = record (with_pointer_kept s) { r = slice_set (slice_set s.r 14 sp) 15 (vector / 4 * 4); psl = new_psl s e vector; waiting = false }

abbrev pub after_walk : Guest → Exc → (vector sp : ℕ) → Walked → Attempt
after_walk g e vector sp (Homes hs) =
    Arrives (record { memory = pushed hs g.memory; state = begun_at g.state e vector (pointer_after sp (longwords g.state e)) }) (frames_pushed g.memory hs)
after_walk g e vector sp (Faulty f) = StackFaulty (uses_interrupt_stack g.state e vector)
after_walk g e vector sp PastMemory = Halts stops.PastMemory

abbrev pub by_vector : Guest → Exc → ℕ → Attempt
by_vector g e vector =
    if is_bad_vector e vector then Halts BadVector else
    let sp = pointer_of g.state (new_stack g.state e vector) in
    after_walk g e vector sp (push_walked g (new_mode g.state e) sp (longwords g.state e))

unfoldable pub attempt : Guest → Exc → Attempt
attempt g e =
    let at = g.state.scbb + vector_offset e in
    if is_past (length g.memory) at 4 then Halts stops.PastMemory else by_vector g e (long_at g.memory at)

-- It is taken, or vector 08 is taken in its place, or the guest stops; the frames that the pushes wrote.
pub data Initiation : Type 0 where
  Taken : Guest → (written : List ℕ) → Initiation
  KernelStackBad : Guest → (written : List ℕ) → Initiation
  StopsGuest : Stop → Initiation

-- in the place of another
abbrev pub in_its_place : Attempt → Initiation
in_its_place (Arrives g written) = KernelStackBad g written
in_its_place (StackFaulty is_interrupt_stack) = StopsGuest InterruptStackBad
in_its_place (Halts stop) = StopsGuest stop

abbrev pub initiated : Guest → Attempt → Initiation
initiated g (Arrives h written) = Taken h written
initiated g (StackFaulty true) = StopsGuest InterruptStackBad
initiated g (StackFaulty false) = in_its_place (attempt g KernelStack)
initiated g (Halts stop) = StopsGuest stop

-- The PC that is pushed is the guest's.
unfoldable pub initiate : Guest → Exc → Initiation
initiate g e = initiated g (attempt g e)
