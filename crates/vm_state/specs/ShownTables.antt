-- Worked examples of vectors, pending interrupts, the clock and first touches, by computation. Numbers are hexadecimal in the
-- comments.
use Rattle.std.specs.Prelude.{Bool, None, Some, [], false, refl, true, ℕ, ◌∷◌, ◌≡◌}
use Rattle.vax_arch.specs.declared.mode.Mode.TheVariants.{Executive, Kernel, Supervisor, User}
use Rattle.vm_clock.specs.Clock.{ClockState, initial_clock}
use Rattle.vm_console.specs.Console.{ConsoleState}
use Rattle.vm_state.specs.Initiate.{parameters, vector_offset}
use Rattle.vm_state.specs.Interrupts.{IntervalClock, Kcall, Receiver, Software, Transmitter, due}
use Rattle.vm_state.specs.ShownSetup.{after_steps, entry_4, guest_m, guest_u, state_u, whole_step, with_clock, with_psl, with_register}
use Rattle.vm_state.specs.State.{Guest}
use Rattle.vm_state.specs.Touches.{at_first, touching_steps}
use Rattle.vm_state.specs.declared.exception.Exc.TheVariants.{Arithmetic, Breakpoint, Chm, Customer, KernelStack, Memory, ModifyFault, ReservedAddressing, ReservedInstruction, ReservedOperand}

-- every vector of an exception once
pub vectors :
    (vector_offset KernelStack ≡ 0x08)
    × (vector_offset ReservedInstruction ≡ 0x10)
    × (vector_offset Customer ≡ 0x14)
    × (vector_offset ReservedOperand ≡ 0x18)
    × (vector_offset ReservedAddressing ≡ 0x1c)
    × (vector_offset (Memory (record { not_valid = false; va = 0; param = 0 })) ≡ 0x20)
    × (vector_offset (Memory (record { not_valid = true; va = 0; param = 0 })) ≡ 0x24)
    × (vector_offset Breakpoint ≡ 0x2c)
    × (vector_offset (Arithmetic 1) ≡ 0x34)
    × (vector_offset (ModifyFault 0) ≡ 0x3c)
    × (vector_offset (Chm Kernel 0) ≡ 0x40)
    × (vector_offset (Chm Executive 0) ≡ 0x44)
    × (vector_offset (Chm Supervisor 0) ≡ 0x48)
    × (vector_offset (Chm User 0) ≡ 0x4c)
    -- what is pushed after PSL and PC: the address and then the parameter
    × (parameters (Memory (record { not_valid = true; va = 0x1000; param = 4 })) ≡ 0x1000 ∷ 4 ∷ [])
    × (parameters (ModifyFault 0x1000) ≡ 0x1000 ∷ 4 ∷ [])
vectors = (refl, refl, refl, refl, refl, refl, refl, refl, refl, refl, refl, refl, refl, refl, refl, refl)

-- a console with a byte to be read, which requests a transmit interrupt, and a receive interrupt or not
abbrev console : Bool → ConsoleState
console rx_request = record { waiting = 65 ∷ []; rx_enable = true; rx_request = rx_request; tx_enable = true; tx_request = true }

-- a clock that requests an interrupt
abbrev due_clock : ClockState
due_clock = record initial_clock { enable = true; request = true }

-- what is pending
pub pending :
    -- receive comes before transmit
    (due (record state_u { console = console true }) ≡ Some Receiver)
    × (due (record state_u { console = console false }) ≡ Some Transmitter)
    -- a transfer above both, and the clock above all
    × (due (record state_u { console = console true; kcall_due = true }) ≡ Some Kcall)
    × (due (record state_u { console = console true; kcall_due = true; clock = due_clock }) ≡ Some IntervalClock)
    -- at IPL 20 the console waits, at IPL 24 all do
    × (due (record state_u { console = console true; psl = 0x00140000 }) ≡ None)
    × (due (record state_u { clock = due_clock; kcall_due = true; psl = 0x00180000 }) ≡ None)
    -- the highest software level that is above the IPL
    × (due (record state_u { sisr = 0x000a }) ≡ Some (Software 3))
    × (due (record state_u { sisr = 0x000a; psl = 0x00030000 }) ≡ None)
unfolding due
pending = (refl, refl, refl, refl, refl, refl, refl, refl)

-- a running clock whose interrupt bit is set still, at its last count
abbrev wrapping : ClockState
wrapping = record initial_clock { run = true; enable = true; interrupt = true; nicr = 5; icr = 0xffffffff }

abbrev wrapped : ClockState
wrapped = record initial_clock { run = true; enable = true; interrupt = true; error = true; request = true; nicr = 5; icr = 5 }

-- the clock of a step: it wraps, which is an error, and requests an interrupt, which IPL 31 holds
pub clock : (after_steps 1 (with_clock wrapping (with_psl 0x001f0000 (guest_u (0x01 ∷ 0x01 ∷ []))))).state.clock ≡ wrapped
unfolding whole_step
clock = refl

-- how many first touches a guest's first steps make
abbrev touches_in : ℕ → Guest → ℕ
touches_in n g = (touching_steps n g (record { present = at_first g; count = 0 })).count

-- MOVL (R1),R0 and BRB to it
abbrev reads_again : Guest
reads_again = with_register 1 0x800 (guest_m (0xd0 ∷ 0x61 ∷ 0x50 ∷ 0x11 ∷ 0xfb ∷ []) [])

-- MOVL R0,(R2) and BRB to it, which writes the entry of the page at 800
abbrev writes_entry : Guest
writes_entry =
    let g = guest_m (0xd0 ∷ 0x50 ∷ 0x62 ∷ 0x11 ∷ 0xfb ∷ []) [] in
    with_register 0 0xa4000004 (with_register 1 0x800 (with_register 2 0x80000090 g))

-- MOVL (R1),R0 from a page that is not valid
abbrev reads_none : Guest
reads_none = with_register 1 0x800 (guest_m (0xd0 ∷ 0x61 ∷ 0x50 ∷ []) ((entry_4, 0x20000004) ∷ []))

-- first touches
pub touches :
    -- the page of the code, and the one that it reads, once each
    (touches_in 4 reads_again ≡ 2)
    -- the system page that it writes and its code, again after each write
    × (touches_in 4 writes_entry ≡ 5)
    -- a page that is not valid counts at each touch, and its handler is a third
    × (touches_in 2 reads_none ≡ 3)
unfolding whole_step
touches = (refl, refl, refl)
