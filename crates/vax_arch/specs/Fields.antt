-- Access modes, and the fields of the processor status longword and of a page table entry
-- (VAX Architecture Reference Manual: processor status longword; page table entry).
use Rattle.std.specs.Prelude.{ℕ, ◌/◌, ◌%◌, ◌^◌, ◌==◌, Bool, if◌then◌else◌}
use Rattle.vax_arch.specs.declared.mode.Mode.{Mode}
use Rattle.vax_arch.specs.declared.mode.Mode.TheVariants.{Kernel, Executive, Supervisor, User}

-- a mode's number: the greater, the less privileged
abbrev pub mode_number : Mode → ℕ
mode_number Kernel = 0
mode_number Executive = 1
mode_number Supervisor = 2
mode_number User = 3

-- the mode that the low two bits of a number stand for
abbrev pub mode_of : ℕ → Mode
mode_of n =
    if n % 4 == 0 then Kernel
    else if n % 4 == 1 then Executive
    else if n % 4 == 2 then Supervisor
    else User

-- The processor status longword.

-- interrupt stack, bit 26
abbrev pub is_on_interrupt_stack : ℕ → Bool
is_on_interrupt_stack psl = psl / 2 ^ 26 % 2 == 1

-- current mode, bits 25:24
abbrev pub current_of : ℕ → Mode
current_of psl = mode_of (psl / 2 ^ 24)

-- previous mode, bits 23:22
abbrev pub previous_of : ℕ → Mode
previous_of psl = mode_of (psl / 2 ^ 22)

-- interrupt priority level, bits 20:16
abbrev pub ipl_of : ℕ → ℕ
ipl_of psl = psl / 2 ^ 16 % 32

-- A page table entry.

-- valid, bit 31
abbrev pub is_valid : ℕ → Bool
is_valid entry = entry / 2 ^ 31 % 2 == 1

-- protection code, bits 30:27
abbrev pub protection_of : ℕ → ℕ
protection_of entry = entry / 2 ^ 27 % 16

-- modify, bit 26
abbrev pub is_modified : ℕ → Bool
is_modified entry = entry / 2 ^ 26 % 2 == 1

-- page frame number, bits 20:0
abbrev pub frame_of : ℕ → ℕ
frame_of entry = entry % 2 ^ 21
