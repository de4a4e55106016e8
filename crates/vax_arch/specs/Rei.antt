-- What REI may load (VAX Architecture Reference Manual: return from exception or interrupt).
use Rattle.std.specs.Prelude.{ℕ, ◌/◌, ◌%◌, ◌^◌, ◌==◌, Bool, nat_lt, not, ◌&&◌, ◌||◌}
use Rattle.vax_arch.specs.Fields.{mode_number, current_of, previous_of, ipl_of, is_on_interrupt_stack}

-- Whether a bit that must be zero is set. These are bits 31:27, 21 and 15:8, together F820FF00 hex (profile:
-- compatibility mode, trace pending and first part done are among them).
abbrev pub has_must_be_zero_bit : ℕ → Bool
has_must_be_zero_bit psl = not (psl / 2 ^ 27 % 32 == 0) || not (psl / 2 ^ 21 % 2 == 0) || not (psl / 2 ^ 8 % 256 == 0)

-- the numbers of the two modes of a PSL
abbrev pub current_number : ℕ → ℕ
current_number psl = mode_number (current_of psl)

abbrev pub previous_number : ℕ → ℕ
previous_number psl = mode_number (previous_of psl)

-- the cases in which REI refuses a new PSL as a reserved operand
abbrev pub rei_refuses : ℕ → ℕ → Bool
rei_refuses old new =
    -- a bit that must be zero is set
    has_must_be_zero_bit new
    -- the new mode is more privileged than the old one
    || nat_lt (current_number new) (current_number old)
    -- the new mode isn't kernel, and the interrupt stack is set or the IPL isn't 0
    || (not (current_number new == 0) && (is_on_interrupt_stack new || not (ipl_of new == 0)))
    -- the new current mode exceeds the new previous mode
    || nat_lt (previous_number new) (current_number new)
    -- the interrupt stack is set, and was clear
    || (is_on_interrupt_stack new && not (is_on_interrupt_stack old))
    -- the interrupt stack is set, and the new IPL is 0
    || (is_on_interrupt_stack new && ipl_of new == 0)
    -- the new IPL exceeds the old one
    || nat_lt (ipl_of old) (ipl_of new)
