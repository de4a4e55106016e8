-- What PROBE asks: in which mode, and at which two bytes
-- (VAX Architecture Reference Manual: PROBEx; the corner cases are profile).
use Rattle.std.specs.Prelude.{ℕ, ◌==◌, nat_le, if◌then◌else◌}
use Rattle.vax_arch.specs.Fields.{mode_number, mode_of, previous_of}
use Rattle.vax_arch.specs.declared.mode.Mode.{Mode}
use Rattle.vax_table.specs.Operand.{minus, plus}

-- the less privileged of the mode that the operand names and the previous one
abbrev pub probe_mode : ℕ → ℕ → Mode
probe_mode psl named = if nat_le (mode_number (previous_of psl)) (mode_number (mode_of named)) then mode_of named else previous_of psl

-- the last byte of a range of `bytes` bytes; the base, where there are none
abbrev pub last_of : (base bytes : ℕ) → ℕ
last_of base bytes = if bytes == 0 then base else minus (plus base bytes) 1
