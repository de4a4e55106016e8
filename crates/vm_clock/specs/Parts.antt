-- A clock as plain numbers, as it is written out and read back.
use Rattle.std.specs.Prelude.{◌≡◌, ◌/◌, ◌%◌, ◌^◌, IsTrue}
use Rattle.vm_clock.specs.declared.ClockParts.{ClockParts}
use Rattle.vv_base.specs.Bits.{is_set}
use Rattle.vm_clock.specs.Clock.{ClockState, iccs_of}

-- the parts of a clock
abbrev pub parts_of_clock : ClockState → ClockParts
parts_of_clock clock = record { iccs = iccs_of clock; nicr = clock.nicr; icr = clock.icr; request = clock.request }

-- the clock that has these parts
abbrev pub clock_of_parts : ClockParts → ClockState
clock_of_parts parts =
    record { run = is_set parts.iccs 0; enable = is_set parts.iccs 6; interrupt = is_set parts.iccs 7; error = is_set parts.iccs 31; nicr = parts.nicr; icr = parts.icr; request = parts.request }

-- parts that a clock can have: ICCS has no bit but 0, 6, 7 and 31, and a request needs its enable
pub record IsClock (parts : ClockParts) : Type 0 where
  -- bits 1 to 5
  pub low_clear : parts.iccs / 2 % 2 ^ 5 ≡ 0
  -- bits 8 to 30
  pub high_clear : parts.iccs / 2 ^ 8 % 2 ^ 23 ≡ 0
  pub enabled : IsTrue parts.request → IsTrue (is_set parts.iccs 6)
