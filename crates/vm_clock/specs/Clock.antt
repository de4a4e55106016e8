-- The interval clock: its registers, a tick, and what writing a register does
-- (VAX Architecture Reference Manual, interval clock registers ICCS, NICR and ICR).
use Rattle.std.specs.Prelude.{ℕ, ◌+◌, ◌*◌, ◌^◌, Bool, true, false, not, ◌&&◌, ◌||◌, nat_le, if◌then◌else◌}
use Rattle.std.specs.Int.{from_bool}
use Rattle.vv_base.specs.Bits.{is_set}

-- four bits of ICCS, the two counts, and the request for an interrupt
pub record ClockState : Type 0 where
  -- bit 0 of ICCS: the clock counts
  pub run : Bool
  -- bit 6: a wrap requests an interrupt
  pub enable : Bool
  -- bit 7: the counter wrapped
  pub interrupt : Bool
  -- bit 31: it wrapped while bit 7 was still set
  pub error : Bool
  -- the count that a wrap loads
  pub nicr : ℕ
  -- the count
  pub icr : ℕ
  pub request : Bool

-- stopped, with all registers 0
abbrev pub initial_clock : ClockState
initial_clock = record { run = false; enable = false; interrupt = false; error = false; nicr = 0; icr = 0; request = false }

-- adding 1 to the counter wraps it
abbrev pub is_at_end : ClockState → Bool
is_at_end clock = nat_le (2 ^ 32) (clock.icr + 1)

-- the counter counts once
abbrev pub after_count : ClockState → ClockState
after_count clock =
    if is_at_end clock
    then record clock { icr = clock.nicr; error = clock.error || clock.interrupt; interrupt = true; request = clock.request || clock.enable }
    else record clock { icr = clock.icr + 1 }

-- a tick counts where the clock runs
unfoldable pub after_tick : ClockState → ClockState
after_tick clock = if clock.run then after_count clock else clock

-- the next tick wraps
abbrev pub wraps_next : ClockState → Bool
wraps_next clock = clock.run && is_at_end clock

-- what reading ICCS gives
abbrev pub iccs_of : ClockState → ℕ
iccs_of clock = from_bool clock.run + 2 ^ 6 * from_bool clock.enable + 2 ^ 7 * from_bool clock.interrupt + 2 ^ 31 * from_bool clock.error

-- Bit 4 loads the counter. Without it, bit 5 without bit 0 counts once, also in a clock that runs.
abbrev pub after_step_write : ClockState → ℕ → ClockState
after_step_write clock value =
    if is_set value 4 then record clock { icr = clock.nicr }
    else if is_set value 5 && not (is_set value 0) then after_count clock
    else clock

-- Writing a value to ICCS does five things, in this order (the order is profile). 1. Bit 31 clears error. 2. Bit 7 clears
-- interrupt. 3. It loads the counter or counts once. 4. Run becomes bit 0. 5. Enable becomes bit 6. Clearing it ends the
-- request; setting it anew while interrupt is set makes one.
unfoldable pub after_iccs_write : ClockState → ℕ → ClockState
after_iccs_write clock value =
    let cleared = record clock { error = clock.error && not (is_set value 31); interrupt = clock.interrupt && not (is_set value 7) } in
    let stepped = after_step_write cleared value in
    record stepped { run = is_set value 0; enable = is_set value 6; request = is_set value 6 && (stepped.request || not stepped.enable && stepped.interrupt) }

-- writing NICR
abbrev pub after_nicr_write : ClockState → ℕ → ClockState
after_nicr_write clock value = record clock { nicr = value }

-- the interrupt was taken
abbrev pub after_taken : ClockState → ClockState
after_taken clock = record clock { request = false }
