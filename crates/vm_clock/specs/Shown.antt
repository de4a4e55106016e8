-- Worked examples, by computation.
use Rattle.std.specs.Prelude.{◌≡◌, refl, true, false}
use Rattle.vm_clock.specs.Clock.{ClockState, initial_clock, iccs_of, wraps_next, after_tick, after_iccs_write, after_nicr_write}
use Rattle.vm_clock.specs.Ticks.{after_ticks, ticks_to_wrap}

-- NICR FFFFFFFE, then 51 written to ICCS: the counter is loaded, the clock runs and requests
abbrev started : ClockState
started = record { run = true; enable = true; interrupt = false; error = false; nicr = 0xffff_fffe; icr = 0xffff_fffe; request = false }

pub starts : after_iccs_write (after_nicr_write initial_clock 0xffff_fffe) 0x51 ≡ started
unfolding after_iccs_write
starts = refl

pub two_ticks_away : ticks_to_wrap started ≡ 2
two_ticks_away = refl

pub first_tick_stays : wraps_next started ≡ false
first_tick_stays = refl

pub second_tick_wraps : wraps_next (after_tick started) ≡ true
unfolding after_tick
second_tick_wraps = refl

pub wrap_requests : after_ticks 2 started ≡ record started { interrupt = true; request = true }
unfolding after_ticks after_tick
wrap_requests = refl

pub wrap_reads : iccs_of (after_ticks 2 started) ≡ 0xc1
unfolding after_ticks after_tick
wrap_reads = refl

-- a second wrap before the bit is cleared is an error
pub second_wrap_reads : iccs_of (after_ticks 4 started) ≡ 0x8000_00c1
unfolding after_ticks after_tick
second_wrap_reads = refl

-- NICR 7, and a counter that is at its end
abbrev full : ClockState
full = record initial_clock { nicr = 7; icr = 0xffff_ffff }

-- bit 6 set anew after a single step that wraps: the request is made
pub step_then_enable : after_iccs_write full 0x60 ≡ record full { icr = 7; enable = true; interrupt = true; request = true }
unfolding after_iccs_write
step_then_enable = refl

-- the step's request, by the old enable, ends with the enable
pub step_then_disable : after_iccs_write (record full { enable = true }) 0x20 ≡ record full { icr = 7; interrupt = true }
unfolding after_iccs_write
step_then_disable = refl

-- interrupt is cleared before the step, so that the wrap is no error
pub clear_then_step : after_iccs_write (record full { interrupt = true }) 0xa0 ≡ record full { icr = 7; interrupt = true }
unfolding after_iccs_write
clear_then_step = refl

pub no_step_with_run : after_iccs_write full 0x21 ≡ record full { run = true }
unfolding after_iccs_write
no_step_with_run = refl

pub load_in_place_of_step : after_iccs_write full 0x30 ≡ record full { icr = 7 }
unfolding after_iccs_write
load_in_place_of_step = refl

pub clearing_keeps_request : after_iccs_write (record full { run = true; enable = true; interrupt = true; request = true }) 0xc1
    ≡ record full { run = true; enable = true; request = true }
unfolding after_iccs_write
clearing_keeps_request = refl
