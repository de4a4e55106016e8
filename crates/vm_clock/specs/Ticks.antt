-- Many ticks, and the number of ticks up to the next wrap.
use Rattle.std.specs.Prelude.{ℕ, zero, suc, ◌-◌, ◌^◌, ◌<◌, ◌≤◌, IsTrue}
use Rattle.vm_clock.specs.Clock.{ClockState, after_tick, wraps_next}

-- the state after n ticks
unfoldable pub after_ticks : ℕ → ClockState → ClockState
after_ticks zero clock = clock
after_ticks (suc n) clock = after_ticks n (after_tick clock)

-- the last of n ticks wraps
abbrev pub EndsInWrap : ClockState → ℕ → Type 0
EndsInWrap clock n = (0 < n) × IsTrue (wraps_next (after_ticks (n - 1) clock))

-- n is the least number of ticks whose last one wraps
pub record IsNextWrap (clock : ClockState) (n : ℕ) : Type 0 where
  pub wraps : EndsInWrap clock n
  pub least : (m : ℕ) → EndsInWrap clock m → n ≤ m

-- no number of ticks ends in a wrap
abbrev pub NeverWraps : ClockState → Type 0
NeverWraps clock = (n : ℕ) → ¬ EndsInWrap clock n

-- how many ticks a running clock is away from its next wrap
abbrev pub ticks_to_wrap : ClockState → ℕ
ticks_to_wrap clock = 2 ^ 32 - clock.icr
