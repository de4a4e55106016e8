-- The numbers that a workload is drawn from: a linear congruential generator, of whose state each draw shows the upper
-- 16 bits.
use Rattle.std.specs.Prelude.{ℕ, zero, suc, ◌+◌, ◌*◌, ◌/◌, ◌%◌, ◌^◌}

-- the state after a draw
abbrev pub next : ℕ → ℕ
next x = (x * 1664525 + 1013904223) % 2 ^ 32

-- the state after n draws, which begins with x
unfoldable pub after_draws : ℕ → ℕ → ℕ
after_draws x zero = x
after_draws x (suc k) = next (after_draws x k)

-- the draw after k others
unfoldable pub draw : ℕ → ℕ → ℕ
draw x k = after_draws x (k + 1) / 2 ^ 16

-- the draws after `others` others
abbrev pub draws_after : ℕ → ℕ → ℕ → ℕ
draws_after others x k = draw x (others + k)
