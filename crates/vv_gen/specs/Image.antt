-- The images of the guests: one program, with the period of each guest's clock.
use Rattle.std.specs.Prelude.{ℕ, ◌+◌, ◌-◌, ◌%◌, List, map}
use Rattle.vv_base.specs.Bytes.{overwritten, word_bytes}
use Rattle.vv_gen.specs.Config.{all_guests}
use Rattle.vv_gen.specs.declared.program.TheConstants.{PERIOD_AT, PROGRAM}

-- the clock counts up from the interval, which is the period below zero
unfoldable pub image_of : ℕ → List ℕ
image_of period = overwritten PROGRAM PERIOD_AT (word_bytes (65536 - period))

-- a draw for each guest
unfoldable pub images_of : (ℕ → ℕ) → List (List ℕ)
images_of draws = map (λ g. image_of (600 + draws g % 1000)) all_guests
