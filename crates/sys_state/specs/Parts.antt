-- The law of rounds that are made in two parts.
use Rattle.std.specs.Prelude.{ℕ, ◌≡◌, ◌+◌, List, ◌++◌}
use Rattle.sys_script.specs.declared.event.Event.{Event}
use Rattle.sys_state.specs.Bytes.{drive_blocks_from, line_bytes_from, shown_from}
use Rattle.sys_state.specs.Counts.{added, tally_from}
use Rattle.sys_state.specs.Run.{Moment, moment_after}

-- Rounds that are made in two parts, with the same events, are as if made at once. So is what each line is shown, what each drive
-- has at the end, the steps of both, and the last moment.
pub record IsBoth (m : Moment) (es : List Event) (i j : ℕ) : Type 0 where
  pub lines : (line : ℕ) → shown_from m es i line ++ line_bytes_from (moment_after m es i) es j line ≡ line_bytes_from m es (i + j) line
  pub drives : (drive : ℕ) → drive_blocks_from (moment_after m es i) es j drive ≡ drive_blocks_from m es (i + j) drive
  pub counts : added (tally_from m es i) (tally_from (moment_after m es i) es j) ≡ tally_from m es (i + j)
  pub last : moment_after (moment_after m es i) es j ≡ moment_after m es (i + j)

abbrev pub CutsAnywhere : Type 0
CutsAnywhere = (m : Moment) (es : List Event) (i j : ℕ) → IsBoth m es i j
