-- Worked examples of runs, by computation: a low guest's line with and without a high guest, slices, dumps, counts.
use Rattle.std.specs.Prelude.{◌≡◌, ℕ, ◌+◌, List, [], ◌∷◌, ◌++◌, codes, false, true, refl, Some, None}
use Rattle.sys_state.specs.Bytes.{drive_blocks, line_bytes}
use Rattle.sys_state.specs.Counts.{run_outcome}
use Rattle.sys_state.specs.Dump.{dump_of, register_line, row_line}
use Rattle.sys_state.specs.Places.{changed, place_of}
use Rattle.sys_objects.specs.Places.{is_at}
use Rattle.sys_state.specs.Consoles.{on_console}
use Rattle.sys_state.specs.Run.{Input, first_state}
use Rattle.sys_state.specs.ShownSetup.{config, guest, line_at, terminal, volume, whole_run}
use Rattle.sys_state.specs.Slices.{Slice, slices, total}
use Rattle.sys_state.specs.State.{Went, bytes_on}
use Rattle.vm_state.specs.State.{Guest}

pub first_place : place_of (is_at 4) (Some 3 ∷ None ∷ Some 4 ∷ Some 4 ∷ []) ≡ Some 2
first_place = refl

pub one_changes : changed (λ x. x + 1) (5 ∷ 6 ∷ 7 ∷ []) 1 ≡ 5 ∷ 7 ∷ 7 ∷ []
one_changes = refl

pub each_byte : on_console (Some 3) (65 ∷ 66 ∷ []) ≡
    record { line = 3; bytes = 65 ∷ [] } ∷ record { line = 3; bytes = 66 ∷ [] } ∷ []
each_byte = refl

-- a slice of a guest, of `steps` steps
abbrev slice_of : (guest steps : ℕ) → Slice
slice_of guest steps = record { guest = guest; steps = steps }

pub quantum_of_two : total (slice_of 1 7 ∷ slice_of 0 9 ∷ slice_of 1 3 ∷ []) 1 ≡ 10
quantum_of_two = refl

-- A low guest that shows `A` and halts, and a high one that branches to itself, with a terminal that stops it.
abbrev pub hello : List ℕ
hello = 0xda ∷ 0x8f ∷ 0x41 ∷ 0 ∷ 0 ∷ 0 ∷ 0x23 ∷ 0 ∷ []

abbrev pub both_there : Input
both_there = record {
  config =
      let terminals = terminal (codes "TH") 1 2 ∷ terminal (codes "TL") 0 0 ∷ [] in
      config None terminals [] [] (guest (codes "H") 2 2 4 true None ∷ guest (codes "L") 0 2 4 true (Some 1) ∷ []);
  images = (0x11 ∷ 0xfe ∷ []) ∷ hello ∷ [];
  volumes = [];
  events = line_at 1 (codes "TH") (codes "HALT H") ∷ [];
  rounds = 1;
}

abbrev pub low_alone : Input
low_alone = record {
  config = config None (terminal (codes "TL") 0 0 ∷ []) [] [] (guest (codes "L") 0 2 4 true (Some 0) ∷ []);
  images = hello ∷ [];
  volumes = [];
  events = [];
  rounds = 1;
}

pub low_bytes :
    (line_bytes both_there 0 ≡ codes "A?06 00000208\r\n")
    × (line_bytes low_alone 0 ≡ codes "A?06 00000208\r\n")
    × (line_bytes both_there 1 ≡ codes "OK\r\n")
unfolding whole_run
low_bytes = (refl, refl, refl)

-- in a round of four steps each: two sensitive ones of the low guest; the high guest is stopped from its event on
pub counts :
    ((run_outcome both_there).tally.sensitive ≡ 2)
    × ((run_outcome both_there).tally.stopped ≡ 6)
    × ((run_outcome (record both_there { events = [] })).tally.plain ≡ 4)
unfolding whole_run
counts = (refl, refl, refl)

-- in three slices, the high guest's turn in between
abbrev three_slices : List Slice
three_slices = slice_of 1 1 ∷ slice_of 0 4 ∷ slice_of 1 3 ∷ []

abbrev first_guests : List Guest
first_guests = (first_state both_there.config both_there.images []).guests

abbrev went : Went (List Guest)
went = slices both_there.config.terminals (Some 0 ∷ Some 1 ∷ []) three_slices first_guests

pub in_slices : bytes_on 0 went.puts ≡ codes "A?06 00000208\r\n"
unfolding whole_run
in_slices = refl

-- A guest of one page that was never started: its dump, on a line; a drive of a volume, and one that no volume has.
abbrev never_started : Input
never_started = record {
  config =
      let row = record (guest (codes "Z") 0 1 1 false None) { load = 0x10; dump = Some 7 } in
      config None [] (volume (codes "V") 3 0 ∷ []) [] (row ∷ []);
  images = (0xab ∷ []) ∷ [];
  volumes = ((1 ∷ 2 ∷ []) ∷ []) ∷ [];
  events = [];
  rounds = 1;
}

abbrev its_dump : List ℕ
its_dump =
    codes "VM Z\r\nR0 00000000\r\nR1 00000000\r\nR2 00000000\r\nR3 00000000\r\nR4 00000000\r\nR5 00000000\r\n"
    ++ codes "R6 00000000\r\nR7 00000000\r\nR8 00000000\r\nR9 00000000\r\nR10 00000000\r\nR11 00000000\r\n"
    ++ codes "R12 00000000\r\nR13 00000000\r\nR14 00000000\r\nR15 00000200\r\nPSL 041F0000\r\n"
    ++ codes "00000010 AB 00 00 00 00 00 00 00 00 00 00 00 00 00 00 00\r\n"

pub devices :
    (line_bytes never_started 7 ≡ its_dump)
    × (line_bytes never_started 8 ≡ [])
    × (drive_blocks never_started 3 ≡ (1 ∷ 2 ∷ []) ∷ [])
    × (drive_blocks never_started 2 ≡ [])
unfolding whole_run dump_of register_line row_line
devices = (refl, refl, refl, refl)
