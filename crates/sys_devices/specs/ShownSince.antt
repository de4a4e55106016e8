-- What a line has been shown since some moment, and whether it has failed since.
use Rattle.std.specs.Prelude.{ℕ, ◌≡◌, ◌<◌, ◌≤◌, List, length, take, slice_set, slice_index_or, Bool, true, false}
use Rattle.vv_io.specs.Causes.{Rose}
use Rattle.vv_io.specs.Lines.{Seen, shown_after, unseen}

-- a line that hasn't failed shows the bytes and has its count; one that has failed shows a front of them, and its count rose
abbrev pub ShownSince : Bool → Seen → Seen → List ℕ → Type 0
ShownSince false start now bytes = (now.faults ≡ start.faults) × (now.shown ≡ shown_after start.shown bytes)
ShownSince true start now bytes = Rose start.faults now.faults × ((n : ℕ) × (n ≤ length bytes) × (now.shown ≡ shown_after start.shown (take n bytes)))

-- so it is with line k, and every other line is as at the start
abbrev pub ShownSinceOn : ℕ → Bool → List Seen → List Seen → List ℕ → Type 0
ShownSinceOn k failed start now bytes = (line : Seen) × (now ≡ slice_set start k line) × (k < length start) × ShownSince failed (slice_index_or start k unseen) line bytes
