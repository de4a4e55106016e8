-- The parts of a snapshot, as they are put one after another.
use Rattle.std.specs.Prelude.{ℕ, List, ◌++◌, length, flat_map}
use Rattle.vv_base.specs.Bytes.{long_bytes}
use Rattle.sys_objects.specs.declared.records.Mount.{Mount}
use Rattle.sys_snap.specs.Written.{mount_bytes, snap_head}
use Rattle.std.specs.declared.option.Option.{Option}

-- what comes before the state: what the bytes are, the configuration's text with its length, and the rounds that were made
abbrev pub head_bytes : List ℕ → ℕ → List ℕ
head_bytes text made = snap_head ++ (long_bytes (length text) ++ (text ++ long_bytes made))

-- what is mounted at a guest's units
abbrev pub unit_bytes : List (Option Mount) → List ℕ
unit_bytes units = flat_map mount_bytes units

-- a volume's blocks
abbrev pub volume_bytes : List (List ℕ) → List ℕ
volume_bytes blocks = flat_map (λ b. b) blocks
