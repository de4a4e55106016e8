-- Objects of the outside in memory. Calls are counted from 1, and a call fails where a list names its number.
use Rattle.std.specs.Prelude.{ℕ, ◌≡◌, ◌<◌, ◌≤◌, ◌-◌, List, [], ◌∷◌, ◌++◌, length, take, drop, min, map, Bool, true, false, ◌==◌, nat_lt, ◌||◌, if◌then◌else◌, is_some, unwrap_or, Vec, slice_set}
use Rattle.std.specs.declared.alloc.Global.{Global}
use Rattle.std.specs.List.{list_any}
use Rattle.std.specs.declared.option.Option.{Option}
use Rattle.std.specs.declared.option.Option.TheVariants.{None, Some}
use Rattle.std.specs.declared.result.Result.{Result}
use Rattle.std.specs.declared.result.Result.TheVariants.{Ok, Err}
use Rattle.vv_io.specs.Blocks.{SeenDrive}
use Rattle.vv_io.specs.Causes.{saturated_successor}
use Rattle.vv_io.specs.Shelf.{File, file_limit, held}
use Rattle.vv_io.specs.Keys.{Keys}
use Rattle.vv_io.specs.Lines.{Seen}
use Rattle.vv_io.specs.declared.cut.Cut.{Cut}
use Rattle.vv_io.specs.declared.shelf.ShelfFault.{ShelfFault}
use Rattle.vv_io.specs.declared.shelf.ShelfFault.TheVariants.{Missing, TooLong, Failed, NoMemory}

-- a list names the number of the next call, after `calls` calls
abbrev pub is_next_named : List ℕ → ℕ → Bool
is_next_named failing calls = list_any (λ number. number == saturated_successor calls) failing

-- a line: what it has shown, its room in bytes, its cuts
pub record MemoryLine : Type 0 where
  pub shown : List ℕ
  pub room : ℕ
  pub cuts : List Cut
  pub calls : ℕ
  pub faults : ℕ

-- after how many bytes the first cut of a call cuts it
abbrev pub cut_of : List Cut → ℕ → Option ℕ
cut_of [] call = None
cut_of (c ∷ cuts) call = if c.call == call then Some c.after else cut_of cuts call

-- how many of these bytes the next put shows
abbrev pub count_shown : MemoryLine → List ℕ → ℕ
count_shown line bytes = min (min (unwrap_or (cut_of line.cuts (saturated_successor line.calls)) (length bytes)) (length bytes)) (line.room - length line.shown)

-- the next put of these bytes fails: it is cut, or they don't fit
abbrev pub fails_at : MemoryLine → List ℕ → Bool
fails_at line bytes = is_some (cut_of line.cuts (saturated_successor line.calls)) || nat_lt (count_shown line bytes) (length bytes)

-- the line after the next put
abbrev pub after_put : MemoryLine → List ℕ → MemoryLine
after_put line bytes = record line {
  shown = line.shown ++ take (count_shown line bytes) bytes;
  calls = saturated_successor line.calls;
  faults = if fails_at line bytes then saturated_successor line.faults else line.faults;
}

-- what the outside knows of it
abbrev pub seen_of : MemoryLine → Seen
seen_of line = record { shown = Some line.shown; faults = line.faults }

-- a shelf: its files, of which the first of a name counts
pub record MemoryShelf : Type 0 where
  pub files : List File
  pub failing : List ℕ
  pub calls : ℕ
  pub faults : ℕ

abbrev pub files_of : List (List ℕ × Vec ℕ Global) → List File
files_of files = map (λ f. (f.0, f.1.items)) files

-- the shelf after the next fetch
abbrev pub after_fetch : MemoryShelf → MemoryShelf
after_fetch shelf = record shelf {
  calls = saturated_successor shelf.calls;
  faults = if is_next_named shelf.failing shelf.calls then saturated_successor shelf.faults else shelf.faults;
}

-- the answer of a call that isn't one of the failing ones, given what the shelf holds of the name
abbrev pub GivesHeld : Option (List ℕ) → Result (Vec ℕ Global) ShelfFault → Type 0
GivesHeld None result = result ≡ Err Missing
GivesHeld (Some bytes) (Ok copy) = (copy.items ≡ bytes) × (length bytes ≤ file_limit)
GivesHeld (Some bytes) (Err TooLong) = file_limit < length bytes
GivesHeld (Some bytes) (Err NoMemory) = length bytes ≤ file_limit
GivesHeld (Some bytes) (Err Missing) = ⊥
GivesHeld (Some bytes) (Err Failed) = ⊥

-- the answer of a call, which is one of the failing ones or not
abbrev pub FailsOrGives : Bool → Option (List ℕ) → Result (Vec ℕ Global) ShelfFault → Type 0
FailsOrGives true holds result = result ≡ Err Failed
FailsOrGives false holds result = GivesHeld holds result

-- what the next fetch answers
abbrev pub Fetches : MemoryShelf → List ℕ → Result (Vec ℕ Global) ShelfFault → Type 0
Fetches shelf name result = FailsOrGives (is_next_named shelf.failing shelf.calls) (held shelf.files name) result

-- a drive: its blocks of 512 bytes
pub record MemoryDrive : Type 0 where
  pub blocks : List (List ℕ)
  pub failing : List ℕ
  pub calls : ℕ
  pub faults : ℕ

-- the drive after the next get, or after a set that fails
abbrev pub after_call : MemoryDrive → MemoryDrive
after_call drive = record drive {
  calls = saturated_successor drive.calls;
  faults = if is_next_named drive.failing drive.calls then saturated_successor drive.faults else drive.faults;
}

-- the drive after the next set
abbrev pub after_set : MemoryDrive → ℕ → List ℕ → MemoryDrive
after_set drive block bytes = record (after_call drive) { blocks = if is_next_named drive.failing drive.calls then drive.blocks else slice_set drive.blocks block bytes }

-- what the outside knows of it
abbrev pub kept_of : MemoryDrive → SeenDrive
kept_of drive = record { size = length drive.blocks; blocks = Some drive.blocks; faults = drive.faults }

-- a keyboard: the lines that are still to come, and what was on the output at each call
pub record MemoryKeyboard : Type 0 where
  pub coming : List (List ℕ)
  pub failing : List ℕ
  pub calls : ℕ
  pub faults : ℕ
  pub outputs : List Seen

-- the keyboard after the next call, which takes a line where one comes and it doesn't fail, while this was on the output
abbrev pub after_next : Seen → MemoryKeyboard → MemoryKeyboard
after_next out keyboard = record keyboard {
  coming = if is_next_named keyboard.failing keyboard.calls then keyboard.coming else drop 1 keyboard.coming;
  calls = saturated_successor keyboard.calls;
  faults = if is_next_named keyboard.failing keyboard.calls then saturated_successor keyboard.faults else keyboard.faults;
  outputs = keyboard.outputs ++ out ∷ [];
}

-- what the outside knows of it
abbrev pub keys_of : MemoryKeyboard → Keys
keys_of keyboard = record { coming = Some keyboard.coming; faults = keyboard.faults; outputs = keyboard.outputs }
