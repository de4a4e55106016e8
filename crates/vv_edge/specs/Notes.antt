-- What is reported of devices beside an answer.
use Rattle.std.specs.Prelude.{ℕ, ◌/◌, ◌%◌, max, List, [], ◌∷◌, ◌++◌, ◌==◌, ◌||◌, Bool, true, false, if◌then◌else◌, codes, decimal, Option, Some, None, slice_set}
use Rattle.std.specs.List.{flat_map}
use Rattle.vv_edge.specs.declared.stat.Flaw.{Flaw}
use Rattle.vv_edge.specs.declared.stat.Flaw.TheVariants.{Untold, Link, NoFile, OtherName, Shared}
use Rattle.vv_edge.specs.declared.telling.Note.{Note}
use Rattle.vv_edge.specs.declared.telling.Note.TheVariants.{Flawed, Wanted, Line, Audit, Drive, Busy, Unlocked, FewPlaces}
use Rattle.vv_edge.specs.declared.telling.Stored.{Stored}

abbrev pub flaw_text : Flaw → List ℕ
flaw_text Untold = codes " cannot be looked at"
flaw_text Link = codes " is a link"
flaw_text NoFile = codes " is no file"
flaw_text OtherName = codes " is a file that has another name too"
flaw_text Shared = codes " is a file that is used otherwise"

-- what a line that failed is called
abbrev pub failed_line : ℕ → Option ℕ → Note
failed_line line None = Line line
failed_line line (Some audit) = if line == audit then Audit line else Line line

-- the note on a line, where it failed
abbrev pub line_note : ℕ → Bool → Option ℕ → Option Note
line_note line false audit = None
line_note line true audit = Some (failed_line line audit)

-- a number and what is said after it
abbrev pub with_number : List ℕ → ℕ → List ℕ → List ℕ
with_number before number after = (before ++ decimal number) ++ after

-- a note without its end
abbrev pub note_text : Note → List ℕ
note_text (Flawed drive flaw) = with_number (codes "vvmm: drive ") drive (flaw_text flaw)
note_text (Wanted drive blocks) = with_number (with_number (codes "vvmm: drive ") drive (codes " must have ")) blocks (codes " blocks of 512 bytes")
note_text (Line line) = with_number (codes "vvmm: line ") line (codes " failed")
note_text (Audit line) = with_number (codes "vvmm: line ") line (codes ", the audit, failed")
note_text (Drive d) = with_number (with_number (with_number (codes "vvmm: drive ") d.drive (codes " failed: ")) d.stored (codes " of its ")) d.blocks (codes " blocks were stored")
note_text Busy = codes "vvmm: another vvmm runs in this folder"
note_text Unlocked = codes "vvmm: this folder cannot be locked: run no other vvmm in it"
note_text FewPlaces = codes "vvmm: too few descriptors: raise ulimit -n"

-- a note as a line, if there is one
abbrev pub note_if : Option Note → List ℕ
note_if None = []
note_if (Some note) = note_text note ++ 10 ∷ []

abbrev pub notes_of : List (Option Note) → List ℕ
notes_of notes = flat_map note_if notes

-- notes on drives, and that one more failed
abbrev pub with_failed : List (Option Note) → Stored → List (Option Note)
with_failed notes drive = slice_set notes drive.drive (Some (Drive drive))

-- a run is reported on after each hundredth of its rounds, and at the end
abbrev pub is_mark : ℕ → ℕ → Bool
is_mark rounds of = (rounds % max (of / 100) 1 == 0) || (rounds == of)

-- how many of a run's rounds were made, over what was shown before; the last is a line
abbrev pub round_note : ℕ → ℕ → List ℕ
round_note rounds of = with_number (with_number (codes "\rvvmm: round ") rounds (codes " of ")) of (if rounds == of then 10 ∷ [] else [])
