-- Each answer of a command that shows what a file stands for, and what it says of the shelf and the sink.
use Rattle.std.specs.Prelude.{ℕ, ◌≡◌, ◌<◌, ◌≤◌, List, length, take, Option, Some, None, Result, Ok, Err}
use Rattle.vv_io.specs.Causes.{Rose}
use Rattle.vv_io.specs.Lines.{Seen, shown_after}
use Rattle.vv_io.specs.Shelf.{File, held, file_limit}
use Rattle.vasm_text.specs.declared.fault.AsmFault.{AsmFault}
use Rattle.vvmm_files.specs.declared.answer.Answer.{Answer}
use Rattle.vvmm_files.specs.declared.answer.Answer.TheVariants.{Done, Missing, TooLong, ShelfFault, Asm, OutFault, NoMemory}

-- the shelf's files, where they are known, its count of faults before and after, and the sink
pub record ShelfAndSink : Type 0 where
  pub files : Option (List File)
  pub shelf : ℕ
  pub shelf' : ℕ
  pub out : Seen
  pub out' : Seen

-- the shelf lacks the file; where its files aren't known, its count of faults rose
abbrev pub Lacks : Option (List File) → List ℕ → ℕ → ℕ → Type 0
Lacks (Some files) name before now = held files name ≡ None
Lacks None name before now = Rose before now

-- the shelf's file is too long; where its files aren't known, its count of faults rose
abbrev pub HasTooLong : Option (List File) → List ℕ → ℕ → ℕ → Type 0
HasTooLong (Some files) name before now = (bytes : List ℕ) × (held files name ≡ Some bytes) × (file_limit < length bytes)
HasTooLong None name before now = Rose before now

-- what the shelf holds of the name, where that is known
abbrev pub IsHeld : Option (List File) → List ℕ → List ℕ → Type 0
IsHeld (Some files) name bytes = held files name ≡ Some bytes
IsHeld None name bytes = Unit {0}

-- the file that was fetched, within the limit; the shelf did not fail
pub record IsFetched (o : ShelfAndSink) (name bytes : List ℕ) : Type 0 where
  pub held : IsHeld o.files name bytes
  pub within : length bytes ≤ file_limit
  pub shelf : o.shelf' ≡ o.shelf

-- all of the bytes were shown, or a front of them while the sink's count rose
abbrev pub ShowsToSink : Answer → Seen → Seen → List ℕ → Type 0
ShowsToSink Done out out' bytes = (out'.faults ≡ out.faults) × (out'.shown ≡ shown_after out.shown bytes)
ShowsToSink OutFault out out' bytes = Rose out.faults out'.faults × ((n : ℕ) × (out'.shown ≡ shown_after out.shown (take n bytes)))
ShowsToSink _ out out' bytes = ⊥

-- a file was fetched for which these bytes are shown, and how that ended
abbrev pub FetchesAndShows : (List ℕ → Result (List ℕ) AsmFault) → List ℕ → Answer → ShelfAndSink → Type 0
FetchesAndShows made name answer o = (bytes : List ℕ) × (shown : List ℕ) × IsFetched o name bytes × (made bytes ≡ Ok shown) × ShowsToSink answer o.out o.out' shown

-- what an answer says, where `made` gives what a file stands for, or the line that is refused
abbrev pub FollowsFile : (List ℕ → Result (List ℕ) AsmFault) → List ℕ → Answer → ShelfAndSink → Type 0
FollowsFile made name Missing o = Lacks o.files name o.shelf o.shelf' × (o.out' ≡ o.out)
FollowsFile made name TooLong o = HasTooLong o.files name o.shelf o.shelf' × (o.out' ≡ o.out)
FollowsFile made name ShelfFault o = Rose o.shelf o.shelf' × (o.out' ≡ o.out)
FollowsFile made name NoMemory o = o.out' ≡ o.out
FollowsFile made name (Asm f) o = (bytes : List ℕ) × IsFetched o name bytes × (made bytes ≡ Err f) × (o.out' ≡ o.out)
FollowsFile made name answer o = FetchesAndShows made name answer o
