-- `save`, any number of `extend`, each of what the one before it showed, and `resume` are one run.
use Rattle.std.specs.Prelude.{ℕ, ◌≡◌, ◌+◌, List, [], ◌∷◌, ◌++◌, map, Some, All}
use Rattle.sys_runs.specs.Besides.{MissesArePaid}
use Rattle.vv_io.specs.Lines.{shown_after}
use Rattle.vv_io.specs.Shelf.{File, held}
use Rattle.sys_devices.specs.Loads.{AreLoaded}
use Rattle.sys_devices.specs.Rows.{drive_at}
use Rattle.sys_devices.specs.Stores.{known_after}
use Rattle.sys_purge.specs.Laws.{shown_on}
use Rattle.sys_runs.specs.Saved.{last_moment}
use Rattle.sys_snap.specs.Written.{snap_bytes}
use Rattle.sys_state.specs.Bytes.{drive_blocks, line_bytes}
use Rattle.sys_state.specs.Run.{Input}
use Rattle.vvmm_call.specs.Answer.{FollowsExtend, FollowsResume, FollowsSave, Outside}
use Rattle.vvmm_files.specs.Files.{HasAll}
use Rattle.vvmm_files.specs.Words.{ResumeWords, RunWords}
use Rattle.vvmm_files.specs.declared.status.Status.TheVariants.{Done}
use Rattle.vvmm_laws.specs.Complete.{line_at}

-- The second goes on from what the first, of this script, showed: the file that it names is what `out` was shown, and the scripts
-- are the same bytes.
pub record AreJoined (script : List ℕ) (b : ResumeWords) (o p : Outside) : Type 0 where
  pub files : List File
  pub files' : List File
  pub first : o.files ≡ Some files
  pub second : p.files ≡ Some files'
  pub before : List ℕ
  pub snap : List ℕ
  pub told : o.out.shown ≡ Some before
  pub shown : o.out'.shown ≡ Some (before ++ snap)
  pub holds_snap : held files' b.snap ≡ Some snap
  pub same_script : held files' b.script ≡ held files script

-- one `extend`: what it was asked, and the outside
pub record Extension : Type 0 where
  pub asked : ResumeWords
  pub outside : Outside

-- each was done, and goes on from what the one before it showed
abbrev pub AreChained : (script : List ℕ) → Outside → List Extension → Type 0
AreChained script o [] = Unit {0}
AreChained script o (x ∷ xs) = (FollowsExtend MissesArePaid) x.asked Done x.outside × AreJoined script x.asked o x.outside × AreChained x.asked.script x.outside xs

-- the last of a chain: its script, and the outside
abbrev pub last_script : List ℕ → List Extension → List ℕ
last_script script [] = script
last_script script (x ∷ xs) = last_script x.asked.script xs

abbrev pub last_outside : Outside → List Extension → Outside
last_outside o [] = o
last_outside o (x ∷ xs) = last_outside x.outside xs

abbrev pub rounds_of : List Extension → ℕ
rounds_of [] = 0
rounds_of (x ∷ xs) = x.asked.rounds + rounds_of xs

abbrev pub outsides : List Extension → List Outside
outsides xs = map (λ (x : Extension). x.outside) xs

-- what a line gets in each, one after another
abbrev pub GetsInAll : ℕ → List Outside → List ℕ → Type 0
GetsInAll k [] bytes = bytes ≡ []
GetsInAll k (o ∷ os) bytes = (own : List ℕ) × (rest : List ℕ) × ((line_at o.lines' k).shown ≡ shown_after (line_at o.lines k).shown own) × GetsInAll k os rest × (own ++ rest ≡ bytes)

-- They are the run of the same files over the volumes that the drives held at first, of all rounds: each line gets its bytes, and
-- each volume's drive ends with its last blocks.
pub record AreOneRun (a : RunWords) (b : ResumeWords) (o : Outside) (xs : List Extension) (p : Outside) : Type 0 where
  pub input : Input
  pub has : HasAll o.files a input.config input.events input.images
  pub rounds : input.rounds ≡ a.rounds + rounds_of xs + b.rounds
  pub loaded : AreLoaded input.config.volumes o.drives input.volumes
  pub lines : (k : ℕ) → GetsInAll k (o ∷ outsides xs ++ p ∷ []) (line_bytes input k)
  pub drives : All (λ row. (drive_at p.drives' row.drive).blocks ≡ known_after (drive_at p.drives row.drive).blocks (drive_blocks input row.drive)) input.config.volumes

-- They are `save` of all rounds: each line gets what that shows, and the last showed its snapshot.
pub record AreOneSave (a : RunWords) (o : Outside) (xs : List Extension) : Type 0 where
  pub input : Input
  pub has : HasAll o.files a input.config input.events input.images
  pub rounds : input.rounds ≡ a.rounds + rounds_of xs
  pub loaded : AreLoaded input.config.volumes o.drives input.volumes
  pub lines : (k : ℕ) → GetsInAll k (o ∷ outsides xs) (shown_on input k)
  pub shows : (last_outside o xs).out'.shown ≡ shown_after (last_outside o xs).out.shown (snap_bytes has.config.text (last_moment input))

abbrev pub PartsMakeOne : Type 0
PartsMakeOne = (a : RunWords) (b : ResumeWords) (o : Outside) (xs : List Extension) (p : Outside) → (FollowsSave MissesArePaid) a Done o → AreChained a.script o xs → (FollowsResume MissesArePaid) b Done p → AreJoined (last_script a.script xs) b (last_outside o xs) p → AreOneRun a b o xs p

abbrev pub SavesMakeOne : Type 0
SavesMakeOne = (a : RunWords) (o : Outside) (xs : List Extension) → (FollowsSave MissesArePaid) a Done o → AreChained a.script o xs → AreOneSave a o xs
