-- Which answer must be given to `solo`.
use Rattle.std.proofs.Common.{ℕ, ◌≡◌, ◌≤◌, ◌<◌, ◌+◌, inl, inr, List, [], ◌∷◌, length, slice_get, Bool, All, Option, Some, None, refl, subst, sym, ap, ◌∙◌, arith}
use Rattle.sys_runs.specs.Besides.{MissesArePaid}
use Rattle.std.proofs.lemmas.Bool.{le-ltb, lt-ltb}
use Rattle.vv_io.specs.Blocks.{SeenDrive}
use Rattle.vv_io.specs.Causes.{Rose}
use Rattle.vv_io.specs.Lines.{Seen}
use Rattle.vv_io.specs.Shelf.{File, held}
use Rattle.sys_devices.specs.Loads.{HasFailed}
use Rattle.sys_devices.specs.Rows.{FitsDrive}
use Rattle.sys_guests.specs.Loads.{first_misfit}
use Rattle.sys_objects.specs.declared.records.VolumeRow.{VolumeRow}
use Rattle.sys_state.specs.Places.{place_of}
use Rattle.vvmm_call.specs.Answer.{FollowsSolo, Outside, run_outside, fault_status}
use Rattle.vvmm_files.specs.Files.{IsRead, StopsFile}
use Rattle.vvmm_files.specs.Solo.{load_address, memory_size, solo_config}
use Rattle.vvmm_files.specs.Words.{SoloWords}
use Rattle.vvmm_files.specs.declared.status.Status.{Status}
use Rattle.vvmm_files.specs.declared.stop.CommandFault.{CommandFault}
use Rattle.vvmm_files.specs.declared.stop.CommandFault.TheVariants.{Missing, TooLong, ShelfFault, Config as ConfigRefused, Script as ScriptRefused, SnapSize, Snap as SnapRefused, NoMemory}
use Rattle.vvmm_laws.proofs.Played.{plays_image, plays_names_line, plays_served}
use Rattle.vvmm_laws.proofs.Told.{lacked, not_long, one_text, read_as, too_long}
use Rattle.vvmm_laws.specs.Complete.{CompletesImage, IsImageOf, IsLong, IsMissing, IsServed, IsTooLong, TellsImageLineFault, TellsImageMisfit, TellsImageMissing, TellsImageTooLong, line_at}

-- the image fits, and there is no volume
no_misfit : (a : SoloWords) (image : List ℕ) → load_address + length image ≤ memory_size → first_misfit (solo_config a).guests (image ∷ []) ≡ None
no_misfit a image fits = ap (λ b. place_of (λ (c : Bool). c) (b ∷ [])) (le-ltb memory_size (load_address + length image) fits)

-- or it doesn't fit
misfit : (a : SoloWords) (image : List ℕ) → memory_size < load_address + length image → first_misfit (solo_config a).guests (image ∷ []) ≡ Some 0
misfit a image more = ap (λ b. place_of (λ (c : Bool). c) (b ∷ [])) (lt-ltb memory_size (load_address + length image) more)

no_volume : (drives drives' : List SeenDrive) (d : ℕ) → HasFailed [] drives drives' d → ⊥
no_volume drives drives' d failed = there failed.place failed.row failed.stands
  where
    there : (v : ℕ) (row : VolumeRow) → (let rows : List VolumeRow = [] in slice_get rows v ≡ Some row) → ⊥
    there v row e = cc

all_fit : (drives : List SeenDrive) → All (FitsDrive drives) []
all_fit drives k e h = absurd (omega (arith, h))

module _ (files : List File) (name : List ℕ) (before now : ℕ) where
  -- the fetch of one file stops
  only_memory : (stop : CommandFault) (text : List ℕ) → StopsFile (Some files) name before now stop → IsRead (Some files) name text → (Rose before now → ⊥) → fault_status stop ≡ fault_status NoMemory
  only_memory (Missing n) text (same, lacks) read none = absurd (read_as files name n text same (lacked files n lacks) read)
  only_memory (TooLong n) text (same, long) read none = absurd (read_as files name n text same (too_long files n long) read)
  only_memory ShelfFault text rose read none = absurd (none rose)
  only_memory (ConfigRefused f) text h read none = absurd h
  only_memory (ScriptRefused f) text h read none = absurd h
  only_memory SnapSize text h read none = absurd h
  only_memory (SnapRefused f) text h read none = absurd h
  only_memory NoMemory text h read none = refl

  missing_stop : (stop : CommandFault) → StopsFile (Some files) name before now stop → held files name ≡ None → (Rose before now → ⊥) → IsMissing name (fault_status stop)
  missing_stop (Missing n) (same, rest) lacks none = same
  missing_stop (TooLong n) (same, long) lacks none = not_long files name n (sym same) lacks long
  missing_stop ShelfFault rose lacks none = none rose
  missing_stop (ConfigRefused f) h lacks none = h
  missing_stop (ScriptRefused f) h lacks none = h
  missing_stop SnapSize h lacks none = h
  missing_stop (SnapRefused f) h lacks none = h
  missing_stop NoMemory h lacks none = tt

  long_stop : (stop : CommandFault) → StopsFile (Some files) name before now stop → IsLong files name → (Rose before now → ⊥) → IsTooLong name (fault_status stop)
  long_stop (TooLong n) (same, rest) long none = same
  long_stop (Missing n) (same, lacks) long none = not_long files n name same lacks long
  long_stop ShelfFault rose long none = none rose
  long_stop (ConfigRefused f) h long none = h
  long_stop (ScriptRefused f) h long none = h
  long_stop SnapSize h long none = h
  long_stop (SnapRefused f) h long none = h
  long_stop NoMemory h long none = tt

-- the shelf's files are known
stops_told : (o : Outside) (files : List File) (name : List ℕ) (stop : CommandFault) → o.files ≡ Some files → StopsFile o.files name o.shelf o.shelf' stop → StopsFile (Some files) name o.shelf o.shelf' stop
stops_told o files name stop told why = subst (λ (f : Option (List File)). StopsFile f name o.shelf o.shelf' stop) told why

read_told : (o : Outside) (files : List File) (name text : List ℕ) → o.files ≡ Some files → IsRead o.files name text → IsRead (Some files) name text
read_told o files name text told read = subst (λ (f : Option (List File)). IsRead f name text) told read

pub completes_solo : CompletesImage (FollowsSolo MissesArePaid)
completes_solo a status o image files (inl (stops, silent)) told read fits none = subst (λ (s : Status). IsServed s) (sym (stops.is ∙ only_memory files a.image o.shelf o.shelf' stops.stop image (stops_told o files a.image stops.stop told stops.why) read none.shelf)) tt
completes_solo a status o image files (inr p) told read fits none =
    let same : image ≡ p.image = one_text files a.image image p.image read (read_told o files a.image p.image told p.read) in
    plays_served (solo_config a) (p.image ∷ []) [] 1 status (run_outside o) o.out o.out' p.plays (no_misfit a p.image (subst (λ (text : List ℕ). load_address + length text ≤ memory_size) same fits)) (all_fit o.drives) (no_volume o.drives o.drives') none.lines none.drives none.out

pub tells_solo_image : TellsImageMisfit (FollowsSolo MissesArePaid)
tells_solo_image a status o image files (inl (stops, silent)) told read more none = subst (λ (s : Status). IsImageOf 0 s) (sym (stops.is ∙ only_memory files a.image o.shelf o.shelf' stops.stop image (stops_told o files a.image stops.stop told stops.why) read none)) tt
tells_solo_image a status o image files (inr p) told read more none =
    let same : image ≡ p.image = one_text files a.image image p.image read (read_told o files a.image p.image told p.read) in
    plays_image (solo_config a) (p.image ∷ []) [] 1 status (run_outside o) o.out o.out' p.plays 0 (misfit a p.image (subst (λ (text : List ℕ). memory_size < load_address + length text) same more))

pub tells_solo_missing : TellsImageMissing (FollowsSolo MissesArePaid)
tells_solo_missing a status o files (inl (stops, silent)) told lacks none = subst (λ (s : Status). IsMissing a.image s) (sym stops.is) (missing_stop files a.image o.shelf o.shelf' stops.stop (stops_told o files a.image stops.stop told stops.why) lacks none)
tells_solo_missing a status o files (inr p) told lacks none = absurd (lacked files a.image lacks p.image (read_told o files a.image p.image told p.read))

pub tells_solo_too_long : TellsImageTooLong (FollowsSolo MissesArePaid)
tells_solo_too_long a status o files (inl (stops, silent)) told long none = subst (λ (s : Status). IsTooLong a.image s) (sym stops.is) (long_stop files a.image o.shelf o.shelf' stops.stop (stops_told o files a.image stops.stop told stops.why) long none)
tells_solo_too_long a status o files (inr p) told long none = absurd (too_long files a.image long p.image (read_told o files a.image p.image told p.read))

pub tells_solo_device : TellsImageLineFault (FollowsSolo MissesArePaid)
tells_solo_device a status o k (inl (stops, silent)) h = absurd (omega (arith, h, ap (λ (ls : List Seen). (line_at ls k).faults) silent.run.shown.lines))
tells_solo_device a status o k (inr p) h = plays_names_line (solo_config a) (p.image ∷ []) [] 1 status (run_outside o) o.out o.out' p.plays k h
