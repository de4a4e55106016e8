-- Why a command's files give nothing: the fetch of images as one, and of a script and images as parts of a run's.
use Rattle.std.proofs.Common.{ℕ, zero, suc, ◌≡◌, ◌+◌, inl, inr, List, [], ◌∷◌, ◌++◌, length, map, take, refl, sym, ap, subst, ◌∙◌, arith, Option, Some, Err, Vec, Global}
use Rattle.std.proofs.lemmas.List.{map-append}
use Rattle.std.specs.List.{slice_get}
use Rattle.vv_io.specs.Shelf.{File}
use Rattle.sys_objects.specs.declared.records.Config.{Config}
use Rattle.sys_objects.specs.declared.records.GuestRow.{GuestRow}
use Rattle.sys_script.specs.declared.event.Event.{Event}
use Rattle.vvmm_files.specs.Fetches.{MeansSnap, StopsAtImages, StopsScript, StopsSnap}
use Rattle.vvmm_files.specs.Files.{AreImages, FitsSnap, HasConfig, HasScript, IsImageToSave, IsRead, StopsExtend, StopsFile, StopsResume, StopsSave}
use Rattle.vvmm_files.specs.Words.{ResumeWords, RunWords}
use Rattle.vvmm_files.specs.declared.stop.CommandFault.{CommandFault}
use Rattle.vvmm_files.specs.declared.stop.CommandFault.TheVariants.{Missing, TooLong, ShelfFault, Config as ConfigRefused, Script as ScriptRefused, SnapSize, Snap as SnapRefused, NoMemory}

-- the image of a guest wasn't fetched, and those of the guests before it were
pub stops_images : (files : Option (List File)) (rows : List GuestRow) (before now n : ℕ) (row : GuestRow) (images : List (List ℕ)) (stop : CommandFault) → AreImages files (take n rows) images → slice_get rows n ≡ Some row → StopsFile files row.image before now stop → StopsAtImages files rows before now stop
stops_images files rows before now n row images (Missing name) fetched stands h = record { images = images; guest = n; row = row; fetched = fetched; stands = stands; why = h }
stops_images files rows before now n row images (TooLong name) fetched stands h = record { images = images; guest = n; row = row; fetched = fetched; stands = stands; why = h }
stops_images files rows before now n row images ShelfFault fetched stands h = record { images = images; guest = n; row = row; fetched = fetched; stands = stands; why = h }
stops_images files rows before now n row images (ConfigRefused f) fetched stands h = absurd h
stops_images files rows before now n row images (ScriptRefused f) fetched stands h = absurd h
stops_images files rows before now n row images SnapSize fetched stands h = absurd h
stops_images files rows before now n row images (SnapRefused f) fetched stands h = absurd h
stops_images files rows before now n row images NoMemory fetched stands h = tt

-- one image more
pub one_image_more : (files : Option (List File)) (rows : List GuestRow) (n : ℕ) (row : GuestRow) (images : List (List ℕ)) (image : List ℕ) → slice_get rows n ≡ Some row → AreImages files (take n rows) images → IsRead files row.image image → AreImages files (take (suc n) rows) (images ++ image ∷ [])
one_image_more files [] n row images image stands fetched read = cc
one_image_more files (first ∷ rows) zero row [] image stands fetched read = (subst (λ (r : GuestRow). IsRead files r.image image) (sym (first_is first row stands)) read, tt)
  where
    first_is : (a b : GuestRow) → (let o : Option GuestRow = Some a in o ≡ Some b) → a ≡ b
    first_is a b e = cc
one_image_more files (first ∷ rows) zero row (other ∷ images) image stands fetched read = absurd fetched
one_image_more files (first ∷ rows) (suc n) row [] image stands fetched read = absurd fetched
one_image_more files (first ∷ rows) (suc n) row (other ∷ images) image stands fetched read = (fetched.0, one_image_more files rows n row images image stands fetched.1 read)

-- the fetch of the next image stopped
pub fetch_stops : (files files' : Option (List File)) (rows : List GuestRow) (before before' now n : ℕ) (row : GuestRow) (images : List (List ℕ)) (stop : CommandFault) → files' ≡ files → before' ≡ before → AreImages files (take n rows) images → slice_get rows n ≡ Some row → StopsFile files' row.image before' now stop
    → StopsAtImages files rows before now stop
fetch_stops files files' rows before before' now n row images stop same none fetched stands why =
    stops_images files rows before now n row images stop fetched stands (subst (λ (fs : Option (List File)). StopsFile fs row.image before now stop) same (subst (λ (b : ℕ). StopsFile files' row.image b now stop) none why))

-- the next image was fetched
abbrev items : Vec ℕ Global → List ℕ
items v = v.items

pub one_more_fetched : (files files' : Option (List File)) (rows : List GuestRow) (n : ℕ) (row : GuestRow) (images images' : List (Vec ℕ Global)) (image : Vec ℕ Global) → files' ≡ files → images' ≡ images ++ image ∷ [] → slice_get rows n ≡ Some row → AreImages files (take n rows) (map items images) → IsRead files' row.image image.items
    → AreImages files (take (n + 1) rows) (map items images')
one_more_fetched files files' rows n row images images' image same pushed stands fetched read =
    let more : AreImages files (take (suc n) rows) (map items images ++ image.items ∷ []) = one_image_more files rows n row (map items images) image.items stands fetched (subst (λ (fs : Option (List File)). IsRead fs row.image image.items) same read) in
    let shown : map items images ++ image.items ∷ [] ≡ map items images' = sym (ap (map items) pushed ∙ map-append items images (image ∷ [])) in
    let next : suc n ≡ n + 1 = omega arith in
    subst (λ (m : ℕ). AreImages files (take m rows) (map items images')) next (subst (λ (xs : List (List ℕ)). AreImages files (take (suc n) rows) xs) shown more)

-- as many images as guests
pub as_many_images : (files : Option (List File)) (rows : List GuestRow) (images : List (List ℕ)) → AreImages files rows images → length images ≡ length rows
as_many_images files [] [] h = refl
as_many_images files [] (image ∷ images) h = absurd h
as_many_images files (row ∷ rows) [] h = absurd h
as_many_images files (row ∷ rows) (image ∷ images) h = ap suc (as_many_images files rows images h.1)

-- a run that is to be saved stops at its script
module _ (files : Option (List File)) (a : RunWords) (before now : ℕ) (c : Config) (has : HasConfig files a.config c) where
  at_script : (stop : CommandFault) → StopsScript files a.script before now stop → StopsSave files a before now stop
  at_script (Missing n) h = (inr (inl (record { config = c; has = has; is = h.0 })), h.1)
  at_script (TooLong n) h = (inr (inl (record { config = c; has = has; is = h.0 })), h.1)
  at_script ShelfFault h = h
  at_script (ConfigRefused f) h = absurd h
  at_script (ScriptRefused f) h = (c, has, h.0, h.1)
  at_script SnapSize h = absurd h
  at_script (SnapRefused f) h = h
  at_script NoMemory h = h

pub script_stops_save : (files files' : Option (List File)) (a : RunWords) (before before' now : ℕ) (c : Config) → HasConfig files a.config c → files' ≡ files → before' ≡ before → (stop : CommandFault) → StopsScript files' a.script before' now stop → StopsSave files a before now stop
script_stops_save files files' a before before' now c has same none stop why =
    at_script files a before now c has stop (subst (λ (fs : Option (List File)). StopsScript fs a.script before now stop) same (subst (λ (b : ℕ). StopsScript files' a.script b now stop) none why))

-- .. or at an image, where a snapshot can be written
module _ (files : Option (List File)) (a : RunWords) (before now : ℕ) (c : Config) (es : List Event) (has : HasConfig files a.config c) (has_script : HasScript files a.script es) (fits : FitsSnap has.text c) where
  is_next : (name : List ℕ) (images : List (List ℕ)) (guest : ℕ) (row : GuestRow) → AreImages files (take guest c.guests) images → slice_get c.guests guest ≡ Some row → name ≡ row.image → IsImageToSave files a name
  is_next name images guest row fetched stands is = record {
    image = record { config = c; events = es; images = images; guest = guest; row = row; has_config = has; has_script = has_script; before = fetched; stands = stands; is = is };
    fits = fits;
  }

  at_image : (stop : CommandFault) → StopsAtImages files c.guests before now stop → StopsSave files a before now stop
  at_image (Missing n) h = (inr (inr (is_next n h.images h.guest h.row h.fetched h.stands h.why.0)), h.why.1)
  at_image (TooLong n) h = (inr (inr (is_next n h.images h.guest h.row h.fetched h.stands h.why.0)), h.why.1)
  at_image ShelfFault h = h.why
  at_image (ConfigRefused f) h = absurd h.why
  at_image (ScriptRefused f) h = absurd h.why
  at_image SnapSize h = absurd h.why
  at_image (SnapRefused f) h = absurd h.why
  at_image NoMemory h = h

pub images_stop_save : (files files' : Option (List File)) (a : RunWords) (before before' now : ℕ) (c : Config) (es : List Event) (rows : List GuestRow) (has : HasConfig files a.config c) → HasScript files a.script es → FitsSnap has.text c → files' ≡ files → before' ≡ before → rows ≡ c.guests → (stop : CommandFault) → StopsAtImages files' rows before' now stop
    → StopsSave files a before now stop
images_stop_save files files' a before before' now c es rows has has_script fits same none are_rows stop why =
    at_image files a before now c es has has_script fits stop (subst (λ (rs : List GuestRow). StopsAtImages files rs before now stop) are_rows
    (subst (λ (fs : Option (List File)). StopsAtImages fs rows before now stop) same (subst (λ (b : ℕ). StopsAtImages files' rows b now stop) none why)))

-- the bytes of a file aren't read as a snapshot
stops_so : (files : Option (List File)) (name bytes : List ℕ) (before now : ℕ) (stop : CommandFault) → IsRead files name bytes → now ≡ before → MeansSnap bytes (Err stop) → StopsSnap files name before now stop
stops_so files name bytes before now (Missing n) read same never = absurd never
stops_so files name bytes before now (TooLong n) read same never = absurd never
stops_so files name bytes before now ShelfFault read same never = absurd never
stops_so files name bytes before now (ConfigRefused f) read same never = absurd never
stops_so files name bytes before now (ScriptRefused f) read same never = absurd never
stops_so files name bytes before now SnapSize read same never = absurd never
stops_so files name bytes before now (SnapRefused f) read same refused = (record { bytes = bytes; read = read; refused = refused }, same)
stops_so files name bytes before now NoMemory read same nothing = tt

pub stops_snap : (files : Option (List File)) (name bytes given : List ℕ) (before now : ℕ) (stop : CommandFault) → IsRead files name bytes → now ≡ before → given ≡ bytes → MeansSnap given (Err stop) → StopsSnap files name before now stop
stops_snap files name bytes given before now stop read same are means = stops_so files name bytes before now stop read same (subst (λ (bs : List ℕ). MeansSnap bs (Err stop)) are means)

-- where no run goes on, none goes on and is saved
pub stops_extend : (files : Option (List File)) (a : ResumeWords) (before now : ℕ) (stop : CommandFault) → StopsResume files a before now stop → StopsExtend files a before now stop
stops_extend files a before now (Missing n) why = why
stops_extend files a before now (TooLong n) why = why
stops_extend files a before now ShelfFault why = why
stops_extend files a before now (ConfigRefused f) why = why
stops_extend files a before now (ScriptRefused f) why = why
stops_extend files a before now SnapSize never = absurd never
stops_extend files a before now (SnapRefused f) why = why
stops_extend files a before now NoMemory why = why
