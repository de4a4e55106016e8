-- The files of a run in the order in which they are fetched: the first that can't be read is one.
use Rattle.std.proofs.Common.{ℕ, zero, suc, ◌≡◌, inl, inr, List, [], ◌∷◌, take, Some, subst, sym, ap, ◌∙◌}
use Rattle.std.specs.List.{slice_get}
use Rattle.vv_io.specs.Shelf.{File}
use Rattle.sys_objects.specs.declared.errors.ConfigFault.{ConfigFault}
use Rattle.sys_objects.specs.declared.records.Config.{Config}
use Rattle.sys_objects.specs.declared.records.GuestRow.{GuestRow}
use Rattle.sys_script.specs.declared.event.Event.{Event}
use Rattle.sys_script.specs.declared.event.ScriptFault.{ScriptFault}
use Rattle.vvmm_files.specs.Files.{AreImages, HasAll, HasConfig, HasScript, IsConfigRefused, IsImage, IsNextFile, IsRead, IsScriptRefused}
use Rattle.vvmm_files.specs.Words.{RunWords}
use Rattle.vvmm_laws.proofs.Told.{Unread, image_read, not_config, not_script, one_config, read_as}

-- the first row whose image can't be read
pub first_unread : (files : List File) (rows : List GuestRow) (xs ys : List (List ℕ)) (g h : ℕ) (row other : GuestRow) → AreImages (Some files) (take g rows) xs → AreImages (Some files) (take h rows) ys
    → slice_get rows g ≡ Some row → slice_get rows h ≡ Some other → Unread files row.image → Unread files other.image → row ≡ other
first_unread files [] xs ys g h row other a b at place none gone = cc
first_unread files (r ∷ rows) xs ys zero zero row other a b at place none gone = cc
first_unread files (r ∷ rows) xs [] zero (suc h) row other a b at place none gone = absurd b
first_unread files (r ∷ rows) xs (y ∷ ys) zero (suc h) row other a (read, b) at place none gone = let same : r ≡ row = cc (at) in absurd (none y (subst (λ (k : GuestRow). IsRead (Some files) k.image y) same read))
first_unread files (r ∷ rows) [] ys (suc g) zero row other a b at place none gone = absurd a
first_unread files (r ∷ rows) (x ∷ xs) ys (suc g) zero row other (read, a) b at place none gone = let same : r ≡ other = cc (place) in absurd (gone x (subst (λ (k : GuestRow). IsRead (Some files) k.image x) same read))
first_unread files (r ∷ rows) [] ys (suc g) (suc h) row other a b at place none gone = absurd a
first_unread files (r ∷ rows) (x ∷ xs) [] (suc g) (suc h) row other a b at place none gone = absurd b
first_unread files (r ∷ rows) (x ∷ xs) (y ∷ ys) (suc g) (suc h) row other (read, a) (text, b) at place none gone = first_unread files rows xs ys g h row other a b at place none gone

same_image : (files : List File) (a : RunWords) (n m : List ℕ) → IsImage (Some files) a n → IsImage (Some files) a m → Unread files n → Unread files m → n ≡ m
same_image files a n m s t none gone =
    let same : t.config ≡ s.config = one_config files a.config t.config s.config t.has_config s.has_config in
    let before : AreImages (Some files) (take t.guest s.config.guests) t.images = subst (λ (c : Config). AreImages (Some files) (take t.guest c.guests) t.images) same t.before in
    let stands : slice_get s.config.guests t.guest ≡ Some t.row = subst (λ (c : Config). slice_get c.guests t.guest ≡ Some t.row) same t.stands in
    let rows : s.row ≡ t.row = first_unread files s.config.guests s.images t.images s.guest t.guest s.row t.row s.before before s.stands stands (subst (Unread files) s.is none) (subst (Unread files) t.is gone) in
    s.is ∙ ap (λ (row : GuestRow). row.image) rows ∙ sym t.is

pub config_read : (files : List File) (a : RunWords) (n : List ℕ) (c : Config) → n ≡ a.config → Unread files n → HasConfig (Some files) a.config c → ⊥
config_read files a n c same none has = read_as files a.config n has.text same none has.read

pub script_read : (files : List File) (a : RunWords) (n : List ℕ) (es : List Event) → n ≡ a.script → Unread files n → HasScript (Some files) a.script es → ⊥
script_read files a n es same none has = read_as files a.script n has.text same none has.read

-- two files that are fetched next, and can't be read, are one
pub same_next : (files : List File) (a : RunWords) (n m : List ℕ) → IsNextFile (Some files) a n → IsNextFile (Some files) a m → Unread files n → Unread files m → n ≡ m
same_next files a n m (inl e) (inl f) none gone = e ∙ sym f
same_next files a n m (inl e) (inr (inl t)) none gone = absurd (config_read files a n t.config e none t.has)
same_next files a n m (inl e) (inr (inr t)) none gone = absurd (config_read files a n t.config e none t.has_config)
same_next files a n m (inr (inl s)) (inl f) none gone = absurd (config_read files a m s.config f gone s.has)
same_next files a n m (inr (inr s)) (inl f) none gone = absurd (config_read files a m s.config f gone s.has_config)
same_next files a n m (inr (inl s)) (inr (inl t)) none gone = s.is ∙ sym t.is
same_next files a n m (inr (inl s)) (inr (inr t)) none gone = absurd (script_read files a n t.events s.is none t.has_script)
same_next files a n m (inr (inr s)) (inr (inl t)) none gone = absurd (script_read files a m s.events t.is gone s.has_script)
same_next files a n m (inr (inr s)) (inr (inr t)) none gone = same_image files a n m s t none gone

-- where all files are read, there is none
pub all_read : (files : List File) (a : RunWords) (n : List ℕ) (c : Config) (es : List Event) (images : List (List ℕ)) → HasAll (Some files) a c es images → IsNextFile (Some files) a n → Unread files n → ⊥
all_read files a n c es images has (inl e) none = config_read files a n c e none has.config
all_read files a n c es images has (inr (inl s)) none = script_read files a n es s.is none has.script
all_read files a n c es images has (inr (inr t)) none =
    let same : t.config ≡ c = one_config files a.config t.config c t.has_config has.config in
    let stands : slice_get c.guests t.guest ≡ Some t.row = subst (λ (d : Config). slice_get d.guests t.guest ≡ Some t.row) same t.stands in
    image_read files c.guests images t.guest t.row has.fetched stands (subst (Unread files) t.is none)

-- .. and where the configuration is refused, or the script
pub rule_read : (files : List File) (a : RunWords) (n : List ℕ) (f : ConfigFault) → IsConfigRefused (Some files) a.config f → IsNextFile (Some files) a n → Unread files n → ⊥
rule_read files a n f refused (inl e) none = read_as files a.config n refused.text e none refused.read
rule_read files a n f refused (inr (inl s)) none = not_config files a.config s.config f s.has refused
rule_read files a n f refused (inr (inr t)) none = not_config files a.config t.config f t.has_config refused

pub line_read : (files : List File) (a : RunWords) (n : List ℕ) (c : Config) (f : ScriptFault) → HasConfig (Some files) a.config c → IsScriptRefused (Some files) a.script f → IsNextFile (Some files) a n → Unread files n → ⊥
line_read files a n c f has refused (inl e) none = config_read files a n c e none has
line_read files a n c f has refused (inr (inl s)) none = read_as files a.script n refused.text s.is none refused.read
line_read files a n c f has refused (inr (inr t)) none = not_script files a.script t.events f t.has_script refused
