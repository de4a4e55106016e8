-- A shelf whose files are known: what is under one name is one thing.
use Rattle.std.proofs.Common.{ℕ, zero, suc, ◌≡◌, List, [], ◌∷◌, length, Option, Some, None, Result, Ok, Err, refl, subst, sym, ap, ◌∙◌, arith}
use Rattle.std.specs.List.{slice_get}
use Rattle.vv_io.specs.Shelf.{File, held}
use Rattle.sys_config.specs.Config.{config_of}
use Rattle.sys_objects.specs.declared.errors.ConfigFault.{ConfigFault}
use Rattle.sys_objects.specs.declared.records.Config.{Config}
use Rattle.sys_objects.specs.declared.records.GuestRow.{GuestRow}
use Rattle.sys_script.specs.Script.{script_of}
use Rattle.sys_script.specs.declared.event.Event.{Event}
use Rattle.sys_script.specs.declared.event.ScriptFault.{ScriptFault}
use Rattle.vvmm_files.specs.Files.{AreImages, HasConfig, HasScript, IsConfigRefused, IsRead, IsScriptRefused}
use Rattle.vvmm_laws.specs.Complete.{IsLong}

pub one_value : {X : Type 0} (r : Option X) (x y : X) → r ≡ Some x → r ≡ Some y → x ≡ y
one_value r x y e f = cc

nothing_there : {X : Type 0} (r : Option X) (x : X) → r ≡ None → r ≡ Some x → ⊥
nothing_there r x e f = cc

pub one_made : {T E : Type 0} (r : Result T E) (x y : T) → r ≡ Ok x → r ≡ Ok y → x ≡ y
one_made r x y e f = cc

pub one_error : {T E : Type 0} (r : Result T E) (x y : E) → r ≡ Err x → r ≡ Err y → x ≡ y
one_error r x y e f = cc

pub not_both : {T E : Type 0} (r : Result T E) (x : T) (y : E) → r ≡ Ok x → r ≡ Err y → ⊥
not_both r x y e f = cc

-- what is read of a name is one
pub one_text : (files : List File) (name x y : List ℕ) → IsRead (Some files) name x → IsRead (Some files) name y → x ≡ y
one_text files name x y a b = one_value (held files name) x y a.held b.held

-- a name of which nothing can be read
abbrev pub Unread : List File → List ℕ → Type 0
Unread files name = (text : List ℕ) → IsRead (Some files) name text → ⊥

pub lacked : (files : List File) (name : List ℕ) → held files name ≡ None → Unread files name
lacked files name lacks text read = nothing_there (held files name) text lacks read.held

pub too_long : (files : List File) (name : List ℕ) → IsLong files name → Unread files name
too_long files name (bytes, is_held, more) text read =
    let same : bytes ≡ text = one_value (held files name) bytes text is_held read.held in
    absurd (omega (arith, ap length same, more, read.within))

-- a file that the shelf lacks isn't too long
pub not_long : (files : List File) (name other : List ℕ) → name ≡ other → held files name ≡ None → IsLong files other → ⊥
not_long files name other same lacks (bytes, is_held, more) = nothing_there (held files name) bytes lacks (ap (held files) same ∙ is_held)

-- a text, by another name of it
pub read_as : (files : List File) (name other text : List ℕ) → other ≡ name → Unread files other → IsRead (Some files) name text → ⊥
read_as files name other text same none read = none text (subst (λ (n : List ℕ). IsRead (Some files) n text) (sym same) read)

pub one_config : (files : List File) (name : List ℕ) (c d : Config) → HasConfig (Some files) name c → HasConfig (Some files) name d → c ≡ d
one_config files name c d a b = one_made (config_of b.text) c d (ap config_of (one_text files name b.text a.text b.read a.read) ∙ a.means) b.means

pub one_rule : (files : List File) (name : List ℕ) (f g : ConfigFault) → IsConfigRefused (Some files) name f → IsConfigRefused (Some files) name g → f ≡ g
one_rule files name f g a b = one_error (config_of b.text) f g (ap config_of (one_text files name b.text a.text b.read a.read) ∙ a.refused) b.refused

pub not_config : (files : List File) (name : List ℕ) (c : Config) (f : ConfigFault) → HasConfig (Some files) name c → IsConfigRefused (Some files) name f → ⊥
not_config files name c f a b = not_both (config_of b.text) c f (ap config_of (one_text files name b.text a.text b.read a.read) ∙ a.means) b.refused

pub one_line : (files : List File) (name : List ℕ) (f g : ScriptFault) → IsScriptRefused (Some files) name f → IsScriptRefused (Some files) name g → f ≡ g
one_line files name f g a b = one_error (script_of b.text) f g (ap script_of (one_text files name b.text a.text b.read a.read) ∙ a.refused) b.refused

pub not_script : (files : List File) (name : List ℕ) (es : List Event) (f : ScriptFault) → HasScript (Some files) name es → IsScriptRefused (Some files) name f → ⊥
not_script files name es f a b = not_both (script_of b.text) es f (ap script_of (one_text files name b.text a.text b.read a.read) ∙ a.means) b.refused

-- the images of rows are one
pub one_images : (files : List File) (rows : List GuestRow) (xs ys : List (List ℕ)) → AreImages (Some files) rows xs → AreImages (Some files) rows ys → xs ≡ ys
one_images files [] [] [] a b = refl
one_images files [] [] (y ∷ ys) a b = absurd b
one_images files [] (x ∷ xs) ys a b = absurd a
one_images files (row ∷ rows) [] ys a b = absurd a
one_images files (row ∷ rows) (x ∷ xs) [] a b = absurd b
one_images files (row ∷ rows) (x ∷ xs) (y ∷ ys) (a, more) (b, others) =
    let first : x ≡ y = one_text files row.image x y a b in
    let rest : xs ≡ ys = one_images files rows xs ys more others in
    λ i. first i ∷ rest i

-- a guest's row among those whose images are read
pub image_read : (files : List File) (rows : List GuestRow) (images : List (List ℕ)) (g : ℕ) (row : GuestRow) → AreImages (Some files) rows images → slice_get rows g ≡ Some row → Unread files row.image → ⊥
image_read files [] images g row all at none = cc
image_read files (r ∷ rows) [] g row all at none = all
image_read files (r ∷ rows) (x ∷ images) zero row (here, rest) at none = let same : r ≡ row = cc (at) in none x (subst (λ (k : GuestRow). IsRead (Some files) k.image x) same here)
image_read files (r ∷ rows) (x ∷ images) (suc g) row (here, rest) at none = image_read files rows images g row rest at none
