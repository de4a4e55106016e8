-- The bytes of several, one after another, of which the first are shown.
use Rattle.std.proofs.Common.{ℕ, ◌≡◌, ◌<◌, ◌≤◌, ◌+◌, ◌*◌, List, [], ◌++◌, length, map, take, drop, get_or, sym, ◌∙◌, ap, subst, arith, append-nil, take-append-drop}
use Rattle.std.specs.Prelude.{All, Bool, false, flat_map}
use Rattle.std.proofs.lemmas.List.{at_drop_all, at_drop_more, drop-drop, get_or-map, length-map, take_all}
use Rattle.sys_devices.proofs.Puts.{IsBut}
use Rattle.sys_devices.specs.ShownSince.{ShownSince}
use Rattle.vv_io.specs.Lines.{Seen}

pub flat_next : {A : Type 0} (f : A → List ℕ) (xs : List A) (k : ℕ) (d : A) (bytes : List ℕ) → k < length xs → bytes ≡ f (get_or xs k d) → flat_map f (drop k xs) ≡ bytes ++ flat_map f (drop (k + 1) xs)
flat_next f xs k d bytes inside is = at_drop_more (flat_map f) xs k d inside ∙ ap (λ (bs : List ℕ). bs ++ flat_map f (drop (k + 1) xs)) (sym is)

-- of each the bytes of something else
pub flat_mapped : {A B : Type 0} (f : B → List ℕ) (h : A → B) (xs : List A) (k : ℕ) (x : A) → k < length xs → x ≡ get_or xs k x → flat_map f (drop k (map h xs)) ≡ f (h x) ++ flat_map f (drop (k + 1) (map h xs))
flat_mapped f h xs k x inside is =
    let same : h x ≡ get_or (map h xs) k (h x) = ap h is ∙ sym (get_or-map h xs k x (h x) inside) in
    flat_next f (map h xs) k (h x) (f (h x)) (omega (arith, inside, length-map xs h)) (ap f same)

pub flat_none : {A : Type 0} (f : A → List ℕ) (xs : List A) (k : ℕ) → length xs ≤ k → flat_map f (drop k xs) ≡ []
flat_none f xs k all = at_drop_all (flat_map f) xs k all

-- pages of 512 bytes
pub page_next : (memory : List ℕ) (n size : ℕ) (page : List ℕ) → size ≡ 512 → page ≡ take size (drop (512 * n) memory) → drop (512 * n) memory ≡ page ++ drop (512 * (n + 1)) memory
page_next memory n size page long is =
    let next : 512 * n + 512 ≡ 512 * (n + 1) = omega arith in
    let whole : page ≡ take 512 (drop (512 * n) memory) = is ∙ ap (λ (k : ℕ). take k (drop (512 * n) memory)) long in
    sym (take-append-drop 512 (drop (512 * n) memory))
    ∙ (λ i. sym whole i ++ (drop-drop 512 (512 * n) memory ∙ ap (λ k. drop k memory) next) i)

-- nothing is left
pub all_shown : (start now : Seen) (rest whole : List ℕ) → IsBut start now rest whole → rest ≡ [] → ShownSince false start now whole
all_shown start now rest whole but none =
    let text : but.text ≡ whole = sym (append-nil but.text) ∙ ap (λ (bs : List ℕ). but.text ++ bs) (sym none) ∙ but.is in
    subst (ShownSince false start now) text but.shows

pub same_shown : (failed : Bool) (start now : Seen) (bytes others : List ℕ) → bytes ≡ others → ShownSince failed start now bytes → ShownSince failed start now others
same_shown failed start now bytes others same shown = subst (ShownSince failed start now) same shown

-- what holds of the first holds of all
pub holds_of_all : {A : Type 0} (P : A → Type 0) (xs : List A) (k : ℕ) → length xs ≤ k → All P (take k xs) → All P xs
holds_of_all P xs k all first = subst (All P) (take_all k xs all) first
