-- Lists of a number of places that are filled one after another.
use Rattle.std.proofs.Common.{◌≡◌, ℕ, suc, ◌+◌, ◌-◌, ◌<◌, List, [], ◌∷◌, ◌++◌, length, take, drop, set, get_or, map, replicate, sym, refl, ap, ◌∙◌, arith}
use Rattle.std.specs.Prelude.{Err}
use Rattle.std.proofs.lemmas.List.{drop-set-lt, drop_more, take_more, take_more_set, length-set, length-map, length-take-le, length-replicate, map-append}
use Rattle.sys_snap.proofs.Loops.{each_fault, each_more, each_none, got, nothing_front}
use Rattle.sys_snap.specs.Fronts.{after_front}
use Rattle.sys_snap.specs.Reading.{Reading, Rest, each}
use Rattle.sys_snap.specs.declared.fault.SnapFault.{SnapFault}

fills : {A : Type 0} (front : List A) (i n k : ℕ) (d x : A) → i ≡ length front → n ≡ suc k → set (front ++ replicate n d) i x ≡ (front ++ x ∷ []) ++ replicate k d
fills [] i n k d x at some = rw at (rw some refl)
fills (y ∷ ys) i n k d x at some = rw at (ap (λ zs. y ∷ zs) (fills ys (length ys) n k d x refl some))

-- the image of the next element into the next place
pub maps_more : {A B : Type 0} (f : A → B) (xs : List A) (i n k : ℕ) (a e : A) (d : B) → i < length xs → a ≡ get_or xs i e → n ≡ suc k → set (map f (take i xs) ++ replicate n d) i (f a) ≡ map f (take (i + 1) xs) ++ replicate k d
maps_more f xs i n k a e d inside is some =
    let more : take (i + 1) xs ≡ take i xs ++ a ∷ [] = take_more xs i e inside ∙ ap (λ z. take i xs ++ z ∷ []) (sym is) in
    let long : i ≡ length (map f (take i xs)) = sym (length-map (take i xs) f ∙ length-take-le i xs (omega (arith, inside))) in
    fills (map f (take i xs)) i n k d (f a) long some ∙ ap (λ z. z ++ replicate k d) (sym (ap (map f) more ∙ map-append f (take i xs) (a ∷ [])))

-- what is read for each of a list goes into the first places; the others have what they had
pub record Fills {A B : Type 0} (p : A → Reading B) (xs : List A) (places : ℕ) (none : B) (i : ℕ) (ys : List B) (start now : Rest) : Type 0 where
  pub long : length ys ≡ places
  pub left : after_front (take i ys) (each p (drop i xs) now) ≡ each p xs start
  pub beyond : drop i ys ≡ replicate (places - i) none

pub fills_none : {A B : Type 0} (p : A → Reading B) (xs : List A) (places : ℕ) (none : B) (r : Rest) → Fills p xs places none 0 (replicate places none) r r
fills_none p xs places none r = record {
  long = length-replicate places none;
  left = nothing_front (each p xs r);
  beyond = let all : places ≡ places - 0 = omega arith in ap (λ n. replicate n none) all;
}

pub fills_more : {A B : Type 0} (p : A → Reading B) (xs : List A) (places : ℕ) (none : B) (i : ℕ) (ys : List B) (start now next : Rest) (x : A) (y : B) → i < length xs → i < places → x ≡ get_or xs i x → Fills p xs places none i ys start now → p x now ≡ got y next → Fills p xs places none (i + 1) (set ys i y) start next
fills_more p xs places none i ys start now next x y inside room is so_far read = record {
  long = length-set ys i y ∙ so_far.long;
  left = rw (take_more_set ys i y (omega (arith, so_far.long, room))) (sym (each_more p (take i ys) xs i x y now next inside is read) ∙ so_far.left);
  beyond =
      let some : places - i ≡ suc (places - (i + 1)) = omega (arith, room) in
      let here : get_or ys i none ∷ drop (i + 1) ys ≡ none ∷ replicate (places - (i + 1)) none = sym (drop_more ys i none (omega (arith, so_far.long, room))) ∙ so_far.beyond ∙ ap (λ n. replicate n none) some in
      drop-set-lt (i + 1) ys i y (omega arith) ∙ ap (drop 1) here;
}

pub fills_fault : {A B : Type 0} (p : A → Reading B) (xs : List A) (places : ℕ) (none : B) (i : ℕ) (ys : List B) (start now : Rest) (x : A) (fault : SnapFault) → i < length xs → x ≡ get_or xs i x → Fills p xs places none i ys start now → p x now ≡ Err fault → each p xs start ≡ Err fault
fills_fault p xs places none i ys start now x fault inside is so_far read = sym so_far.left ∙ each_fault p (take i ys) xs i x now fault inside is read

pub fills_all : {A B : Type 0} (p : A → Reading B) (xs : List A) (places : ℕ) (none : B) (i : ℕ) (ys : List B) (start now : Rest) → i ≡ length xs → Fills p xs places none i ys start now → each p xs start ≡ got (take (length xs) ys) now
fills_all p xs places none i ys start now all so_far = sym so_far.left ∙ each_none p (take i ys) xs i now all ∙ ap (λ n. got (take n ys) now) all
