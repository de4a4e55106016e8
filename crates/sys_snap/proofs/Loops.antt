-- Readings of several, one after another, as a loop makes them: those that were read are in front of what is still read.
use Rattle.std.proofs.Common.{◌≡◌, ℕ, suc, ◌+◌, ◌<◌, List, [], ◌∷◌, ◌++◌, length, drop, get_or, sym, refl, ap, ◌∙◌, arith, append_assoc, append-nil}
use Rattle.std.specs.Prelude.{Result, Ok, Err}
use Rattle.std.proofs.lemmas.List.{at_drop_more, at_drop_all}
use Rattle.sys_snap.specs.Fronts.{after_front}
use Rattle.sys_snap.specs.Conditions.{is_packet}
use Rattle.sys_snap.specs.Reader.{packets_in}
use Rattle.sys_snap.specs.Reading.{Got, Reading, Rest, ◌>>=◌, done, each, four, continued_by, times}
use Rattle.sys_snap.specs.declared.fault.SnapFault.{SnapFault}

abbrev pub got : {A : Type 0} → A → Rest → Result (Got A) SnapFault
got value rest = Ok (record { value = value; rest = rest })

joined : {A : Type 0} (front : List A) (x : A) (z : Result (Got (List A)) SnapFault) → after_front front (continued_by (λ xs. done (x ∷ xs)) z) ≡ after_front (front ++ x ∷ []) z
joined front x (Ok g) = ap (λ xs. got xs g.rest) (sym (append_assoc front (x ∷ []) g.value))
joined front x (Err fault) = refl

pub nothing_front : {A : Type 0} (z : Result (Got (List A)) SnapFault) → after_front [] z ≡ z
nothing_front (Ok g) = refl
nothing_front (Err fault) = refl

-- one more reading of `times`
pub times_more : {A : Type 0} (p : Reading A) (front : List A) (x : A) (left k : ℕ) (r r' : Rest) → left ≡ suc k → p r ≡ got x r' → after_front front (times left p r) ≡ after_front (front ++ x ∷ []) (times k p r')
times_more p front x left k r r' more read =
    ap (λ n. after_front front (times n p r)) more
    ∙ ap (λ z. after_front front (continued_by (λ y. times k p >>= λ ys. done (y ∷ ys)) z)) read
    ∙ joined front x (times k p r')

pub times_fault : {A : Type 0} (p : Reading A) (front : List A) (left k : ℕ) (r : Rest) (fault : SnapFault) → left ≡ suc k → p r ≡ Err fault → after_front front (times left p r) ≡ Err fault
times_fault p front left k r fault more read =
    ap (λ n. after_front front (times n p r)) more
    ∙ ap (λ z. after_front front (continued_by (λ y. times k p >>= λ ys. done (y ∷ ys)) z)) read

pub times_none : {A : Type 0} (p : Reading A) (front : List A) (left : ℕ) (r : Rest) → left ≡ 0 → after_front front (times left p r) ≡ got front r
times_none p front left r none = ap (λ n. after_front front (times n p r)) none ∙ ap (λ xs. got xs r) (append-nil front)

pub times_all : {A : Type 0} (p : Reading A) (left n : ℕ) (r : Rest) → left ≡ n → after_front [] (times left p r) ≡ times n p r
times_all p left n r all = nothing_front (times left p r) ∙ ap (λ k. times k p r) all

-- for each of a list, from its i-th on
pub each_more : {A B : Type 0} (p : A → Reading B) (front : List B) (xs : List A) (i : ℕ) (x : A) (y : B) (r r' : Rest) → i < length xs → x ≡ get_or xs i x → p x r ≡ got y r' → after_front front (each p (drop i xs) r) ≡ after_front (front ++ y ∷ []) (each p (drop (i + 1) xs) r')
each_more p front xs i x y r r' inside is read =
    ap (λ q. after_front front (q r)) (at_drop_more (each p) xs i x inside)
    ∙ ap (λ z. after_front front ((p z >>= λ y. each p (drop (i + 1) xs) >>= λ ys. done (y ∷ ys)) r)) (sym is)
    ∙ ap (λ z. after_front front (continued_by (λ y. each p (drop (i + 1) xs) >>= λ ys. done (y ∷ ys)) z)) read
    ∙ joined front y (each p (drop (i + 1) xs) r')

pub each_fault : {A B : Type 0} (p : A → Reading B) (front : List B) (xs : List A) (i : ℕ) (x : A) (r : Rest) (fault : SnapFault) → i < length xs → x ≡ get_or xs i x → p x r ≡ Err fault → after_front front (each p (drop i xs) r) ≡ Err fault
each_fault p front xs i x r fault inside is read =
    ap (λ q. after_front front (q r)) (at_drop_more (each p) xs i x inside)
    ∙ ap (λ z. after_front front ((p z >>= λ y. each p (drop (i + 1) xs) >>= λ ys. done (y ∷ ys)) r)) (sym is)
    ∙ ap (λ z. after_front front (continued_by (λ y. each p (drop (i + 1) xs) >>= λ ys. done (y ∷ ys)) z)) read

pub each_none : {A B : Type 0} (p : A → Reading B) (front : List B) (xs : List A) (i : ℕ) (r : Rest) → i ≡ length xs → after_front front (each p (drop i xs) r) ≡ got front r
each_none p front xs i r all = ap (λ q. after_front front (q r)) (ap (λ k. each p (drop k xs)) all ∙ at_drop_all (each p) xs (length xs) (omega arith)) ∙ ap (λ ys. got ys r) (append-nil front)

-- packets, in places that are left
pub packets_more : (size : ℕ) (front : List ℕ) (x left k places n : ℕ) (r r' : Rest) → left ≡ suc k → places ≡ suc n → four (is_packet size) r ≡ got x r' → after_front front (packets_in size left places r) ≡ after_front (front ++ x ∷ []) (packets_in size k n r')
packets_more size front x left k places n r r' some more read =
    ap (λ l. after_front front (packets_in size l places r)) some
    ∙ ap (λ m. after_front front (packets_in size (suc k) m r)) more
    ∙ ap (λ z. after_front front (continued_by (λ y. packets_in size k n >>= λ ys. done (y ∷ ys)) z)) read
    ∙ joined front x (packets_in size k n r')

pub packets_fault : (size : ℕ) (front : List ℕ) (left k places n : ℕ) (r : Rest) (fault : SnapFault) → left ≡ suc k → places ≡ suc n → four (is_packet size) r ≡ Err fault → after_front front (packets_in size left places r) ≡ Err fault
packets_fault size front left k places n r fault some more read =
    ap (λ l. after_front front (packets_in size l places r)) some
    ∙ ap (λ m. after_front front (packets_in size (suc k) m r)) more
    ∙ ap (λ z. after_front front (continued_by (λ y. packets_in size k n >>= λ ys. done (y ∷ ys)) z)) read
