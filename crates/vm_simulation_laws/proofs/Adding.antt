-- The touched pages of an instruction, counted and added.
use Rattle.std.proofs.Common.{◌≡◌, ℕ, ◌+◌, ◌≤◌, ◌⊎◌, inl, inr, Bool, true, false, cond, ◌||◌, ◌==◌, List, [], ◌∷◌, ◌++◌, refl, ap, ◌∙◌, sym, arith}
use Rattle.std.specs.List.{list_any}
use Rattle.std.proofs.lemmas.Bool.{cases_Bool, eq-eqb, eqb-true, false≢true}
use Rattle.vax_table.specs.Interaction.{IsIn}
use Rattle.vm_simulation_laws.specs.Present.{unfilled_of}
use Rattle.vm_simulation_laws.proofs.Counting.{counted, uncounted, with_filled, with_page}
use Rattle.vm_shadow.proofs.Places.{split}
use Rattle.vm_state.specs.Touches.{Present, Process, Touching, found_all, found_one, front_pages, has_page, is_present, is_system, lacked_all, lacked_one, with_front, with_present_page}

-- what a list holds
held_later : (b : Bool) (x page : ℕ) (pages : List ℕ) → (x == page) ≡ b → (b || list_any (λ p. p == page) pages) ≡ true → (page ≡ x) ⊎ (has_page page pages ≡ true)
held_later true x page pages e h = inl (sym (eqb-true x page e))
held_later false x page pages e h = inr h

pub held_by : (page x : ℕ) (pages : List ℕ) → has_page page (x ∷ pages) ≡ true → (page ≡ x) ⊎ (has_page page pages ≡ true)
held_by page x pages h = held_later (x == page) x page pages refl h

pub held_in : (page : ℕ) (pages : List ℕ) → has_page page pages ≡ true → IsIn page pages
held_in page [] h = absurd (false≢true h)
held_in page (x ∷ pages) h = split (held_by page x pages h) (λ same. inl same) (λ more. inr (held_in page pages more))

-- a page is present after another that is added only where it is this one, or was present
present_front : (page x : ℕ) (ps : List Process) → has_page page (front_pages (with_front x ps)) ≡ true → (page ≡ x) ⊎ (has_page page (front_pages ps) ≡ true)
present_front page x [] h = inr h
present_front page x (p ∷ ps) h = held_by page x p.pages h

abbrev IsNewOrOld : (page x : ℕ) → Present → Present → Type 0
IsNewOrOld page x p q = is_present page q ≡ true → (page ≡ x) ⊎ (is_present page p ≡ true)

abbrev present_by : Bool → ℕ → Present → Bool
present_by b page p = cond b (has_page page p.system) (has_page page (front_pages p.processes))

added_by : (page x : ℕ) (p : Present) (b c : Bool) → present_by b page (cond c (record p { system = x ∷ p.system }) (record p { processes = with_front x p.processes })) ≡ true → (page ≡ x) ⊎ (present_by b page p ≡ true)
added_by page x p true true h = held_by page x p.system h
added_by page x p true false h = inr h
added_by page x p false true h = inr h
added_by page x p false false h = present_front page x p.processes h

pub present_added : (page x : ℕ) (p : Present) → IsNewOrOld page x p (with_present_page x p)
present_added page x p h = added_by page x p (is_system page) (is_system x) h

-- what is present is filled
abbrev pub ArePresent : Present → (ℕ → Bool) → Type 0
ArePresent p f = (page : ℕ) → is_present page p ≡ true → f page ≡ true

still_present : (x : ℕ) (p : Present) (f : ℕ → Bool) → ArePresent p f → f x ≡ true → ArePresent (with_present_page x p) f
still_present x p f all now page h = split (present_added page x p h) (λ same. ap f same ∙ now) (λ old. all page old)

with_self : (x : ℕ) (f : ℕ → Bool) → with_page x f x ≡ true
with_self x f = ap (λ b. b || f x) (eq-eqb x x refl)

more_present : (x : ℕ) (p : Present) (f : ℕ → Bool) → ArePresent p f → ArePresent p (with_page x f)
more_present x p f all page h = with_filled x f page (all page h)

found_present : (page : ℕ) (t : Touching) → is_present page t.present ≡ true → found_one t page ≡ t
found_present page t e = rw e refl

found_new : (page : ℕ) (t : Touching) → is_present page t.present ≡ false → found_one t page ≡ record { present = with_present_page page t.present; count = t.count + 1 }
found_new page t e = rw e refl

lacked_present : (page : ℕ) (t : Touching) → is_present page t.present ≡ true → lacked_one t page ≡ t
lacked_present page t e = rw e refl

lacked_new : (page : ℕ) (t : Touching) → is_present page t.present ≡ false → lacked_one t page ≡ record t { count = t.count + 1 }
lacked_new page t e = rw e refl

-- each touched page that isn't filled is counted
pub lacked_pays : (ys : List ℕ) (f : ℕ → Bool) (t : Touching) → ArePresent t.present f → t.count + unfilled_of f ys ≤ (lacked_all ys t).count
lacked_pays [] f t all = omega arith
lacked_pays (y ∷ ys) f t all = split (cases_Bool (is_present y t.present))
    (λ here.
    let a : unfilled_of f (y ∷ ys) ≡ unfilled_of f ys = counted y ys f (all y here) in
    let rest : t.count + unfilled_of f ys ≤ (lacked_all ys t).count = lacked_pays ys f t all in
    let now : (lacked_all ys (lacked_one t y)).count ≡ (lacked_all ys t).count = ap (λ u. (lacked_all ys u).count) (lacked_present y t here) in
    rw (a, now) rest)
    (λ new.
    let u : Touching = record t { count = t.count + 1 } in
    let now : (lacked_all ys (lacked_one t y)).count ≡ (lacked_all ys u).count = ap (λ u. (lacked_all ys u).count) (lacked_new y t new) in
    split (cases_Bool (f y))
    (λ own.
    let a : unfilled_of f (y ∷ ys) ≡ unfilled_of f ys = counted y ys f own in
    let rest : u.count + unfilled_of f ys ≤ (lacked_all ys u).count = lacked_pays ys f u all in
    rw (a, now) (omega (arith, rest)))
    (λ no.
    let a : unfilled_of f (y ∷ ys) ≡ 1 + unfilled_of (with_page y f) ys = uncounted y ys f no in
    let rest : u.count + unfilled_of (with_page y f) ys ≤ (lacked_all ys u).count = lacked_pays ys (with_page y f) u (more_present y t.present f all) in
    rw (a, now) (omega (arith, rest))))

pub touches_pay : (xs ys : List ℕ) (f : ℕ → Bool) (t : Touching) → ArePresent t.present f → t.count + unfilled_of f (xs ++ ys) ≤ (lacked_all ys (found_all xs t)).count
touches_pay [] ys f t all = lacked_pays ys f t all
touches_pay (x ∷ xs) ys f t all = split (cases_Bool (is_present x t.present))
    (λ here.
    let a : unfilled_of f (x ∷ (xs ++ ys)) ≡ unfilled_of f (xs ++ ys) = counted x (xs ++ ys) f (all x here) in
    let rest : t.count + unfilled_of f (xs ++ ys) ≤ (lacked_all ys (found_all xs t)).count = touches_pay xs ys f t all in
    let now : (lacked_all ys (found_all xs (found_one t x))).count ≡ (lacked_all ys (found_all xs t)).count = ap (λ u. (lacked_all ys (found_all xs u)).count) (found_present x t here) in
    rw (a, now) rest)
    (λ new.
    let u : Touching = record { present = with_present_page x t.present; count = t.count + 1 } in
    let now : (lacked_all ys (found_all xs (found_one t x))).count ≡ (lacked_all ys (found_all xs u)).count = ap (λ u. (lacked_all ys (found_all xs u)).count) (found_new x t new) in
    split (cases_Bool (f x))
    (λ own.
    let a : unfilled_of f (x ∷ (xs ++ ys)) ≡ unfilled_of f (xs ++ ys) = counted x (xs ++ ys) f own in
    let rest : u.count + unfilled_of f (xs ++ ys) ≤ (lacked_all ys (found_all xs u)).count = touches_pay xs ys f u (still_present x t.present f all own) in
    rw (a, now) (omega (arith, rest)))
    (λ no.
    let a : unfilled_of f (x ∷ (xs ++ ys)) ≡ 1 + unfilled_of (with_page x f) (xs ++ ys) = uncounted x (xs ++ ys) f no in
    let rest : u.count + unfilled_of (with_page x f) (xs ++ ys) ≤ (lacked_all ys (found_all xs u)).count =
    touches_pay xs ys (with_page x f) u (still_present x t.present (with_page x f) (more_present x t.present f all) (with_self x f)) in
    rw (a, now) (omega (arith, rest))))

-- what a page that is lacking leaves present
pub lacked_leaves : (ys : List ℕ) (t : Touching) → (lacked_all ys t).present ≡ t.present
lacked_leaves [] t = refl
lacked_leaves (y ∷ ys) t = lacked_leaves ys (lacked_one t y) ∙ one (is_present y t.present)
  where
    one : (b : Bool) → (cond b t (record t { count = t.count + 1 })).present ≡ t.present
    one true = refl
    one false = refl
