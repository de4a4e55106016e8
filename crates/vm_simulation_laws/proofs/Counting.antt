-- How many pages of a list aren't filled.
use Rattle.std.proofs.Common.{◌≡◌, ℕ, ◌+◌, ◌≤◌, Bool, true, false, ◌||◌, ◌==◌, List, [], ◌∷◌, refl, ap, ◌∙◌, sym, arith}
use Rattle.std.proofs.lemmas.Bool.{cases_Bool, eqb-true, false≢true}
use Rattle.vax_table.specs.Interaction.{IsIn}
use Rattle.vm_simulation_laws.specs.Present.{unfilled_of}
use Rattle.vm_shadow.proofs.Places.{split}

-- with one page more
abbrev pub with_page : ℕ → (ℕ → Bool) → ℕ → Bool
with_page page filled p = p == page || filled p

or_true : (a b : Bool) → b ≡ true → (a || b) ≡ true
or_true true b e = refl
or_true false b e = e

or_inv : (a b : Bool) → (a || b) ≡ true → (C : Type 0) → (a ≡ true → C) → (b ≡ true → C) → C
or_inv true b e C f g = f refl
or_inv false b e C f g = g e

pub counted : (page : ℕ) (pages : List ℕ) (f : ℕ → Bool) → f page ≡ true → unfilled_of f (page ∷ pages) ≡ unfilled_of f pages
counted page pages f e = rw e refl

pub uncounted : (page : ℕ) (pages : List ℕ) (f : ℕ → Bool) → f page ≡ false → unfilled_of f (page ∷ pages) ≡ 1 + unfilled_of (with_page page f) pages
uncounted page pages f e = rw e refl

-- where each filled page of one is one of the other
abbrev pub AreFilledIn : (f g : ℕ → Bool) → Type 0
AreFilledIn f g = (p : ℕ) → f p ≡ true → g p ≡ true

pub with_filled : (page : ℕ) (f : ℕ → Bool) → AreFilledIn f (with_page page f)
with_filled page f p e = or_true (p == page) (f p) e

with_within : (page : ℕ) (f g : ℕ → Bool) → AreFilledIn f g → g page ≡ true → AreFilledIn (with_page page f) g
with_within page f g in_g e p h = or_inv (p == page) (f p) h (g p ≡ true) (λ same. ap g (eqb-true p page same) ∙ e) (in_g p)

with_both : (page : ℕ) (f g : ℕ → Bool) → AreFilledIn f g → AreFilledIn (with_page page f) (with_page page g)
with_both page f g in_g p h = or_inv (p == page) (f p) h ((p == page || g p) ≡ true) (λ same. ap (λ b. b || g p) same) (λ own. or_true (p == page) (g p) (in_g p own))

-- fewer aren't, where more are
pub fewer : (pages : List ℕ) (f g : ℕ → Bool) → AreFilledIn f g → unfilled_of g pages ≤ unfilled_of f pages
fewer [] f g in_g = omega arith
fewer (page ∷ pages) f g in_g = split (cases_Bool (f page))
    (λ own.
    let a : unfilled_of f (page ∷ pages) ≡ unfilled_of f pages = counted page pages f own in
    let b : unfilled_of g (page ∷ pages) ≡ unfilled_of g pages = counted page pages g (in_g page own) in
    let rest : unfilled_of g pages ≤ unfilled_of f pages = fewer pages f g in_g in
    rw (a, b) rest)
    (λ empty. split (cases_Bool (g page))
    (λ new.
    let a : unfilled_of f (page ∷ pages) ≡ 1 + unfilled_of (with_page page f) pages = uncounted page pages f empty in
    let b : unfilled_of g (page ∷ pages) ≡ unfilled_of g pages = counted page pages g new in
    let rest : unfilled_of g pages ≤ unfilled_of (with_page page f) pages = fewer pages (with_page page f) g (with_within page f g in_g new) in
    rw (a, b) (omega (arith, rest)))
    (λ none.
    let a : unfilled_of f (page ∷ pages) ≡ 1 + unfilled_of (with_page page f) pages = uncounted page pages f empty in
    let b : unfilled_of g (page ∷ pages) ≡ 1 + unfilled_of (with_page page g) pages = uncounted page pages g none in
    let rest : unfilled_of (with_page page g) pages ≤ unfilled_of (with_page page f) pages = fewer pages (with_page page f) (with_page page g) (with_both page f g in_g) in
    rw (a, b) (omega (arith, rest))))

with_apart : (page x : ℕ) (f : ℕ → Bool) → f x ≡ false → (x ≡ page → ⊥) → with_page page f x ≡ false
with_apart page x f empty apart = split (cases_Bool (x == page)) (λ same. absurd (apart (eqb-true x page same))) (λ other. ap (λ b. b || f x) other ∙ empty)

-- and one less at least, where one of the list is filled that wasn't
pub one_fewer : (pages : List ℕ) (x : ℕ) (f g : ℕ → Bool) → AreFilledIn f g → IsIn x pages → f x ≡ false → g x ≡ true → unfilled_of g pages + 1 ≤ unfilled_of f pages
one_fewer [] x f g in_g h empty now = absurd h
one_fewer (page ∷ pages) x f g in_g h empty now = split (cases_Bool (f page))
    (λ own.
    let a : unfilled_of f (page ∷ pages) ≡ unfilled_of f pages = counted page pages f own in
    let b : unfilled_of g (page ∷ pages) ≡ unfilled_of g pages = counted page pages g (in_g page own) in
    let later : IsIn x pages = split h (λ same. absurd (false≢true (sym empty ∙ ap f same ∙ own))) (λ more. more) in
    let rest : unfilled_of g pages + 1 ≤ unfilled_of f pages = one_fewer pages x f g in_g later empty now in
    rw (a, b) rest)
    (λ un. split (cases_Bool (g page))
    (λ new.
    let a : unfilled_of f (page ∷ pages) ≡ 1 + unfilled_of (with_page page f) pages = uncounted page pages f un in
    let b : unfilled_of g (page ∷ pages) ≡ unfilled_of g pages = counted page pages g new in
    let rest : unfilled_of g pages ≤ unfilled_of (with_page page f) pages = fewer pages (with_page page f) g (with_within page f g in_g new) in
    rw (a, b) (omega (arith, rest)))
    (λ none.
    let a : unfilled_of f (page ∷ pages) ≡ 1 + unfilled_of (with_page page f) pages = uncounted page pages f un in
    let b : unfilled_of g (page ∷ pages) ≡ 1 + unfilled_of (with_page page g) pages = uncounted page pages g none in
    let apart : x ≡ page → ⊥ = λ same. false≢true (sym none ∙ ap g (sym same) ∙ now) in
    let later : IsIn x pages = split h (λ same. absurd (apart same)) (λ more. more) in
    let rest : unfilled_of (with_page page g) pages + 1 ≤ unfilled_of (with_page page f) pages =
    one_fewer pages x (with_page page f) (with_page page g) (with_both page f g in_g) later (with_apart page x f empty apart) (with_filled page g x now) in
    rw (a, b) (omega (arith, rest))))

-- one that isn't filled counts
pub some_unfilled : (pages : List ℕ) (x : ℕ) (f : ℕ → Bool) → IsIn x pages → f x ≡ false → 1 ≤ unfilled_of f pages
some_unfilled pages x f h empty = let one : unfilled_of (λ p. true) pages + 1 ≤ unfilled_of f pages = one_fewer pages x f (λ p. true) (λ p e. refl) h empty refl in omega (arith, one)
