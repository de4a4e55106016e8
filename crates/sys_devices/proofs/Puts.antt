-- What a line has shown, put by put.
use Rattle.std.proofs.Common.{ℕ, zero, suc, ◌≡◌, ◌≤◌, ◌+◌, List, [], ◌∷◌, ◌++◌, length, take, refl, sym, ◌∙◌, ap, subst, arith, append_assoc, append-nil, Bool, true, false, Result, is_err}
use Rattle.std.proofs.Math.Seq.{take-append-add}
use Rattle.std.proofs.lemmas.List.{take-append-le}
use Rattle.std.proofs.lemmas.Grind.{common_steps}
use Rattle.std.proofs.lemmas.Result.{err_from_is_err_and}
use Rattle.std.specs.Result.{IsErrAnd}
use Rattle.std.specs.declared.option.Option.{Option}
use Rattle.std.specs.declared.option.Option.TheVariants.{None, Some}
use Rattle.std.specs.declared.result.Result.TheVariants.{Ok, Err}
use Rattle.vv_io.specs.Causes.{Rose}
use Rattle.vv_io.specs.Lines.{Seen, Puts, shown_after}
use Rattle.sys_devices.specs.ShownSince.{ShownSince}

shown_twice : (s : Option (List ℕ)) (a b : List ℕ) → shown_after (shown_after s a) b ≡ shown_after s (a ++ b)
shown_twice None a b = refl
shown_twice (Some s) a b = ap Some (append_assoc s a b)

shown_none : (s : Option (List ℕ)) → shown_after s [] ≡ s
shown_none None = refl
shown_none (Some s) = ap Some (append-nil s)

-- a front is one no longer than the list
front_within : (bytes : List ℕ) (n : ℕ) → (k : ℕ) × (k ≤ length bytes) × (take n bytes ≡ take k bytes)
front_within [] zero = (0, omega arith, refl)
front_within [] (suc n) = (0, omega arith, refl)
front_within (b ∷ bytes) zero = (0, omega arith, refl)
front_within (b ∷ bytes) (suc n) = let (k, le, same) = front_within bytes n in (suc k, omega (arith, le), ap (λ xs. b ∷ xs) same)

longer : (a b : List ℕ) (n : ℕ) → n ≤ length a → n ≤ length (a ++ b)
longer a b n h = grind (arith, common_steps)

both : (a b : List ℕ) (n : ℕ) → n ≤ length b → length a + n ≤ length (a ++ b)
both a b n h = grind (arith, common_steps)

-- one put
pub shows : {U E : Type 0} (before after : Seen) (bytes : List ℕ) (r : Result U E) → Puts before after bytes r → ShownSince (is_err r) before after bytes
shows before after bytes (Ok u) puts = (puts.cause.kept, puts.shows)
shows before after bytes (Err e) puts =
    let (n, le, same) = front_within bytes puts.shows.0 in
    (puts.cause.failed, (n, le, puts.shows.1 ∙ ap (shown_after before.shown) same))

-- nothing is put
pub shows_nothing : (start : Seen) → ShownSince false start start []
shows_nothing start = (refl, sym (shown_none start.shown))

-- one text after another
pub joined : (failed : Bool) (a b c : Seen) (x y : List ℕ) → ShownSince false a b x → ShownSince failed b c y → ShownSince failed a c (x ++ y)
joined false a b c x y (count, shown) (later, more) = (later ∙ count, more ∙ ap (λ s. shown_after s y) shown ∙ shown_twice a.shown x y)
joined true a b c x y (count, shown) (rose, (n, le, more)) =
    (subst (λ k. Rose k c.faults) count rose, (length x + n, both x y n le, more ∙ ap (λ s. shown_after s (take n y)) shown ∙ shown_twice a.shown x (take n y) ∙ ap (shown_after a.shown) (sym (take-append-add x y n))))

-- what a failed line shows is a front of a longer text too
pub still : (a b : Seen) (x y : List ℕ) → ShownSince true a b x → ShownSince true a b (x ++ y)
still a b x y (rose, (n, le, shown)) = (rose, (n, longer x y n le, shown ∙ ap (shown_after a.shown) (sym (take-append-le n x y le))))

-- Since a start all of a text is shown but for a rest.
pub record IsBut (start now : Seen) (rest whole : List ℕ) : Type 0 where
  pub text : List ℕ
  pub shows : ShownSince false start now text
  pub is : text ++ rest ≡ whole

pub begun : (start : Seen) (whole : List ℕ) → IsBut start start whole whole
begun start whole = record { text = []; shows = shows_nothing start; is = refl }

pub with_more : (text more left rest whole : List ℕ) → rest ≡ more ++ left → text ++ rest ≡ whole → (text ++ more) ++ left ≡ whole
with_more text more left rest whole parts is = append_assoc text more left ∙ ap (λ (xs : List ℕ). text ++ xs) (sym parts) ∙ is

-- the next part of the rest is shown
pub goes_on : (start now after : Seen) (rest more left whole : List ℕ) → rest ≡ more ++ left → IsBut start now rest whole → ShownSince false now after more → IsBut start after left whole
goes_on start now after rest more left whole parts before shown = record {
  text = before.text ++ more;
  shows = joined false start now after before.text more before.shows shown;
  is = with_more before.text more left rest whole parts before.is;
}

-- it isn't
pub fails_now : (start now after : Seen) (rest more left whole : List ℕ) → rest ≡ more ++ left → IsBut start now rest whole → ShownSince true now after more → ShownSince true start after whole
fails_now start now after rest more left whole parts before shown =
    subst (ShownSince true start after) (with_more before.text more left rest whole parts before.is) (still start after (before.text ++ more) left (joined true start now after before.text more before.shows shown))

-- the whole rest is put
pub ends : (failed : Bool) (start now after : Seen) (rest whole : List ℕ) → IsBut start now rest whole → ShownSince failed now after rest → ShownSince failed start after whole
ends failed start now after rest whole before shown = subst (ShownSince failed start after) before.is (joined failed start now after before.text rest before.shows shown)

-- a call that ends with a fault shows so much
pub stops : (failed : Bool) (start now after : Seen) (rest more left whole : List ℕ) → failed ≡ true → rest ≡ more ++ left → IsBut start now rest whole → ShownSince true now after more → ShownSince failed start after whole
stops failed start now after rest more left whole fault parts before shown =
    subst (λ (b : Bool). ShownSince b start after whole) (sym fault) (fails_now start now after rest more left whole parts before shown)

-- what `?` passes on is a fault
pub hands_on : {T E : Type 0} (Q : E → Type 0) (r : Result T E) → IsErrAnd r Q → is_err r ≡ true
hands_on Q r fault = let (e, is, holds) = err_from_is_err_and r fault in ap is_err is
