-- The text in the bytes of a snapshot.
use Rattle.std.proofs.Common.{ℕ, ◌≡◌, ◌≤◌, ◌+◌, List, ◌++◌, length, take, drop, refl, ◌∙◌, ap, subst, sym, arith}
use Rattle.std.proofs.lemmas.List.{length-append, take_at}
use Rattle.sys_snap.specs.Snap.{IsSnap}
use Rattle.sys_snap.specs.Written.{snap_bytes, state_bytes}
use Rattle.sys_state.specs.Run.{Moment}
use Rattle.vv_base.specs.Bytes.{long_at, long_bytes}

long_back : (n : ℕ) → long_at (long_bytes n) 0 ≡ n
long_back n = omega arith

abbrev pub text_in : List ℕ → List ℕ
text_in bytes = take (long_at bytes 8) (drop 12 bytes)

-- what comes after the text
abbrev rest : Moment → List ℕ
rest m = long_bytes m.made ++ state_bytes m.state

-- the length stands before the text
long_is : (text : List ℕ) (m : Moment) → long_at (snap_bytes text m) 8 ≡ length text
long_is text m = long_back (length text)

module _ (bytes : List ℕ) (m : Moment) (is : IsSnap bytes m) where
  pub text_is : text_in bytes ≡ is.text
  text_is =
      ap text_in is.is
      ∙ ap (λ n. take n (is.text ++ rest m)) (long_is is.text m)
      ∙ take_at is.text (rest m) (length is.text) refl

  pub text_fits : 12 + long_at bytes 8 ≤ length bytes
  text_fits =
      let whole : length (snap_bytes is.text m) ≡ 12 + length (is.text ++ rest m) = omega arith in
      let parts : length (is.text ++ rest m) ≡ length is.text + length (rest m) = length-append is.text (rest m) in
      let fits : 12 + long_at (snap_bytes is.text m) 8 ≤ length (snap_bytes is.text m) = omega (arith, whole, parts, long_is is.text m) in
      subst (λ (bs : List ℕ). 12 + long_at bs 8 ≤ length bs) (sym is.is) fits

-- a snapshot has one text
pub one_text : (bytes bytes' : List ℕ) (m n : Moment) → bytes ≡ bytes' → (first : IsSnap bytes m) (second : IsSnap bytes' n) → first.text ≡ second.text
one_text bytes bytes' m n same first second = sym (text_is bytes m first) ∙ ap text_in same ∙ text_is bytes' n second
