-- Longwords stored one after another, as SVPCTX does.
use Rattle.std.proofs.Common.{◌≡◌, ℕ, zero, suc, ◌+◌, ◌*◌, ◌/◌, ◌<◌, ◌≤◌, Bool, true, false, ◌||◌, List, [], ◌∷◌, ◌++◌, length, take, get_or, Option, refl, ap, ◌∙◌, sym, subst, arith}
use Rattle.std.proofs.lemmas.Bool.{or_left, or_right}
use Rattle.std.proofs.lemmas.List.{length-take, take_all, take_more}
use Rattle.vax_hw.specs.Machine.{Machine}
use Rattle.vm_exception.specs.Wrote.{Wrote}
use Rattle.vm_exception.proofs.Writing.{Among, wrote_as, wrote_none, wrote_one, wrote_then}
use Rattle.vm_shadow.specs.Shadowed.{Shadowed, is_pending, is_read_from, own}
use Rattle.vm_shadow.specs.StandsFor.{Stores}
use Rattle.vm_shadow.specs.declared.source.Source.{Source}
use Rattle.vm_state.specs.Contexts.{long_frames, longs_stored}
use Rattle.vm_state.specs.Translation.{frame_at, long_stored}

stored_more : (at : ℕ) (vs : List ℕ) (v : ℕ) (memory : List ℕ) → longs_stored at (vs ++ v ∷ []) memory ≡ long_stored (at + 4 * length vs) v (longs_stored at vs memory)
stored_more at [] v memory = let e : at ≡ at + 4 * 0 = omega arith in ap (λ p. long_stored p v memory) e
stored_more at (w ∷ ws) v memory =
    let e : at + 4 + 4 * length ws ≡ at + 4 * length (w ∷ ws) = omega arith in
    stored_more (at + 4) ws v (long_stored at w memory) ∙ ap (λ p. long_stored p v (longs_stored (at + 4) ws (long_stored at w memory))) e

-- the frame of each of them is among all their frames
frame_among : (at n i : ℕ) (x : Option Source) → i < n → is_read_from (frame_at (at + 4 * i)) x ≡ true → is_pending (long_frames at n) x ≡ true
frame_among at zero i x l e = absurd (omega arith)
frame_among at (suc n) zero x l e =
    let same : at + 4 * 0 ≡ at = omega arith in
    or_left _ _ (subst (λ p. is_read_from (frame_at p) x ≡ true) same e)
frame_among at (suc n) (suc i) x l e =
    let same : at + 4 * suc i ≡ at + 4 + 4 * i = omega arith in
    or_right _ _ (frame_among (at + 4) n i x (omega arith) (subst (λ p. is_read_from (frame_at p) x ≡ true) same e))

-- so far these longwords are stored
pub record IsStoring (at : ℕ) (longs : List ℕ) (n place : ℕ) (m : Machine) (s : Shadowed) (m' : Machine) (s' : Shadowed) : Type 0 where
  pub reached : place ≡ at + 4 * n
  pub wrote : Wrote (long_frames at (length longs)) (longs_stored at (take n longs) (own m.memory s)) m s m' s'

pub storing_none : (at : ℕ) (longs : List ℕ) (m : Machine) (s : Shadowed) → IsStoring at longs 0 at m s m s
storing_none at longs m s = record { reached = omega arith; wrote = wrote_none (long_frames at (length longs)) m s }

module _ (at : ℕ) (longs : List ℕ) (n place : ℕ) (m m1 : Machine) (s s1 : Shadowed) (l : n < length longs) (w : IsStoring at longs n place m s m1 s1) where
  pub storing_next : (v next : ℕ) (m2 : Machine) (s2 : Shadowed) → v ≡ get_or longs n 0 → next ≡ place + 4 → Stores place (long_stored place v (own m1.memory s1)) m1 s1 m2 s2 → IsStoring at longs (n + 1) next m s m2 s2
  storing_next v next m2 s2 is e st =
      let size : length (take n longs) ≡ n = omega (arith, length-take n longs) in
      let here : place ≡ at + 4 * length (take n longs) = omega (arith, w.reached, size) in
      let among : Among (place / 512 ∷ []) (long_frames at (length longs)) = λ x q. frame_among at (length longs) n x l (subst (λ p. is_read_from (frame_at p) x ≡ true) w.reached (one _ q)) in
      let memory : long_stored place v (own m1.memory s1) ≡ longs_stored at (take (n + 1) longs) (own m.memory s) =
      ap (long_stored place v) w.wrote.own
      ∙ (λ i. long_stored (here i) (is i) (longs_stored at (take n longs) (own m.memory s)))
      ∙ sym (stored_more at (take n longs) (get_or longs n 0) (own m.memory s))
      ∙ ap (λ x. longs_stored at x (own m.memory s)) (sym (take_more longs n 0 l)) in
      record {
        reached = omega (arith, w.reached, e);
        wrote = wrote_as _ _ _ m m2 s s2 memory (wrote_then _ _ _ _ m m1 m2 s s1 s2 among w.wrote (wrote_one place _ m1 m2 s1 s2 st));
      }
    where
      one : (b : Bool) → (b || false) ≡ true → b ≡ true
      one true q = refl
      one false q = q

pub storing_all : (at : ℕ) (longs : List ℕ) (n place : ℕ) (m m' : Machine) (s s' : Shadowed) → length longs ≤ n → IsStoring at longs n place m s m' s' → Wrote (long_frames at (length longs)) (longs_stored at longs (own m.memory s)) m s m' s'
storing_all at longs n place m m' s s' h w = wrote_as _ _ _ m m' s s' (ap (λ x. longs_stored at x (own m.memory s)) (take_all n longs h)) w.wrote
