-- Sets of numbers, a bit for each in words of 64.
use Rattle.std.proofs.Common.{◌≡◌, ◌≢◌, ℕ, ◌+◌, ◌-◌, ◌*◌, ◌/◌, ◌%◌, ◌^◌, ◌<◌, ◌≤◌, ◌⊎◌, inl, inr, ◌==◌, bit_and, bit_or, w64, Bool, true, false, List, length, set, slice_index, min, refl, ap, ◌∙◌, sym, subst, arith}
use Rattle.std.proofs.lemmas.Bool.{cases_eq, cases_lt, eq-eqb}
use Rattle.std.proofs.lemmas.List.{get_or-set_other, get_or-set_same, length-set}
use Rattle.std.proofs.lemmas.Nat.{shr-shr}
use Rattle.std.proofs.lemmas.Nat.Bits.{bit_at-trailing_zeros, bit_at-zero, bit_at_above, bit_at_clear_other, bit_at_clear_same, bit_at_set_other, bit_at_set_same}
use Rattle.std.specs.Int.{bit_at, bit_not, trailing_zeros}
use Rattle.vm_shadow.specs.Marks.{AreAbsent, IsCleared, IsNextMember, SetsMember, is_in}
use Rattle.vm_shadow.proofs.Places.{split}

-- a word of a set is written, in which another bit stands for one number
changes : (value : Bool) (words : List ℕ) (n w : ℕ) → n < 64 * length words → (bit_at w (n % 64) == 1) ≡ value → ((i : ℕ) → i < 64 → i ≢ n % 64 → bit_at w i ≡ bit_at (slice_index words (n / 64)) i) → SetsMember value n words (set words (n / 64) w)
changes value words n w h here others = record {
  size = length-set words (n / 64) w;
  here = ap (λ x. bit_at x (n % 64) == 1) (get_or-set_same words (n / 64) w 0 (omega arith)) ∙ here;
  others = λ k differ. split (cases_eq (k / 64) (n / 64))
      (λ same. ap (λ j. bit_at (slice_index (set words (n / 64) w) j) (k % 64) == 1) same
      ∙ ap (λ x. bit_at x (k % 64) == 1) (get_or-set_same words (n / 64) w 0 (omega arith))
      ∙ ap (λ b. b == 1) (others (k % 64) (omega arith) (λ e. differ (omega arith)))
      ∙ ap (λ j. bit_at (slice_index words j) (k % 64) == 1) (sym same))
      (λ apart. ap (λ x. bit_at x (k % 64) == 1) (get_or-set_other words (n / 64) (k / 64) w 0 apart));
}

pub marks : (words : List ℕ) (n word : ℕ) → n < 64 * length words → word ≡ slice_index words (n / 64) → SetsMember true n words (set words (n / 64) (bit_or word (1 * 2 ^ (n % 64) % 2 ^ 64)))
marks words n word h is = changes true words n _ h (ap (λ b. b == 1) (bit_at_set_same w64 word (n % 64) (omega arith))) (λ i b differ. bit_at_set_other w64 word (n % 64) (omega arith) i differ ∙ ap (λ x. bit_at x i) is)

pub unmarks : (words : List ℕ) (n word : ℕ) → n < 64 * length words → word ≡ slice_index words (n / 64) → SetsMember false n words (set words (n / 64) (bit_and word (bit_not w64 (1 * 2 ^ (n % 64) % 2 ^ 64))))
unmarks words n word h is = changes false words n _ h (ap (λ b. b == 1) (bit_at_clear_same w64 word (n % 64) (omega arith))) (λ i b differ. bit_at_clear_other w64 word (n % 64) (omega arith) i b differ ∙ ap (λ x. bit_at x i) is)

-- words of a set are cleared, from one up to another
pub record AreCleared (first end : ℕ) (words words' : List ℕ) : Type 0 where
  pub size : length words' ≡ length words
  pub order : first ≤ end
  pub gone : (j : ℕ) → first ≤ j → j < end → slice_index words' j ≡ 0
  pub others : (j : ℕ) → (j < first) ⊎ (end ≤ j) → slice_index words' j ≡ slice_index words j

pub cleared_none : (first : ℕ) (words : List ℕ) → AreCleared first first words words
cleared_none first words = record { size = refl; order = omega arith; gone = λ j a b. absurd (omega arith); others = λ j h. refl }

pub cleared_more : (first at : ℕ) (words words' : List ℕ) → at < length words → AreCleared first at words words' → AreCleared first (at + 1) words (set words' at 0)
cleared_more first at words words' h c = record {
  size = length-set words' at 0 ∙ c.size;
  order = omega (arith, c.order);
  gone = λ j a b. split (cases_eq j at)
      (λ same. ap (slice_index (set words' at 0)) same ∙ get_or-set_same words' at 0 0 (omega (arith, c.size)))
      (λ differ. get_or-set_other words' at j 0 0 differ ∙ c.gone j a (omega arith));
  others = λ j h. split (cases_eq j at)
      (λ same. absurd (inside j h same))
      (λ differ. get_or-set_other words' at j 0 0 differ ∙ c.others j (split h (λ a. inl a) (λ a. inr (omega arith))));
}
  where
    inside : (j : ℕ) → (j < first) ⊎ (at + 1 ≤ j) → j ≡ at → ⊥
    inside j (inl a) same = omega (arith, c.order)
    inside j (inr a) same = omega arith

pub cleared : (first end : ℕ) (words words' : List ℕ) → AreCleared first end words words' → IsCleared (64 * first) (64 * end) words words'
cleared first end words words' c = record {
  size = c.size;
  gone = λ k a b. ap (λ x. bit_at x (k % 64) == 1) (c.gone (k / 64) (omega arith) (omega arith)) ∙ ap (λ b. b == 1) (bit_at-zero (k % 64));
  others = λ k h. ap (λ x. bit_at x (k % 64) == 1) (c.others (k / 64) (split h (λ a. inl (omega arith)) (λ a. inr (omega arith))));
}

-- The first number of a set.

-- the bits of a word from one on
shifted : (w a j : ℕ) → bit_at w (a + j) ≡ bit_at (w / 2 ^ a) j
shifted w a j = ap (λ x. x % 2) (sym (shr-shr w a j))

from_shifted : (words : List ℕ) (at k rest : ℕ) → rest ≡ slice_index words (at / 64) / 2 ^ (at % 64) → at ≤ k → k / 64 ≡ at / 64 → bit_at (slice_index words (k / 64)) (k % 64) ≡ bit_at rest (k - at)
from_shifted words at k rest is order same =
    let e : k % 64 ≡ at % 64 + (k - at) = omega arith in
    ap (λ j. bit_at (slice_index words j) (k % 64)) same ∙ ap (bit_at (slice_index words (at / 64))) e ∙ shifted (slice_index words (at / 64)) (at % 64) (k - at) ∙ ap (λ x. bit_at x (k - at)) (sym is)

-- in the rest of a word that is zero there is none
pub none_in_word : (words : List ℕ) (at rest k : ℕ) → rest ≡ slice_index words (at / 64) / 2 ^ (at % 64) → rest ≡ 0 → at ≤ k → k < at / 64 * 64 + 64 → is_in k words ≡ false
none_in_word words at rest k is zero_is order h = ap (λ b. b == 1) (from_shifted words at k rest is order (omega arith) ∙ ap (λ x. bit_at x (k - at)) zero_is ∙ bit_at-zero (k - at))

-- in another rest its lowest bit is the first
record IsFirst (words : List ℕ) (at t : ℕ) : Type 0 where
  pub small : at % 64 + t < 64
  pub is : is_in (at + t) words ≡ true
  pub free : (k : ℕ) → at ≤ k → k < at + t → is_in k words ≡ false

first_in_word : (words : List ℕ) (at rest : ℕ) → rest ≡ slice_index words (at / 64) / 2 ^ (at % 64) → 0 < rest → rest < 2 ^ 64 → slice_index words (at / 64) < 2 ^ 64 → IsFirst words at (trailing_zeros w64 rest)
first_in_word words at rest is some small below =
    let t = bit_at-trailing_zeros w64 rest some small in
    let n = trailing_zeros w64 rest in
    let one_there : bit_at (slice_index words (at / 64)) (at % 64 + n) ≡ 1 = shifted (slice_index words (at / 64)) (at % 64) n ∙ ap (λ x. bit_at x n) (sym is) ∙ t.1 in
    let h : at % 64 + n < 64 = split (cases_lt (at % 64 + n) 64) (λ h. h) (λ h. absurd (zero_one _ (bit_at_above (slice_index words (at / 64)) 64 (at % 64 + n) below h) one_there)) in
    record {
      small = h;
      is = eq-eqb (bit_at (slice_index words ((at + n) / 64)) ((at + n) % 64)) 1 (from_shifted words at (at + n) rest is (omega arith) (omega arith) ∙ ap (bit_at rest) (omega arith) ∙ t.1);
      free = λ k order b. ap (λ x. x == 1) (from_shifted words at k rest is order (omega arith) ∙ t.2 (k - at) (omega arith));
    }
  where
    zero_one : (a : ℕ) → a ≡ 0 → a ≡ 1 → ⊥
    zero_one a e f = omega arith

-- None from a number up to another.

pub free_none : (from : ℕ) (words : List ℕ) → AreAbsent from from words
free_none from words = record { order = omega arith; free = λ k a b. absurd (omega arith) }

pub free_more : (from at rest : ℕ) (words : List ℕ) → rest ≡ slice_index words (at / 64) / 2 ^ (at % 64) → rest ≡ 0 → AreAbsent from at words → AreAbsent from (at / 64 * 64 + 64) words
free_more from at rest words is zero_is f = record {
  order = omega (arith, f.order);
  free = λ k a b. split (cases_lt k at) (λ h. f.free k a h) (λ h. none_in_word words at rest k is zero_is h b);
}

pub next_here : (from at end rest n : ℕ) (words : List ℕ) → rest ≡ slice_index words (at / 64) / 2 ^ (at % 64) → rest ≢ 0 → rest < 2 ^ 64 → slice_index words (at / 64) < 2 ^ 64 → at < end → n ≡ min end (at + trailing_zeros w64 rest) → AreAbsent from at words → IsNextMember from end words n
next_here from at end rest n words is some small below h n_is f =
    let w = first_in_word words at rest is (omega arith) small below in
    let t = trailing_zeros w64 rest in
    let least : n ≡ min end (at + t) = n_is in
    record {
      order = omega (arith, f.order);
      within = omega arith;
      free = λ k a b. split (cases_lt k at) (λ l. f.free k a l) (λ l. w.free k l (omega arith));
      is = λ l. let e : n ≡ at + t = omega arith in subst (λ x. is_in x words ≡ true) (sym e) w.is;
    }

pub next_none : (from at end : ℕ) (words : List ℕ) → from ≤ end → end ≤ at → AreAbsent from at words → IsNextMember from end words end
next_none from at end words order h f = record { order = order; within = omega arith; free = λ k a b. f.free k a (omega arith); is = λ l. absurd (omega arith) }
