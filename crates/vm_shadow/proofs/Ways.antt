-- A set as flags, by number.
use Rattle.std.proofs.Common.{◌≡◌, ℕ, zero, suc, ◌*◌, ◌/◌, ◌%◌, ◌<◌, ◌≤◌, ◌==◌, Bool, true, false, List, [], ◌∷◌, length, set, slice_index_or, refl, ap, ◌∙◌, sym, arith}
use Rattle.std.proofs.lemmas.Bool.{cases_eq, cases_lt, false≢true}
use Rattle.std.proofs.lemmas.List.{ext_get_or, get_or-set_other, get_or-set_same, length-set, set_past}
use Rattle.std.proofs.lemmas.List.FromFn.{get_or-map-range_with_len, length-map-range_with_len}
use Rattle.std.proofs.lemmas.Nat.Bits.{bit_at-zero}
use Rattle.std.specs.Int.{bit_at}
use Rattle.vm_shadow.specs.Marks.{SetsMember, flags_of, is_in}
use Rattle.vm_shadow.specs.Shadowed.{is_flagged}
use Rattle.vm_shadow.proofs.Places.{split}

past : {X : Type 0} (xs : List X) (k : ℕ) (d : X) → length xs ≤ k → slice_index_or xs k d ≡ d
past [] k d h = refl
past (x ∷ xs) zero d h = absurd (omega arith)
past (x ∷ xs) (suc k) d h = past xs k d (omega arith)

pub flags_size : (words : List ℕ) → length (flags_of words) ≡ 64 * length words
unfolding flags_of
flags_size words = length-map-range_with_len (λ k. is_in k words) 0 (64 * length words)

in_past : (words : List ℕ) (n : ℕ) → 64 * length words ≤ n → is_in n words ≡ false
in_past words n h = ap (λ x. bit_at x (n % 64) == 1) (past words (n / 64) 0 (omega arith)) ∙ ap (λ b. b == 1) (bit_at-zero (n % 64))

pub flag_is : (words : List ℕ) (n : ℕ) → is_flagged n (flags_of words) ≡ is_in n words
unfolding flags_of
flag_is words n = split (cases_lt n (64 * length words))
    (λ h. get_or-map-range_with_len (λ k. is_in k words) 0 (64 * length words) n n false h (omega arith))
    (λ h. past (flags_of words) n false (omega (arith, length-map-range_with_len (λ k. is_in k words) 0 (64 * length words))) ∙ sym (in_past words n h))

-- one number comes into the set
pub flags_marked : (words words' : List ℕ) (n : ℕ) → n < 64 * length words → SetsMember true n words words' → flags_of words' ≡ set (flags_of words) n true
flags_marked words words' n h s =
    let size : length (flags_of words) ≡ 64 * length words = flags_size words in
    let size' : length (flags_of words') ≡ 64 * length words' = flags_size words' in
    ext_get_or false (flags_of words') (set (flags_of words) n true) (omega (arith, s.size, length-set (flags_of words) n true)) (λ k b. flag_is words' k ∙ split (cases_eq k n)
    (λ same. ap (λ j. is_in j words') same ∙ s.here ∙ sym (ap (λ j. is_flagged j (set (flags_of words) n true)) same ∙ get_or-set_same (flags_of words) n true false (omega arith)))
    (λ differ. s.others k differ ∙ sym (flag_is words k) ∙ sym (get_or-set_other (flags_of words) n k true false differ)))

-- a number past the end isn't one of the set's
pub flags_past : (words : List ℕ) (n : ℕ) → length words ≤ n / 64 → flags_of words ≡ set (flags_of words) n true
flags_past words n h = sym (set_past (flags_of words) n true (omega (arith, flags_size words)))

-- a flag that is set isn't past the end
pub flag_within : (n : ℕ) (flags : List Bool) → is_flagged n flags ≡ true → n < length flags
flag_within n [] e = absurd (false≢true e)
flag_within zero (x ∷ xs) e = omega arith
flag_within (suc n) (x ∷ xs) e = let h : n < length xs = flag_within n xs e in omega arith
