-- Numbers and the bytes that they are.
use Rattle.std.proofs.Common.{◌≡◌, ℕ, zero, suc, ◌+◌, ◌*◌, ◌/◌, ◌%◌, ◌^◌, ◌<◌, ◌≤◌, List, [], ◌∷◌, ◌++◌, length, take, get_or, refl, ap, subst, arith, lit<}
use Rattle.std.proofs.Math.Nat.{pow-suc}
use Rattle.vv_base.specs.declared.width.Width.{Width}
use Rattle.vv_base.specs.declared.width.Width.TheVariants.{Byte, Word, Long, Quad}
use Rattle.vv_base.specs.Width.{size_of}
use Rattle.vax_table.specs.Spelling.{bytes_of, AreBytes}
use Rattle.vax_table.specs.Reading.{number_of}

pub AreBytes-from_index : (bs : List ℕ) → ((i : ℕ) → get_or bs i 0 < 256) → AreBytes bs
AreBytes-from_index [] h = tt
AreBytes-from_index (b ∷ bs) h = (h 0, AreBytes-from_index bs (λ i. h (suc i)))

pub AreBytes-take : (k : ℕ) (bs : List ℕ) → AreBytes bs → AreBytes (take k bs)
AreBytes-take zero bs h = tt
AreBytes-take (suc k) [] h = tt
AreBytes-take (suc k) (b ∷ bs) h = (h.0, AreBytes-take k bs h.1)

pub AreBytes-append : (xs ys : List ℕ) → AreBytes xs → AreBytes ys → AreBytes (xs ++ ys)
AreBytes-append [] ys h k = k
AreBytes-append (x ∷ xs) ys h k = (h.0, AreBytes-append xs ys h.1 k)

pub AreBytes-back : (xs ys : List ℕ) → AreBytes (xs ++ ys) → AreBytes ys
AreBytes-back [] ys h = h
AreBytes-back (x ∷ xs) ys h = AreBytes-back xs ys h.1

pub AreBytes-bytes_of : (k v : ℕ) → AreBytes (bytes_of k v)
AreBytes-bytes_of zero v = tt
AreBytes-bytes_of (suc k) v = (omega arith, AreBytes-bytes_of k (v / 256))

pub length-bytes_of : (k v : ℕ) → length (bytes_of k v) ≡ k
length-bytes_of zero v = refl
length-bytes_of (suc k) v = ap suc (length-bytes_of k (v / 256))

pub pow_some : (k : ℕ) → 0 < 256 ^ k
pow_some zero = omega arith
pow_some (suc k) = let h : 0 < 256 ^ k = pow_some k in omega (arith, pow-suc 256 k)

-- the bytes of the number that bytes are
bytes_of-number_of : (bs : List ℕ) → AreBytes bs → bytes_of (length bs) (number_of bs) ≡ bs
bytes_of-number_of [] h = refl
bytes_of-number_of (b ∷ bs) h =
    let small : b < 256 = h.0 in
    let q : (b + 256 * number_of bs) % 256 ≡ b = omega arith in
    let d : (b + 256 * number_of bs) / 256 ≡ number_of bs = omega arith in
    rw (q, d, bytes_of-number_of bs h.1)

number_of-lt : (bs : List ℕ) → AreBytes bs → number_of bs < 256 ^ length bs
number_of-lt [] h = lit< tt
number_of-lt (b ∷ bs) h = let small : b < 256 = h.0 in let rest : number_of bs < 256 ^ length bs = number_of-lt bs h.1 in omega (arith, pow-suc 256 (length bs))

-- the same of as many bytes as are needed
pub bytes_again : (k : ℕ) (bs : List ℕ) → length bs ≡ k → AreBytes bs → bytes_of k (number_of bs) ≡ bs
bytes_again k bs len h = subst (λ n. bytes_of n (number_of bs) ≡ bs) len (bytes_of-number_of bs h)

pub number_bound : (k : ℕ) (bs : List ℕ) → length bs ≡ k → AreBytes bs → number_of bs < 256 ^ k
number_bound k bs len h = subst (λ n. number_of bs < 256 ^ n) len (number_of-lt bs h)

pub number_of-bytes_of : (k v : ℕ) → v < 256 ^ k → number_of (bytes_of k v) ≡ v
number_of-bytes_of zero v h = omega arith
number_of-bytes_of (suc k) v h =
    let less : v / 256 < 256 ^ k = omega (arith, pow-suc 256 k) in
    let e : number_of (bytes_of k (v / 256)) ≡ v / 256 = number_of-bytes_of k (v / 256) less in
    rw e (omega arith)

pub size_most : (w : Width) → size_of w ≤ 8
size_most Byte = omega arith
size_most Word = omega arith
size_most Long = omega arith
size_most Quad = omega arith

pub size_some : (w : Width) → (k : ℕ) × (size_of w ≡ suc k)
size_some Byte = (0, refl)
size_some Word = (1, refl)
size_some Long = (3, refl)
size_some Quad = (7, refl)
