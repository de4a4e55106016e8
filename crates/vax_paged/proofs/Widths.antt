-- A longword that is written at once is its bytes, stored one after another.
use Rattle.std.proofs.Common.{◌≡◌, ℕ, zero, suc, ◌+◌, ◌/◌, ◌%◌, ◌^◌, ◌<◌, ◌≤◌, List, [], ◌∷◌, ◌++◌, length, take, drop, slice_set, ap, ◌∙◌, arith, append-nil, length-set}
use Rattle.std.proofs.lemmas.List.{take-append-drop}
use Rattle.vv_base.specs.Bytes.{long_bytes, overwritten}
use Rattle.vax_paged.specs.InPage.{stored_from}

-- the lowest k bytes of a number
low_bytes : (k v : ℕ) → List ℕ
low_bytes zero v = []
low_bytes (suc k) v = v % 256 ∷ low_bytes k (v / 256)

over_none : (memory : List ℕ) (p : ℕ) → overwritten memory p [] ≡ memory
over_none memory p =
    let same : p + 0 ≡ p = omega arith in
    ap (λ (xs : List ℕ). xs ++ drop (p + 0) memory) (append-nil (take p memory)) ∙ ap (λ (n : ℕ). take p memory ++ drop n memory) same ∙ take-append-drop p memory

-- one byte, and the others after it
over_first : (memory : List ℕ) (p b : ℕ) (bs : List ℕ) → p < length memory → overwritten memory p (b ∷ bs) ≡ overwritten (slice_set memory p b) (p + 1) bs
over_first [] p b bs h = absurd (omega arith)
over_first (x ∷ xs) zero b bs h =
    let left : 0 + suc (length bs) ≡ suc (length bs) = omega arith in
    let right : suc (length bs) ≡ 1 + length bs = omega arith in
    ap (λ (n : ℕ). (b ∷ bs) ++ drop n (x ∷ xs)) left ∙ ap (λ (n : ℕ). (b ∷ bs) ++ drop n (b ∷ xs)) right
over_first (x ∷ xs) (suc p) b bs h =
    let left : suc p + suc (length bs) ≡ suc (p + suc (length bs)) = omega arith in
    let at : suc (p + 1) ≡ suc p + 1 = omega arith in
    let right : suc (p + 1 + length bs) ≡ suc (p + 1) + length bs = omega arith in
    ap (λ (n : ℕ). take (suc p) (x ∷ xs) ++ (b ∷ bs) ++ drop n (x ∷ xs)) left
    ∙ ap (λ (ys : List ℕ). x ∷ ys) (over_first xs p b bs (omega arith))
    ∙ ap (λ (n : ℕ). take (suc (p + 1)) (x ∷ slice_set xs p b) ++ bs ++ drop n (x ∷ slice_set xs p b)) right
    ∙ ap (λ (n : ℕ). overwritten (x ∷ slice_set xs p b) n bs) at

over_low : (k p v : ℕ) (memory : List ℕ) → p + k ≤ length memory → overwritten memory p (low_bytes k v) ≡ stored_from k p v memory
unfolding low_bytes
over_low zero p v memory h = over_none memory p
over_low (suc k) p v memory h =
    let size : length (slice_set memory p (v % 256)) ≡ length memory = length-set memory p (v % 256) in
    over_first memory p (v % 256) (low_bytes k (v / 256)) (omega arith) ∙ over_low k (p + 1) (v / 256) (slice_set memory p (v % 256)) (omega (arith, size))

pub long_over : (memory : List ℕ) (p v : ℕ) → p + 4 ≤ length memory → overwritten memory p (long_bytes (v % 2 ^ 32)) ≡ stored_from 4 p v memory
unfolding low_bytes
long_over memory p v h =
    let a : v % 4294967296 % 256 ≡ v % 256 = omega arith in
    let b : v % 4294967296 / 256 % 256 ≡ v / 256 % 256 = omega arith in
    let c : v % 4294967296 / 65536 % 256 ≡ v / 256 / 256 % 256 = omega arith in
    let d : v % 4294967296 / 16777216 ≡ v / 256 / 256 / 256 % 256 = omega arith in
    ap (λ (x : ℕ). overwritten memory p (x ∷ v % 4294967296 / 256 % 256 ∷ v % 4294967296 / 65536 % 256 ∷ v % 4294967296 / 16777216 ∷ [])) a
    ∙ ap (λ (x : ℕ). overwritten memory p (v % 256 ∷ x ∷ v % 4294967296 / 65536 % 256 ∷ v % 4294967296 / 16777216 ∷ [])) b
    ∙ ap (λ (x : ℕ). overwritten memory p (v % 256 ∷ v / 256 % 256 ∷ x ∷ v % 4294967296 / 16777216 ∷ [])) c
    ∙ ap (λ (x : ℕ). overwritten memory p (v % 256 ∷ v / 256 % 256 ∷ v / 256 / 256 % 256 ∷ x ∷ [])) d
    ∙ over_low 4 p v memory h

-- a quadword is two longwords
pub quad_from : (memory : List ℕ) (p v : ℕ) → stored_from 4 (p + 4) (v / 2 ^ 32) (stored_from 4 p v memory) ≡ stored_from 8 p v memory
quad_from memory p v =
    let at : p + 4 ≡ p + 1 + 1 + 1 + 1 = omega arith in
    let rest : v / 4294967296 ≡ v / 256 / 256 / 256 / 256 = omega arith in
    ap (λ (n : ℕ). stored_from 4 n (v / 4294967296) (stored_from 4 p v memory)) at ∙ ap (λ (n : ℕ). stored_from 4 (p + 1 + 1 + 1 + 1) n (stored_from 4 p v memory)) rest
