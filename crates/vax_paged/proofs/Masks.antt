-- Of eight bytes at once, the low bits of a width are its number.
use Rattle.std.proofs.Common.{◌≡◌, ℕ, ◌+◌, ◌-◌, ◌*◌, ◌%◌, ◌^◌, ◌<◌, List, ap, ◌∙◌, arith, bit_and, slice_index}
use Rattle.std.proofs.lemmas.Nat.{and_mask}
use Rattle.vv_base.specs.Bytes.{long_at}
use Rattle.vv_base.specs.Width.{bits_of, size_of}
use Rattle.vv_base.specs.declared.width.Width.{Width}
use Rattle.vv_base.specs.declared.width.Width.TheVariants.{Byte, Word, Long, Quad}
use Rattle.vax_paged.specs.InPage.{number_from}

-- the number of eight bytes
abbrev eight_from : List ℕ → ℕ → ℕ
eight_from memory at = long_at memory at + 2 ^ 32 * long_at memory (at + 4)

low_of : (memory : List ℕ) (at : ℕ) (w : Width) → ((i : ℕ) → slice_index memory i < 256) → eight_from memory at % 2 ^ bits_of w ≡ number_from memory (size_of w) at
low_of memory at Byte h = omega (arith, h at)
low_of memory at Word h = omega (arith, h at, h (at + 1))
low_of memory at Long h =
    let e2 : at + 1 + 1 ≡ at + 2 = omega arith in
    let s2 : slice_index memory (at + 1 + 1) ≡ slice_index memory (at + 2) = ap (λ (m : ℕ). slice_index memory m) e2 in
    let e3 : at + 1 + 1 + 1 ≡ at + 3 = omega arith in
    let s3 : slice_index memory (at + 1 + 1 + 1) ≡ slice_index memory (at + 3) = ap (λ (m : ℕ). slice_index memory m) e3 in
    omega (arith, h at, h (at + 1), h (at + 2), h (at + 3), s2, s3)
low_of memory at Quad h =
    let e2 : at + 1 + 1 ≡ at + 2 = omega arith in
    let s2 : slice_index memory (at + 1 + 1) ≡ slice_index memory (at + 2) = ap (λ (m : ℕ). slice_index memory m) e2 in
    let e3 : at + 1 + 1 + 1 ≡ at + 3 = omega arith in
    let s3 : slice_index memory (at + 1 + 1 + 1) ≡ slice_index memory (at + 3) = ap (λ (m : ℕ). slice_index memory m) e3 in
    let e4 : at + 1 + 1 + 1 + 1 ≡ at + 4 = omega arith in
    let s4 : slice_index memory (at + 1 + 1 + 1 + 1) ≡ slice_index memory (at + 4) = ap (λ (m : ℕ). slice_index memory m) e4 in
    let e5 : at + 1 + 1 + 1 + 1 + 1 ≡ at + 5 = omega arith in
    let s5 : slice_index memory (at + 1 + 1 + 1 + 1 + 1) ≡ slice_index memory (at + 5) = ap (λ (m : ℕ). slice_index memory m) e5 in
    let e6 : at + 1 + 1 + 1 + 1 + 1 + 1 ≡ at + 6 = omega arith in
    let s6 : slice_index memory (at + 1 + 1 + 1 + 1 + 1 + 1) ≡ slice_index memory (at + 6) = ap (λ (m : ℕ). slice_index memory m) e6 in
    let e7 : at + 1 + 1 + 1 + 1 + 1 + 1 + 1 ≡ at + 7 = omega arith in
    let s7 : slice_index memory (at + 1 + 1 + 1 + 1 + 1 + 1 + 1) ≡ slice_index memory (at + 7) = ap (λ (m : ℕ). slice_index memory m) e7 in
    let t1 : slice_index memory (at + 4 + 1) ≡ slice_index memory (at + 5) = ap (λ (m : ℕ). slice_index memory m) (let e : at + 4 + 1 ≡ at + 5 = omega arith in e) in
    let t2 : slice_index memory (at + 4 + 2) ≡ slice_index memory (at + 6) = ap (λ (m : ℕ). slice_index memory m) (let e : at + 4 + 2 ≡ at + 6 = omega arith in e) in
    let t3 : slice_index memory (at + 4 + 3) ≡ slice_index memory (at + 7) = ap (λ (m : ℕ). slice_index memory m) (let e : at + 4 + 3 ≡ at + 7 = omega arith in e) in
    omega (arith, h at, h (at + 1), h (at + 2), h (at + 3), h (at + 4), h (at + 5), h (at + 6), h (at + 7), s2, s3, s4, s5, s6, s7, t1, t2, t3)

pub number_masked : (memory : List ℕ) (at low high mask : ℕ) (w : Width) → ((i : ℕ) → slice_index memory i < 256) → low ≡ long_at memory at → high ≡ long_at memory (at + 4) → mask ≡ 2 ^ bits_of w - 1 →
    bit_and (low + 2 ^ 32 * high) mask ≡ number_from memory (size_of w) at
number_masked memory at low high mask w h e f is =
    ap (λ (m : ℕ). bit_and (m + 2 ^ 32 * high) mask) e ∙ ap (λ (m : ℕ). bit_and (long_at memory at + 2 ^ 32 * m) mask) f
    ∙ ap (λ (m : ℕ). bit_and (eight_from memory at) m) is ∙ and_mask (eight_from memory at) (bits_of w) ∙ low_of memory at w h
