-- A longword written into a memory.
use Rattle.std.proofs.Common.{◌≡◌, ℕ, ◌+◌, ◌-◌, ◌*◌, ◌/◌, ◌%◌, ◌<◌, ◌≤◌, ◌⊎◌, inl, inr, List, ◌++◌, length, take, drop, get_or, slice_index, refl, ap, ◌∙◌, sym, subst, arith}
use Rattle.std.proofs.lemmas.List.{append_assoc, ext_get_or, get_or-append_right, get_or-drop, get_or-take, get_or_append_left, length-append, length-drop, length-take-le}
use Rattle.vv_base.specs.Bytes.{long_at, long_bytes, overwritten}
use Rattle.vm_shadow.proofs.Places.{split}
use Rattle.vm_state.specs.Partition.{part}
use Rattle.vm_state.proofs.Parts.{part_byte, part_length}

-- a longword is written at a place, and nothing else
pub record IsWritten (memory after : List ℕ) (place long : ℕ) : Type 0 where
  pub size : length after ≡ length memory
  pub other : (p : ℕ) → (p < place) ⊎ (place + 4 ≤ p) → slice_index after p ≡ slice_index memory p
  pub is : long_at after place ≡ long

long_back : (n : ℕ) → n % 256 + 256 * (n / 256 % 256) + 65536 * (n / 65536 % 256) + 16777216 * (n / 16777216) ≡ n
long_back n = omega arith

written_as : (memory : List ℕ) (at v : ℕ) → at + 4 ≤ length memory → IsWritten memory (take at memory ++ (long_bytes v ++ drop (at + 4) memory)) at v
written_as memory at v room =
    let front : length (take at memory) ≡ at = length-take-le at memory (omega arith) in
    let rest : List ℕ = long_bytes v ++ drop (at + 4) memory in
    let back : length (drop (at + 4) memory) ≡ length memory - (at + 4) = length-drop (at + 4) memory in
    let tail : length rest ≡ 4 + length (drop (at + 4) memory) = length-append (long_bytes v) (drop (at + 4) memory) in
    let all : length (take at memory ++ rest) ≡ length (take at memory) + length rest = length-append (take at memory) rest in
    let size : length (take at memory ++ rest) ≡ length memory = omega (arith, front, back, tail, all) in
    let here : (k : ℕ) → get_or (take at memory ++ rest) (at + k) 0 ≡ get_or rest k 0 = λ k. get_or-append_right (take at memory) rest at (at + k) 0 front (omega arith) ∙ ap (λ n. get_or rest n 0) (omega arith) in
    let e0 : get_or (take at memory ++ rest) at 0 ≡ v % 256 = ap (λ n. get_or (take at memory ++ rest) n 0) (omega arith) ∙ here 0 in
    let e1 : get_or (take at memory ++ rest) (at + 1) 0 ≡ v / 256 % 256 = here 1 in
    let e2 : get_or (take at memory ++ rest) (at + 2) 0 ≡ v / 65536 % 256 = here 2 in
    let e3 : get_or (take at memory ++ rest) (at + 3) 0 ≡ v / 16777216 = here 3 in
    record {
      size = size;
      other = λ p h. split h
          (λ before. get_or_append_left (take at memory) rest 0 p (omega (arith, front)) ∙ get_or-take at memory p 0 before)
          (λ later. get_or-append_right (take at memory) rest at p 0 front (omega arith) ∙ get_or-append_right (long_bytes v) (drop (at + 4) memory) 4 (p - at) 0 refl (omega arith) ∙ get_or-drop (at + 4) memory (p - at - 4) 0 ∙ ap (λ n. get_or memory n 0) (omega arith));
      is = (λ i. e0 i + 256 * e1 i + 65536 * e2 i + 16777216 * e3 i) ∙ long_back v;
    }

pub written : (memory : List ℕ) (at v : ℕ) → at + 4 ≤ length memory → IsWritten memory (overwritten memory at (long_bytes v)) at v
written memory at v room = subst (λ x. IsWritten memory x at v) (sym (append_assoc (take at memory) (long_bytes v) (drop (at + 4) memory))) (written_as memory at v room)

-- another longword stays
pub long_by : (memory after : List ℕ) (there : ℕ) → ((p : ℕ) → there ≤ p → p < there + 4 → slice_index after p ≡ slice_index memory p) → long_at after there ≡ long_at memory there
long_by memory after there same =
    let e0 : get_or after there 0 ≡ get_or memory there 0 = same there (omega arith) (omega arith) in
    let e1 : get_or after (there + 1) 0 ≡ get_or memory (there + 1) 0 = same (there + 1) (omega arith) (omega arith) in
    let e2 : get_or after (there + 2) 0 ≡ get_or memory (there + 2) 0 = same (there + 2) (omega arith) (omega arith) in
    let e3 : get_or after (there + 3) 0 ≡ get_or memory (there + 3) 0 = same (there + 3) (omega arith) (omega arith) in
    λ i. e0 i + 256 * e1 i + 65536 * e2 i + 16777216 * e3 i

pub long_kept : (memory after : List ℕ) (at long there : ℕ) → IsWritten memory after at long → (there + 4 ≤ at) ⊎ (at + 4 ≤ there) → long_at after there ≡ long_at memory there
long_kept memory after at long there w h = long_by memory after there (λ p a b. w.other p (split h (λ before. inl (omega arith)) (λ later. inr (omega arith))))

-- a part of a memory whose bytes stay
pub part_same : (memory after : List ℕ) (at size : ℕ) → length after ≡ length memory → at + size ≤ length memory → ((p : ℕ) → at ≤ p → p < at + size → slice_index after p ≡ slice_index memory p) → part after at size ≡ part memory at size
part_same memory after at size whole room same =
    let before : length (part memory at size) ≡ size = part_length memory at size room in
    let now : length (part after at size) ≡ size = part_length after at size (omega arith) in
    ext_get_or 0 (part after at size) (part memory at size) (now ∙ sym before) (λ i h.
    let k : i < size = omega arith in
    part_byte after at size i k ∙ same (at + i) (omega arith) (omega arith) ∙ sym (part_byte memory at size i k))
