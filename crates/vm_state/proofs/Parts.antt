-- A part of a memory read as a memory.
use Rattle.std.proofs.Common.{◌≡◌, ℕ, ◌+◌, ◌-◌, ◌<◌, ◌≤◌, List, length, drop, refl, ◌∙◌, arith, slice_index, length-drop, sym, subst}
use Rattle.std.proofs.lemmas.List.{get_or-drop, get_or-take, length-take-le}
use Rattle.vv_base.specs.Bytes.{long_at}
use Rattle.vax_arch.specs.Walk.{Tables, lookup}
use Rattle.vax_arch.specs.WalkLaws.{IsInside}
use Rattle.vax_arch.specs.declared.walk.Lookup.{Lookup}
use Rattle.vax_arch.proofs.Walks.{looks_inside}
use Rattle.vm_state.specs.Partition.{part}

pub part_byte : (memory : List ℕ) (at size i : ℕ) → i < size → slice_index (part memory at size) i ≡ slice_index memory (at + i)
part_byte memory at size i h = get_or-take size (drop at memory) i 0 h ∙ get_or-drop at memory i 0

-- a longword of a part is the memory's, at the place moved by the part's begin
pub part_long : (memory : List ℕ) (at size place : ℕ) → place + 4 ≤ size → long_at (part memory at size) place ≡ long_at memory (at + place)
part_long memory at size place h =
    let b1 : at + (place + 1) ≡ (at + place) + 1 = omega arith in
    let b2 : at + (place + 2) ≡ (at + place) + 2 = omega arith in
    let b3 : at + (place + 3) ≡ (at + place) + 3 = omega arith in
    rw (part_byte memory at size place (omega arith), part_byte memory at size (place + 1) (omega arith), part_byte memory at size (place + 2) (omega arith), part_byte memory at size (place + 3) (omega arith), b1, b2, b3) refl

pub part_length : (memory : List ℕ) (at size : ℕ) → at + size ≤ length memory → length (part memory at size) ≡ size
part_length memory at size h = let l : length (drop at memory) ≡ length memory - at = length-drop at memory in let t : size ≤ length (drop at memory) = omega arith in length-take-le size (drop at memory) t

-- what is a look-up lies inside
pub inside_by : (size : ℕ) (memory : List ℕ) (t : Tables) (page : ℕ) (x : Lookup) → x ≡ lookup size memory t page → IsInside size x
inside_by size memory t page x e = subst (IsInside size) (sym e) (looks_inside size memory t page)
