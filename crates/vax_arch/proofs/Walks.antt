-- Laws of address translation, along the tests of its definition.
use Rattle.std.proofs.Common.{◌≡◌, ℕ, ◌+◌, ◌*◌, ◌%◌, ◌^◌, ◌<◌, ◌≤◌, Bool, true, false, not, ◌||◌, eqb, ltb, leb, List, Option, Some, None, refl, ap, ◌∙◌, sym, arith}
use Rattle.std.specs.Prelude.{if◌then◌else◌}
use Rattle.std.proofs.lemmas.Bool.{cond_both}
use Rattle.std.proofs.lemmas.Bool.Decides.{nat_tests}
use Rattle.vv_base.specs.Bytes.{long_at}
use Rattle.vax_arch.specs.Fields.{frame_of, is_valid}
use Rattle.vax_arch.specs.Walk.{Tables, in_memory, in_region, is_past, lookup, mapped_entry, page_of, process_entry, region_of, system_entry, through_system_entry}
use Rattle.vax_arch.specs.WalkLaws.{AreAligned, IsAligned, IsInside, LooksAligned, LooksAtOne, LooksInside, OptionAligned, OptionInside, table_at, table_place}
use Rattle.vax_arch.specs.declared.walk.Lookup.{Lookup}
use Rattle.vax_arch.specs.declared.walk.Lookup.TheVariants.{Beyond, Direct, Fails, Found}

within : (size place bytes : ℕ) → is_past size place bytes ≡ false → place + bytes ≤ size
within size place bytes e = grind (arith, nat_tests)

-- Places lie in memory.

in_memory_inside : (size : ℕ) (table : Option ℕ) (place : ℕ) → OptionInside size table → IsInside size (in_memory size table place)
in_memory_inside size table place h = cond_both (is_past size place 4) Beyond (Found place table) (IsInside size) (λ e. tt) (λ e. (within size place 4 e, h))

length_small : 1 < 4
length_small = omega arith

table_small : 3 < 4
table_small = omega arith

absent_small : 2 < 4
absent_small = omega arith

after_inside : (size : ℕ) (memory : List ℕ) (at table : ℕ) → IsInside size (through_system_entry size memory at table)
after_inside size memory at table =
    let P = IsInside size in
    let entry = long_at memory table in
    cond_both (is_past size table 4) Beyond _ P (λ e. tt) (λ e.
    cond_both (not (is_valid entry)) (Fails true 2) _ P (λ g. absent_small) (λ g.
    cond_both (is_past size (512 * frame_of entry) 512) Beyond _ P (λ k. tt) (λ k.
    in_memory_inside size (Some table) (512 * frame_of entry + at % 512) (within size table 4 e))))

system_inside : (size : ℕ) (t : Tables) (page : ℕ) → IsInside size (system_entry size t page)
unfolding system_entry
system_inside size t page = cond_both (leb t.slr page) (Fails false 1) _ (IsInside size) (λ e. length_small) (λ e. in_memory_inside size None (t.sbr + 4 * page) tt)

process_inside : (size : ℕ) (memory : List ℕ) (t : Tables) (at : ℕ) → IsInside size (process_entry size memory t at)
unfolding process_entry
process_inside size memory t at =
    cond_both (not (eqb (region_of (page_of at)) 2) || leb t.slr (in_region (page_of at))) (Fails false 3) _ (IsInside size) (λ e. table_small)
    (λ e. after_inside size memory at (t.sbr + 4 * in_region (page_of at)))

pub mapped_inside : (size : ℕ) (memory : List ℕ) (t : Tables) (page : ℕ) → IsInside size (mapped_entry size memory t page)
unfolding mapped_entry
mapped_inside size memory t page =
    let P = IsInside size in
    cond_both (eqb (region_of page) 0) _ _ P (λ e. cond_both (leb t.p0lr (in_region page)) (Fails false 1) _ P (λ g. length_small) (λ g. process_inside size memory t ((t.p0br + 4 * in_region page) % 2 ^ 32))) (λ e.
    cond_both (eqb (region_of page) 1) _ _ P (λ g. cond_both (ltb (in_region page) t.p1lr) (Fails false 1) _ P (λ k. length_small) (λ k. process_inside size memory t ((t.p1br + 4 * in_region page) % 2 ^ 32))) (λ g.
    cond_both (eqb (region_of page) 2) _ _ P (λ k. system_inside size t (in_region page)) (λ k. length_small)))

pub looks_inside : LooksInside
unfolding lookup
looks_inside size memory t page =
    cond_both t.mapped _ _ (IsInside size) (λ e. mapped_inside size memory t page)
    (λ e. cond_both (is_past size (512 * page) 512) Beyond (Direct page) (IsInside size) (λ g. tt) (λ g. within size (512 * page) 512 g))

-- Places are multiples of 4.

in_memory_aligned : (size : ℕ) (table : Option ℕ) (place : ℕ) → place % 4 ≡ 0 → OptionAligned table → IsAligned (in_memory size table place)
in_memory_aligned size table place a h = cond_both (is_past size place 4) Beyond (Found place table) IsAligned (λ e. tt) (λ e. (a, h))

added : (a b : ℕ) → a % 4 ≡ 0 → (a + 4 * b) % 4 ≡ 0
added a b e = grind arith

wrapped : (a b : ℕ) → a % 4 ≡ 0 → (a + 4 * b) % 2 ^ 32 % 4 ≡ 0
wrapped a b e = grind arith

in_frame : (f at : ℕ) → at % 4 ≡ 0 → (512 * f + at % 512) % 4 ≡ 0
in_frame f at e = grind arith

after_aligned : (size : ℕ) (memory : List ℕ) (at table : ℕ) → at % 4 ≡ 0 → table % 4 ≡ 0 → IsAligned (through_system_entry size memory at table)
after_aligned size memory at table a h =
    let entry = long_at memory table in
    cond_both (is_past size table 4) Beyond _ IsAligned (λ e. tt) (λ e.
    cond_both (not (is_valid entry)) (Fails true 2) _ IsAligned (λ g. tt) (λ g.
    cond_both (is_past size (512 * frame_of entry) 512) Beyond _ IsAligned (λ k. tt) (λ k.
    in_memory_aligned size (Some table) (512 * frame_of entry + at % 512) (in_frame (frame_of entry) at a) h)))

system_aligned : (size : ℕ) (t : Tables) (page : ℕ) → t.sbr % 4 ≡ 0 → IsAligned (system_entry size t page)
unfolding system_entry
system_aligned size t page a = cond_both (leb t.slr page) (Fails false 1) _ IsAligned (λ e. tt) (λ e. in_memory_aligned size None (t.sbr + 4 * page) (added t.sbr page a) tt)

process_aligned : (size : ℕ) (memory : List ℕ) (t : Tables) (at : ℕ) → t.sbr % 4 ≡ 0 → at % 4 ≡ 0 → IsAligned (process_entry size memory t at)
unfolding process_entry
process_aligned size memory t at s a =
    cond_both (not (eqb (region_of (page_of at)) 2) || leb t.slr (in_region (page_of at))) (Fails false 3) _ IsAligned (λ e. tt)
    (λ e. after_aligned size memory at (t.sbr + 4 * in_region (page_of at)) a (added t.sbr (in_region (page_of at)) s))

mapped_aligned : (size : ℕ) (memory : List ℕ) (t : Tables) (page : ℕ) → AreAligned t → IsAligned (mapped_entry size memory t page)
unfolding mapped_entry
mapped_aligned size memory t page h =
    let P = IsAligned in
    cond_both (eqb (region_of page) 0) _ _ P (λ e. cond_both (leb t.p0lr (in_region page)) (Fails false 1) _ P (λ g. tt) (λ g. process_aligned size memory t ((t.p0br + 4 * in_region page) % 2 ^ 32) h.sbr (wrapped t.p0br (in_region page) h.p0br))) (λ e.
    cond_both (eqb (region_of page) 1) _ _ P (λ g. cond_both (ltb (in_region page) t.p1lr) (Fails false 1) _ P (λ k. tt) (λ k. process_aligned size memory t ((t.p1br + 4 * in_region page) % 2 ^ 32) h.sbr (wrapped t.p1br (in_region page) h.p1br))) (λ g.
    cond_both (eqb (region_of page) 2) _ _ P (λ k. system_aligned size t (in_region page) h.sbr) (λ k. tt)))

pub looks_aligned : LooksAligned
unfolding lookup
looks_aligned size memory t page h =
    cond_both t.mapped _ _ IsAligned (λ e. mapped_aligned size memory t page h)
    (λ e. cond_both (is_past size (512 * page) 512) Beyond (Direct page) IsAligned (λ g. tt) (λ g. tt))

-- One longword decides.

after_same : (size : ℕ) (memory other : List ℕ) (at table : ℕ) → long_at other table ≡ long_at memory table → through_system_entry size other at table ≡ through_system_entry size memory at table
after_same size memory other at table e =
    let by : ℕ → Lookup = λ entry. if is_past size table 4 then Beyond else if not (is_valid entry) then Fails true 2 else if is_past size (512 * frame_of entry) 512 then Beyond else in_memory size (Some table) (512 * frame_of entry + at % 512) in
    ap by e

process_same : (size : ℕ) (memory other : List ℕ) (t : Tables) (at : ℕ) → long_at other (t.sbr + 4 * in_region (page_of at)) ≡ long_at memory (t.sbr + 4 * in_region (page_of at)) → process_entry size other t at ≡ process_entry size memory t at
unfolding process_entry
process_same size memory other t at e =
    ap (λ (x : Lookup). if not (eqb (region_of (page_of at)) 2) || leb t.slr (in_region (page_of at)) then Fails false 3 else x) (after_same size memory other at (t.sbr + 4 * in_region (page_of at)) e)

mapped_by : (r0 r1 : Bool) (size : ℕ) (memory other : List ℕ) (t : Tables) (page : ℕ) → eqb (region_of page) 0 ≡ r0 → eqb (region_of page) 1 ≡ r1 →
    long_at other (table_place t page) ≡ long_at memory (table_place t page) → mapped_entry size other t page ≡ mapped_entry size memory t page
unfolding mapped_entry
mapped_by true r1 size memory other t page p q e =
    let place : table_place t page ≡ table_at t t.p0br page = rw p refl in
    let same : long_at other (table_at t t.p0br page) ≡ long_at memory (table_at t t.p0br page) = ap (long_at other) (sym place) ∙ e ∙ ap (long_at memory) place in
    rw p (ap (λ (x : Lookup). if leb t.p0lr (in_region page) then Fails false 1 else x) (process_same size memory other t ((t.p0br + 4 * in_region page) % 2 ^ 32) same))
mapped_by false true size memory other t page p q e =
    let place : table_place t page ≡ table_at t t.p1br page = rw p refl in
    let same : long_at other (table_at t t.p1br page) ≡ long_at memory (table_at t t.p1br page) = ap (long_at other) (sym place) ∙ e ∙ ap (long_at memory) place in
    rw (p, q) (ap (λ (x : Lookup). if ltb (in_region page) t.p1lr then Fails false 1 else x) (process_same size memory other t ((t.p1br + 4 * in_region page) % 2 ^ 32) same))
mapped_by false false size memory other t page p q e = rw (p, q) refl

pub looks_at_one : LooksAtOne
unfolding lookup
looks_at_one size memory other t page e =
    ap (λ (x : Lookup). if t.mapped then x else if is_past size (512 * page) 512 then Beyond else Direct page) (mapped_by (eqb (region_of page) 0) (eqb (region_of page) 1) size memory other t page refl refl e)
