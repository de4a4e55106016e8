-- Walks over two memories, of which the second has the bytes of the first at the places that a walk reads.
use Rattle.std.proofs.Common.{◌≡◌, ℕ, ◌+◌, ◌*◌, ◌%◌, ◌^◌, Bool, true, false, not, ◌||◌, inl, inr, List, [], ◌∷◌, ◌++◌, Some, Result, Ok, Err, refl, ap, ◌∙◌}
use Rattle.std.specs.Prelude.{◌==◌, if◌then◌else◌, nat_le, nat_lt, slice_get, slice_index, unwrap_or}
use Rattle.vv_base.specs.Bytes.{long_at}
use Rattle.vax_arch.specs.Fields.{frame_of, is_modified, is_valid, protection_of}
use Rattle.vax_arch.specs.Protection.{Rights, may_of, no, protection_row, protection_rows, rights_allow, rights_in}
use Rattle.vax_arch.specs.Protection as rights
use Rattle.vax_arch.specs.Walk.{Tables, granted, in_memory, in_region, is_clear_at, is_past, lookup, mapped_entry, page_of, process_entry, region_of, system_entry, through_system_entry}
use Rattle.vax_arch.specs.declared.mode.Intent.{Intent}
use Rattle.vax_arch.specs.declared.mode.Intent.TheVariants.{Read, Write}
use Rattle.vax_arch.specs.declared.mode.Mode.{Mode}
use Rattle.vax_arch.specs.declared.walk.Grant.{Grant}
use Rattle.vax_arch.specs.declared.walk.Grant.TheVariants.{Refused}
use Rattle.vax_arch.specs.declared.walk.Lookup.{Lookup}
use Rattle.vax_arch.specs.declared.walk.Lookup.TheVariants.{Beyond, Direct, Fails, Found}
use Rattle.vax_hw.specs.RealTables.{access_judged, access_judged_at, byte_by, everywhere, is_clear_in, judged_by, place_by, place_in, place_or_end, placed_by, real_look}
use Rattle.vvmm_laws.specs.Machine.{HasTheSame}
use Rattle.vvmm_laws.specs.Reads.{all_four, found_by, four_from, mapping_at, mapping_of, place_if, places_walked}
use Rattle.vax_table.specs.Claims.{AreAmong}
use Rattle.vax_table.specs.Interaction.{Cause}
use Rattle.vax_table.proofs.Among.{among_back, among_front}

pub narrowed : (places more memory other : List ℕ) → AreAmong places more → HasTheSame more memory other → HasTheSame places memory other
narrowed places more memory other among h place g = h place (among place g)

long_same : (memory other : List ℕ) (place : ℕ) (rest : List ℕ) → HasTheSame (four_from place ++ rest) memory other → long_at other place ≡ long_at memory place
long_same memory other place rest h =
    let a : slice_index other place ≡ slice_index memory place = h place (inl refl) in
    let b : slice_index other (place + 1) ≡ slice_index memory (place + 1) = h (place + 1) (inr (inl refl)) in
    let c : slice_index other (place + 2) ≡ slice_index memory (place + 2) = h (place + 2) (inr (inr (inl refl))) in
    let d : slice_index other (place + 3) ≡ slice_index memory (place + 3) = h (place + 3) (inr (inr (inr (inl refl)))) in
    cc

-- The look-up.

after_same : (memory other : List ℕ) (at table : ℕ) → long_at other table ≡ long_at memory table → through_system_entry everywhere other at table ≡ through_system_entry everywhere memory at table
after_same memory other at table e =
    let by : ℕ → Lookup = λ entry. if is_past everywhere table 4 then Beyond else if not (is_valid entry) then Fails true 2 else if is_past everywhere (512 * frame_of entry) 512 then Beyond else in_memory everywhere (Some table) (512 * frame_of entry + at % 512) in
    ap by e

process_on : (is_refused : Bool) (memory other : List ℕ) (at table : ℕ) → HasTheSame (all_four (if is_refused then [] else table ∷ [])) memory other →
    (if is_refused then Fails false 3 else through_system_entry everywhere other at table) ≡ (if is_refused then Fails false 3 else through_system_entry everywhere memory at table)
process_on true memory other at table h = refl
process_on false memory other at table h = after_same memory other at table (long_same memory other table [] h)

process_same : (memory other : List ℕ) (t : Tables) (at : ℕ) → HasTheSame (all_four (mapping_at t at)) memory other → process_entry everywhere other t at ≡ process_entry everywhere memory t at
unfolding process_entry
process_same memory other t at h = process_on (not (region_of (page_of at) == 2) || nat_le t.slr (in_region (page_of at))) memory other at (t.sbr + 4 * in_region (page_of at)) h

mapped_on : (p0 past0 p1 past1 : Bool) (memory other : List ℕ) (t : Tables) (at0 at1 : ℕ) (rest : Lookup) →
    HasTheSame (all_four (if p0 then (if past0 then [] else mapping_at t at0) else if p1 then (if past1 then [] else mapping_at t at1) else [])) memory other →
    (if p0 then (if past0 then Fails false 1 else process_entry everywhere other t at0) else if p1 then (if past1 then Fails false 1 else process_entry everywhere other t at1) else rest)
    ≡ (if p0 then (if past0 then Fails false 1 else process_entry everywhere memory t at0) else if p1 then (if past1 then Fails false 1 else process_entry everywhere memory t at1) else rest)
mapped_on true true p1 past1 memory other t at0 at1 rest h = refl
mapped_on true false p1 past1 memory other t at0 at1 rest h = process_same memory other t at0 h
mapped_on false past0 true true memory other t at0 at1 rest h = refl
mapped_on false past0 true false memory other t at0 at1 rest h = process_same memory other t at1 h
mapped_on false past0 false past1 memory other t at0 at1 rest h = refl

look_same : (memory other : List ℕ) (t : Tables) (page : ℕ) → HasTheSame (all_four (mapping_of t page)) memory other → real_look other t page ≡ real_look memory t page
unfolding real_look lookup mapped_entry mapping_of
look_same memory other t page h =
    mapped_on (region_of page == 0) (nat_le t.p0lr (in_region page)) (region_of page == 1) (nat_lt (in_region page) t.p1lr) memory other (record t { mapped = true })
    ((t.p0br + 4 * in_region page) % 2 ^ 32) ((t.p1br + 4 * in_region page) % 2 ^ 32) (if region_of page == 2 then system_entry everywhere (record t { mapped = true }) (in_region page) else Fails false 1) h

-- the places of several longwords
fours_front : (xs ys : List ℕ) → AreAmong (all_four xs) (all_four (xs ++ ys))
fours_front [] ys p h = absurd h
fours_front (x ∷ xs) ys p (inl e) = inl e
fours_front (x ∷ xs) ys p (inr (inl e)) = inr (inl e)
fours_front (x ∷ xs) ys p (inr (inr (inl e))) = inr (inr (inl e))
fours_front (x ∷ xs) ys p (inr (inr (inr (inl e)))) = inr (inr (inr (inl e)))
fours_front (x ∷ xs) ys p (inr (inr (inr (inr h)))) = inr (inr (inr (inr (fours_front xs ys p h))))

fours_back : (xs ys : List ℕ) → AreAmong (all_four ys) (all_four (xs ++ ys))
fours_back [] ys p h = h
fours_back (x ∷ xs) ys p h = inr (inr (inr (inr (fours_back xs ys p h))))

-- What the walk of an address gives.

pub walk_looks : (memory other : List ℕ) (t : Tables) (va : ℕ) → HasTheSame (places_walked memory t va) memory other → real_look other t (page_of va) ≡ real_look memory t (page_of va)
walk_looks memory other t va h =
    let first = mapping_of t (page_of va) in
    let second = found_by (real_look memory t (page_of va)) in
    look_same memory other t (page_of va) (narrowed (all_four first) (all_four (first ++ second)) memory other (fours_front first second) h)

walk_finds : (memory other : List ℕ) (t : Tables) (va : ℕ) → HasTheSame (places_walked memory t va) memory other → HasTheSame (all_four (found_by (real_look memory t (page_of va)))) memory other
walk_finds memory other t va h =
    let first = mapping_of t (page_of va) in
    let second = found_by (real_look memory t (page_of va)) in
    narrowed (all_four second) (all_four (first ++ second)) memory other (fours_back first second) h

placed_on : (memory other : List ℕ) (va : ℕ) (m : Mode) (i : Intent) (look : Lookup) → HasTheSame (all_four (found_by look)) memory other → placed_by other va m i look ≡ placed_by memory va m i look
placed_on memory other va m i (Found place table) h = ap (λ entry. place_by va (granted may_of everywhere entry m i)) (long_same memory other place [] h)
placed_on memory other va m i (Direct frame) h = refl
placed_on memory other va m i (Fails not_valid parameter) h = refl
placed_on memory other va m i Beyond h = refl

pub place_same : (memory other : List ℕ) (t : Tables) (m : Mode) (i : Intent) (va : ℕ) → HasTheSame (places_walked memory t va) memory other → place_in other t m i va ≡ place_in memory t m i va
unfolding place_in
place_same memory other t m i va h = ap (placed_by other va m i) (walk_looks memory other t va h) ∙ placed_on memory other va m i (real_look memory t (page_of va)) (walk_finds memory other t va h)

clear_on : (memory other : List ℕ) (look : Lookup) → HasTheSame (all_four (found_by look)) memory other → is_clear_at other look ≡ is_clear_at memory look
clear_on memory other (Found place table) h = ap (λ entry. not (is_modified entry)) (long_same memory other place [] h)
clear_on memory other (Direct frame) h = refl
clear_on memory other (Fails not_valid parameter) h = refl
clear_on memory other Beyond h = refl

pub mark_same : (memory other : List ℕ) (t : Tables) (va : ℕ) → HasTheSame (places_walked memory t va) memory other → is_clear_in other t va ≡ is_clear_in memory t va
mark_same memory other t va h = ap (is_clear_at other) (walk_looks memory other t va h) ∙ clear_on memory other (real_look memory t (page_of va)) (walk_finds memory other t va h)

judged_on : (memory other : List ℕ) (m : Mode) (i : Intent) (look : Lookup) → HasTheSame (all_four (found_by look)) memory other → access_judged_at other m i look ≡ access_judged_at memory m i look
judged_on memory other m i (Found place table) h = ap (λ entry. judged_by entry m i) (long_same memory other place [] h)
judged_on memory other m i (Direct frame) h = refl
judged_on memory other m i (Fails not_valid parameter) h = refl
judged_on memory other m i Beyond h = refl

pub judged_same : (memory other : List ℕ) (t : Tables) (m : Mode) (i : Intent) (va : ℕ) → HasTheSame (places_walked memory t va) memory other → access_judged other t m i va ≡ access_judged memory t m i va
unfolding access_judged
judged_same memory other t m i va h = ap (access_judged_at other m i) (walk_looks memory other t va h) ∙ judged_on memory other m i (real_look memory t (page_of va)) (walk_finds memory other t va h)

-- What may be written may be read, at the same place.

right : (x : Rights) → rights_allow x Write ≡ true → rights_allow x Read ≡ true
right rights.no e = cc
right rights.r e = refl
right rights.rw e = refl

grant_read : (writes reads : Bool) (rest : Grant) (va place : ℕ) → (writes ≡ true → reads ≡ true) → place_by va (if not writes then Refused else rest) ≡ Ok place → place_by va (if not reads then Refused else rest) ≡ Ok place
grant_read true reads rest va place h e = rw (h refl) e
grant_read false reads rest va place h e = cc

read_on : (memory : List ℕ) (va place : ℕ) (m : Mode) (look : Lookup) → placed_by memory va m Write look ≡ Ok place → placed_by memory va m Read look ≡ Ok place
unfolding granted
read_on memory va place m (Found at table) e =
    let code = protection_of (long_at memory at) in
    grant_read (may_of code m Write) (may_of code m Read) _ va place (right (rights_in (unwrap_or (slice_get protection_rows code) (protection_row no no no no)) m)) e
read_on memory va place m (Direct frame) e = e
read_on memory va place m (Fails not_valid parameter) e = cc
read_on memory va place m Beyond e = cc

pub place_read : (memory : List ℕ) (t : Tables) (m : Mode) (i : Intent) (va place : ℕ) → place_in memory t m i va ≡ Ok place → place_in memory t m Read va ≡ Ok place
unfolding place_in
place_read memory t m Read va place e = e
place_read memory t m Write va place e = read_on memory va place m (real_look memory t (page_of va)) e

byte_on : (memory other : List ℕ) (x y : Result ℕ Cause) → ((place : ℕ) → x ≡ Ok place → y ≡ Ok place) → HasTheSame (place_if y) memory other → byte_by other x ≡ byte_by memory x
byte_on memory other (Ok place) y reads h = ap Ok (rw (reads place refl) at h place (inl refl))
byte_on memory other (Err cause) y reads h = refl

-- the byte at an address
pub byte_same : (memory other : List ℕ) (t : Tables) (m : Mode) (i : Intent) (va : ℕ) → HasTheSame (places_walked memory t va ++ place_if (place_in memory t m Read va)) memory other →
    byte_by other (place_in other t m i va) ≡ byte_by memory (place_in memory t m i va)
byte_same memory other t m i va h =
    let walked = places_walked memory t va in
    let own = place_if (place_in memory t m Read va) in
    ap (byte_by other) (place_same memory other t m i va (narrowed walked (walked ++ own) memory other (among_front walked own) h))
    ∙ byte_on memory other (place_in memory t m i va) (place_in memory t m Read va) (λ place e. place_read memory t m i va place e) (narrowed own (walked ++ own) memory other (among_back walked own) h)

-- where a byte lies that has a place for writing
pub place_is : (memory other : List ℕ) (b : ℕ) (x : Result ℕ Cause) → byte_by memory x ≡ Ok b → place_or_end other x ≡ place_or_end memory x
place_is memory other b (Ok place) e = refl
place_is memory other b (Err cause) e = cc
