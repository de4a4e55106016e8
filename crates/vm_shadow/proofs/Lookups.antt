-- What a look-up depends on.
use Rattle.std.proofs.Common.{◌≡◌, ◌≢◌, ℕ, ◌+◌, ◌*◌, ◌/◌, ◌%◌, ◌^◌, false, not, ◌||◌, ◌==◌, List, Option, Some, None, refl, ap, ◌∙◌, subst, arith, nat_le, nat_lt, slice_index}
use Rattle.std.proofs.lemmas.Bool.{cond_both, eqb-true}
use Rattle.vv_base.specs.Bytes.{long_at}
use Rattle.vax_arch.specs.Fields.{frame_of, is_valid}
use Rattle.vax_arch.specs.Walk.{Tables, entry_at, in_region, is_past, lookup, mapped_entry, page_of, process_entry, region_of, system_entry}
use Rattle.vax_arch.specs.WalkLaws.{AreAligned, IsAligned, table_at, table_place}
use Rattle.vax_arch.specs.declared.walk.Lookup.{Lookup}
use Rattle.vax_arch.specs.declared.walk.Lookup.TheVariants.{Beyond, Direct, Fails, Found}
use Rattle.vax_arch.proofs.Walks.{looks_aligned, looks_at_one}
use Rattle.vm_shadow.specs.Shadowed.{IsSource, is_read_from, look_under}
use Rattle.vm_shadow.specs.declared.source.Source.{Source}
use Rattle.vm_shadow.specs.declared.source.Source.TheVariants as sources
use Rattle.vm_shadow.proofs.Writes.{long_by}
use Rattle.std.proofs.lemmas.Bool.{eqb-false, or_parts}

-- a look-up with mapping off, or of a system page, depends on no memory
off_same : (size : ℕ) (memory other : List ℕ) (t : Tables) (page : ℕ) → t.mapped ≡ false → lookup size other t page ≡ lookup size memory t page
unfolding lookup
off_same size memory other t page off = rw off refl

system_same : (size : ℕ) (memory other : List ℕ) (t : Tables) (page : ℕ) → region_of page ≡ 2 → lookup size other t page ≡ lookup size memory t page
unfolding lookup mapped_entry
system_same size memory other t page r = rw r refl

-- how a page is found: its system entry, if it has one, is at one place
abbrev pub IsBy : ℕ → Tables → ℕ → Lookup → Type 0
IsBy size t page (Found place None) = (memory other : List ℕ) → lookup size other t page ≡ lookup size memory t page
IsBy size t page (Found place (Some table)) = table ≡ table_place t page
IsBy size t page (Direct frame) = (frame ≡ page) × ((memory other : List ℕ) → lookup size other t page ≡ lookup size memory t page)
IsBy size t page (Fails v p) = Unit {0}
IsBy size t page Beyond = Unit {0}

process_by : (size : ℕ) (memory : List ℕ) (t : Tables) (page at : ℕ) → t.sbr + 4 * in_region (page_of at) ≡ table_place t page → IsBy size t page (process_entry size memory t at)
unfolding process_entry
process_by size memory t page at e =
    let table = t.sbr + 4 * in_region (page_of at) in
    let entry = long_at memory table in
    cond_both (not (region_of (page_of at) == 2) || nat_le t.slr (in_region (page_of at))) _ _ (IsBy size t page) (λ h. tt) (λ h.
    cond_both (is_past size table 4) _ _ (IsBy size t page) (λ h. tt) (λ h.
    cond_both (not (is_valid entry)) _ _ (IsBy size t page) (λ h. tt) (λ h.
    cond_both (is_past size (512 * frame_of entry) 512) _ _ (IsBy size t page) (λ h. tt) (λ h.
    cond_both (is_past size (512 * frame_of entry + at % 512) 4) _ _ (IsBy size t page) (λ h. tt) (λ h. e)))))

system_by : (size : ℕ) (t : Tables) (page : ℕ) → region_of page ≡ 2 → IsBy size t page (system_entry size t (in_region page))
unfolding system_entry
system_by size t page r =
    cond_both (nat_le t.slr (in_region page)) _ _ (IsBy size t page) (λ h. tt) (λ h.
    cond_both (is_past size (t.sbr + 4 * in_region page) 4) _ _ (IsBy size t page) (λ h. tt) (λ h. λ memory other. system_same size memory other t page r))

place_p0 : (t : Tables) (page : ℕ) → region_of page ≡ 0 → table_at t t.p0br page ≡ table_place t page
place_p0 t page r = rw r refl

place_p1 : (t : Tables) (page : ℕ) → region_of page ≡ 1 → table_at t t.p1br page ≡ table_place t page
place_p1 t page r = rw r refl

pub looks_by : (size : ℕ) (memory : List ℕ) (t : Tables) (page : ℕ) → IsBy size t page (lookup size memory t page)
unfolding lookup mapped_entry
looks_by size memory t page =
    let P = IsBy size t page in
    cond_both t.mapped _ _ P
    (λ on. cond_both (region_of page == 0) _ _ P
    (λ r. cond_both (nat_le t.p0lr (in_region page)) _ _ P (λ h. tt) (λ h. process_by size memory t page ((t.p0br + 4 * in_region page) % 2 ^ 32) (place_p0 t page (eqb-true (region_of page) 0 r))))
    (λ r0. cond_both (region_of page == 1) _ _ P
    (λ r. cond_both (nat_lt (in_region page) t.p1lr) _ _ P (λ h. tt) (λ h. process_by size memory t page ((t.p1br + 4 * in_region page) % 2 ^ 32) (place_p1 t page (eqb-true (region_of page) 1 r))))
    (λ r1. cond_both (region_of page == 2) _ _ P
    (λ r. system_by size t page (eqb-true (region_of page) 2 r))
    (λ r2. tt))))
    (λ off. cond_both (is_past size (512 * page) 512) _ _ P (λ h. tt) (λ h. (refl, λ m n. off_same size m n t page off)))

-- two memories that differ in one frame alone
pub record DifferIn (frame : ℕ) (memory other : List ℕ) : Type 0 where
  pub same : (p : ℕ) → p / 512 ≢ frame → slice_index other p ≡ slice_index memory p

long_same : (frame : ℕ) (memory other : List ℕ) (place : ℕ) → DifferIn frame memory other → place % 4 ≡ 0 → (place / 512 ≡ frame → ⊥) → long_at other place ≡ long_at memory place
long_same frame memory other place d a n = long_by memory other place (λ p h k. d.same p (λ e. n (omega arith)))

-- a page's look-up and entry stay where they weren't read from that frame
pub record IsSame (memory other : List ℕ) (seen seen' : Lookup) : Type 0 where
  pub look : seen' ≡ seen
  pub entry : entry_at other seen ≡ entry_at memory seen

unread : (frame : ℕ) (source : Source) (entry table : ℕ) → source ≡ sources.Process entry table → is_read_from frame (Some source) ≡ false → (entry ≡ frame → ⊥) × (table ≡ frame → ⊥)
unread frame source entry table e h =
    let k : ((entry == frame) || (table == frame)) ≡ false = subst (λ s. is_read_from frame (Some s) ≡ false) e h in
    let parts = or_parts (entry == frame) (table == frame) k in
    (eqb-false entry frame parts.0, eqb-false table frame parts.1)

same_by : (size frame : ℕ) (memory other : List ℕ) (t : Tables) (page : ℕ) (seen : Lookup) (source : Source) → DifferIn frame memory other → lookup size memory t page ≡ seen → IsBy size t page seen → IsAligned seen → IsSource seen source → is_read_from frame (Some source) ≡ false → IsSame memory other seen (lookup size other t page)
same_by size frame memory other t page (Found place None) (sources.System entry) d e by aligned is u =
    record { look = by memory other ∙ e; entry = ap Some (long_same frame memory other place d aligned.0 (λ k. eqb-false entry frame u (is ∙ k))) }
same_by size frame memory other t page (Found place None) sources.Direct d e by aligned is u = absurd is
same_by size frame memory other t page (Found place None) (sources.Process entry table) d e by aligned is u = absurd is
same_by size frame memory other t page (Found place (Some above)) (sources.Process entry table) d e by aligned is u =
    let n = unread frame (sources.Process entry table) entry table refl u in
    let long : long_at other above ≡ long_at memory above = long_same frame memory other above d aligned.1 (λ k. n.1 (is.1 ∙ k)) in
    record {
      look = looks_at_one size memory other t page (subst (λ x. long_at other x ≡ long_at memory x) by long) ∙ e;
      entry = ap Some (long_same frame memory other place d aligned.0 (λ k. n.0 (is.0 ∙ k)));
    }
same_by size frame memory other t page (Found place (Some above)) sources.Direct d e by aligned is u = absurd is
same_by size frame memory other t page (Found place (Some above)) (sources.System entry) d e by aligned is u = absurd is
same_by size frame memory other t page (Direct f) source d e by aligned is u = record { look = by.1 memory other ∙ e; entry = refl }
same_by size frame memory other t page (Fails v p) source d e by aligned is u = absurd is
same_by size frame memory other t page Beyond source d e by aligned is u = absurd is

pub same_under : (size frame : ℕ) (memory other : List ℕ) (page : ℕ) (t : Option Tables) (source : Source) → DifferIn frame memory other → ((u : Tables) → t ≡ Some u → AreAligned u) → IsSource (look_under size memory page t) source → is_read_from frame (Some source) ≡ false → IsSame memory other (look_under size memory page t) (look_under size other page t)
same_under size frame memory other page None source d aligned is u = absurd is
same_under size frame memory other page (Some t) source d aligned is u = same_by size frame memory other t page (lookup size memory t page) source d refl (looks_by size memory t page) (looks_aligned size memory t page (aligned t refl)) is u
