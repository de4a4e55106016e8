-- A guest in two memories that are the same in its part.
use Rattle.std.proofs.Common.{◌≡◌, ℕ, ◌+◌, ◌*◌, ◌<◌, ◌≤◌, List, [], ap, ◌∙◌, sym, subst, arith}
use Rattle.vv_base.specs.Bytes.{long_at}
use Rattle.vax_arch.specs.Fields.{is_modified, is_valid}
use Rattle.vax_arch.specs.declared.walk.Lookup.{Lookup}
use Rattle.vm_shadow.specs.Layout.{all_entries, entry_page, entry_place}
use Rattle.vm_shadow.specs.Shadowed.{Fits, IsKept, is_flagged, Keeps, Shadowed, look_under, mapped_frame, own, read_at, real_at, seen_at, tables_for, way_of, is_read_from}
use Rattle.vm_shadow.proofs.Covering.{own_is}
use Rattle.vm_shadow.proofs.Places.{place_within}
use Rattle.vm_shadow.proofs.Writes.{long_by, part_same}
use Rattle.vm_state.specs.Partition.{partition_of}
use Rattle.vm_state.specs.State.{state_of}
use Rattle.vm_guest.specs.Kept.{IsShadowedIn, Kept, guest_in}
use Rattle.vm_guest.specs.Laws.{IsIsolated, SharesPart}

module _ (k : Kept) (memory other : List ℕ) (stands : IsShadowedIn memory k) (x : SharesPart k memory other) where
  abbrev s : Shadowed
  s = k.shadow

  abbrev fits : Fits memory s
  fits = stands.keeps.fits

  own_shared : own other s ≡ own memory s
  own_shared = part_same memory other (512 * s.base) (512 * s.pages) x.size (omega (arith, fits.partition)) (λ p low high. x.own p low (omega (arith, high)))

  table_long : (place : ℕ) → 512 * s.at ≤ place → place + 4 ≤ 512 * (s.at + 580) → long_at other place ≡ long_at memory place
  table_long place low high = long_by memory other place (λ p from to. x.tables p (omega (arith, low, from)) (omega (arith, high, to)))

  real_shared : (n : ℕ) → n < all_entries → real_at other s n ≡ real_at memory s n
  real_shared n h = let within = place_within s.at n h in table_long (entry_place s.at n) (omega (arith, within.front)) (omega (arith, within.back))

  seen_shared : (n : ℕ) → seen_at other s n ≡ seen_at memory s n
  unfolding seen_at
  seen_shared n = ap (λ y. look_under (512 * s.pages) y (entry_page n) (tables_for s n)) own_shared

  fits_shared : Fits other s
  fits_shared = record {
    few = subst (λ n. n ≤ 33554432) (sym x.size) fits.few;
    small = fits.small;
    partition = subst (λ n. 512 * (s.base + s.pages) ≤ n) (sym x.size) fits.partition;
    room = subst (λ n. 512 * (s.at + 580) ≤ n) (sym x.size) fits.room;
    apart = fits.apart;
    told = fits.told;
    contexts = fits.contexts;
    slots = fits.slots;
    first = fits.first;
    system = λ j h. table_long (512 * s.at + 4 * (8192 + j)) (omega arith) (omega (arith, h)) ∙ fits.system j h;
  }

  keeps_shared : Keeps [] [] other s
  keeps_shared = record {
    fits = fits_shared;
    remembers = stands.keeps.remembers;
    entries = λ n h. subst (λ (y : List ℕ). IsKept (512 * s.pages) s.base y [] (seen_at other s n) (real_at other s n) (read_at s n)) (sym own_shared)
        (subst (λ (y : Lookup). IsKept (512 * s.pages) s.base (own memory s) [] y (real_at other s n) (read_at s n)) (sym (seen_shared n))
        (subst (λ y. IsKept (512 * s.pages) s.base (own memory s) [] (seen_at memory s n) y (read_at s n)) (sym (real_shared n h)) (stands.keeps.entries n h)));
    guarded = λ n j h i closed valid modified.
        let same = real_shared j i in
        ap (λ y. is_read_from (mapped_frame s y) (read_at s n)) same ∙ stands.keeps.guarded n j h i closed (ap is_valid (sym same) ∙ valid) (ap is_modified (sym same) ∙ modified);
    writes = λ j h valid modified.
        let same = real_shared j h in
        ap (λ y. is_flagged (way_of (mapped_frame s y) j) s.writable) same ∙ stands.keeps.writes j h (ap is_valid (sym same) ∙ valid) (ap is_modified (sym same) ∙ modified);
  }

  shared : IsShadowedIn other k × (guest_in other k ≡ guest_in memory k)
  shared = (
    record { keeps = keeps_shared; serves = stands.serves; allowed = stands.allowed },
    (λ i. record { memory = same i; state = state_of k.state }),
  )
    where
      same : partition_of other k.state ≡ partition_of memory k.state
      same = sym (own_is other s k.state stands.serves) ∙ own_shared ∙ own_is memory s k.state stands.serves

pub stands_elsewhere : IsIsolated
stands_elsewhere k memory other stands x = shared k memory other stands x
