-- The machine's walk over the real tables of a guest.
use Rattle.std.proofs.Common.{◌≡◌, ◌≢◌, ℕ, zero, suc, ◌+◌, ◌-◌, ◌*◌, ◌/◌, ◌%◌, ◌^◌, ◌<◌, ◌≤◌, ◌⊎◌, inl, inr, false, List, Option, Some, None, Err, refl, ap, ◌∙◌, sym, subst, arith}
use Rattle.std.proofs.lemmas.Bool.{cases_eq, cases_lt, le-leb, le-ltb, lt-leb, lt-ltb}
use Rattle.vv_base.specs.Bytes.{long_at}
use Rattle.vax_arch.specs.Fields.{protection_of}
use Rattle.vax_arch.specs.Protection.{may_of}
use Rattle.vax_arch.specs.Ring.{ring_of}
use Rattle.vax_arch.specs.Walk.{granted, in_memory, in_region, lookup, mapped_entry, page_of, process_entry, region_of, system_entry, through_system_entry}
use Rattle.vax_arch.specs.declared.mode.Intent.{Intent}
use Rattle.vax_arch.specs.declared.mode.Mode.{Mode}
use Rattle.vax_arch.specs.declared.mode.Mode.TheVariants.{Executive, Kernel, Supervisor, User}
use Rattle.vax_arch.specs.declared.walk.Grant.TheVariants.{Refused}
use Rattle.vax_arch.specs.declared.walk.Lookup.TheVariants.{Fails, Found}
use Rattle.vax_hw.specs.RealTables.{access_judged_at, everywhere, judged_by, place_by, placed_by, real_look}
use Rattle.vax_table.specs.Interaction as interaction
use Rattle.vm_shadow.specs.Layout.{IsCovered, entry_number, entry_place, kernel_entry, p0_base, p1_base, real_tables}
use Rattle.vm_shadow.specs.Shadowed.{Fits, Shadowed}
use Rattle.vm_state.specs.Registers.{first_p1_page}
use Rattle.vm_shadow.proofs.Places.{number_p0, number_p1, number_system, place_high, place_low, split}

-- no place that is named lies beyond
in_all : (table : Option ℕ) (place : ℕ) → place + 4 ≤ 2 ^ 33 → in_memory everywhere table place ≡ Found place table
in_all table place h = rw (le-ltb everywhere (place + 4) h) refl

system_found : (at slot page : ℕ) → page < 8704 → 512 * at + 4 * page + 4 ≤ 2 ^ 33 → system_entry everywhere (real_tables at slot) page ≡ Found (512 * at + 4 * page) None
unfolding system_entry
system_found at slot page h k = rw (lt-leb 8704 page h) (in_all None (512 * at + 4 * page) k)

after_found : (memory : List ℕ) (at table frame : ℕ) → table + 4 ≤ 2 ^ 33 → long_at memory table ≡ kernel_entry frame → frame < 2 ^ 20 → through_system_entry everywhere memory at table ≡ Found (512 * frame + at % 512) (Some table)
after_found memory at table frame room entry small =
    let valid : kernel_entry frame / 2 ^ 31 % 2 ≡ 1 = omega arith in
    let same : kernel_entry frame % 2 ^ 21 ≡ frame = omega arith in
    rw (entry, le-ltb everywhere (table + 4) room, valid, same, le-ltb everywhere (512 * frame + 512) (omega arith)) (in_all (Some table) (512 * frame + at % 512) (omega arith))

-- the address of a process entry, by its number in its slot
slot_address : (slot k : ℕ) → ℕ
slot_address slot k = 2 ^ 31 + 2 ^ 22 + 65536 * slot + 4 * k

process_found : (memory : List ℕ) (s : Shadowed) (k : ℕ) → Fits memory s → s.slot < 4 → k < 16384 → (table : ℕ) × (process_entry everywhere memory (real_tables s.at s.slot) (slot_address s.slot k) ≡ Found (512 * (s.at + 68) + 4 * (16384 * s.slot + k)) (Some table))
unfolding process_entry slot_address
process_found memory s k f small h =
    let j = 128 * s.slot + k / 128 in
    let at = 2 ^ 31 + 2 ^ 22 + 65536 * s.slot + 4 * k in
    let region : region_of (page_of at) ≡ 2 = omega arith in
    let page : in_region (page_of at) ≡ 8192 + j = omega arith in
    let offset : 512 * (s.at + 68 + j) + at % 512 ≡ 512 * (s.at + 68) + 4 * (16384 * s.slot + k) = omega arith in
    let inner = after_found memory at (512 * s.at + 4 * (8192 + j)) (s.at + 68 + j) (omega (arith, f.room, f.few)) (f.system j (omega arith)) (omega (arith, f.room, f.few)) in
    (512 * s.at + 4 * (8192 + j), rw (region, page, lt-leb 8704 (8192 + j) (omega arith)) (inner ∙ ap (λ x. Found x (Some (512 * s.at + 4 * (8192 + j)))) offset))

p0_address : (slot page : ℕ) → slot < 4 → page < 8192 → (p0_base slot + 4 * page) % 2 ^ 32 ≡ slot_address slot page
unfolding slot_address
p0_address slot page h k = omega arith

p1_address : (slot page : ℕ) → slot < 4 → page < 2 ^ 21 → first_p1_page ≤ page → (p1_base slot + 4 * page) % 2 ^ 32 ≡ slot_address slot (8192 + (page - first_p1_page))
unfolding slot_address
p1_address slot page h k l = omega arith

p0_found : (memory : List ℕ) (at slot page place table : ℕ) → region_of page ≡ 0 → in_region page < 8192 → slot < 4 → process_entry everywhere memory (real_tables at slot) (slot_address slot (in_region page)) ≡ Found place (Some table) → real_look memory (real_tables at slot) page ≡ Found place (Some table)
unfolding real_look lookup mapped_entry
p0_found memory at slot page place table r l small e = rw (r, lt-leb 8192 (in_region page) l, p0_address slot (in_region page) small l) e

p1_found : (memory : List ℕ) (at slot page place table : ℕ) → region_of page ≡ 1 → first_p1_page ≤ in_region page → slot < 4 → process_entry everywhere memory (real_tables at slot) (slot_address slot (8192 + (in_region page - first_p1_page))) ≡ Found place (Some table) → real_look memory (real_tables at slot) page ≡ Found place (Some table)
unfolding real_look lookup mapped_entry
p1_found memory at slot page place table r l small e = rw (r, le-ltb (in_region page) first_p1_page l, p1_address slot (in_region page) small (omega arith) l) e

-- the entry of a covered page is found at its place
pub entry_found : (memory : List ℕ) (s : Shadowed) (page : ℕ) → Fits memory s → s.slot < 4 → IsCovered page → (table : Option ℕ) × (real_look memory (real_tables s.at s.slot) page ≡ Found (entry_place s.at (entry_number s.slot page)) table)
unfolding real_look lookup mapped_entry
entry_found memory s page f small (inl c) =
    let r = c.0 in let l = c.1 in
    let is : real_look memory (real_tables s.at s.slot) page ≡ Found (512 * s.at + 4 * in_region page) None = rw r (system_found s.at s.slot (in_region page) (omega arith) (omega (arith, f.room, f.few))) in
    (None, is ∙ ap (λ x. Found x None) (sym (ap (entry_place s.at) (number_system s.slot page r) ∙ place_low s.at (in_region page) l)))
entry_found memory s page f small (inr (inl c)) =
    let r = c.0 in let l = c.1 in
    let p = process_found memory s (in_region page) f small (omega arith) in
    let is : real_look memory (real_tables s.at s.slot) page ≡ Found (512 * (s.at + 68) + 4 * (16384 * s.slot + in_region page)) (Some p.0) = p0_found memory s.at s.slot page _ p.0 r l small p.1 in
    (Some p.0, is ∙ ap (λ x. Found x (Some p.0)) (sym (ap (entry_place s.at) (number_p0 s.slot page r) ∙ place_high s.at (8192 + 16384 * s.slot + in_region page) (omega arith) ∙ omega arith)))
entry_found memory s page f small (inr (inr c)) =
    let r = c.0 in let l = c.1 in
    let p = process_found memory s (8192 + (in_region page - first_p1_page)) f small (omega arith) in
    let is : real_look memory (real_tables s.at s.slot) page ≡ Found (512 * (s.at + 68) + 4 * (16384 * s.slot + (8192 + (in_region page - first_p1_page)))) (Some p.0) = p1_found memory s.at s.slot page _ p.0 r l small p.1 in
    (Some p.0, is ∙ ap (λ x. Found x (Some p.0)) (sym (ap (entry_place s.at) (number_p1 s.slot page r) ∙ place_high s.at (16384 + 16384 * s.slot + (in_region page - first_p1_page)) (omega arith) ∙ omega arith)))

-- a page that isn't covered is refused

kernel_code : (frame : ℕ) → frame < 2 ^ 20 → protection_of (kernel_entry frame) ≡ 2
kernel_code frame h = omega arith

kernel_refused : (frame : ℕ) (m : Mode) (i : Intent) → frame < 2 ^ 20 → granted may_of everywhere (kernel_entry frame) (ring_of m) i ≡ Refused
unfolding granted
kernel_refused frame Kernel i h = rw (kernel_code frame h) refl
kernel_refused frame Executive i h = rw (kernel_code frame h) refl
kernel_refused frame Supervisor i h = rw (kernel_code frame h) refl
kernel_refused frame User i h = rw (kernel_code frame h) refl

past_p0 : (memory : List ℕ) (at slot page : ℕ) → region_of page ≡ 0 → 8192 ≤ in_region page → real_look memory (real_tables at slot) page ≡ Fails false 1
unfolding real_look lookup mapped_entry
past_p0 memory at slot page r h = rw (r, le-leb 8192 (in_region page) h) refl

before_p1 : (memory : List ℕ) (at slot page : ℕ) → region_of page ≡ 1 → in_region page < first_p1_page → real_look memory (real_tables at slot) page ≡ Fails false 1
unfolding real_look lookup mapped_entry
before_p1 memory at slot page r h = rw (r, lt-ltb (in_region page) first_p1_page h) refl

past_system : (memory : List ℕ) (at slot page : ℕ) → region_of page ≡ 2 → 8704 ≤ in_region page → real_look memory (real_tables at slot) page ≡ Fails false 1
unfolding real_look lookup mapped_entry system_entry
past_system memory at slot page r h = rw (r, le-leb 8704 (in_region page) h) refl

no_region : (memory : List ℕ) (at slot page : ℕ) → region_of page ≡ 3 → real_look memory (real_tables at slot) page ≡ Fails false 1
unfolding real_look lookup mapped_entry
no_region memory at slot page r = rw r refl

shared : (memory : List ℕ) (s : Shadowed) (page : ℕ) → Fits memory s → region_of page ≡ 2 → in_region page < 8704 → real_look memory (real_tables s.at s.slot) page ≡ Found (512 * s.at + 4 * in_region page) None
unfolding real_look lookup mapped_entry
shared memory s page f r h = rw r (system_found s.at s.slot (in_region page) h (omega (arith, f.room, f.few)))

-- What holds of a page that isn't covered: the machine refuses it, and PROBE doesn't judge by its entry.
pub record IsElsewhere (memory : List ℕ) (s : Shadowed) (page : ℕ) : Type 0 where
  pub uncovered : IsCovered page → ⊥
  pub refuses : (m : Mode) (i : Intent) (va : ℕ) → placed_by memory va (ring_of m) i (real_look memory (real_tables s.at s.slot) page) ≡ Err interaction.Refusing
  pub unjudged : (m : Mode) (i : Intent) → access_judged_at memory (ring_of m) i (real_look memory (real_tables s.at s.slot) page) ≡ None

-- a page that is in none of the regions' parts
not_covered : (page : ℕ) → (region_of page ≡ 2 → 8192 ≤ in_region page) → (region_of page ≡ 0 → 8192 ≤ in_region page) → (region_of page ≡ 1 → in_region page < first_p1_page) → IsCovered page → ⊥
not_covered page a b c (inl x) = let h = a x.0 in let k = x.1 in omega arith
not_covered page a b c (inr (inl x)) = let h = b x.0 in let k = x.1 in omega arith
not_covered page a b c (inr (inr x)) = let h = c x.0 in let k = x.1 in omega arith

failing : (memory : List ℕ) (s : Shadowed) (page : ℕ) → (IsCovered page → ⊥) → real_look memory (real_tables s.at s.slot) page ≡ Fails false 1 → IsElsewhere memory s page
failing memory s page u e = record { uncovered = u; refuses = λ m i va. ap (placed_by memory va (ring_of m) i) e; unjudged = λ m i. ap (access_judged_at memory (ring_of m) i) e }

kernel_unjudged : (frame : ℕ) (m : Mode) (i : Intent) → frame < 2 ^ 20 → judged_by (kernel_entry frame) (ring_of m) i ≡ None
kernel_unjudged frame m i h = let valid : kernel_entry frame / 2 ^ 31 % 2 ≡ 1 = omega arith in rw (valid, kernel_code frame h) refl

sharing : (memory : List ℕ) (s : Shadowed) (page : ℕ) → Fits memory s → region_of page ≡ 2 → 8192 ≤ in_region page → in_region page < 8704 → IsElsewhere memory s page
sharing memory s page f r low high =
    let j = in_region page - 8192 in
    let at : real_look memory (real_tables s.at s.slot) page ≡ Found (512 * s.at + 4 * in_region page) None = shared memory s page f r high in
    let index : 8192 + j ≡ in_region page = omega arith in
    let entry : long_at memory (512 * s.at + 4 * in_region page) ≡ kernel_entry (s.at + 68 + j) = subst (λ x. long_at memory (512 * s.at + 4 * x) ≡ kernel_entry (s.at + 68 + j)) index (f.system j (omega arith)) in
    let small : s.at + 68 + j < 2 ^ 20 = omega (arith, f.room, f.few) in
    record {
      uncovered = not_covered page (λ h. low) (λ h. absurd (omega arith)) (λ h. absurd (omega arith));
      refuses = λ m i va. ap (placed_by memory va (ring_of m) i) at ∙ ap (λ x. place_by va (granted may_of everywhere x (ring_of m) i)) entry ∙ ap (place_by va) (kernel_refused (s.at + 68 + j) m i small);
      unjudged = λ m i. ap (access_judged_at memory (ring_of m) i) at ∙ ap (λ x. judged_by x (ring_of m) i) entry ∙ kernel_unjudged (s.at + 68 + j) m i small;
    }

pub elsewhere : (memory : List ℕ) (s : Shadowed) (page : ℕ) → Fits memory s → IsCovered page ⊎ IsElsewhere memory s page
elsewhere memory s page f =
    split (cases_eq (region_of page) 2)
    (λ r. split (cases_lt (in_region page) 8192) (λ h. inl (inl (r, h))) (λ h. split (cases_lt (in_region page) 8704)
    (λ k. inr (sharing memory s page f r h k))
    (λ k. inr (failing memory s page (not_covered page (λ q. omega arith) (λ q. absurd (omega arith)) (λ q. absurd (omega arith))) (past_system memory s.at s.slot page r k)))))
    (λ n2. split (cases_eq (region_of page) 0)
    (λ r. split (cases_lt (in_region page) 8192) (λ h. inl (inr (inl (r, h)))) (λ h. inr (failing memory s page (not_covered page (λ q. absurd (omega arith)) (λ q. h) (λ q. absurd (omega arith))) (past_p0 memory s.at s.slot page r h))))
    (λ n0. split (cases_eq (region_of page) 1)
    (λ r. split (cases_lt (in_region page) first_p1_page) (λ h. inr (failing memory s page (not_covered page (λ q. absurd (omega arith)) (λ q. absurd (omega arith)) (λ q. h)) (before_p1 memory s.at s.slot page r h))) (λ h. inl (inr (inr (r, h)))))
    (λ n1. inr (failing memory s page (not_covered page (λ q. absurd (n2 q)) (λ q. absurd (n0 q)) (λ q. absurd (n1 q))) (no_region memory s.at s.slot page (last n2 n0 n1))))))
  where
    last : region_of page ≢ 2 → region_of page ≢ 0 → region_of page ≢ 1 → region_of page ≡ 3
    last a b c = by (region_of page) (omega arith) a b c
      where
        by : (r : ℕ) → r < 4 → r ≢ 2 → r ≢ 0 → r ≢ 1 → r ≡ 3
        by zero h a b c = absurd (b refl)
        by (suc zero) h a b c = absurd (c refl)
        by (suc (suc zero)) h a b c = absurd (a refl)
        by (suc (suc (suc zero))) h a b c = refl
        by (suc (suc (suc (suc r)))) h a b c = absurd (omega arith)
