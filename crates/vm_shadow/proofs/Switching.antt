-- Other registers, and another slot, are taken.
use Rattle.std.proofs.Common.{◌≡◌, ℕ, zero, suc, ◌+◌, ◌*◌, ◌^◌, ◌<◌, ◌≤◌, Bool, true, false, not, ◌&&◌, ◌||◌, ◌==◌, nat_le, List, [], ◌∷◌, length, All, Option, Some, None, is_some, option_map, refl, ap, ◌∙◌, sym, subst, arith}
use Rattle.std.proofs.lemmas.Bool.{and_left, and_right, cases_lt, eq-eqb, eqb-true, false≢true, le-leb, le-ltb, lt-leb, lt-ltb, ne_eqb, not-false, or_parts}
use Rattle.std.proofs.lemmas.List.Elements.{All-cons, All-filter, All-nil, All-take, All-weaker}
use Rattle.std.proofs.lemmas.Option.{same_Some}
use Rattle.std.specs.Bool.{beq}
use Rattle.vax_arch.specs.Walk.{Tables, lookup, mapped_entry, region_of, system_entry}
use Rattle.vax_arch.specs.declared.walk.Lookup.{Lookup}
use Rattle.vax_hw.specs.Machine.{Machine}
use Rattle.vm_slots.specs.Held.{AreSlots, Held, is_same, others_held, without}
use Rattle.vm_slots.specs.declared.context.Context.{Context}
use Rattle.vm_shadow.specs.Calls.{DropsEntries, is_between, remembered, unless_dropped}
use Rattle.vm_shadow.specs.Layout.{all_entries, entry_page, entry_slot}
use Rattle.vm_shadow.specs.Shadowed.{CanBeShadowed, IsFirst, IsKept, IsSource, Keeps, Shadowed, context_in, in_context, look_under, own, read_at, real_at, seen_at}
use Rattle.vm_shadow.specs.StandsFor.{Switches, TakesSlot, goes, is_full_for, range_that_goes, staying}
use Rattle.vm_shadow.specs.declared.source.Source.{Source}
use Rattle.vm_shadow.specs.declared.scans.Dropped.TheVariants as drops
use Rattle.vm_shadow.proofs.Contexts.{tables_high, tables_low}
use Rattle.vm_shadow.proofs.Holding.{still_has}
use Rattle.vm_shadow.proofs.Places.{split}
use Rattle.vm_state.specs.State.{context_of, tables_of}
use Rattle.vm_state.specs.Touches.{is_remapped}
use Rattle.vm_state.specs.declared.guest_state.GuestState.{GuestState}

-- a system page's look-up depends on mapping, SBR and SLR alone
pub system_alike : (size : ℕ) (memory : List ℕ) (t u : Tables) (page : ℕ) → region_of page ≡ 2 → t.mapped ≡ u.mapped → t.sbr ≡ u.sbr → t.slr ≡ u.slr → lookup size memory t page ≡ lookup size memory u page
unfolding lookup mapped_entry system_entry
system_alike size memory t u page r a b c = rw (r, a, b, c) refl

-- the registers for a context depend on SBR and SLR alone
in_alike : (t u : Tables) (x : Option Context) → t.sbr ≡ u.sbr → t.slr ≡ u.slr → option_map (in_context t) x ≡ option_map (in_context u) x
in_alike t u x b c = λ i. option_map (λ k. record { mapped = k.mapped; p0br = k.p0br; p0lr = k.p0lr; p1br = k.p1br; p1lr = k.p1lr; sbr = b i; slr = c i }) x

-- the shadow with other registers
abbrev pub with_told : Shadowed → Tables → ℕ → Held → Shadowed
with_told s told slot held = record s { told = told; slot = slot; held = held }

page_system : (n : ℕ) → n < 8192 → region_of (entry_page n) ≡ 2
page_system n h = let e : entry_page n ≡ 2 ^ 22 + n = rw (lt-ltb n 8192 h) refl in ap region_of e ∙ omega arith

-- an entry that stands for something has its context
context_there : (memory : List ℕ) (s : Shadowed) (n : ℕ) (source : Source) → 8192 ≤ n → IsSource (seen_at memory s n) source → (c : Context) × (context_in (entry_slot n) s.held ≡ Some c)
unfolding seen_at
context_there memory s n source h is = there (context_in (entry_slot n) s.held) refl (subst (λ t. IsSource (look_under (512 * s.pages) (own memory s) (entry_page n) t) source) (tables_high s n h) is)
  where
    there : (x : Option Context) → context_in (entry_slot n) s.held ≡ x → IsSource (look_under (512 * s.pages) (own memory s) (entry_page n) (option_map (in_context s.told) x)) source → (c : Context) × (context_in (entry_slot n) s.held ≡ Some c)
    there None e is = absurd is
    there (Some c) e is = (c, e)

pub seen_system : (memory : List ℕ) (s : Shadowed) (told : Tables) (slot : ℕ) (held : Held) (n : ℕ) → n < 8192 → s.told.mapped ≡ told.mapped → s.told.sbr ≡ told.sbr → s.told.slr ≡ told.slr → seen_at memory (with_told s told slot held) n ≡ seen_at memory s n
unfolding seen_at
seen_system memory s told slot held n h a b c =
    ap (look_under (512 * s.pages) (own memory s) (entry_page n)) (tables_low (with_told s told slot held) n h)
    ∙ sym (system_alike (512 * s.pages) (own memory s) s.told told (entry_page n) (page_system n h) a b c)
    ∙ sym (ap (look_under (512 * s.pages) (own memory s) (entry_page n)) (tables_low s n h))

pub seen_process : (memory : List ℕ) (s : Shadowed) (told : Tables) (slot : ℕ) (held : Held) (n : ℕ) → 8192 ≤ n → s.told.sbr ≡ told.sbr → s.told.slr ≡ told.slr → context_in (entry_slot n) held ≡ context_in (entry_slot n) s.held → seen_at memory (with_told s told slot held) n ≡ seen_at memory s n
unfolding seen_at
seen_process memory s told slot held n h b c e =
    ap (look_under (512 * s.pages) (own memory s) (entry_page n)) (tables_high (with_told s told slot held) n h ∙ ap (option_map (in_context told)) e ∙ sym (in_alike s.told told (context_in (entry_slot n) s.held) b c) ∙ sym (tables_high s n h))

-- What has to hold of the registers, the slot and the contexts that are taken.
pub record CanSwitch (memory : List ℕ) (s : Shadowed) (now : Tables) (used : ℕ) (have : Held) : Type 0 where
  pub told : CanBeShadowed now
  pub contexts : All (λ h. CanBeShadowed (in_context now h.0)) have
  pub slots : AreSlots have
  pub first : IsFirst (context_of now) used have
  pub same : (n : ℕ) → n < all_entries → is_some (read_at s n) ≡ true → seen_at memory (with_told s now used have) n ≡ seen_at memory s n

kept_as : (size base : ℕ) (memory : List ℕ) (seen seen' : Lookup) (real : ℕ) (x : Option Source) → (is_some x ≡ true → seen' ≡ seen) → IsKept size base memory [] seen real x → IsKept size base memory [] seen' real x
kept_as size base memory seen seen' real None e k = k
kept_as size base memory seen seen' real (Some source) e k = rw (e refl) k

pub switched : (memory : List ℕ) (s : Shadowed) (told : Tables) (slot : ℕ) (held : Held) → Keeps [] [] memory s → CanSwitch memory s told slot held → Keeps [] [] memory (with_told s told slot held)
switched memory s told slot held k c = let f = k.fits in record {
  fits = record {
    few = f.few;
    small = f.small;
    partition = f.partition;
    room = f.room;
    apart = f.apart;
    told = c.told;
    contexts = c.contexts;
    slots = c.slots;
    first = c.first;
    system = f.system;
  };
  remembers = record { whole = k.remembers.whole; consulted = k.remembers.consulted; writable = k.remembers.writable; consults = k.remembers.consults };
  entries = λ n h. kept_as (512 * s.pages) s.base (own memory s) (seen_at memory s n) (seen_at memory (with_told s told slot held) n) (real_at memory s n) (read_at s n) (c.same n h) (k.entries n h);
  guarded = k.guarded;
  writes = k.writes;
}

-- What a switch does, by what its parts did.

some_dropped : (b : Bool) (x : Option Source) → unless_dropped (b && is_some x) x ≡ unless_dropped b x
some_dropped true None = refl
some_dropped true (Some source) = refl
some_dropped false None = refl
some_dropped false (Some source) = refl

none_dropped : (b c : Bool) (x : Option Source) → x ≡ None → unless_dropped b x ≡ unless_dropped c x
none_dropped true true x e = refl
none_dropped true false x e = sym e
none_dropped false true x e = e
none_dropped false false x e = refl

past_none : (reads : List (Option Source)) (n : ℕ) → length reads ≤ n → remembered reads n ≡ None
past_none [] n h = refl
past_none (x ∷ xs) zero h = absurd (omega arith)
past_none (x ∷ xs) (suc n) h = past_none xs n (omega arith)

in_all : (n : ℕ) → n < all_entries → is_between 0 all_entries n ≡ true
in_all n h = rw (le-leb 0 n (omega arith), lt-ltb n all_entries h) refl

in_none : (n : ℕ) → is_between 0 0 n ≡ false
in_none n = and_right _ _ (le-ltb n 0 (omega arith))

in_slot : (slot n : ℕ) → is_between (8192 + 16384 * slot) (8192 + 16384 * slot + 16384) n ≡ (nat_le 8192 n && (entry_slot n == slot))
in_slot slot n = split (cases_lt n (8192 + 16384 * slot))
    (λ below. and_left _ _ (lt-leb (8192 + 16384 * slot) n below) ∙ sym (low below))
    (λ from. split (cases_lt n (8192 + 16384 * slot + 16384))
    (λ within. rw (le-leb (8192 + 16384 * slot) n from, lt-ltb n (8192 + 16384 * slot + 16384) within) (sym (here from within)))
    (λ later. and_right _ _ (le-ltb n (8192 + 16384 * slot + 16384) later) ∙ sym (high later)))
  where
    low : n < 8192 + 16384 * slot → (nat_le 8192 n && (entry_slot n == slot)) ≡ false
    low h = split (cases_lt n 8192) (λ k. and_left _ _ (lt-leb 8192 n k)) (λ k. and_right _ _ (ne_eqb (entry_slot n) slot (λ e. absurd (apart k e))))
      where
        apart : 8192 ≤ n → entry_slot n ≡ slot → ⊥
        apart k e = omega arith

    here : 8192 + 16384 * slot ≤ n → n < 8192 + 16384 * slot + 16384 → (nat_le 8192 n && (entry_slot n == slot)) ≡ true
    here h k = rw (le-leb 8192 n (omega arith), eq-eqb (entry_slot n) slot (omega arith)) refl

    high : 8192 + 16384 * slot + 16384 ≤ n → (nat_le 8192 n && (entry_slot n == slot)) ≡ false
    high h = and_right _ _ (ne_eqb (entry_slot n) slot (λ e. apart e))
      where
        apart : entry_slot n ≡ slot → ⊥
        apart e = omega arith

range_is : (remapped evicted : Bool) (slot n : ℕ) (reads : List (Option Source)) → length reads ≡ all_entries → unless_dropped (is_between (range_that_goes remapped evicted slot).0 (range_that_goes remapped evicted slot).1 n) (remembered reads n) ≡ unless_dropped (goes remapped evicted slot n) (remembered reads n)
range_is true evicted slot n reads whole = split (cases_lt n all_entries)
    (λ h. ap (λ b. unless_dropped b (remembered reads n)) (in_all n h))
    (λ h. none_dropped (is_between 0 all_entries n) true (remembered reads n) (past_none reads n (omega arith)))
range_is false true slot n reads whole = ap (λ b. unless_dropped b (remembered reads n)) (in_slot slot n)
range_is false false slot n reads whole = ap (λ b. unless_dropped b (remembered reads n)) (in_none n)

-- the range in order
pub range_order : (remapped evicted : Bool) (slot : ℕ) → slot < 4 → ((range_that_goes remapped evicted slot).0 ≤ (range_that_goes remapped evicted slot).1) × ((range_that_goes remapped evicted slot).1 ≤ all_entries)
range_order true evicted slot h = (omega arith, omega arith)
range_order false true slot h = (omega arith, omega arith)
range_order false false slot h = (omega arith, omega arith)

same_goes : (remapped evicted : Bool) (c : Context) (held : Held) (slot n : ℕ) → evicted ≡ is_full_for c (staying remapped held) → goes remapped evicted slot n ≡ goes remapped (is_full_for c held) slot n
same_goes true evicted c held slot n e = refl
same_goes false evicted c held slot n e = ap (λ b. goes false b slot n) e

-- registers for the contexts that stay
can_in : (t u : Tables) (c : Context) → CanBeShadowed u → CanBeShadowed (in_context t c) → CanBeShadowed (in_context u c)
can_in t u c a b = record { p0br = b.p0br; p0lr = b.p0lr; p1br = b.p1br; p1lr = b.p1lr; sbr = a.sbr; slr = a.slr }

all_staying : (remapped : Bool) (t u : Tables) (held : Held) → CanBeShadowed u → All (λ h. CanBeShadowed (in_context t h.0)) held → All (λ h. CanBeShadowed (in_context u h.0)) (staying remapped held)
all_staying true t u held a all = All-nil (λ h. CanBeShadowed (in_context u h.0))
all_staying false t u held a all = All-weaker (λ h. CanBeShadowed (in_context t h.0)) (λ h. CanBeShadowed (in_context u h.0)) (λ h b. can_in t u h.0 a b) held all

unmapped_parts : (t u : Tables) → is_remapped t u ≡ false → (t.sbr ≡ u.sbr) × (t.slr ≡ u.slr) × (t.mapped ≡ u.mapped)
unmapped_parts t u e =
    let p = or_parts (not (t.sbr == u.sbr) || not (t.slr == u.slr)) (not (beq t.mapped u.mapped)) e in
    let q = or_parts (not (t.sbr == u.sbr)) (not (t.slr == u.slr)) p.0 in
    (eqb-true t.sbr u.sbr (not-false _ q.0), eqb-true t.slr u.slr (not-false _ q.1), same_bool t.mapped u.mapped (not-false _ p.1))
  where
    same_bool : (a b : Bool) → beq a b ≡ true → a ≡ b
    same_bool true true e = refl
    same_bool true false e = absurd (false≢true e)
    same_bool false true e = absurd (false≢true e)
    same_bool false false e = refl

gone_some : (A : Type 0) (b : Bool) (x : Option Source) → b ≡ true → is_some (unless_dropped b x) ≡ true → A
gone_some A true x e h = absurd (false≢true h)
gone_some A false x e h = absurd (false≢true e)

some_source : (b : Bool) (x : Option Source) → is_some (unless_dropped b x) ≡ true → (source : Source) × (x ≡ Some source)
some_source true x h = absurd (false≢true h)
some_source false None h = absurd (false≢true h)
some_source false (Some source) h = (source, refl)

module _ (g : GuestState) (m m' : Machine) (s : Shadowed) (held' : Held) (slot : ℕ) (evicted remapped : Bool) (reads' : List (Option Source)) (k : Keeps [] [] m.memory s) (tables : CanBeShadowed (tables_of g)) (t : TakesSlot (context_of (tables_of g)) (staying remapped s.held) held' slot) (full : evicted ≡ is_full_for (context_of (tables_of g)) (staying remapped s.held)) (d : DropsEntries s.at (range_that_goes remapped evicted slot).0 (range_that_goes remapped evicted slot).1 drops.All m s.reads m' reads') where
  now : Tables
  now = tables_of g

  left : Shadowed
  left = record s { reads = reads' }

  kept_left : Keeps [] [] m'.memory left
  unfolding left
  kept_left = d.keeps [] [] s refl refl k

  each_goes : (n : ℕ) → remembered reads' n ≡ unless_dropped (goes remapped evicted slot n) (read_at s n)
  each_goes n = d.each n ∙ some_dropped _ (read_at s n) ∙ range_is remapped evicted slot n s.reads k.remembers.whole

  contexts_stay : All (λ h. CanBeShadowed (in_context (tables_of g) h.0)) held'
  contexts_stay = subst (All (λ h. CanBeShadowed (in_context (tables_of g) h.0))) (sym t.front)
      (All-cons (λ h. CanBeShadowed (in_context (tables_of g) h.0)) (context_of (tables_of g), slot) (others_held (context_of (tables_of g)) (staying remapped s.held)) tables
      (All-take (λ h. CanBeShadowed (in_context (tables_of g) h.0)) 3 (without (context_of (tables_of g)) (staying remapped s.held))
      (All-filter (λ h. not (is_same (context_of (tables_of g)) h.0)) (λ h. CanBeShadowed (in_context (tables_of g) h.0)) (staying remapped s.held) (all_staying remapped s.told (tables_of g) s.held tables k.fits.contexts))))

  first_is : IsFirst (context_of (tables_of g)) slot held'
  first_is = subst (IsFirst (context_of (tables_of g)) slot) (sym t.front) (refl, refl)

  some_goes : (n : ℕ) → is_some (remembered reads' n) ≡ true → is_some (unless_dropped (goes remapped evicted slot n) (read_at s n)) ≡ true
  some_goes n e = subst (λ x. is_some x ≡ true) (each_goes n) e

same_seen : (remapped evicted : Bool) (g : GuestState) (m m' : Machine) (s : Shadowed) (held' : Held) (slot : ℕ) (reads' : List (Option Source)) (k : Keeps [] [] m.memory s) → (tables : CanBeShadowed (tables_of g)) → remapped ≡ is_remapped s.told (tables_of g) → (t : TakesSlot (context_of (tables_of g)) (staying remapped s.held) held' slot) → (full : evicted ≡ is_full_for (context_of (tables_of g)) (staying remapped s.held)) →
    (d : DropsEntries s.at (range_that_goes remapped evicted slot).0 (range_that_goes remapped evicted slot).1 drops.All m s.reads m' reads') → (n : ℕ) → n < all_entries → is_some (remembered reads' n) ≡ true → seen_at m'.memory (with_told (record s { reads = reads' }) (tables_of g) slot held') n ≡ seen_at m'.memory (record s { reads = reads' }) n
same_seen true evicted g m m' s held' slot reads' k tables is t full d n h filled =
    gone_some _ true (read_at s n) refl (some_goes g m m' s held' slot evicted true reads' k tables t full d n filled)
same_seen false evicted g m m' s held' slot reads' k tables is t full d n h filled =
    let left : Shadowed = record s { reads = reads' } in
    let p = unmapped_parts s.told (tables_of g) (sym is) in
    split (cases_lt n 8192)
    (λ low. seen_system m'.memory left (tables_of g) slot held' n low p.2 p.0 p.1)
    (λ high.
    let kept = d.keeps [] [] s refl refl k in
    let source = some_source (goes false evicted slot n) (read_at s n) (some_goes g m m' s held' slot evicted false reads' k tables t full d n filled) in
    let there = context_there m'.memory left n source.0 high (right_from (512 * s.pages) s.base (own m'.memory s) (seen_at m'.memory left n) (real_at m'.memory s n) (remembered reads' n) source.0 (read_is n source.0 source.1 filled) (kept.entries n h)) in
    seen_process m'.memory left (tables_of g) slot held' n high p.0 p.1
    (still_has (context_of (tables_of g)) there.0 s.held held' slot (entry_slot n) t (λ four same. gone_some ⊥ (goes false evicted slot n) (read_at s n) (taken four same high) (some_goes g m m' s held' slot evicted false reads' k tables t full d n filled)) there.1 ∙ sym there.1))
  where
    right_from : (size base : ℕ) (memory : List ℕ) (seen : Lookup) (real : ℕ) (x : Option Source) (source : Source) → x ≡ Some source → IsKept size base memory [] seen real x → IsSource seen source
    right_from size base memory seen real None source e i = cc
    right_from size base memory seen real (Some other) source e i = subst (IsSource seen) (same_Some other source e) (i.1 refl).1

    read_is : (n : ℕ) (source : Source) → read_at s n ≡ Some source → is_some (remembered reads' n) ≡ true → remembered reads' n ≡ Some source
    read_is n source e f = by (goes false evicted slot n) (each_goes g m m' s held' slot evicted false reads' k tables t full d n) f
      where
        by : (b : Bool) → remembered reads' n ≡ unless_dropped b (read_at s n) → is_some (remembered reads' n) ≡ true → remembered reads' n ≡ Some source
        by true u f = absurd (false≢true (sym (ap is_some u) ∙ f))
        by false u f = u ∙ e

    taken : length (without (context_of (tables_of g)) s.held) ≡ 4 → entry_slot n ≡ slot → 8192 ≤ n → goes false evicted slot n ≡ true
    taken four same high = ap (λ b. goes false b slot n) (full ∙ eq-eqb (length (without (context_of (tables_of g)) s.held)) 4 four) ∙ rw (le-leb 8192 n high, eq-eqb (entry_slot n) slot same) refl

pub switch_all : (g : GuestState) (m m' : Machine) (s : Shadowed) (held' : Held) (slot first end : ℕ) (evicted remapped : Bool) (reads' : List (Option Source)) → Keeps [] [] m.memory s → s.pages ≡ g.pages → s.base ≡ g.base → CanBeShadowed (tables_of g) → remapped ≡ is_remapped s.told (tables_of g) → TakesSlot (context_of (tables_of g)) (staying remapped s.held) held' slot → evicted ≡ is_full_for (context_of (tables_of g)) (staying remapped s.held) →
    (first, end) ≡ range_that_goes remapped evicted slot → DropsEntries s.at first end drops.All m s.reads m' reads' → Switches g m s m' (record s { told = tables_of g; slot = slot; held = held'; reads = reads' })
switch_all g m m' s held' slot first end evicted remapped reads' k pages base tables is t full range drop =
    let d : DropsEntries s.at (range_that_goes remapped evicted slot).0 (range_that_goes remapped evicted slot).1 drops.All m s.reads m' reads' = subst (λ (r : ℕ × ℕ). DropsEntries s.at r.0 r.1 drops.All m s.reads m' reads') range drop in
    let left : Shadowed = record s { reads = reads' } in
    let kept = d.keeps [] [] s refl refl k in
    record {
      keeps = switched m'.memory left (tables_of g) slot held' kept (record {
        told = tables;
        contexts = contexts_stay g m m' s held' slot evicted remapped reads' k tables t full d;
        slots = t.after;
        first = first_is g m m' s held' slot evicted remapped reads' k tables t full d;
        same = λ n h f. same_seen remapped evicted g m m' s held' slot reads' k tables is t full d n h f;
      });
      serves = record { pages = pages; base = base; told = refl };
      takes = subst (λ r. TakesSlot (context_of (tables_of g)) (staying r s.held) held' slot) is t;
      each = λ n. each_goes g m m' s held' slot evicted remapped reads' k tables t full d n ∙ ap (λ b. unless_dropped b (read_at s n)) (same_goes remapped evicted (context_of (tables_of g)) s.held slot n full ∙ ap (λ r. goes r (is_full_for (context_of (tables_of g)) s.held) slot n) is);
      rest = refl;
      only = d.only;
    }

pub switch_seen : (g : GuestState) (m m' : Machine) (inside s s' : Shadowed) → inside ≡ s → Switches g m inside m' s' → Switches g m s m' s'
switch_seen g m m' inside s s' e w = subst (λ x. Switches g m x m' s') e w

-- the registers as the code has them
pub switch_told : (g : GuestState) (m m' : Machine) (s : Shadowed) (c : Context) (slot : ℕ) (held : Held) (reads : List (Option Source)) → c ≡ context_of (tables_of g) → Switches g m s m' (record s { told = tables_of g; slot = slot; held = held; reads = reads }) → Switches g m s m' (record s { told = record { mapped = c.mapped; p0br = c.p0br; p0lr = c.p0lr; p1br = c.p1br; p1lr = c.p1lr; sbr = g.sbr; slr = g.slr }; slot = slot; held = held; reads = reads })
switch_told g m m' s c slot held reads e w = subst (λ x. Switches g m s m' (record s { told = record { mapped = x.mapped; p0br = x.p0br; p0lr = x.p0lr; p1br = x.p1br; p1lr = x.p1lr; sbr = g.sbr; slr = g.slr }; slot = slot; held = held; reads = reads })) (sym e) w
