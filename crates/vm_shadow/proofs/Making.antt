-- New real tables.
use Rattle.std.proofs.Common.{◌≡◌, ◌≢◌, ℕ, ◌==◌, ◌+◌, ◌*◌, ◌/◌, ◌%◌, ◌^◌, ◌<◌, ◌≤◌, ◌⊎◌, inl, inr, Bool, true, false, ◌&&◌, List, [], ◌∷◌, length, replicate, All, Option, None, refl, ap, ◌∙◌, sym, subst, arith}
use Rattle.std.proofs.lemmas.Bool.{and_parts, cases_eq, cases_lt, eqb-true, false≢true, leb-true}
use Rattle.std.proofs.lemmas.List.Elements.{All-cons, All-nil}
use Rattle.std.proofs.lemmas.List.{length-replicate}
use Rattle.vax_hw.specs.Machine.{Machine}
use Rattle.vm_slots.specs.Held.{AreSlots, Held, contexts_of}
use Rattle.vm_slots.specs.declared.context.Context.{Context}
use Rattle.vm_shadow.specs.Calls.{Clears, Maps, OnlyTables}
use Rattle.vm_shadow.specs.Layout.{all_entries, empty_entry, entry_place, kernel_entry}
use Rattle.vm_shadow.specs.Shadowed.{CanBeShadowed, Fits, IsFirst, IsKept, Remembers, Shadowed, in_context, is_read_from, own, read_at, real_at, seen_at}
use Rattle.vm_shadow.specs.Marks.{AreEmpty}
use Rattle.vm_shadow.specs.StandsFor.{MakesTables}
use Rattle.vm_shadow.specs.declared.source.Source.{Source}
use Rattle.vm_state.specs.Allowed.{AreAllowed}
use Rattle.vm_state.specs.Registers.{first_p1_page}
use Rattle.vm_state.specs.State.{State, context_of, state_of, tables_of}
use Rattle.vm_state.specs.declared.guest_state.GuestState.{GuestState}
use Rattle.vax_arch.specs.Fields.{is_valid}
use Rattle.vm_shadow.proofs.Places.{place_within, places_apart, split, system_apart}
use Rattle.vm_shadow.proofs.Scanning.{apart_again, only_more, only_none, with_long}
use Rattle.vm_shadow.proofs.Writes.{long_kept, written}

pub maps_none : (at : ℕ) (m : Machine) → Maps at 0 m m
maps_none at m = record { only = only_none at m; mapped = λ j h. absurd (omega arith) }

pub maps_next : (at j : ℕ) (m m' : Machine) → j < 512 → 512 * (at + 580) ≤ length m'.memory → Maps at j m m' → Maps at (j + 1) m (with_long m' (512 * at + 4 * (8192 + j)) (kernel_entry (at + 68 + j)))
maps_next at j m m' h room d =
    let place = 512 * at + 4 * (8192 + j) in
    let w = written m'.memory place (kernel_entry (at + 68 + j)) (omega arith) in
    record {
      only = only_more at m m' place (kernel_entry (at + 68 + j)) room (record { front = omega arith; back = omega arith }) d.only;
      mapped = λ i b. split (cases_eq i j)
          (λ e. rw e w.is)
          (λ differ. long_kept m'.memory _ place (kernel_entry (at + 68 + j)) (512 * at + 4 * (8192 + i)) w (inl (less i b differ)) ∙ d.mapped i (below i b differ));
    }
  where
    below : (i : ℕ) → i < j + 1 → i ≢ j → i < j
    below i b n = split (cases_lt i j) (λ h. h) (λ h. absurd (n (omega arith)))

    less : (i : ℕ) → i < j + 1 → i ≢ j → 512 * at + 4 * (8192 + i) + 4 ≤ 512 * at + 4 * (8192 + j)
    less i b n = let c = below i b n in omega arith

pub clears_none : (at : ℕ) (m : Machine) → Clears at 0 m m
clears_none at m = record { only = only_none at m; cleared = λ n h. absurd (omega arith); stay = λ j h. refl }

pub clears_next : (at n place : ℕ) (m m' : Machine) → n < all_entries → 512 * (at + 580) ≤ length m'.memory → place ≡ entry_place at n → Clears at n m m' → Clears at (n + 1) m (with_long m' place empty_entry)
clears_next at n place m m' h room is d =
    let l = place_within at n h in
    let w = written m'.memory (entry_place at n) empty_entry (omega (arith, l.back)) in
    rw is (record {
      only = only_more at m m' (entry_place at n) empty_entry room l d.only;
      cleared = λ i b. split (cases_eq i n)
          (λ e. rw e w.is)
          (λ differ. long_kept m'.memory _ (entry_place at n) empty_entry (entry_place at i) w (places_apart at n i (λ e. differ (sym e))) ∙ d.cleared i (below i b differ));
      stay = λ j b. long_kept m'.memory _ (entry_place at n) empty_entry (512 * at + 4 * (8192 + j)) w (system_apart at n j b) ∙ d.stay j b;
    })
  where
    below : (i : ℕ) → i < n + 1 → i ≢ n → i < n
    below i b e = split (cases_lt i n) (λ h. h) (λ h. absurd (e (omega arith)))

-- The registers that a guest can have are ones that the tables can stand for.
or_zero : (v : ℕ) → (v ≡ 0) ⊎ (((v % 4 == 0) && (v / 2 ^ 30 == 2)) ≡ true) → v % 4 ≡ 0
or_zero v (inl e) = omega arith
or_zero v (inr e) = eqb-true (v % 4) 0 (and_parts (v % 4 == 0) (v / 2 ^ 30 == 2) e).0

pub can_stand : (size : ℕ) (s : State) → AreAllowed size s → CanBeShadowed s.tables
can_stand size s a = record {
  p0br = or_zero s.tables.p0br a.p0br;
  p0lr = leb-true s.tables.p0lr 8192 a.p0lr;
  p1br = eqb-true (s.tables.p1br % 4) 0 a.p1br;
  p1lr = leb-true first_p1_page s.tables.p1lr (and_parts _ _ a.p1lr).0;
  sbr = eqb-true (s.tables.sbr % 4) 0 a.sbr;
  slr = leb-true s.tables.slr 8192 a.slr;
}

-- what was written for a guest is its shadow's
pub makes : (g : GuestState) (at slot : ℕ) (held : Held) (reads : List (Option Source)) (consulted writable : List Bool) (m m1 m2 : Machine) → length m.memory ≤ 33554432 → 512 * (g.base + g.pages) ≤ length m.memory → 512 * (at + 580) ≤ length m.memory → (g.base + g.pages ≤ at) ⊎ (at + 580 ≤ g.base) → g.pages ≤ 2048 → AreAllowed (512 * g.pages) (state_of g) →
    AreEmpty reads → consulted ≡ replicate g.pages false → length writable ≡ 576 * g.pages → held ≡ (context_of (tables_of g), slot) ∷ [] → AreSlots held → Maps at 512 m m1 → Clears at all_entries m1 m2 →
    MakesTables g at m m2 (record { pages = g.pages; base = g.base; at = at; told = tables_of g; slot = slot; held = held; reads = reads; consulted = consulted; writable = writable })
makes g at slot held reads consulted writable m m1 m2 few partition room apart small allowed reads_is consulted_is writable_is held_is slots maps clears =
    let s : Shadowed = record { pages = g.pages; base = g.base; at = at; told = tables_of g; slot = slot; held = held; reads = reads; consulted = consulted; writable = writable } in
    let size : length m2.memory ≡ length m.memory = clears.only.tables.size ∙ maps.only.tables.size in
    let can = can_stand (512 * g.pages) (state_of g) allowed in
    let empty : (n : ℕ) → read_at s n ≡ None = reads_is.empty in
    let clear : (n : ℕ) → n < all_entries → real_at m2.memory s n ≡ empty_entry = λ n h. clears.cleared n h in
    let fits : Fits m2.memory s = record {
      few = omega (arith, size);
      small = small;
      partition = omega (arith, size);
      room = omega (arith, size);
      apart = apart;
      told = can;
      contexts = subst (All (λ h. CanBeShadowed (in_context (tables_of g) h.0))) (sym held_is) (All-cons (λ h. CanBeShadowed (in_context (tables_of g) h.0)) (context_of (tables_of g), slot) [] can (All-nil (λ h. CanBeShadowed (in_context (tables_of g) h.0))));
      slots = slots;
      first = subst (IsFirst (context_of (tables_of g)) slot) (sym held_is) (refl, refl);
      system = λ j h. clears.stay j h ∙ maps.mapped j h;
    } in
    let known : Remembers s = record {
      whole = reads_is.whole;
      consulted = ap length consulted_is ∙ length-replicate g.pages false;
      writable = writable_is;
      consults = λ n frame h e. ap (is_read_from frame) (empty n);
    } in
    record {
      stands = record {
        keeps = record {
          fits = fits;
          remembers = known;
          entries = λ n h. subst (IsKept (512 * g.pages) g.base (own m2.memory s) [] (seen_at m2.memory s n) (real_at m2.memory s n)) (sym (empty n)) (clear n h);
          guarded = λ n k h c o v x. absurd (invalid (real_at m2.memory s k) (clear k c) v);
          writes = λ k c v x. absurd (invalid (real_at m2.memory s k) (clear k c) v);
        };
        serves = record { pages = refl; base = refl; told = refl };
        allowed = allowed;
      };
      place = refl;
      empty = empty;
      contexts = ap contexts_of held_is;
      only = both_only at m m1 m2 maps.only clears.only;
    }
  where
    invalid : (real : ℕ) → real ≡ empty_entry → is_valid real ≡ true → ⊥
    invalid real e v = false≢true (subst (λ x. is_valid x ≡ true) e v)

    both_only : (at : ℕ) (m m1 m2 : Machine) → OnlyTables at m m1 → OnlyTables at m1 m2 → OnlyTables at m m2
    both_only at m m1 m2 a b = record { rest = b.rest ∙ ap (λ (x : Machine). record x { memory = m2.memory }) a.rest; tables = apart_again (512 * at) (512 * 580) m.memory m1.memory m2.memory a.tables b.tables }

-- the registers as the code has them
pub makes_told : (g : GuestState) (at slot : ℕ) (c : Context) (held : Held) (reads : List (Option Source)) (consulted writable : List Bool) (m m' : Machine) → c ≡ context_of (tables_of g) →
    MakesTables g at m m' (record { pages = g.pages; base = g.base; at = at; told = tables_of g; slot = slot; held = held; reads = reads; consulted = consulted; writable = writable }) →
    MakesTables g at m m' (record { pages = g.pages; base = g.base; at = at; told = record { mapped = c.mapped; p0br = c.p0br; p0lr = c.p0lr; p1br = c.p1br; p1lr = c.p1lr; sbr = g.sbr; slr = g.slr }; slot = slot; held = held; reads = reads; consulted = consulted; writable = writable })
makes_told g at slot c held reads consulted writable m m' e w = subst (λ (x : Context). MakesTables g at m m' (record { pages = g.pages; base = g.base; at = at; told = record { mapped = x.mapped; p0br = x.p0br; p0lr = x.p0lr; p1br = x.p1br; p1lr = x.p1lr; sbr = g.sbr; slr = g.slr }; slot = slot; held = held; reads = reads; consulted = consulted; writable = writable })) (sym e) w
