-- PROBE.
use Rattle.std.proofs.Common.{◌≡◌, ◌⊎◌, inl, inr, ℕ, ◌+◌, ◌*◌, ◌/◌, ◌%◌, ◌^◌, ◌<◌, ◌≤◌, Bool, true, false, not, ◌&&◌, length, get_or, set, List, [], Option, Some, None, refl, ap, ◌∙◌, sym, subst, arith}
use Rattle.std.specs.Prelude.{is_some}
use Rattle.std.proofs.lemmas.Bool.{and_parts, cases_eq, eq-eqb, false≢true, ltb-false, not-true}
use Rattle.std.proofs.lemmas.List.{get_or-set_other, get_or-set_same, length-set}
use Rattle.vv_base.specs.Bytes.{long_at}
use Rattle.vax_arch.specs.Fields.{frame_of, is_valid, protection_of}
use Rattle.vax_arch.specs.Ring.{open_of}
use Rattle.vax_arch.specs.Walk.{entry_at, is_past, page_of}
use Rattle.vax_arch.specs.WalkLaws.{IsInside}
use Rattle.vax_arch.specs.declared.mode.Intent.{Intent}
use Rattle.vax_arch.specs.declared.mode.Mode.{Mode}
use Rattle.vax_arch.specs.declared.walk.Lookup.{Lookup}
use Rattle.vax_arch.specs.declared.walk.Lookup.TheVariants.{Beyond, Direct, Fails, Found}
use Rattle.vax_arch.proofs.Walks.{looks_inside}
use Rattle.vax_table.specs.Probing.{last_of, probe_mode}
use Rattle.vax_hw.specs.Machine.{Machine}
use Rattle.vax_table.specs.Arithmetic.{bit_of}
use Rattle.vax_table.specs.declared.act.Trapped.{Trapped}
use Rattle.vm_emulate.specs.Emulated.{FillsTwo, Probes, probe_codes}
use Rattle.vm_emulate.specs.declared.emulated.Emulated.TheVariants as outcomes
use Rattle.vm_emulate.proofs.MovingTo.{only_guest}
use Rattle.vm_emulate.proofs.Sensing.{memory_size, nothing_else, same_place}
use Rattle.vm_emulate.proofs.Telling.{follows_none}
use Rattle.vm_shadow.specs.Calls.{OnlyTables}
use Rattle.vm_shadow.specs.Layout.{all_entries, entry_number}
use Rattle.vm_shadow.specs.Shadowed.{IsKept, Keeps, Shadowed, own, read_at, real_at, seen_at}
use Rattle.vm_shadow.specs.StandsFor.{FillsPage, IsPresent, StandsFor, own_number}
use Rattle.vm_shadow.specs.declared.source.Source.{Source}
use Rattle.vm_shadow.proofs.Covering.{own_is, present_covered, slot_small}
use Rattle.vm_shadow.proofs.Filling.{own_apart}
use Rattle.vm_shadow.proofs.Places.{number_small}
use Rattle.vm_shadow.proofs.Scanning.{apart_again}
use Rattle.vm_state.specs.Allowed.{AreAllowed}
use Rattle.vm_state.specs.Partition.{guest_of, part, partition_of}
use Rattle.vm_state.specs.Sensitive.{past_instruction}
use Rattle.vm_state.proofs.Keeps.{Keeps as StateKeeps, low_changed, moved}
use Rattle.vm_state.specs.Probe.{Answers, NotValid, PastMemory, Probed, both, probe, probed_by, probed_byte}
use Rattle.vm_state.specs.State.{Guest, HasPlace, State, state_of, tables_of}
use Rattle.vm_state.specs.declared.guest_state.GuestState.{GuestState}
use Rattle.vm_state.specs.Translation.{look}

-- a byte that is plain lies on a page that is present
IsPlain : Probed → Type 0
IsPlain (Answers a true) = Unit {0}
IsPlain (Answers a false) = ⊥
IsPlain (NotValid f) = ⊥
IsPlain PastMemory = ⊥

plain_entry : (g : Guest) (page place : ℕ) (table : Option ℕ) (m : Mode) (i : Intent) (b : Bool) → Found place table ≡ look g page → (is_valid (long_at g.memory place) && not (is_past (length g.memory) (512 * frame_of (long_at g.memory place)) 512)) ≡ b
    → IsPlain (Answers (open_of (protection_of (long_at g.memory place)) m i) b) → IsPresent g page
unfolding IsPlain
plain_entry g page place table m i true e b h =
    let p = and_parts _ _ b in
    record {
      entry = long_at g.memory place;
      has = ap (entry_at g.memory) (sym e);
      valid = p.0;
      inside = ltb-false (length g.memory) (512 * frame_of (long_at g.memory place) + 512) (not-true _ p.1);
    }
plain_entry g page place table m i false e b h = absurd h

plain_look : (g : Guest) (va : ℕ) (m : Mode) (i : Intent) (x : Lookup) → length g.memory ≤ 2 ^ 32 → x ≡ look g (page_of va) → IsInside (length g.memory) x → IsPlain (probed_by g va m i x) → IsPresent g (page_of va)
unfolding IsPlain
plain_look g va m i (Found place table) small e inside h = plain_entry g (page_of va) place table m i _ e refl h
plain_look g va m i (Direct frame) small e inside h =
    let entry : ℕ = 2 ^ 31 + 4 * 2 ^ 27 + 2 ^ 26 + frame in
    record { entry = entry; has = ap (entry_at g.memory) (sym e); valid = eq-eqb (entry / 2 ^ 31 % 2) 1 (omega arith); inside = omega arith }
plain_look g va m i (Fails true parameter) small e inside h = absurd h
plain_look g va m i (Fails false parameter) small e inside h = absurd h
plain_look g va m i Beyond small e inside h = absurd (beyond g.state.tables.mapped h)
  where
    beyond : (b : Bool) → IsPlain (Rattle.std.specs.Prelude.if◌then◌else◌ b PastMemory (Answers false false)) → ⊥
    beyond true h = h
    beyond false h = h

plain_byte : (g : Guest) (va : ℕ) (m : Mode) (i : Intent) → length g.memory ≤ 2 ^ 32 → IsPlain (probed_byte g va m i) → IsPresent g (page_of va)
unfolding probed_byte
plain_byte g va m i small h = plain_look g va m i (look g (page_of va)) small refl (looks_inside (length g.memory) g.memory g.state.tables (page_of va)) h

plain_both : (x y : Probed) (a : Bool) → both x y ≡ Answers a true → IsPlain x × IsPlain y
unfolding IsPlain
plain_both (Answers a true) (Answers b true) c e = (tt, tt)
plain_both (Answers a true) (Answers b false) c e = cc
plain_both (Answers a false) (Answers b q) c e = cc
plain_both (Answers a p) (NotValid f) c e = cc
plain_both (Answers a p) PastMemory c e = cc
plain_both (NotValid f) y c e = cc
plain_both PastMemory y c e = cc

pub plain_pages : (g : Guest) (i : Intent) (mode bytes base : ℕ) (a : Bool) → length g.memory ≤ 2 ^ 32 → probe g i mode bytes base ≡ Answers a true → IsPresent g (page_of base) × IsPresent g (page_of (last_of base (bytes % 2 ^ 16)))
unfolding probe
plain_pages g i mode bytes base a small e =
    let m = probe_mode g.state.psl mode in
    let two = plain_both (probed_byte g base m i) (probed_byte g (last_of base (bytes % 2 ^ 16)) m i) a e in
    (plain_byte g base m i small two.0, plain_byte g (last_of base (bytes % 2 ^ 16)) m i small two.1)

-- Two pages are filled.
pub same_memory : (m m' : Machine) (s : Shadowed) (g : GuestState) → StandsFor m.memory s g → OnlyTables s.at m m' → guest_of m'.memory g ≡ guest_of m.memory g
same_memory m m' s g k only =
    let memory : partition_of m'.memory g ≡ partition_of m.memory g = sym (own_is m'.memory s g k.serves) ∙ own_apart m.memory m'.memory s k.keeps.fits only.tables ∙ own_is m.memory s g k.serves in
    λ i. record { memory = memory i; state = state_of g }

pub still_present : (m m1 : Machine) (s : Shadowed) (g : GuestState) (page : ℕ) → StandsFor m.memory s g → OnlyTables s.at m m1 → IsPresent (guest_of m.memory g) page → IsPresent (guest_of m1.memory g) page
still_present m m1 s g page k only p = subst (λ (x : Guest). IsPresent x page) (sym (same_memory m m1 s g k only)) p

number_of : (m : Machine) (s : Shadowed) (g : GuestState) (page : ℕ) → StandsFor m.memory s g → IsPresent (guest_of m.memory g) page → own_number s page < all_entries
number_of m s g page k p = number_small s.slot page (slot_small m.memory s k.keeps.fits) (present_covered m.memory s g page k.keeps.fits k.serves p)

-- an entry that is recorded is valid
remembered_valid : (memory : List ℕ) (s : Shadowed) (n : ℕ) (x : Option Source) → Keeps [] [] memory s → n < all_entries → read_at s n ≡ x → is_some x ≡ true → is_valid (real_at memory s n) ≡ true
remembered_valid memory s n None k h e some = absurd (false≢true some)
remembered_valid memory s n (Some source) k h e some = (subst (IsKept (512 * s.pages) s.base (own memory s) [] (seen_at memory s n) (real_at memory s n)) e (k.entries n h)).0

split : {A B C : Type 0} → A ⊎ B → (A → C) → (B → C) → C
split (inl a) f g = f a
split (inr b) f g = g b

set_some : (reads : List (Option Source)) (k n : ℕ) (source : Source) → n < length reads → (is_some (get_or reads n None) ≡ true) ⊎ (n ≡ k) → is_some (get_or (set reads k (Some source)) n None) ≡ true
set_some reads k n source h x = split (cases_eq n k)
    (λ e. ap is_some (ap (λ j. get_or (set reads k (Some source)) j None) e ∙ get_or-set_same reads k (Some source) None (omega (arith, e))))
    (λ e. split x (λ some. ap is_some (get_or-set_other reads k n (Some source) None e) ∙ some) (λ same. absurd (e same)))

module _ (p q : ℕ) (g : GuestState) (m m1 m2 : Machine) (s s1 s2 : Shadowed) (stands : StandsFor m.memory s g) (present : IsPresent (guest_of m.memory g) p) (there : IsPresent (guest_of m.memory g) q) (one : FillsPage p g m s m1 s1) (two : FillsPage q g m1 s1 m2 s2) where
  same_slot : s1.slot ≡ s.slot
  same_slot = ap (λ (x : Shadowed). x.slot) one.fills.rest

  abbrev n_p : ℕ
  n_p = own_number s p

  abbrev n_q : ℕ
  n_q = own_number s q

  first_is : s1.reads ≡ set s.reads n_p (Some one.fills.source)
  first_is = one.fills.reads

  second_is : s2.reads ≡ set s1.reads n_q (Some two.fills.source)
  second_is = two.fills.reads ∙ ap (λ x. set s1.reads (entry_number x q) (Some two.fills.source)) same_slot

  slot_then : s2.slot ≡ s.slot
  slot_then = ap (λ (x : Shadowed). x.slot) two.fills.rest ∙ same_slot

  filled : (page : ℕ) → own_number s page < all_entries → is_some (read_at s2 (own_number s page)) ≡ true → is_valid (real_at m2.memory s2 (own_number s2 page)) ≡ true
  filled page h some = subst (λ x. is_valid (real_at m2.memory s2 (entry_number x page)) ≡ true) (sym slot_then) (remembered_valid m2.memory s2 (own_number s page) (read_at s2 (own_number s page)) two.stands.keeps h refl some)

  others : (n : ℕ) → (read_at s2 n ≡ read_at s n) ⊎ ((n ≡ n_p) ⊎ (n ≡ n_q))
  others n = split (cases_eq n n_p) (λ e. inr (inl e)) (λ e. split (cases_eq n n_q) (λ f. inr (inr f)) (λ f.
      inl (ap (λ x. get_or x n None) second_is ∙ get_or-set_other s1.reads n_q n (Some two.fills.source) None f ∙ ap (λ x. get_or x n None) first_is ∙ get_or-set_other s.reads n_p n (Some one.fills.source) None e)))

  pub fills_two : FillsTwo p q g m s m2 s2
  fills_two =
      let h_p = number_of m s g p stands present in
      let h_q = number_of m s g q stands there in
      let whole = stands.keeps.remembers.whole in
      let long : length s1.reads ≡ all_entries = ap length first_is ∙ length-set s.reads n_p (Some one.fills.source) ∙ whole in
      let at_p : is_some (read_at s1 n_p) ≡ true = ap (λ x. is_some (get_or x n_p None)) first_is ∙ set_some s.reads n_p n_p one.fills.source (omega (arith, h_p, whole)) (inr refl) in
      let p_some : is_some (read_at s2 n_p) ≡ true = ap (λ x. is_some (get_or x n_p None)) second_is ∙ set_some s1.reads n_q n_p two.fills.source (omega (arith, h_p, long)) (inl at_p) in
      let q_some : is_some (read_at s2 n_q) ≡ true = ap (λ x. is_some (get_or x n_q None)) second_is ∙ set_some s1.reads n_q n_q two.fills.source (omega (arith, h_q, long)) (inr refl) in
      let only2 : OnlyTables s.at m1 m2 = subst (λ a. OnlyTables a m1 m2) (ap (λ (x : Shadowed). x.at) one.fills.rest) two.only in
      record {
        stands = two.stands;
        memory = same_memory m1 m2 s1 g one.stands two.only ∙ same_memory m m1 s g stands one.only;
        first = filled p h_p p_some;
        second = filled q h_q q_some;
        stay = others;
        rest = two.fills.rest ∙ ap (λ (x : Shadowed). record x { reads = s2.reads; consulted = s2.consulted; writable = s2.writable }) one.fills.rest;
        only = record { rest = only2.rest ∙ ap (λ (x : Machine). record x { memory = m2.memory }) one.only.rest; tables = apart_again (512 * s.at) (512 * 580) m.memory m1.memory m2.memory one.only.tables only2.tables };
      }

-- PROBE, whole.
code_low : (p : ℕ) → p % 2 ^ 8 < 2 ^ 8
code_low p = grind arith

module _ (i : Intent) (t : Trapped) (m : Machine) (s : Shadowed) (g : GuestState) (stands : StandsFor m.memory s g) where
  abbrev pub found : Probed
  found = probe (guest_of m.memory g) i t.a t.b t.c

  pub plain_then : (a b : Bool) → Answers a b ≡ found → b ≡ true → IsPresent (guest_of m.memory g) (page_of t.c) × IsPresent (guest_of m.memory g) (page_of (last_of t.c (t.b % 2 ^ 16)))
  plain_then a b e plain = plain_pages (guest_of m.memory g) i t.a t.b t.c a (omega (arith, memory_size m s g stands, stands.keeps.fits.small, stands.serves.pages)) (sym e ∙ ap (Answers a) plain)

  pub probe_filled : (a b : Bool) (last : ℕ) (m' : Machine) (s' : Shadowed) → Answers a b ≡ found → b ≡ true → last ≡ last_of t.c (t.b % 2 ^ 16) → FillsTwo (page_of t.c) (page_of last) g m s m' s' → Probes i t m s g outcomes.Filled m' s' g
  probe_filled a b last m' s' e plain at two =
      let is : found ≡ Answers a true = sym e ∙ ap (Answers a) plain in
      record {
        is = rw is (refl, subst (λ x. FillsTwo (page_of t.c) (page_of x) g m s m' s') at two);
        stands = two.stands;
        place = same_place g;
        only = only_guest s m m' two.only;
      }

  pub probe_done : (a b : Bool) (g1 g2 : GuestState) → Answers a b ≡ found → b ≡ false → state_of g1 ≡ past_instruction (state_of g) t → HasPlace g.pages g.base g.start g1 → state_of g2 ≡ record (state_of g1) { psl = probe_codes a g1.psl.0 } → HasPlace g1.pages g1.base g1.start g2 → Probes i t m s g outcomes.Done m s g2
  probe_done a b g1 g2 e plain one place two place' =
      let is : found ≡ Answers a false = sym e ∙ ap (Answers a) plain in
      let there : HasPlace g.pages g.base g.start g2 = record { pages = place'.pages ∙ place.pages; base = place'.base ∙ place.base; start = place'.start ∙ place.start } in
      let u : State = record (past_instruction (state_of g) t) { psl = probe_codes a g.psl.0 } in
      let state : state_of g2 ≡ u = two ∙ ap (λ (x : State). record x { psl = probe_codes a x.psl }) one in
      let memory : partition_of m.memory g2 ≡ partition_of m.memory g = λ k. part m.memory (512 * there.base k) (512 * there.pages k) in
      let keeps : StateKeeps (512 * g.pages) (state_of g) u = moved (512 * g.pages) (state_of g) u refl refl refl refl refl refl refl refl (λ k. low_changed g.psl.0 ((g.psl.0 % 2 ^ 8 / 16 * 16 + 4 * bit_of (not a) + g.psl.0 % 2 ^ 8 % 2) % 2 ^ 8) (code_low (g.psl.0 % 2 ^ 8 / 16 * 16 + 4 * bit_of (not a) + g.psl.0 % 2 ^ 8 % 2)) k) in
      let tables : tables_of g2 ≡ tables_of g = ap (λ (x : State). x.tables) state in
      record {
        is = rw is (record { guest = λ k. record { memory = memory k; state = state k }; follows = follows_none m.memory s u.tables stands.keeps.fits stands.serves.told });
        stands = record {
          keeps = stands.keeps;
          serves = record { pages = stands.serves.pages ∙ sym there.pages; base = stands.serves.base ∙ sym there.base; told = stands.serves.told ∙ sym tables };
          allowed = subst (λ n. AreAllowed n (state_of g2)) (ap (λ n. 512 * n) (sym there.pages)) (subst (AreAllowed (512 * g.pages)) (sym state) (keeps.allowed stands.allowed));
        };
        place = there;
        only = nothing_else s m;
      }
