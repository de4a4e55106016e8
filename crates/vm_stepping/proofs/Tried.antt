-- The instruction is tried again, with one entry more that may be written.
use Rattle.std.proofs.Common.{◌≡◌, ◌≢◌, ℕ, zero, suc, ◌+◌, ◌*◌, ◌/◌, ◌%◌, ◌^◌, ◌<◌, Bool, true, false, not, List, [], ◌∷◌, Option, Some, None, refl, ap, ◌∙◌, sym, subst, arith, if◌then◌else◌}
use Rattle.std.specs.Prelude.{IfSome}
use Rattle.std.proofs.lemmas.Bool.{cases_eq, eq-eqb, eqb-false}
use Rattle.vax_arch.specs.Fields.{is_modified}
use Rattle.vax_arch.specs.Walk.{page_of, with_modify}
use Rattle.vax_arch.specs.declared.mode.Intent.TheVariants.{Write}
use Rattle.vax_hw.specs.Machine.{Machine}
use Rattle.vax_hw.specs.Real.{real}
use Rattle.vax_hw.specs.declared.world.Exit.{Exit}
use Rattle.vax_hw.specs.declared.world.Exit.TheVariants.{Arithmetic, Budget, Denied, Emulate, Modify, NotValid, Refused}
use Rattle.vax_table.specs.Claims.{claims}
use Rattle.vax_table.specs.Interaction.{IsIn}
use Rattle.vm_exception.specs.Standing.{standing}
use Rattle.vm_stepping.specs.Guarded.{CanAllow, CanClose, ClosesAfter, GrantsOrOpens, IsTried, IsUnfinished, RunsSome, clear_bits, count_below, is_retired, opened_by}
use Rattle.vm_stepping.proofs.Closed.{completed_closed, mapped_in, unfinished_closed}
use Rattle.vm_stepping.proofs.Completing.{alike, guest_same, maps_same, own_same, runs_again, serves_again, slot_same, split, stops, tried_from, unwritten}
use Rattle.vm_simulation_laws.specs.Runs.{Reaches}
use Rattle.vm_shadow.specs.Layout.{all_entries, entry_number}
use Rattle.vm_shadow.specs.Shadowed.{Keeps, Shadowed, mapped_frame, real_at}
use Rattle.vm_shadow.specs.StandsFor.{Serves, own_number}
use Rattle.vm_shadow.proofs.Hearing.{number_is_small}
use Rattle.vm_simulation_laws.proofs.Retiring.{place_found}
use Rattle.vm_simulation_laws.specs.Laws.{IsUnwritten, frames_claimed}
use Rattle.vm_simulation_laws.specs.Loaded.{RunsGuest, frames_opened}
use Rattle.vm_state.specs.Partition.{guest_of, partition_of}
use Rattle.vm_state.specs.Step.{instruction_of}
use Rattle.vm_state.specs.Translation.{frame_at, guest_write_place, is_clear, space_of, walk_of}
use Rattle.vm_state.specs.declared.guest_state.GuestState.{GuestState}

set_now : (x : ℕ) → is_modified x ≡ false → is_modified (with_modify x) ≡ true
set_now x e = ap (λ b. is_modified (if b then x else x + 2 ^ 26)) e ∙ eq-eqb ((x + 2 ^ 26) / 2 ^ 26 % 2) 1 (bit (eqb-false (x / 2 ^ 26 % 2) 1 e))
  where
    bit : (x / 2 ^ 26 % 2 ≢ 1) → (x + 2 ^ 26) / 2 ^ 26 % 2 ≡ 1
    bit n = grind arith

-- One entry more has its bit set.
pub same_count : (p q : ℕ → Bool) (k : ℕ) → ((j : ℕ) → j < k → q j ≡ p j) → count_below q k ≡ count_below p k
same_count p q zero h = refl
same_count p q (suc k) h = λ i. same_count p q k (λ j l. h j (omega arith)) i + (if h k (omega arith) i then 1 else 0)

pub count_less : (p q : ℕ → Bool) (n k : ℕ) → n < k → p n ≡ true → q n ≡ false → ((j : ℕ) → j ≢ n → q j ≡ p j) → count_below q k < count_below p k
count_less p q n zero h on off other = absurd (omega arith)
count_less p q n (suc k) h on off other = split (cases_eq n k)
    (λ e.
    let one : p k ≡ true = subst (λ x. p x ≡ true) e on in
    let none : q k ≡ false = subst (λ x. q x ≡ false) e off in
    let before = same_count p q k (λ j l. other j (λ same. omega arith)) in
    rw (one, none) (omega (arith, before)))
    (λ differ.
    let before = count_less p q n k (omega arith) on off other in
    let here = other k (λ same. differ (sym same)) in
    rw here (omega (arith, before)))

-- The page and its frame.
module _ (opened : List ℕ) (m : Machine) (s : Shadowed) (g : GuestState) (va : ℕ) (k : RunsGuest opened m s g) (u : IsUnwritten va m.memory s g) where
  pub can_allow : is_clear (guest_of m.memory g) va ≡ false → CanAllow va m s g
  can_allow e = record { fits = k.keeps.fits; partition = omega (arith, k.keeps.fits.partition, k.serves.pages, k.serves.base); unwritten = u; set = e }

  claimed_frame : IsIn (u.home / 512) (frames_claimed (guest_of m.memory g))
  claimed_frame =
      let whole = guest_of m.memory g in
      let home : guest_write_place whole va ≡ u.home = place_found (partition_of m.memory g) (walk_of whole va (Rattle.vax_arch.specs.Fields.current_of g.psl.0) Write) u.home u.place in
      subst (λ x. IsIn (x / 512) (frames_claimed whole)) home (mapped_in (λ a. frame_at (guest_write_place whole a)) va (claims (space_of whole) (instruction_of whole.state)) u.claimed)

  module _ (m2 : Machine) (s2 : Shadowed) (frame : Option ℕ) (a : GrantsOrOpens va m s frame m2 s2) where
    abbrev n : ℕ
    n = own_number s (page_of va)

    abbrev now : List ℕ
    now = opened_by frame n opened

    pub runs_now : RunsGuest now m2 s2 g
    runs_now = runs_again va m m2 s s2 g frame k.keeps.fits k.serves a opened k

    pub runs_some : RunsSome m2 s2 g
    runs_some = record { opened = now; runs = runs_now }

    -- fewer bits are clear
    fewer_clear : clear_bits m2.memory s2 < clear_bits m.memory s
    unfolding clear_bits
    fewer_clear =
        let at : s2.at ≡ s.at = ap (λ (x : Shadowed). x.at) a.rest in
        let there : (j : ℕ) → real_at m2.memory s2 j ≡ real_at m2.memory s j = λ j i. real_at m2.memory (record s { at = at i }) j in
        count_less (λ j. not (is_modified (real_at m.memory s j))) (λ j. not (is_modified (real_at m2.memory s2 j))) n all_entries (number_is_small opened m.memory s g k.keeps k.serves va u.covered)
        (ap not u.bit) (ap (λ x. not (is_modified x)) (there n ∙ a.entry) ∙ ap not (set_now (real_at m.memory s n) u.bit)) (λ j differ. ap (λ x. not (is_modified x)) (there j ∙ a.others j differ))

    pub then_fewer : 2 * clear_bits m2.memory s2 + 1 < 2 * clear_bits m.memory s
    then_fewer = let fewer = fewer_clear in omega (arith, fewer)

    -- what is answered of an opened page
    frame_told : (f : ℕ) → IfSome frame (λ y. y ≡ mapped_frame s (real_at m.memory s n)) → frame ≡ Some f → f ≡ mapped_frame s (real_at m.memory s n)
    frame_told f told e = subst (λ (x : Option ℕ). IfSome x (λ y. y ≡ mapped_frame s (real_at m.memory s n))) e told

    told_now : (f : ℕ) → frame ≡ Some f → f ≡ mapped_frame s2 (real_at m2.memory s2 n)
    told_now f e = frame_told f a.told e ∙ sym (maps_same va m m2 s s2 g frame k.keeps.fits k.serves a n)

    module _ (m3 : Machine) (s3 : Shadowed) (e : Exit) (ih : (o : List ℕ) → RunsGuest o m2 s2 g → IsTried e o (standing m2 s2 g) m3 s3) where
      again : IsTried e now (standing m2 s2 g) m3 s3
      again = ih now runs_now

      -- the page can be closed
      can_by : (x : Option ℕ) → frame ≡ x → (r : Exit) → IsTried r (opened_by x n opened) (standing m2 s2 g) m3 s3 → CanClose x (is_retired r) m3 s3
      can_by None is Budget k = record { pending = frames_opened m2.memory s2 opened; opened = opened; keeps = k.keeps }
      can_by None is (Arithmetic kind) k = record { pending = frames_opened m2.memory s2 opened; opened = opened; keeps = k.keeps }
      can_by None is (NotValid a write) k = record { pending = []; opened = opened; keeps = k.keeps }
      can_by None is (Denied a write) k = record { pending = []; opened = opened; keeps = k.keeps }
      can_by None is (Modify a) k = record { pending = []; opened = opened; keeps = k.keeps }
      can_by None is (Emulate t) k = record { pending = []; opened = opened; keeps = k.keeps }
      can_by None is (Refused r) k = record { pending = []; opened = opened; keeps = k.keeps }
      can_by (Some f) is Budget k = record { pending = frames_opened m2.memory s2 opened; opened = n ∷ opened; keeps = subst (λ x. Keeps (x ∷ frames_opened m2.memory s2 opened) (n ∷ opened) m3.memory s3) (sym (told_now f is)) k.keeps }
      can_by (Some f) is (Arithmetic kind) k = record { pending = frames_opened m2.memory s2 opened; opened = n ∷ opened; keeps = subst (λ x. Keeps (x ∷ frames_opened m2.memory s2 opened) (n ∷ opened) m3.memory s3) (sym (told_now f is)) k.keeps }
      can_by (Some f) is (NotValid a write) k = record { pending = []; opened = n ∷ opened; keeps = k.keeps }
      can_by (Some f) is (Denied a write) k = record { pending = []; opened = n ∷ opened; keeps = k.keeps }
      can_by (Some f) is (Modify a) k = record { pending = []; opened = n ∷ opened; keeps = k.keeps }
      can_by (Some f) is (Emulate t) k = record { pending = []; opened = n ∷ opened; keeps = k.keeps }
      can_by (Some f) is (Refused r) k = record { pending = []; opened = n ∷ opened; keeps = k.keeps }

      pub can_close : CanClose frame (is_retired e) m3 s3
      can_close = can_by frame refl e again

      -- the slot in use stays
      slot_by : (r : Exit) → IsTried r now (standing m2 s2 g) m3 s3 → s3.slot ≡ s2.slot
      slot_by Budget x = ap (λ (y : Shadowed). y.slot) x.rest
      slot_by (Arithmetic kind) x = ap (λ (y : Shadowed). y.slot) x.rest
      slot_by (NotValid b write) x = ap (λ (y : Shadowed). y.slot) x.rest
      slot_by (Denied b write) x = ap (λ (y : Shadowed). y.slot) x.rest
      slot_by (Modify b) x = ap (λ (y : Shadowed). y.slot) x.rest
      slot_by (Emulate t) x = ap (λ (y : Shadowed). y.slot) x.rest
      slot_by (Refused r) x = ap (λ (y : Shadowed). y.slot) x.rest

      number_now : own_number s3 (page_of va) ≡ n
      number_now = ap (λ x. entry_number x (page_of va)) (slot_by e again ∙ slot_same va m m2 s s2 g frame k.keeps.fits k.serves a)

      whole_now : guest_of m2.memory g ≡ guest_of m.memory g
      whole_now = guest_same m m2 g (own_same m m2 s g k.keeps.fits k.serves a.only)

      claimed_now : (f : ℕ) → frame ≡ Some f → IsIn f (frames_claimed (guest_of m2.memory g))
      claimed_now f is = subst (λ h. IsIn f (frames_claimed h)) (sym whole_now) (subst (λ x. IsIn x (frames_claimed (guest_of m.memory g))) (sym (frame_told f a.told is ∙ u.frame)) claimed_frame)

      module _ (m4 : Machine) (s4 : Shadowed) where
        serves2 : Serves g s2
        serves2 = serves_again va m m2 s s2 g frame k.keeps.fits k.serves a

        closed_by : (x : Option ℕ) → frame ≡ x → (r : Exit) → IsTried r (opened_by x n opened) (standing m2 s2 g) m3 s3 → ClosesAfter n x (is_retired r) (m3, s3) (m4, s4) → IsTried r opened (standing m2 s2 g) m4 s4
        closed_by None is r x c = subst (λ y. IsTried r opened (standing m2 s2 g) y s4) (sym c.0) (subst (IsTried r opened (standing m2 s2 g) m3) (sym c.1) x)
        closed_by (Some f) is Budget x c = completed_closed n f opened m2 m3 m4 s2 s3 s4 g serves2 None (told_now f is) (claimed_now f is) x c
        closed_by (Some f) is (Arithmetic kind) x c = completed_closed n f opened m2 m3 m4 s2 s3 s4 g serves2 (Some kind) (told_now f is) (claimed_now f is) x c
        closed_by (Some f) is (NotValid b write) x c = unfinished_closed n f opened m2 m3 m4 s2 s3 s4 g serves2 (NotValid b write) x c
        closed_by (Some f) is (Denied b write) x c = unfinished_closed n f opened m2 m3 m4 s2 s3 s4 g serves2 (Denied b write) x c
        closed_by (Some f) is (Modify b) x c = unfinished_closed n f opened m2 m3 m4 s2 s3 s4 g serves2 (Modify b) x c
        closed_by (Some f) is (Emulate t) x c = unfinished_closed n f opened m2 m3 m4 s2 s3 s4 g serves2 (Emulate t) x c
        closed_by (Some f) is (Refused r) x c = unfinished_closed n f opened m2 m3 m4 s2 s3 s4 g serves2 (Refused r) x c

        pub tried_again : ClosesAfter (own_number s3 (page_of va)) frame (is_retired e) (m3, s3) (m4, s4) → IsTried e opened (standing m s g) m4 s4
        tried_again c = tried_from m s g m2 s2 (alike va m m2 s s2 g frame k.keeps.fits k.serves a) m4 s4 opened e (closed_by frame refl e again (subst (λ x. ClosesAfter x frame (is_retired e) (m3, s3) (m4, s4)) number_now c))

-- The machine's first try leaves it as it was.
module _ (opened : List ℕ) (m : Machine) (s : Shadowed) (g : GuestState) (k : RunsGuest opened m s g) (m1 : Machine) (first : Exit) (va : ℕ) (ran : (m1, first) ≡ real 1 m) (is : first ≡ Modify va) where
  here : m1 ≡ m
  here = (unwritten opened m s g k m1 first va ran is).0

  met : IsUnwritten va m.memory s g
  met = (unwritten opened m s g k m1 first va ran is).1

  touched : Reaches (Modify va) m.memory s g
  touched = (unwritten opened m s g k m1 first va ran is).2

  pub left_clear : is_clear (guest_of m1.memory g) va ≡ true → IsUnfinished opened m s g (Modify va) m1 s
  left_clear e =
      let clear : is_clear (guest_of m.memory g) va ≡ true = subst (λ (x : Machine). is_clear (guest_of x.memory g) va ≡ true) here e in
      subst (λ x. IsUnfinished opened m s g (Modify va) x s) (sym here) (stops opened m s g k (Modify va) (met.small, met.clear clear) touched)

  pub may_allow : is_clear (guest_of m1.memory g) va ≡ false → CanAllow va m1 s g
  may_allow e = subst (λ x. CanAllow va x s g) (sym here) (can_allow opened m s g va k met (subst (λ (x : Machine). is_clear (guest_of x.memory g) va ≡ false) here e))

  pub still_runs : RunsSome m1 s g
  still_runs = subst (λ x. RunsSome x s g) (sym here) (record { opened = opened; runs = k })

  pub as_clear : 2 * clear_bits m1.memory s < 2 * clear_bits m.memory s + 1
  as_clear = let same : clear_bits m1.memory s ≡ clear_bits m.memory s = ap (λ (x : Machine). clear_bits x.memory s) here in omega (arith, same)

  pub tried_there : (m2 : Machine) (s2 : Shadowed) (e : Exit) → ((o : List ℕ) → RunsGuest o m1 s g → IsTried e o (standing m1 s g) m2 s2) → IsTried e opened (standing m s g) m2 s2
  tried_there m2 s2 e ih = subst (λ x. IsTried e opened (standing x s g) m2 s2) here (ih opened (subst (λ x. RunsGuest opened x s g) (sym here) k))
