-- What an exit of the machine says of the guest's own try.
use Rattle.std.proofs.Common.{◌≡◌, ℕ, ◌*◌, ◌%◌, ◌^◌, ◌<◌, ◌⊎◌, ◌&&◌, inl, inr, Bool, true, false, List, [], ◌∷◌, Option, Some, None, is_some, Result, Ok, Err, refl, ap, ◌∙◌, sym, subst, arith, if◌then◌else◌}
use Rattle.std.proofs.lemmas.Bool.{not-true}
use Rattle.vax_arch.specs.Fields.{current_of, is_modified}
use Rattle.vax_arch.specs.declared.mode.Intent.{Intent}
use Rattle.vax_arch.specs.declared.mode.Intent.TheVariants as intents
use Rattle.vax_hw.specs.Machine.{Machine, is_real_bit_clear as machine_clear, machine_space}
use Rattle.vax_hw.specs.Real.{retired_by_try, is_write, carried_out, machine_step, retired_by_probe, real_probe}
use Rattle.std.proofs.lemmas.Option.{none-some}
use Rattle.vax_arch.specs.Ring.{ring_of}
use Rattle.vax_arch.specs.declared.mode.Mode.{Mode}
use Rattle.vax_table.specs.Effects.{long_of}
use Rattle.vax_table.specs.Probing.{last_of, probe_mode}
use Rattle.vm_shadow.specs.Layout.{real_tables}
use Rattle.vm_shadow.specs.StandsFor.{IsPresent}
use Rattle.vm_shadow.specs.declared.source.Source.{Source}
use Rattle.vax_hw.specs.RealTables.{both_judged, byte_by as byte_at, access_judged}
use Rattle.vax_hw.specs.declared.world.Exit.{Exit}
use Rattle.vax_hw.specs.declared.world.Exit.TheVariants.{Denied, Emulate, Modify, NotValid, Refused}
use Rattle.vax_table.specs.Claims.{claims}
use Rattle.vax_table.specs.Interaction.{Absent, At, Cause, IsIn, Past, Refusing, Test, Trouble, outcome}
use Rattle.vax_table.specs.Tries.{Clear, Completes, Stopped, Tried, TriedFar, first_clear, tried_by, unless_clear}
use Rattle.vax_table.specs.Troubles.{intent_of}
use Rattle.vax_table.specs.Whole.{Act, Meant, Plain, Probes, Traps, meant, probe_of, trap_of}
use Rattle.vax_table.specs.declared.evaluation.Operands.{Operands}
use Rattle.vax_table.proofs.Claims.{claims_same}
use Rattle.vm_shadow.specs.Laws.{HasNone, real_place, relocated}
use Rattle.vm_shadow.specs.Shadowed.{Shadowed, read_at, real_at}
use Rattle.vm_shadow.specs.StandsFor.{own_number}
use Rattle.vax_arch.specs.Walk.{page_of}
use Rattle.vm_shadow.proofs.Hearing.{clear_by, heard, missing, probes_filled_entries}
use Rattle.vm_shadow.proofs.Places.{split}
use Rattle.vm_simulation_laws.specs.Laws.{ExitsMeetTheGuest, IsDenied, IsMissed, IsUnwritten, Meets, place_here}
use Rattle.vm_simulation_laws.specs.Loaded.{RunsGuest, guest_try}
use Rattle.vax_table.proofs.Answered.{claims_answered}
use Rattle.vm_simulation_laws.proofs.Mapped.{mapped, may_be_marked}
use Rattle.vm_simulation_laws.proofs.Narrow.{HasLow, claims_low, claims_narrow, narrow, narrowly, outcome_low, outcome_narrow}
use Rattle.vm_simulation_laws.proofs.Spaces.{below, far, last_low, ring_of_asked, guest_byte, machine_bit, machine_byte, machine_instruction, machine_try, same_instruction}
use Rattle.vm_state.specs.Partition.{guest_of, partition_of}
use Rattle.vm_state.specs.State.{state_of}
use Rattle.vm_state.specs.Step.{instruction_of}
use Rattle.vm_state.specs.Translation.{is_clear, space_of}
use Rattle.vm_state.specs.declared.guest_state.GuestState.{GuestState}

byte_err : (memory : List ℕ) (r : Result ℕ Cause) (c : Cause) → byte_at memory r ≡ Err c → r ≡ Err c
byte_err memory (Ok p) c e = cc
byte_err memory (Err d) c e = let same : d ≡ c = cc in ap Err same

pub byte_ok : (memory : List ℕ) (r : Result ℕ Cause) (b : ℕ) → byte_at memory r ≡ Ok b → (p : ℕ) × (r ≡ Ok p)
byte_ok memory (Ok p) b e = (p, refl)
byte_ok memory (Err d) b e = cc

moved_err : (by : ℕ) (r : Result ℕ Cause) (c : Cause) → relocated by r ≡ Err c → r ≡ Err c
moved_err by (Ok p) c e = cc
moved_err by (Err d) c e = let same : d ≡ c = cc in ap Err same

same_err : (r : Result ℕ Cause) (a b : Cause) → r ≡ Err a → r ≡ Err b → a ≡ b
same_err r a b p q = cc

has_cause : (r : Result ℕ Cause) → HasNone r → (c : Cause) × (r ≡ Err c)
has_cause (Ok p) h = absurd h
has_cause (Err c) h = (c, refl)

same_low : (va : ℕ) → va < 2 ^ 32 → va ≡ va % 2 ^ 32
same_low va h = omega arith

pub intent_again : (i : Intent) → intent_of (is_write i) ≡ i
intent_again intents.Read = refl
intent_again intents.Write = refl

-- a clear bit was found among what was claimed
clear_here : (x va : ℕ) (xs : List ℕ) (t : Bool) (rest : Option ℕ) → (rest ≡ Some va → IsIn va xs) → (if t then Some x else rest) ≡ Some va → IsIn va (x ∷ xs)
clear_here x va xs true rest more h = let same : x ≡ va = cc in inl (sym same)
clear_here x va xs false rest more h = inr (more h)

clear_in : (c : ℕ → Bool) (vas : List ℕ) (va : ℕ) → first_clear c vas ≡ Some va → IsIn va vas
clear_in c [] va e = cc
clear_in c (x ∷ xs) va e = clear_here x va xs (c x) (first_clear c xs) (λ h. clear_in c xs va h) e

unless_none : {A : Type 0} (a : A) (x : Option ℕ) (va : ℕ) → unless_clear a x ≡ Clear va → x ≡ Some va
unless_none a None va e = cc
unless_none a (Some x) va e = let same : x ≡ va = cc in ap Some same

-- a try that stopped at a clear bit
met_clear : {A : Type 0} (c : ℕ → Bool) (vas : List ℕ) (r : Result A Trouble) (va : ℕ) → tried_by c vas r ≡ Clear va → ((a : A) × (r ≡ Ok a)) × (first_clear c vas ≡ Some va)
met_clear c vas (Ok a) va e = ((a, refl), unless_none a (first_clear c vas) va e)
met_clear c vas (Err t) va e = cc

both_there : (x y : Option Bool) → is_some x ≡ true → is_some y ≡ true → both_judged x y ≡ None → ⊥
both_there (Some a) (Some b) p q e = none-some (a && b) (sym e)
both_there (Some a) None p q e = cc
both_there None y p q e = cc

-- a try that stopped at trouble
met_trouble : {A : Type 0} (c : ℕ → Bool) (vas : List ℕ) (r : Result A Trouble) (t : Trouble) → tried_by c vas r ≡ Stopped t → r ≡ Err t
met_trouble c vas (Ok a) t e = no_trouble (first_clear c vas) e
  where
    no_trouble : (x : Option ℕ) → unless_clear a x ≡ Stopped t → Ok a ≡ Err t
    no_trouble None h = cc
    no_trouble (Some va) h = cc
met_trouble c vas (Err u) t e = let same : u ≡ t = cc in ap Err same

module _ (opened : List ℕ) (m : Machine) (s : Shadowed) (g : GuestState) (k : RunsGuest opened m s g) where
  abbrev try_is : Tried Meant → Type 0
  try_is t = machine_try opened m s g k ≡ t

  abbrev here : Intent → ℕ → Result ℕ Cause
  here i va = real_place m.memory s (current_of g.psl.0) i va

  trouble_small : (c : Cause) (i : Intent) (va : ℕ) → try_is (Stopped (At c i va)) → va < 2 ^ 32
  trouble_small c i va e =
      let x = machine_instruction opened m s g k in
      subst HasLow (met_trouble (machine_clear m) (claims (machine_space m) x) (outcome (machine_space m) x) (At c i va) e) (outcome_low (machine_space m) x)

  -- where the machine has no byte
  silent : (c : Cause) (i : Intent) (va : ℕ) → va < 2 ^ 32 → narrow (machine_space m) i va ≡ Err c → here i va ≡ Err c
  silent c i va small e = byte_err m.memory (here i va) c (sym (machine_byte opened m s g k i va) ∙ ap (machine_space m i) (same_low va small) ∙ e)

  guest_silent : (c : Cause) (i : Intent) (va : ℕ) → va < 2 ^ 32 → place_here m.memory g i va ≡ Err c → narrow (space_of (guest_of m.memory g)) i va ≡ Err c
  guest_silent c i va small e = sym (ap (space_of (guest_of m.memory g) i) (same_low va small)) ∙ guest_byte opened m s g k i va ∙ ap (byte_at (partition_of m.memory g)) e

  missed : (i : Intent) (va : ℕ) → try_is (Stopped (At Absent i va)) → IsMissed i va m.memory s g
  missed i va e =
      let small = trouble_small Absent i va e in
      let t = subst (λ x. TriedFar (narrow (machine_space m)) (narrow (space_of (guest_of m.memory g))) (narrowly (machine_clear m)) (narrowly (is_clear (guest_of m.memory g))) x (guest_try (guest_of m.memory g))) e (far opened m s g k) in
      record {
        small = small;
        fault = λ c h. t.1 c (guest_silent c i va small h);
        empty = λ pa h. missing opened m.memory s g k.keeps k.serves (current_of g.psl.0) i va pa small (silent Absent i va small t.0) h;
      }

  none_there : (c : Cause) (i : Intent) (va : ℕ) → va < 2 ^ 32 → (Absent ≡ c → ⊥) → here i va ≡ Err c → (d : Cause) × (place_here m.memory g i va ≡ Err d)
  none_there c i va small n e = split (heard opened m.memory s g k.keeps k.serves (current_of g.psl.0) i va small)
      (λ h. (c, moved_err (512 * s.base) (place_here m.memory g i va) c (sym h ∙ e)))
      (λ x. split x (λ h. absurd (n (same_err (here i va) Absent c h e))) (λ h. has_cause (place_here m.memory g i va) h.1))

  denied : (c : Cause) (i : Intent) (va : ℕ) → (Absent ≡ c → ⊥) → try_is (Stopped (At c i va)) → IsDenied i va m.memory g
  denied c i va n e =
      let small = trouble_small c i va e in
      let t = subst (λ x. TriedFar (narrow (machine_space m)) (narrow (space_of (guest_of m.memory g))) (narrowly (machine_clear m)) (narrowly (is_clear (guest_of m.memory g))) x (guest_try (guest_of m.memory g))) e (far opened m s g k) in
      let d = none_there c i va small n (silent c i va small t.0) in
      record { small = small; cause = d.0; none = d.1; try = t.1 d.0 (guest_silent d.0 i va small d.1) }

  -- where the machine's instruction completes, the guest's claims the same
  guest_claims : (va : ℕ) (a : Meant) → outcome (machine_space m) (machine_instruction opened m s g k) ≡ Ok a → IsIn va (claims (machine_space m) (machine_instruction opened m s g k)) → IsIn va (claims (space_of (guest_of m.memory g)) (instruction_of (state_of g)))
  guest_claims va a ok h =
      let x = machine_instruction opened m s g k in
      let real = machine_space m in
      let own = space_of (guest_of m.memory g) in
      let same : claims real x ≡ claims own x = claims_narrow real x ∙ sym (claims_same (narrow real) (narrow own) (below opened m s g k) x a (sym (outcome_narrow real x) ∙ ok)) ∙ sym (claims_narrow own x) in
      subst (λ y. IsIn va (claims own y)) (same_instruction opened m s g k) (subst (IsIn va) same h)

  -- a clear modify bit
  unwritten : (va : ℕ) → try_is (Clear va) → IsUnwritten va m.memory s g
  unwritten va e =
      let x = machine_instruction opened m s g k in
      let c = met_clear (machine_clear m) (claims (machine_space m) x) (outcome (machine_space m) x) va e in
      let claimed = clear_in (machine_clear m) (claims (machine_space m) x) va c.1 in
      let small = claims_low (machine_space m) x va claimed in
      let (b, has) = claims_answered (machine_space m) x c.0.0 c.0.1 va claimed in
      let (place, is) = byte_ok m.memory (here intents.Write va) b (sym (machine_byte opened m s g k intents.Write va) ∙ has) in
      let w = mapped opened m.memory s g k.keeps k.serves (current_of g.psl.0) intents.Write va small place is in
      let t = subst (λ y. TriedFar (narrow (machine_space m)) (narrow (space_of (guest_of m.memory g))) (narrowly (machine_clear m)) (narrowly (is_clear (guest_of m.memory g))) y (guest_try (guest_of m.memory g))) e (far opened m s g k) in
      record {
        small = small;
        covered = w.covered;
        home = w.own;
        place = w.has;
        frame = w.frame;
        bit = not-true (is_modified (real_at m.memory s (own_number s (page_of va)))) (sym (clear_by opened m.memory s g k.keeps k.serves va w.covered) ∙ sym (machine_bit opened m s g k va) ∙ ap (machine_clear m) (same_low va small) ∙ t.0);
        claimed = guest_claims va c.0.0 c.0.1 claimed;
        clear = λ h. t.1 (ap (is_clear (guest_of m.memory g)) (sym (same_low va small)) ∙ h);
        set = λ h. may_be_marked m.memory s g va opened k.keeps k.serves small w.covered w.filled w.valid h;
      }

  -- a page that is filled is judged
  unfilled_by : (i : Intent) (mode : Mode) (first last : ℕ) → first < 2 ^ 32 → last < 2 ^ 32 → both_judged (access_judged m.memory (real_tables s.at s.slot) (ring_of mode) i first) (access_judged m.memory (real_tables s.at s.slot) (ring_of mode) i last) ≡ None → IsPresent (guest_of m.memory g) (page_of first) → IsPresent (guest_of m.memory g) (page_of last) → (x y : Option Source) → read_at s (own_number s (page_of first)) ≡ x → read_at s (own_number s (page_of last)) ≡ y → (x ≡ None) ⊎ (y ≡ None)
  unfilled_by i mode first last small low none p q None y e f = inl refl
  unfilled_by i mode first last small low none p q (Some a) None e f = inr refl
  unfilled_by i mode first last small low none p q (Some a) (Some b) e f =
      let machine_step = probes_filled_entries opened m.memory s g mode i first k.keeps k.serves small (ap is_some e) p in
      let two = probes_filled_entries opened m.memory s g mode i last k.keeps k.serves low (ap is_some f) q in
      absurd (both_there _ _ machine_step two none)

  probe_met : (opcode : ℕ) (i : Intent) (o : Operands) (e : Exit) (j : Option Bool) → real_probe m.memory m.world i (long_of o 0) (long_of o 1) (long_of o 2) ≡ j → guest_try (guest_of m.memory g) ≡ Completes (meant opcode (Probes i o)) → retired_by_probe m opcode i o j ≡ Err e → Meets e m.memory s g
  probe_met opcode i o e None is t h =
      let same : Emulate (trap_of (probe_of i) o) ≡ e = cc in
      let first = long_of o 2 in
      let last = last_of first (long_of o 1 % 2 ^ 16) in
      let mode = probe_mode g.psl.0 (long_of o 0) in
      let ring : probe_mode m.world.psl.0 (long_of o 0) ≡ ring_of mode = ring_of_asked opened m s g k (long_of o 0) in
      let none : both_judged (access_judged m.memory (real_tables s.at s.slot) (ring_of mode) i first) (access_judged m.memory (real_tables s.at s.slot) (ring_of mode) i last) ≡ None =
      sym (λ z. both_judged (access_judged m.memory (k.loads.tables z) (ring z) i first) (access_judged m.memory (k.loads.tables z) (ring z) i last)) ∙ is in
      subst (λ x. Meets x m.memory s g) same (record {
        opcode = opcode;
        act = Probes i o;
        is = refl;
        try = t;
        unfilled = λ p q. unfilled_by i mode first last (omega arith) (last_low first (long_of o 1 % 2 ^ 16) (omega arith)) none p q (read_at s (own_number s (page_of first))) (read_at s (own_number s (page_of last))) refl refl;
      })
  probe_met opcode i o e (Some b) is t h = cc

  act_met : (opcode : ℕ) (act : Act) (e : Exit) → guest_try (guest_of m.memory g) ≡ Completes (meant opcode act) → carried_out m opcode act ≡ Err e → Meets e m.memory s g
  act_met opcode (Plain f) e t h = cc
  act_met opcode (Traps u) e t h = let same : Emulate u ≡ e = cc in subst (λ x. Meets x m.memory s g) same (record { opcode = opcode; act = Traps u; is = refl; try = t; unfilled = tt })
  act_met opcode (Probes i o) e t h = probe_met opcode i o e _ refl t h

  same_exit : (x e : Exit) → Meets x m.memory s g → x ≡ e → Meets e m.memory s g
  same_exit x e h q = subst (λ y. Meets y m.memory s g) q h

  met_by : (t : Tried Meant) (e : Exit) → try_is t → retired_by_try m t ≡ Err e → Meets e m.memory s g
  met_by (Completes x) e is h =
      let t = subst (λ y. TriedFar (narrow (machine_space m)) (narrow (space_of (guest_of m.memory g))) (narrowly (machine_clear m)) (narrowly (is_clear (guest_of m.memory g))) y (guest_try (guest_of m.memory g))) is (far opened m s g k) in
      act_met x.opcode x.act e t h
  met_by (Clear va) e is h = let same : Modify va ≡ e = cc in same_exit (Modify va) e (unwritten va is) same
  met_by (Stopped (Test r)) e is h =
      let t = subst (λ y. TriedFar (narrow (machine_space m)) (narrow (space_of (guest_of m.memory g))) (narrowly (machine_clear m)) (narrowly (is_clear (guest_of m.memory g))) y (guest_try (guest_of m.memory g))) is (far opened m s g k) in
      let same : Refused r ≡ e = cc in same_exit (Refused r) e t same
  met_by (Stopped (At Absent i va)) e is h =
      let same : NotValid va (is_write i) ≡ e = cc in
      same_exit (NotValid va (is_write i)) e (subst (λ j. IsMissed j va m.memory s g) (sym (intent_again i)) (missed i va is)) same
  met_by (Stopped (At Refusing i va)) e is h =
      let same : Denied va (is_write i) ≡ e = cc in
      same_exit (Denied va (is_write i)) e (subst (λ j. IsDenied j va m.memory g) (sym (intent_again i)) (denied Refusing i va (λ q. cc) is)) same
  met_by (Stopped (At Past i va)) e is h =
      let same : Denied va (is_write i) ≡ e = cc in
      same_exit (Denied va (is_write i)) e (subst (λ j. IsDenied j va m.memory g) (sym (intent_again i)) (denied Past i va (λ q. cc) is)) same

pub exits_meet : ExitsMeetTheGuest
unfolding machine_step
exits_meet opened m s g e k h = met_by opened m s g k (machine_try opened m s g k) e refl h
