-- The pages that the guest's instruction touches, by the outcome of the machine's own.
use Rattle.std.proofs.Common.{◌≡◌, ℕ, ◌*◌, ◌%◌, ◌^◌, ◌<◌, inl, inr, Bool, true, not, List, [], ◌∷◌, map, Option, Some, None, is_some, Result, Ok, Err, refl, ap, ◌∙◌, sym, subst, arith}
use Rattle.std.specs.Prelude.{slice_index}
use Rattle.std.proofs.lemmas.Bool.{cond_both, false≢true}
use Rattle.vax_arch.specs.Fields.{frame_of, is_valid, protection_of}
use Rattle.vax_arch.specs.Protection.{may_of}
use Rattle.vax_arch.specs.Ring.{ring_of}
use Rattle.vax_arch.specs.Walk.{granted, is_past, page_of}
use Rattle.vax_arch.specs.declared.mode.Intent.{Intent}
use Rattle.vax_arch.specs.declared.mode.Mode.{Mode}
use Rattle.vax_arch.specs.declared.walk.Grant.{Grant}
use Rattle.vax_hw.specs.Machine.{Machine, is_real_bit_clear as machine_clear, machine_space}
use Rattle.vax_hw.specs.Real.{Retired, retired_by_try, exit_of, is_write, carried_out, machine_step, retired_by_probe, real_probe}
use Rattle.vax_hw.specs.RealTables.{byte_by, everywhere, place_by, place_in}
use Rattle.vax_hw.specs.declared.world.Exit.{Exit}
use Rattle.vax_hw.specs.declared.world.Exit.TheVariants.{Denied, NotValid}
use Rattle.vax_table.specs.Claims.{claims}
use Rattle.vax_table.specs.Effects.{long_of}
use Rattle.vax_table.specs.Interaction.{Absent, AsFar, At, Cause, Interaction, IsIn, Past, Refusing, Space, Test, Trouble, outcome}
use Rattle.vax_table.specs.Tries.{first_clear, tried_by, unless_clear}
use Rattle.vax_table.specs.Troubles.{intent_of}
use Rattle.vax_table.specs.Whole.{Act, Meant, Plain, Probes, Traps}
use Rattle.vax_table.specs.declared.evaluation.Operands.{Operands}
use Rattle.vax_table.proofs.Scripts.{outcome_far}
use Rattle.vm_shadow.specs.Laws.{real_place}
use Rattle.vm_shadow.specs.Layout.{IsCovered}
use Rattle.vm_shadow.specs.Shadowed.{Shadowed, read_at, real_at}
use Rattle.vm_shadow.specs.StandsFor.{own_number}
use Rattle.vm_shadow.specs.declared.source.Source.{Source}
use Rattle.vm_shadow.proofs.Changes.{kept_valid}
use Rattle.vm_shadow.proofs.Hearing.{number_is_small, real_by}
use Rattle.vm_shadow.proofs.Places.{split}
use Rattle.vm_shadow.proofs.RealWalks.{IsElsewhere, elsewhere}
use Rattle.vm_simulation_laws.specs.Laws.{Meets, place_here}
use Rattle.vm_simulation_laws.specs.Loaded.{RunsGuest}
use Rattle.vm_simulation_laws.proofs.Mapped.{mapped}
use Rattle.vm_simulation_laws.proofs.Meeting.{byte_ok, exits_meet, intent_again}
use Rattle.vm_simulation_laws.proofs.Narrow.{AreAlike, HasLow, narrow, outcome_low, outcome_narrow}
use Rattle.vm_simulation_laws.proofs.Spaces.{below, guest_byte, machine_byte, machine_instruction, own_mode, same_instruction, whole}
use Rattle.vm_state.specs.Partition.{partition_of}
use Rattle.vm_state.specs.Step.{Touched, instruction_of}
use Rattle.vm_state.specs.Translation.{space_of}
use Rattle.vm_state.specs.declared.guest_state.GuestState.{GuestState}
use Rattle.vm_simulation_laws.specs.Touched.{AreFilled, IsFilled, IsMiss, IsTouched, MissesAreTouched, NeedsNoPage, RetiredPagesAreFilled, StoppedPagesAreFilled, TouchesAreFilled, touches_now}
use Rattle.vm_simulation_laws.proofs.Given.{HasByte, StopsAt, StopsToo, given, given_alike, given_has, lacked, stopped_given, touched_is}

same_low : (va : ℕ) → va < 2 ^ 32 → va ≡ va % 2 ^ 32
same_low va h = omega arith

narrow_alike : (s : Space) → AreAlike s (narrow s)
narrow_alike s i va h = ap (s i) (same_low va h)

-- the pages of a list
page_in : (va : ℕ) (xs : List ℕ) → IsIn va xs → IsIn (page_of va) (map page_of xs)
page_in va [] h = absurd h
page_in va (x ∷ xs) (inl e) = inl (ap page_of e)
page_in va (x ∷ xs) (inr h) = inr (page_in va xs h)

pub each_page : (P : ℕ → Type 0) (xs : List ℕ) → ((x : ℕ) → IsIn x xs → P (page_of x)) → (page : ℕ) → IsIn page (map page_of xs) → P page
each_page P [] each page h = absurd h
each_page P (x ∷ xs) each page (inl e) = subst P (sym e) (each x (inl refl))
each_page P (x ∷ xs) each page (inr h) = each_page P xs (λ y j. each y (inr j)) page h

-- a valid entry isn't missed
abbrev IsThere : Result ℕ Cause → Type 0
IsThere r = r ≡ Err Absent → ⊥

valid_there : (size va entry : ℕ) (m : Mode) (i : Intent) → is_valid entry ≡ true → IsThere (place_by va (granted may_of size entry m i))
unfolding granted
valid_there size va entry m i v =
    let P : Grant → Type 0 = λ x. IsThere (place_by va x) in
    cond_both (not (may_of (protection_of entry) m i)) _ _ P (λ h e. cc) (λ h.
    cond_both (not (is_valid entry)) _ _ P (λ c. absurd (false≢true (ap not (sym v) ∙ c))) (λ c.
    cond_both (is_past size (512 * frame_of entry) 512) _ _ P (λ p e. cc) (λ p e. cc)))

byte_err : (memory : List ℕ) (r : Result ℕ Cause) (c : Cause) → byte_by memory r ≡ Err c → r ≡ Err c
byte_err memory (Ok p) c e = cc
byte_err memory (Err d) c e = let same : d ≡ c = cc in ap Err same

-- an instruction that is found isn't missed
no_probe_misses : (m : Machine) (opcode : ℕ) (i : Intent) (o : Operands) (b : Option Bool) (va : ℕ) (write : Bool) → retired_by_probe m opcode i o b ≡ Err (NotValid va write) → ⊥
no_probe_misses m opcode i o (Some b) va write e = cc
no_probe_misses m opcode i o None va write e = cc

no_act_misses : (m : Machine) (opcode : ℕ) (act : Act) (va : ℕ) (write : Bool) → carried_out m opcode act ≡ Err (NotValid va write) → ⊥
no_act_misses m opcode (Plain f) va write e = cc
no_act_misses m opcode (Traps t) va write e = cc
no_act_misses m opcode (Probes i o) va write e = no_probe_misses m opcode i o (real_probe m.memory m.world i (long_of o 0) (long_of o 1) (long_of o 2)) va write e

none_missed : (m : Machine) (a : Meant) (x : Option ℕ) (va : ℕ) (write : Bool) → retired_by_try m (unless_clear a x) ≡ Err (NotValid va write) → ⊥
none_missed m a None va write e = no_act_misses m a.opcode a.act va write e
none_missed m a (Some v) va write e = cc

-- a miss is of a byte that has none
missed_by : (m : Machine) (vas : List ℕ) (r : Result Meant Trouble) (va : ℕ) (write : Bool) → retired_by_try m (tried_by (machine_clear m) vas r) ≡ Err (NotValid va write) → r ≡ Err (At Absent (intent_of write) va)
missed_by m vas (Ok a) va write e = absurd (none_missed m a (first_clear (machine_clear m) vas) va write e)
missed_by m vas (Err (Test k)) va write e = cc
missed_by m vas (Err (At Refusing i v)) va write e = cc
missed_by m vas (Err (At Past i v)) va write e = cc
missed_by m vas (Err (At Absent i v)) va write e =
    let page : v ≡ va = cc in
    let way : is_write i ≡ write = cc in
    let same : i ≡ intent_of write = sym (intent_again i) ∙ ap intent_of way in
    λ j. Err (At Absent (same j) (page j))

-- with a place or without
touched_by_place : (t : Touched) (r : Result ℕ Cause) (page : ℕ) → ((pa : ℕ) → r ≡ Ok pa → IsIn page t.found) → ((c : Cause) → r ≡ Err c → t.lacking ≡ page ∷ []) → IsTouched page t
touched_by_place t (Ok pa) page found lacking = inl (found pa refl)
touched_by_place t (Err c) page found lacking = inr (subst (IsIn page) (sym (lacking c refl)) (inl refl))

module _ (opened : List ℕ) (m : Machine) (s : Shadowed) (g : GuestState) (k : RunsGuest opened m s g) where
  abbrev script : Interaction Meant
  script = instruction_of (whole opened m s g k).state

  abbrev real : Space
  real = narrow (machine_space m)

  abbrev own : Space
  own = narrow (space_of (whole opened m s g k))

  abbrev machine_outcome : Result Meant Trouble
  machine_outcome = outcome (machine_space m) (machine_instruction opened m s g k)

  real_outcome : machine_outcome ≡ outcome real script
  real_outcome = ap (outcome (machine_space m)) (same_instruction opened m s g k) ∙ outcome_narrow (machine_space m) script

  touches_are : touches_now (whole opened m s g k) ≡ record { found = map page_of (given own script); lacking = map page_of (lacked (outcome own script)) }
  touches_are =
      let h = whole opened m s g k in
      touched_is (space_of h) script ∙ (λ j. record { found = map page_of (given_alike (space_of h) (narrow (space_of h)) (narrow_alike (space_of h)) script j); lacking = map page_of (lacked (outcome_narrow (space_of h) script j)) })

  found_are : (touches_now (whole opened m s g k)).found ≡ map page_of (given own script)
  found_are = ap (λ t. t.found) touches_are

  lacking_are : (touches_now (whole opened m s g k)).lacking ≡ map page_of (lacked (outcome own script))
  lacking_are = ap (λ t. t.lacking) touches_are

  -- what the machine and the guest have at an address, by its place
  machine_gives : (i : Intent) (va : ℕ) → va < 2 ^ 32 → real i va ≡ byte_by m.memory (real_place m.memory s (own_mode opened m s g k) i va)
  machine_gives i va small = sym (ap (machine_space m i) (same_low va small)) ∙ machine_byte opened m s g k i va

  guest_gives : (i : Intent) (va : ℕ) → va < 2 ^ 32 → own i va ≡ byte_by (partition_of m.memory g) (place_here m.memory g i va)
  guest_gives i va small = sym (ap (space_of (whole opened m s g k) i) (same_low va small)) ∙ guest_byte opened m s g k i va

  guest_has : (i : Intent) (va pa : ℕ) → va < 2 ^ 32 → place_here m.memory g i va ≡ Ok pa → own i va ≡ Ok (slice_index (partition_of m.memory g) pa)
  guest_has i va pa small e = guest_gives i va small ∙ ap (byte_by (partition_of m.memory g)) e

  guest_lacks : (i : Intent) (va : ℕ) (c : Cause) → va < 2 ^ 32 → place_here m.memory g i va ≡ Err c → own i va ≡ Err c
  guest_lacks i va c small e = guest_gives i va small ∙ ap (byte_by (partition_of m.memory g)) e

  -- a byte of the machine lies in a page that is filled
  byte_filled : (va : ℕ) → HasByte real va → IsFilled s (page_of va)
  byte_filled va h =
      let mode = own_mode opened m s g k in
      let (p, place) = byte_ok m.memory (real_place m.memory s mode h.intent va) h.byte (sym (machine_gives h.intent va h.small) ∙ h.is) in
      let w = mapped opened m.memory s g k.keeps k.serves mode h.intent va h.small p place in
      ap is_some w.filled.read

  -- where nothing is to be filled
  all_filled : StopsToo own (outcome real script) → AreFilled s (touches_now (whole opened m s g k)).found
  all_filled stops page h = each_page (IsFilled s) (given own script) (λ x j. byte_filled x (given_has real own (below opened m s g k) script stops x j)) page (subst (IsIn page) found_are h)

  -- a page that is missed isn't filled
  unfilled : (i : Intent) (va : ℕ) → real_place m.memory s (own_mode opened m s g k) i va ≡ Err Absent → IsCovered (page_of va) → (x : Option Source) → read_at s (own_number s (page_of va)) ≡ x → x ≡ None
  unfilled i va miss c None is = refl
  unfilled i va miss c (Some source) is =
      let n = own_number s (page_of va) in
      let valid : is_valid (real_at m.memory s n) ≡ true = kept_valid _ _ _ [] _ _ (read_at s n) (k.keeps.entries n (number_is_small opened m.memory s g k.keeps k.serves va c)) (ap is_some is) in
      absurd (valid_there everywhere va (real_at m.memory s n) (ring_of (own_mode opened m s g k)) i valid (sym (real_by opened m.memory s g k.keeps k.serves (own_mode opened m s g k) i va c) ∙ miss))

  not_elsewhere : (i : Intent) (va : ℕ) → real_place m.memory s (own_mode opened m s g k) i va ≡ Err Absent → IsElsewhere m.memory s (page_of va) → ⊥
  unfolding place_in
  not_elsewhere i va miss e = let refuses = e.refuses (own_mode opened m s g k) i va in cc

  empty : (i : Intent) (va : ℕ) → real_place m.memory s (own_mode opened m s g k) i va ≡ Err Absent → read_at s (own_number s (page_of va)) ≡ None
  empty i va miss = split (elsewhere m.memory s (page_of va) k.keeps.fits)
      (λ c. unfilled i va miss c (read_at s (own_number s (page_of va))) refl)
      (λ e. absurd (not_elsewhere i va miss e))

  -- a page that was missed
  missed_as : (i : Intent) (va : ℕ) → machine_outcome ≡ Err (At Absent i va) → IsMiss i va m.memory s g
  missed_as i va e =
      let small : va < 2 ^ 32 = subst HasLow e (outcome_low (machine_space m) (machine_instruction opened m s g k)) in
      let stopped : outcome real script ≡ Err (At Absent i va) = sym real_outcome ∙ e in
      let far : (real i va ≡ Err Absent) × ((d : Cause) → own i va ≡ Err d → outcome own script ≡ Err (At d i va)) = subst (λ r. AsFar real own r (outcome own script)) stopped (outcome_far real own (below opened m s g k) script) in
      let found : (pa : ℕ) → place_here m.memory g i va ≡ Ok pa → IsIn (page_of va) (touches_now (whole opened m s g k)).found =
      λ pa h. subst (IsIn (page_of va)) (sym found_are) (page_in va (given own script) (stopped_given real own (below opened m s g k) script i va (slice_index (partition_of m.memory g) pa) Absent (guest_has i va pa small h) stopped)) in
      let lacking : (c : Cause) → place_here m.memory g i va ≡ Err c → (touches_now (whole opened m s g k)).lacking ≡ page_of va ∷ [] =
      λ c h. lacking_are ∙ ap (λ r. map page_of (lacked r)) (far.1 c (guest_lacks i va c small h)) in
      record {
        empty = empty i va (byte_err m.memory (real_place m.memory s (own_mode opened m s g k) i va) Absent (sym (machine_gives i va small) ∙ far.0));
        touched = touched_by_place (touches_now (whole opened m s g k)) (place_here m.memory g i va) (page_of va) found lacking;
        found = found;
        lacking = lacking;
      }

  -- after an instruction that retired
  served_as : (vas : List ℕ) (x : Retired) (r : Result Meant Trouble) → machine_outcome ≡ r → retired_by_try m (tried_by (machine_clear m) vas r) ≡ Ok x → TouchesAreFilled m.memory s g
  served_as vas x (Ok a) is e =
      let done : outcome real script ≡ Ok a = sym real_outcome ∙ is in
      let far : outcome own script ≡ Ok a = subst (λ r. AsFar real own r (outcome own script)) done (outcome_far real own (below opened m s g k) script) in
      record {
        found = all_filled (subst (StopsToo own) (sym done) tt);
        lacking = lacking_are ∙ ap (λ r. map page_of (lacked r)) far;
      }
  served_as vas x (Err t) is e = cc

  -- what stopped the machine stops the guest, where no page is to be filled
  stops_absent : (i : Intent) (va : ℕ) → va < 2 ^ 32 → NeedsNoPage (NotValid va (is_write i)) m.memory g → StopsAt own (At Absent i va)
  stops_absent i va small none = (none.0, guest_lacks i va none.0 small (subst (λ j. place_here m.memory g j va ≡ Err none.0) (intent_again i) none.1))

  stops_denied : (c : Cause) (i : Intent) (va : ℕ) → va < 2 ^ 32 → Meets (Denied va (is_write i)) m.memory s g → StopsAt own (At c i va)
  stops_denied c i va small none = (none.cause, guest_lacks i va none.cause small (subst (λ j. place_here m.memory g j va ≡ Err none.cause) (intent_again i) none.none))

  stops_at : (c : Cause) (i : Intent) (va : ℕ) → va < 2 ^ 32 → (e : Exit) → exit_of (At c i va) ≡ e → Meets e m.memory s g → NeedsNoPage e m.memory g → StopsAt own (At c i va)
  stops_at Absent i va small e is met needs = stops_absent i va small (subst (λ x. NeedsNoPage x m.memory g) (sym is) needs)
  stops_at Refusing i va small e is met needs = stops_denied Refusing i va small (subst (λ x. Meets x m.memory s g) (sym is) met)
  stops_at Past i va small e is met needs = stops_denied Past i va small (subst (λ x. Meets x m.memory s g) (sym is) met)

  stops_as : (vas : List ℕ) (e : Exit) (r : Result Meant Trouble) → machine_outcome ≡ r → retired_by_try m (tried_by (machine_clear m) vas r) ≡ Err e → Meets e m.memory s g → NeedsNoPage e m.memory g → StopsToo own r
  stops_as vas e (Ok a) is h met needs = tt
  stops_as vas e (Err (Test t)) is h met needs = tt
  stops_as vas e (Err (At c i va)) is h met needs =
      let same : exit_of (At c i va) ≡ e = cc in
      stops_at c i va (subst HasLow is (outcome_low (machine_space m) (machine_instruction opened m s g k))) e same met needs

  stopped_as : (vas : List ℕ) (e : Exit) → retired_by_try m (tried_by (machine_clear m) vas machine_outcome) ≡ Err e → Meets e m.memory s g → NeedsNoPage e m.memory g → AreFilled s (touches_now (whole opened m s g k)).found
  stopped_as vas e h met needs = all_filled (subst (StopsToo own) real_outcome (stops_as vas e machine_outcome refl h met needs))

  abbrev claimed : List ℕ
  claimed = claims (machine_space m) (machine_instruction opened m s g k)

pub misses_touched : MissesAreTouched
unfolding machine_step
misses_touched opened m s g va write k e = missed_as opened m s g k (intent_of write) va (missed_by m (claimed opened m s g k) (machine_outcome opened m s g k) va write e)

pub retired_filled : RetiredPagesAreFilled
unfolding machine_step
retired_filled opened m s g x k e = served_as opened m s g k (claimed opened m s g k) x (machine_outcome opened m s g k) refl e

pub stopped_filled : StoppedPagesAreFilled
unfolding machine_step
stopped_filled opened m s g e k h needs = stopped_as opened m s g k (claimed opened m s g k) e h (exits_meet opened m s g e k h) needs
