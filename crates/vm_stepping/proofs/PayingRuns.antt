-- The first touches that count the misses of a run of the machine, with what is done after it.
use Rattle.std.proofs.Common.{◌≡◌, ℕ, zero, suc, ◌+◌, ◌-◌, ◌%◌, ◌^◌, ◌≤◌, Bool, true, false, List, [], Some, refl, ap, ◌∙◌, sym, subst, arith}
use Rattle.vax_hw.specs.Machine.{Machine}
use Rattle.vax_hw.specs.declared.world.Exit.{Exit}
use Rattle.vax_hw.specs.declared.world.Exit.TheVariants.{Arithmetic, Budget, Denied, Emulate, Modify, NotValid, Refused}
use Rattle.vm_stepping.specs.Ran.{IsRun}
use Rattle.vm_stepping.specs.declared.bursts.Ran.{Ran}
use Rattle.vm_exception.specs.Made.{MakesStep}
use Rattle.vm_simulation_laws.specs.Moves.{Moves}
use Rattle.vm_simulation_laws.specs.Paid.{Owes, touching_counted}
use Rattle.vm_simulation_laws.specs.Present.{HasPresent, after_touches, to_miss}
use Rattle.vm_simulation_laws.specs.Runs.{EndsAt, StopsBefore}
use Rattle.vm_simulation_laws.proofs.Fitting.{steps_keep}
use Rattle.vm_simulation_laws.proofs.Own.{none_dropped}
use Rattle.vm_simulation_laws.proofs.Paying.{touches_follow}
use Rattle.vm_shadow.specs.Shadowed.{Shadowed}
use Rattle.vm_simulation_laws.specs.Bursts.{EndsBurst, after_counted, goes_on, missed_by, with_plain_steps, with_trap}
use Rattle.vm_simulation_laws.specs.Laws.{frames_claimed}
use Rattle.vm_state.specs.Initiate.{Initiation, KernelStackBad, StopsGuest, Taken, initiate}
use Rattle.vm_state.specs.Partition.{guest_of}
use Rattle.vm_state.specs.Run.{Run, after_step, after_steps, no_steps}
use Rattle.vm_state.specs.State.{Guest, state_of}
use Rattle.vm_state.specs.Step as steps
use Rattle.vm_state.specs.Step.{Idle, Kind, Stepped, executed, initiated_in, trapped_in}
use Rattle.vm_state.specs.Touches.{Touching, touching_step, touching_steps}
use Rattle.vm_state.specs.declared.exception.Exc.TheVariants as excs
use Rattle.vm_state.specs.declared.guest_state.GuestState.{GuestState}
use Rattle.vm_stepping.specs.Advances.{StepsOrRefills}
use Rattle.vm_stepping.specs.Pays.{OwesStill, PaysFor, PaysOn, Settles}
use Rattle.vm_stepping.specs.declared.counts.Counts.{Counts}
use Rattle.vm_stepping.specs.declared.turns.Left.{Left}
use Rattle.vm_stepping.proofs.PayingAlone.{misses_then, trap_moves}
use Rattle.vm_stepping.proofs.Running.{IsBefore, before_goes, counted_left, is_before, plain_left}
use Rattle.vm_simulation_laws.specs.Touched.{touches_now}
use Rattle.vm_exception.specs.Standing.{standing}
use Rattle.vm_stepping.specs.Made.{underway}

-- first touches in two parts
counted_touches : (all n : ℕ) (run : Run) (h : Guest) (t : Touching) → run.guest ≡ h → 1 ≤ n → n ≤ all → touching_counted all h t ≡ touching_steps (all - n) (after_counted n run).guest (touching_counted n h t)
counted_touches all zero run h t own some most = absurd (omega arith)
counted_touches all (suc a) run h t own some most =
    let is : all ≡ suc (a + (all - suc a)) = omega (arith, most) in
    let u : Touching = touching_step h (executed h) t in
    ap (λ n. touching_counted n h t) is
    ∙ subst (λ k. touching_steps (a + (all - suc a)) (executed h).guest u ≡ touching_steps (all - suc a) (after_steps a (after_step run (executed k))).guest (touching_steps a (executed h).guest u)) (sym own)
    (touches_follow a (all - suc a) (after_step run (executed h)) u)

one_counted : (n : ℕ) (h : Guest) (t : Touching) → 1 ≤ n → touching_counted n h t ≡ touching_steps (n - 1) (executed h).guest (touching_step h (executed h) t)
one_counted zero h t some = absurd (omega arith)
one_counted (suc n) h t some = let is : n ≡ suc n - 1 = omega arith in ap (λ k. touching_steps k (executed h).guest (touching_step h (executed h) t)) is

ends_before : (e : Exit) (left least : ℕ) (all : Touching) (s : Shadowed) (h : Guest) → IsBefore e → EndsAt e left least all s h → StopsBefore left least all s h
ends_before Budget left least all s h b k = absurd b
ends_before (Arithmetic kind) left least all s h b k = absurd b
ends_before (NotValid va write) left least all s h b k = k
ends_before (Denied va write) left least all s h b k = k
ends_before (Modify va) left least all s h b k = k
ends_before (Emulate t) left least all s h b k = k
ends_before (Refused r) left least all s h b k = k

some_left : (e : Exit) (done left : ℕ) (memory : List ℕ) (s : Shadowed) (g : GuestState) → IsBefore e → EndsBurst e done left memory s g → 1 ≤ left
some_left Budget done left memory s g b k = absurd b
some_left (Arithmetic kind) done left memory s g b k = absurd b
some_left (NotValid va write) done left memory s g b k = k.0
some_left (Denied va write) done left memory s g b k = k.0
some_left (Modify va) done left memory s g b k = k.0
some_left (Emulate t) done left memory s g b k = k.0
some_left (Refused r) done left memory s g b k = k.0

module _ (all n : ℕ) (m : Machine) (s : Shadowed) (g : GuestState) (ran : Ran) (m1 : Machine) (g1 : GuestState) (some : 1 ≤ n) (most : n ≤ all) (k : IsRun n m s g ran m1 g1) where
  abbrev h : Guest
  h = guest_of m.memory g

  abbrev h1 : Guest
  h1 = guest_of m1.memory g1

  abbrev run0 : Run
  run0 = record { guest = h; shown = []; tally = no_steps }

  abbrev run1 : Run
  run1 = with_plain_steps run0 h1 ran.done ran.terms

  all_touches : (t : Touching) → touching_counted all h t ≡ touching_steps (all - n) (goes_on ran.exit k.left run1).guest (touching_counted n h t)
  all_touches t = counted_touches all n run0 h t refl some most ∙ ap (λ (r : Run). touching_steps (all - n) r.guest (touching_counted n h t)) (k.steps run0 refl (omega arith))

  -- the budget is used
  pub budget_on : ran.exit ≡ Budget → PaysOn (counted_left all) (plain_left (all - ran.done)) m s g m1 s g1
  budget_on is =
      let used = subst (λ e. EndsBurst e ran.done k.left m1.memory s g1) is k.ends in
      let none : missed_by ran.exit ≡ 0 = ap missed_by is in
      let rest : all - n ≡ all - ran.done = omega (arith, used.0, k.budget) in
      record {
        missed = missed_by ran.exit;
        misses = k.misses;
        goes_on = λ owed t o.
            let e = subst (λ x. EndsAt x k.left (t.count + owed) (touching_counted n h t) s h1) is (k.touches owed t o) in
            let least : t.count + owed ≤ (touching_counted n h t).count = e.count in
            record {
              at = touching_counted n h t;
              still = 0;
              owes = (e.has, refl);
              counts = omega (arith, least, none);
              is = all_touches t ∙ ap (λ x. touching_steps (all - n) (goes_on x k.left run1).guest (touching_counted n h t)) is ∙ ap (λ j. touching_steps j h1 (touching_counted n h t)) rest;
            };
      }

  -- it ended before an instruction
  module _ (before : IsBefore ran.exit) where
    stops : (owed : ℕ) (t : Touching) → Owes owed (touches_now h) s t → StopsBefore k.left (t.count + owed) (touching_counted n h t) s h1
    stops owed t o = ends_before ran.exit k.left (t.count + owed) (touching_counted n h t) s h1 before (k.touches owed t o)

    left_some : 1 ≤ k.left
    left_some = some_left ran.exit ran.done k.left m1.memory s g1 before k.ends

    one_is : 1 ≤ all - ran.done
    one_is = omega (arith, left_some, k.budget, most)

    stop_touches : (t u : Touching) → touching_counted n h t ≡ touching_counted k.left h1 u → touching_counted all h t ≡ touching_counted (all - ran.done) h1 u
    stop_touches t u is =
        let rest : all - n ≡ all - ran.done - k.left = omega (arith, k.budget, most) in
        let within : k.left ≤ all - ran.done = omega (arith, k.budget, most) in
        all_touches t ∙ ap (λ (r : Run). touching_steps (all - n) r.guest (touching_counted n h t)) (before_goes ran.exit k.left run1 before)
        ∙ ap (touching_steps (all - n) (after_counted k.left run1).guest) is ∙ ap (λ j. touching_steps j (after_counted k.left run1).guest (touching_counted k.left h1 u)) rest
        ∙ sym (counted_touches (all - ran.done) k.left run1 h1 u refl left_some within)

    module _ (m2 : Machine) (s2 : Shadowed) (g2 : GuestState) where
      step_on : Settles (missed_by ran.exit) m1 s g1 m2 s2 → (executed h1).guest ≡ guest_of m2.memory g2 → PaysOn (counted_left all) (plain_left (all - ran.done - 1)) m s g m2 s2 g2
      step_on x guest = record {
        missed = missed_by ran.exit + x.more;
        misses = misses_then (missed_by ran.exit) x.more m.misses m1.misses m2.misses k.misses x.misses;
        goes_on = λ owed t o.
            let w = stops owed t o in
            let u : Touching = touching_step h1 (executed h1) w.at in
            let y = x.settles w.comes.owed w.at w.comes.owes in
            let least : t.count + owed ≤ w.at.count + w.comes.owed = w.comes.count in
            let paid : w.at.count + w.comes.owed + (missed_by ran.exit + x.more) ≤ u.count = y.counts in
            record {
              at = u;
              still = 0;
              owes = (y.has, refl);
              counts = omega (arith, least, paid);
              is = stop_touches t w.at w.is ∙ one_counted (all - ran.done) h1 w.at one_is ∙ ap (λ (z : Guest). touching_steps (all - ran.done - 1) z u) guest;
            };
      }

      fills_on : OwesStill (missed_by ran.exit) m1 s g1 m2 s2 → guest_of m2.memory g2 ≡ h1 → PaysOn (counted_left all) (counted_left (all - ran.done)) m s g m2 s2 g2
      fills_on x guest = record {
        missed = missed_by ran.exit + x.more;
        misses = misses_then (missed_by ran.exit) x.more m.misses m1.misses m2.misses k.misses x.misses;
        goes_on = λ owed t o.
            let w = stops owed t o in
            let least : t.count + owed ≤ w.at.count + w.comes.owed = w.comes.count in
            record {
              at = w.at;
              still = w.comes.owed + (missed_by ran.exit + x.more);
              owes = subst (λ (z : Guest). Owes (w.comes.owed + (missed_by ran.exit + x.more)) (touches_now z) s2 w.at) (sym guest) (x.owes w.comes.owed w.at w.comes.owes);
              counts = omega (arith, least);
              is = stop_touches t w.at w.is ∙ ap (λ (z : Guest). touching_counted (all - ran.done) z w.at) (sym guest);
            };
      }

-- an initiation leaves the same guest in a step of any kind
same_guest : (a b : Kind) (h : Guest) (i : Initiation) → (initiated_in a h i).guest ≡ (initiated_in b h i).guest
same_guest a b h (Taken g written) = refl
same_guest a b h (KernelStackBad g written) = refl
same_guest a b h (StopsGuest stop) = refl

-- it retired with a trap
module _ (all n : ℕ) (m : Machine) (s : Shadowed) (g : GuestState) (ran : Ran) (m1 : Machine) (g1 : GuestState) (some : 1 ≤ n) (most : n ≤ all) (k : IsRun n m s g ran m1 g1) (kind : ℕ) (is : ran.exit ≡ Arithmetic kind) (m2 : Machine) (s2 : Shadowed) (g2 : GuestState)
    (makes : (j : Kind) → MakesStep (initiated_in j (guest_of m1.memory g1) (initiate (guest_of m1.memory g1) (excs.Arithmetic kind))) m1 s g1 m2 s2 g2) where
  abbrev start : Guest
  start = guest_of m.memory g

  abbrev stop : Guest
  stop = guest_of m1.memory g1

  abbrev trap_in : Kind → Stepped
  trap_in j = initiated_in j stop (initiate stop (excs.Arithmetic kind))

  abbrev later : Run
  later = with_trap kind (run1 all n m s g ran m1 g1 some most k)

  pub trap_on : PaysOn (counted_left all) (plain_left (all - ran.done)) m s g m2 s2 g2
  trap_on = record {
    missed = missed_by ran.exit;
    misses = ap (λ (x : Machine). x.misses % 2 ^ 64) (makes Idle).only.rest ∙ k.misses;
    goes_on = λ owed t o.
        let w = subst (λ x. EndsAt x k.left (t.count + owed) (touching_counted n start t) s stop) is (k.touches owed t o) in
        let before : Guest = guest_of w.memory w.before in
        let x : Stepped = record (trapped_in (steps.Plain w.term) (frames_claimed before) stop (Some kind)) { touched = touches_now before } in
        let u : Touching = touching_step before (executed before) w.at in
        let moves : Moves x.written x.guest.state.tables s s2 = trap_moves (frames_claimed before) s s (trap_in (steps.Plain w.term)) m1 g1 m2 s2 g2 (none_dropped (frames_claimed before) s) (makes (steps.Plain w.term)) in
        let within : w.at.count + w.comes.owed + to_miss s (touches_now before) ≤ (after_touches (touches_now before) w.at).count = w.comes.owes.within in
        let counted : (touching_step before x w.at).count ≡ u.count = ap (λ (y : Stepped). (touching_step before y w.at).count) (sym w.step) in
        let least : t.count + owed ≤ w.at.count + w.comes.owed = w.comes.count in
        let none : missed_by ran.exit ≡ 0 = ap missed_by is in
        let rest : all - ran.done ≡ k.left + (all - n) = omega (arith, k.budget, most) in
        let now : (executed before).guest ≡ later.guest = ap (λ (y : Stepped). y.guest) w.step ∙ same_guest (steps.Plain w.term) Idle stop (initiate stop (excs.Arithmetic kind)) in
        record {
          at = u;
          still = 0;
          owes = (subst (λ (y : Stepped). HasPresent s2 (touching_step before y w.at).present) (sym w.step) (steps_keep w.memory s w.before x w.at s2 w.keeps w.serves w.found moves w.comes.owes.has), refl);
          counts = omega (arith, within, counted, least, none);
          is = all_touches all n m s g ran m1 g1 some most k t ∙ ap (λ e. touching_steps (all - n) (goes_on e k.left (run1 all n m s g ran m1 g1 some most k)).guest (touching_counted n start t)) is
              ∙ ap (touching_steps (all - n) (after_steps k.left later).guest) (w.is ∙ ap (λ (z : Guest). touching_steps k.left z u) now)
              ∙ sym (touches_follow k.left (all - n) later u) ∙ ap (λ j. touching_steps j later.guest u) (sym rest) ∙ ap (λ (z : Guest). touching_steps (all - ran.done) z u) (sym (makes Idle).guest);
        };
  }

-- what the code has after the run
module _ (all n : ℕ) (m : Machine) (s : Shadowed) (g : GuestState) (ran : Ran) (m1 : Machine) (g1 : GuestState) (some : 1 ≤ n) (most : n ≤ all) (k : IsRun n m s g ran m1 g1) (left : Left) where
  pub pays_budget : ran.exit ≡ Budget → left ≡ plain_left (all - ran.done) → PaysOn (counted_left all) left m s g m1 s g1
  pays_budget is e = subst (λ x. PaysOn (counted_left all) x m s g m1 s g1) (sym e) (budget_on all n m s g ran m1 g1 some most k is)

  module _ (m2 : Machine) (s2 : Shadowed) (g2 : GuestState) where
    pub pays_trap : (kind : ℕ) → ran.exit ≡ Arithmetic kind → left ≡ plain_left (all - ran.done) → ((j : Kind) → MakesStep (initiated_in j (guest_of m1.memory g1) (initiate (guest_of m1.memory g1) (excs.Arithmetic kind))) m1 s g1 m2 s2 g2) → PaysOn (counted_left all) left m s g m2 s2 g2
    pays_trap kind is e makes = subst (λ x. PaysOn (counted_left all) x m s g m2 s2 g2) (sym e) (trap_on all n m s g ran m1 g1 some most k kind is m2 s2 g2 makes)

    module _ {Port : Type 0} (may : Port → List ℕ → Type 0) (port port' : Port) (c1 c2 : Counts) (not_budget : ran.exit ≡ Budget → ⊥) (not_arithmetic : (kind : ℕ) → ran.exit ≡ Arithmetic kind → ⊥) (b : Bool) (done : StepsOrRefills may b (underway port m1 s g1 c1) (underway port' m2 s2 g2 c2)) (pays : PaysFor b (missed_by ran.exit) (standing m1 s g1) m2 s2) where
      pub pays_step : b ≡ true → left ≡ plain_left (all - ran.done - 1) → PaysOn (counted_left all) left m s g m2 s2 g2
      pays_step is e =
          let x = subst (λ y. StepsOrRefills may y (underway port m1 s g1 c1) (underway port' m2 s2 g2 c2)) is done in
          subst (λ y. PaysOn (counted_left all) y m s g m2 s2 g2) (sym e)
          (step_on all n m s g ran m1 g1 some most k (is_before ran.exit not_budget not_arithmetic) m2 s2 g2 (subst (λ y. PaysFor y (missed_by ran.exit) (standing m1 s g1) m2 s2) is pays) (ap (λ (r : Run). r.guest) (x.run [])))

      pub pays_fills : b ≡ false → left ≡ counted_left (all - ran.done) → PaysOn (counted_left all) left m s g m2 s2 g2
      pays_fills is e =
          let x = (subst (λ y. StepsOrRefills may y (underway port m1 s g1 c1) (underway port' m2 s2 g2 c2)) is done).0 in
          let guest : guest_of m2.memory g2 ≡ guest_of m1.memory g1 = ap (guest_of m2.memory) x.guest ∙ (λ i. record { memory = x.own i; state = state_of g1 }) in
          subst (λ y. PaysOn (counted_left all) y m s g m2 s2 g2) (sym e)
          (fills_on all n m s g ran m1 g1 some most k (is_before ran.exit not_budget not_arithmetic) m2 s2 g2 (subst (λ y. PaysFor y (missed_by ran.exit) (standing m1 s g1) m2 s2) is pays) guest)
