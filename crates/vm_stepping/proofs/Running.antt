-- A run of the machine, and what it ended with or before, as steps of a counted guest.
use Rattle.std.proofs.Common.{◌≡◌, ℕ, ◌+◌, ◌-◌, ◌*◌, ◌/◌, ◌%◌, ◌^◌, ◌<◌, ◌≤◌, ◌⊎◌, Bool, true, false, List, [], ◌++◌, append-nil, None, refl, ap, ◌∙◌, sym, subst, arith}
use Rattle.vax_hw.specs.Machine.{Machine}
use Rattle.vax_hw.specs.declared.world.Exit.{Exit}
use Rattle.vax_hw.specs.declared.world.Exit.TheVariants.{Arithmetic, Budget, Denied, Emulate, Modify, NotValid, Refused}
use Rattle.vm_stepping.specs.Ran.{IsRun}
use Rattle.vm_stepping.specs.declared.bursts.Ran.{Ran}
use Rattle.vm_clock.specs.Ticks.{after_ticks}
use Rattle.vm_console.specs.Appends.{Appends}
use Rattle.vm_console.proofs.Composes.{Appends-nil}
use Rattle.vm_exception.specs.Made.{MakesStep}
use Rattle.vm_shadow.specs.Shadowed.{Shadowed}
use Rattle.vm_shadow.specs.StandsFor.{StandsFor}
use Rattle.vm_simulation_laws.specs.Bursts.{EndsBurst, IsQuiet, after_counted, counted_by, goes_on, with_count, with_trap}
use Rattle.vm_simulation_laws.specs.Laws.{Meets}
use Rattle.vm_simulation_laws.specs.Loaded.{as_run}
use Rattle.vm_simulation_laws.proofs.Bursting.{due_same}
use Rattle.vm_state.specs.Initiate.{initiate}
use Rattle.vm_state.specs.Interrupts.{due}
use Rattle.vm_state.specs.Partition.{guest_of}
use Rattle.vm_state.specs.Run.{Run, after_steps}
use Rattle.vm_state.specs.State.{state_of}
use Rattle.vm_state.specs.Step.{Idle, Stepped, initiated_in}
use Rattle.vm_state.specs.declared.exception.Exc.TheVariants as excs
use Rattle.vm_state.specs.declared.guest_state.GuestState.{GuestState}
use Rattle.vm_stepping.specs.Advances.{Proceeds, Steps, StepsOrRefills, to_do}
use Rattle.vm_stepping.specs.Made.{CountsRetired, KeepsRefinement, Refills, run_of, tally_of, underway}
use Rattle.vm_stepping.specs.declared.counts.Counts.{Counts}
use Rattle.vm_stepping.specs.declared.turns.Left.{Left}
use Rattle.vm_stepping.proofs.Going.{counted_sum, few_unfilled, goes_then, retired_then, steps_sum}
use Rattle.vm_stepping.proofs.Making.{makes_goes, same_counts}
use Rattle.vm_stepping.proofs.Meeting.{more_plain}

abbrev pub counted_left : ℕ → Left
counted_left n = record { steps = n; counted = true }

abbrev pub plain_left : ℕ → Left
plain_left n = record { steps = n; counted = false }

pub not_counted : false ≡ true → ⊥
not_counted e = cc

-- before an instruction, and not with one that retired
abbrev pub IsBefore : Exit → Type 0
IsBefore Budget = ⊥
IsBefore (Arithmetic kind) = ⊥
IsBefore e = Unit {0}

pub is_before : (e : Exit) → (e ≡ Budget → ⊥) → ((kind : ℕ) → e ≡ Arithmetic kind → ⊥) → IsBefore e
is_before Budget b a = b refl
is_before (Arithmetic kind) b a = a kind refl
is_before (NotValid va write) b a = tt
is_before (Denied va write) b a = tt
is_before (Modify va) b a = tt
is_before (Emulate t) b a = tt
is_before (Refused r) b a = tt

pub before_goes : (e : Exit) (left : ℕ) (run : Run) → IsBefore e → goes_on e left run ≡ after_counted left run
before_goes Budget left run k = absurd k
before_goes (Arithmetic kind) left run k = absurd k
before_goes (NotValid va write) left run k = refl
before_goes (Denied va write) left run k = refl
before_goes (Modify va) left run k = refl
before_goes (Emulate t) left run k = refl
before_goes (Refused r) left run k = refl

pub before_ends : (e : Exit) (done left : ℕ) (memory : List ℕ) (s : Shadowed) (g : GuestState) → IsBefore e → EndsBurst e done left memory s g → (1 ≤ left) × Meets e memory s g
before_ends Budget done left memory s g k ends = absurd k
before_ends (Arithmetic kind) done left memory s g k ends = absurd k
before_ends (NotValid va write) done left memory s g k ends = ends
before_ends (Denied va write) done left memory s g k ends = ends
before_ends (Modify va) done left memory s g k ends = ends
before_ends (Emulate t) done left memory s g k ends = ends
before_ends (Refused r) done left memory s g k ends = ends

before_counts : (e : Exit) (done : ℕ) → IsBefore e → counted_by e done ≡ done
before_counts Budget done k = absurd k
before_counts (Arithmetic kind) done k = absurd k
before_counts (NotValid va write) done k = refl
before_counts (Denied va write) done k = refl
before_counts (Modify va) done k = refl
before_counts (Emulate t) done k = refl
before_counts (Refused r) done k = refl

module _ (all n : ℕ) (m : Machine) (s : Shadowed) (g : GuestState) (c : Counts) (ran : Ran) (m1 : Machine) (g1 : GuestState) (stands : StandsFor m.memory s g) (some : 1 ≤ n) (most : n ≤ all) (small : c.trail < 2 ^ 64) (k : IsRun n m s g ran m1 g1) where
  abbrev c1 : Counts
  c1 = more_plain c ran.done ran.terms

  -- all steps, by the run's
  all_run : (shown : List ℕ) → after_counted all (run_of m.memory g c shown) ≡ after_steps (all - n) (goes_on ran.exit k.left (run_of m1.memory g1 c1 shown))
  all_run shown =
      let is : all ≡ n + (all - n) = omega (arith, most) in
      ap (λ x. after_counted x (run_of m.memory g c shown)) is ∙ counted_sum n (all - n) (run_of m.memory g c shown) some ∙ ap (after_steps (all - n)) (k.steps (run_of m.memory g c shown) refl small)

  run_goes : KeepsRefinement m s g m1 s g1
  run_goes = record {
    stands = k.stands;
    only = record { size = k.only.size; other = λ p own tables. k.only.other p (subst (λ x. (p < 512 * x) ⊎ (512 * (x + g.pages) ≤ p)) stands.serves.base (subst (λ x. (p < 512 * s.base) ⊎ (512 * (s.base + x) ≤ p)) stands.serves.pages own)) };
    place = record { pages = ap (λ (x : GuestState). x.pages) k.is; base = ap (λ (x : GuestState). x.base) k.is; start = ap (λ (x : GuestState). x.start) k.is };
    tables = refl;
  }

  run_retired : CountsRetired m c m1 c1
  run_retired = let e = k.retired in let f = k.trail in record { retired = omega (arith, e); trail = omega (arith, f) }

  -- the budget is used
  module _ (is : ran.exit ≡ Budget) where
    used : (k.left ≡ 0) × (1 ≤ ran.done)
    used = subst (λ e. EndsBurst e ran.done k.left m1.memory s g1) is k.ends

    pub ends_budget : {Port : Type 0} (may : Port → List ℕ → Type 0) (port : Port) → Proceeds may (counted_left all) (plain_left (all - ran.done)) (underway port m s g c) (underway port m1 s g1 c1)
    ends_budget may port =
        let none = used.0 in
        let whole = k.budget in
        let rest : all - n ≡ all - ran.done = omega (arith, none, whole) in
        record {
          text = [];
          run = λ shown. all_run shown ∙ ap (λ e. after_steps (all - n) (goes_on e k.left (run_of m1.memory g1 c1 shown))) is ∙ ap (λ x. after_steps x (run_of m1.memory g1 c1 shown)) rest ∙ ap (λ x. after_steps (all - ran.done) (run_of m1.memory g1 c1 x)) (sym (append-nil shown));
          shows = Appends-nil may port;
          goes = run_goes;
          kinds = omega (arith, whole, none, most);
          fewer = omega arith;
          retired = run_retired;
          begun = λ same. absurd (not_counted same);
        }

  -- it retired with a trap
  module _ (kind : ℕ) (is : ran.exit ≡ Arithmetic kind) (m2 : Machine) (s2 : Shadowed) (g2 : GuestState) where
    abbrev trap : Stepped
    trap = initiated_in Idle (guest_of m1.memory g1) (initiate (guest_of m1.memory g1) (excs.Arithmetic kind))

    one_done : 1 ≤ ran.done
    one_done = subst (λ e. EndsBurst e ran.done k.left m1.memory s g1) is k.ends

    pub ends_trap : {Port : Type 0} (may : Port → List ℕ → Type 0) (port port' : Port) → MakesStep trap m1 s g1 m2 s2 g2 → Appends may port port' trap.shown → Proceeds may (counted_left all) (plain_left (all - ran.done)) (underway port m s g c) (underway port' m2 s2 g2 c1)
    ends_trap may port port' makes shows =
        let whole = k.budget in
        let rest : k.left + (all - n) ≡ all - ran.done = omega (arith, whole, most) in
        record {
          text = trap.shown;
          run = λ shown.
              all_run shown ∙ ap (λ e. after_steps (all - n) (goes_on e k.left (run_of m1.memory g1 c1 shown))) is
              ∙ sym (steps_sum k.left (all - n) (with_trap kind (run_of m1.memory g1 c1 shown)))
              ∙ ap (λ x. after_steps x (with_trap kind (run_of m1.memory g1 c1 shown))) rest
              ∙ ap (after_steps (all - ran.done)) (λ i. record { guest = sym makes.guest i; shown = shown ++ trap.shown; tally = tally_of c1 });
          shows = shows;
          goes = goes_then m s g m1 s g1 m2 s2 g2 stands run_goes (makes_goes trap m1 s g1 m2 s2 g2 makes);
          kinds = omega (arith, whole, most);
          fewer = omega arith;
          retired = retired_then m c m1 c1 m2 c1 run_retired (same_counts m1 m2 c1 c1 makes.only.rest refl refl);
          begun = λ same. absurd (not_counted same);
        }

    pub trap_falls : to_do (plain_left (all - ran.done)) s2 < to_do (counted_left all) s
    trap_falls = let few = few_unfilled s2 in let some_done = one_done in let whole = k.budget in omega (arith, few, some_done, whole, most)

  -- it ended before an instruction
  module _ (before : IsBefore ran.exit) where
    met : (1 ≤ k.left) × Meets ran.exit m1.memory s g1
    met = before_ends ran.exit ran.done k.left m1.memory s g1 before k.ends

    pub meets : Meets ran.exit m1.memory s g1
    meets = met.1

    pub one_left : 1 ≤ all - ran.done
    one_left = let some_left = met.0 in let whole = k.budget in omega (arith, some_left, whole, most)

    before_run : (shown : List ℕ) → after_counted all (run_of m.memory g c shown) ≡ after_counted (all - ran.done) (run_of m1.memory g1 c1 shown)
    before_run shown =
        let whole = k.budget in
        let rest : k.left + (all - n) ≡ all - ran.done = omega (arith, whole, most) in
        all_run shown ∙ ap (after_steps (all - n)) (before_goes ran.exit k.left (run_of m1.memory g1 c1 shown) before)
        ∙ sym (counted_sum k.left (all - n) (run_of m1.memory g1 c1 shown) met.0) ∙ ap (λ x. after_counted x (run_of m1.memory g1 c1 shown)) rest

    module _ {Port : Type 0} (may : Port → List ℕ → Type 0) (port port' : Port) (m2 : Machine) (s2 : Shadowed) (g2 : GuestState) (c2 : Counts) where
      pub met_steps : Steps may (underway port m1 s g1 c1) (underway port' m2 s2 g2 c2) → Proceeds may (counted_left all) (plain_left (all - ran.done - 1)) (underway port m s g c) (underway port' m2 s2 g2 c2)
      met_steps x =
          let whole = k.budget in
          let some_left = met.0 in
          let one = x.one in
          let rest : all - ran.done ≡ 1 + (all - ran.done - 1) = omega (arith, some_left, whole, most) in
          record {
            text = x.text;
            run = λ shown.
                before_run shown ∙ ap (λ y. after_counted y (run_of m1.memory g1 c1 shown)) rest ∙ counted_sum 1 (all - ran.done - 1) (run_of m1.memory g1 c1 shown) (omega arith)
                ∙ ap (after_steps (all - ran.done - 1)) (x.run shown);
            shows = x.shows;
            goes = goes_then m s g m1 s g1 m2 s2 g2 stands run_goes x.goes;
            kinds = omega (arith, whole, most, some_left, one);
            fewer = omega arith;
            retired = retired_then m c m1 c1 m2 c2 run_retired x.retired;
            begun = λ same. absurd (not_counted same);
          }

      pub met_falls : Steps may (underway port m1 s g1 c1) (underway port' m2 s2 g2 c2) → to_do (plain_left (all - ran.done - 1)) s2 < to_do (counted_left all) s
      met_falls x = let few = few_unfilled s2 in let some_left = met.0 in let whole = k.budget in omega (arith, few, some_left, whole, most)

    -- with pages filled for it
    still_quiet : IsQuiet n (state_of g) → IsQuiet 1 (state_of g1)
    unfolding after_ticks
    still_quiet q =
        let d = ran.done in
        let is : g1 ≡ with_count d (as_run m1.world g) = k.is ∙ ap (λ x. with_count x (as_run m1.world g)) (before_counts ran.exit d before) in
        let whole = k.budget in
        let some_left = met.0 in
        let high : (as_run m1.world g).psl.0 / 2 ^ 8 ≡ g.psl.0 / 2 ^ 8 = ap (λ (x : GuestState). x.psl.0 / 2 ^ 8) (sym is) ∙ k.high in
        let none : due (state_of (with_count d (as_run m1.world g))) ≡ None = due_same (record (state_of g) { clock = after_ticks d g.clock }) m1.world.r (as_run m1.world g).psl.0 ((g.steps + d) % 2 ^ 32) high ∙ q.none d (omega (arith, whole, some_left)) in
        record {
          runs = ap (λ (x : GuestState). x.halt) is ∙ q.runs;
          waits = ap (λ (x : GuestState). x.waiting) is ∙ q.waits;
          none = λ j h. let zero_is : j ≡ 0 = omega (arith, h) in subst (λ x. due (record (state_of g1) { clock = after_ticks x g1.clock }) ≡ None) (sym zero_is) (ap (λ (x : GuestState). due (state_of x)) is ∙ none);
        }

    module _ {Port : Type 0} (may : Port → List ℕ → Type 0) (port port' : Port) (m2 : Machine) (s2 : Shadowed) where
      pub met_refills : IsQuiet n (state_of g) → Refills m1 s g1 m2 s2 g1 → Appends may port port' [] → Proceeds may (counted_left all) (counted_left (all - ran.done)) (underway port m s g c) (underway port' m2 s2 g1 c1)
      met_refills q x nothing =
          let whole = k.budget in
          record {
            text = [];
            run = λ shown. before_run shown ∙ ap (after_counted (all - ran.done)) (λ i. record { guest = record { memory = sym x.own i; state = state_of g1 }; shown = sym (append-nil shown) i; tally = tally_of c1 });
            shows = nothing;
            goes = goes_then m s g m1 s g1 m2 s2 g1 stands run_goes (record { stands = x.stands; only = x.only; place = record { pages = refl; base = refl; start = refl }; tables = x.tables });
            kinds = omega (arith, whole, most);
            fewer = omega arith;
            retired = retired_then m c m1 c1 m2 c1 run_retired (record { retired = (λ i. (ap (λ (y : Machine). y.retired) x.machine i + c1.plain) % 2 ^ 64); trail = (λ i. (ap (λ (y : Machine). y.trail) x.machine i + c1.trail) % 2 ^ 64) });
            begun = λ same. (one_left, still_quiet q);
          }

      pub refills_falls : Refills m1 s g1 m2 s2 g1 → to_do (counted_left (all - ran.done)) s2 < to_do (counted_left all) s
      refills_falls x = let fewer = x.fewer in omega (arith, fewer)

-- what the code has after the run
module _ (all n : ℕ) (m : Machine) (s : Shadowed) (g : GuestState) (c c1 : Counts) (ran : Ran) (m1 : Machine) (g1 : GuestState) (stands : StandsFor m.memory s g) (some : 1 ≤ n) (most : n ≤ all) (small : c.trail < 2 ^ 64) (k : IsRun n m s g ran m1 g1) (same : c1 ≡ more_plain c ran.done ran.terms) (left : Left) {Port : Type 0} (may : Port → List ℕ → Type 0) (port port' : Port) where
  pub with_budget : ran.exit ≡ Budget → left ≡ plain_left (all - ran.done) → Proceeds may (counted_left all) left (underway port m s g c) (underway port m1 s g1 c1)
  with_budget is e = subst (λ x. Proceeds may (counted_left all) x (underway port m s g c) (underway port m1 s g1 c1)) (sym e) (subst (λ x. Proceeds may (counted_left all) (plain_left (all - ran.done)) (underway port m s g c) (underway port m1 s g1 x)) (sym same) (ends_budget all n m s g c ran m1 g1 stands some most small k is may port))

  module _ (m2 : Machine) (s2 : Shadowed) (g2 : GuestState) where
    pub with_trap_after : (kind : ℕ) → ran.exit ≡ Arithmetic kind → left ≡ plain_left (all - ran.done) →
        let trap = initiated_in Idle (guest_of m1.memory g1) (initiate (guest_of m1.memory g1) (excs.Arithmetic kind)) in
        MakesStep trap m1 s g1 m2 s2 g2 → Appends may port port' trap.shown → Proceeds may (counted_left all) left (underway port m s g c) (underway port' m2 s2 g2 c1)
    with_trap_after kind is e makes shows = subst (λ x. Proceeds may (counted_left all) x (underway port m s g c) (underway port' m2 s2 g2 c1)) (sym e) (subst (λ x. Proceeds may (counted_left all) (plain_left (all - ran.done)) (underway port m s g c) (underway port' m2 s2 g2 x)) (sym same) (ends_trap all n m s g c ran m1 g1 stands some most small k kind is m2 s2 g2 may port port' makes shows))

    pub trap_falls_so : (kind : ℕ) → ran.exit ≡ Arithmetic kind → left ≡ plain_left (all - ran.done) → to_do left s2 < to_do (counted_left all) s
    trap_falls_so kind is e = subst (λ x. to_do x s2 < to_do (counted_left all) s) (sym e) (trap_falls all n m s g c ran m1 g1 stands some most small k kind is m2 s2 g2)

    -- it ended before an instruction
    module _ (c2 : Counts) (not_budget : ran.exit ≡ Budget → ⊥) (not_arithmetic : (kind : ℕ) → ran.exit ≡ Arithmetic kind → ⊥) where
      abbrev before : IsBefore ran.exit
      before = is_before ran.exit not_budget not_arithmetic

      pub stops_before : Meets ran.exit m1.memory s g1
      stops_before = meets all n m s g c ran m1 g1 stands some most small k before

      pub one_is_left : 1 ≤ all - ran.done
      one_is_left = one_left all n m s g c ran m1 g1 stands some most small k before

      pub with_step : (b : Bool) → b ≡ true → left ≡ plain_left (all - ran.done - 1) → StepsOrRefills may b (underway port m1 s g1 c1) (underway port' m2 s2 g2 c2) → Proceeds may (counted_left all) left (underway port m s g c) (underway port' m2 s2 g2 c2) × (to_do left s2 < to_do (counted_left all) s)
      with_step b is e done =
          let x = subst (λ y. Steps may (underway port m1 s g1 y) (underway port' m2 s2 g2 c2)) same (subst (λ y. StepsOrRefills may y (underway port m1 s g1 c1) (underway port' m2 s2 g2 c2)) is done) in
          subst (λ y. Proceeds may (counted_left all) y (underway port m s g c) (underway port' m2 s2 g2 c2) × (to_do y s2 < to_do (counted_left all) s)) (sym e)
          (met_steps all n m s g c ran m1 g1 stands some most small k before may port port' m2 s2 g2 c2 x, met_falls all n m s g c ran m1 g1 stands some most small k before may port port' m2 s2 g2 c2 x)

      pub with_fills : (b : Bool) → b ≡ false → left ≡ counted_left (all - ran.done) → IsQuiet n (state_of g) → StepsOrRefills may b (underway port m1 s g1 c1) (underway port' m2 s2 g2 c2) → Proceeds may (counted_left all) left (underway port m s g c) (underway port' m2 s2 g2 c2) × (to_do left s2 < to_do (counted_left all) s)
      with_fills b is e q done =
          let x = subst (λ y. StepsOrRefills may y (underway port m1 s g1 c1) (underway port' m2 s2 g2 c2)) is done in
          let r : Refills m1 s g1 m2 s2 g2 = x.0 in
          let own : g2 ≡ g1 = r.guest in
          let refills = subst (λ y. Refills m1 s g1 m2 s2 y) own r in
          subst (λ y. Proceeds may (counted_left all) y (underway port m s g c) (underway port' m2 s2 g2 c2) × (to_do y s2 < to_do (counted_left all) s)) (sym e) (
            subst (λ y. Proceeds may (counted_left all) (counted_left (all - ran.done)) (underway port m s g c) (underway port' m2 s2 y c2)) (sym own)
                (subst (λ y. Proceeds may (counted_left all) (counted_left (all - ran.done)) (underway port m s g c) (underway port' m2 s2 g1 y)) (sym (x.1 ∙ same))
                (met_refills all n m s g c ran m1 g1 stands some most small k before may port port' m2 s2 q refills x.2)),
            refills_falls all n m s g c ran m1 g1 stands some most small k before may port port' m2 s2 refills,
          )
