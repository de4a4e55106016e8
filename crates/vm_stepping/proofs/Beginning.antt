-- The next step of a guest, up to its instruction.
use Rattle.std.proofs.Common.{◌≡◌, ℕ, zero, suc, ◌+◌, ◌-◌, ◌*◌, ◌%◌, ◌^◌, ◌<◌, ◌≤◌, Bool, true, false, ◌&&◌, List, [], ◌++◌, append-nil, Option, Some, None, refl, ap, ◌∙◌, sym, subst, arith}
use Rattle.std.specs.Prelude.{IsTrue, find, is_some, nat_lt}
use Rattle.vax_arch.specs.Fields.{ipl_of}
use Rattle.vax_hw.specs.Machine.{Machine}
use Rattle.vm_clock.specs.Clock.{ClockState}
use Rattle.vm_clock.specs.Ticks.{after_ticks, ticks_to_wrap}
use Rattle.vm_clock.proofs.Counting.{after_ticks-count, after_ticks-stopped}
use Rattle.vm_console.proofs.Composes.{Appends-nil}
use Rattle.vm_shadow.specs.Shadowed.{Shadowed}
use Rattle.vm_shadow.specs.StandsFor.{StandsFor}
use Rattle.vm_simulation_laws.specs.Bursts.{IsQuiet, after_counted}
use Rattle.vm_state.specs.Allowed.{AreAllowed}
use Rattle.vm_state.specs.Interrupts.{IntervalClock, Kcall, Receiver, Software, Source, Transmitter, due, source_row, sources}
use Rattle.vm_state.specs.Partition.{guest_of, part, partition_of}
use Rattle.vm_state.specs.Run.{Run, after_step, after_steps}
use Rattle.vm_state.specs.State.{Guest, HasPlace, State, state_of}
use Rattle.vm_state.specs.Step as steps
use Rattle.vm_state.specs.Step.{Stepped, counted, step, stepped}
use Rattle.vm_state.specs.declared.guest_state.GuestState.{GuestState}
use Rattle.vm_state.proofs.StepCases.{by_interrupt, step_by, unless_waiting}
use Rattle.vm_stepping.specs.Advances.{Proceeds, to_do}
use Rattle.vm_stepping.specs.Made.{CountsRetired, KeepsRefinement, Made, run_of, tally_of, underway}
use Rattle.vm_stepping.specs.declared.counts.Counts.{Counts}
use Rattle.vm_stepping.specs.declared.turns.Left.{Left}
use Rattle.vm_stepping.proofs.Going.{few_unfilled, goes_then}
use Rattle.vm_stepping.proofs.Running.{counted_left, not_counted, plain_left}
use Rattle.vm_exception.specs.Made.{interrupted_by}

-- Ticks before the clock's next wrap request nothing.
requests_later : (s : State) (n : ℕ) (source : Source) → (source_row source).requests (record s { clock = record s.clock { icr = n } }) ≡ (source_row source).requests s
requests_later s n IntervalClock = refl
requests_later s n Kcall = refl
requests_later s n Receiver = refl
requests_later s n Transmitter = refl
requests_later s n (Software level) = refl

due_later : (s : State) (n : ℕ) → due (record s { clock = record s.clock { icr = n } }) ≡ due s
unfolding due
due_later s n = λ i. find (λ source. requests_later s n source i && nat_lt (ipl_of s.psl) (source_row source).level) sources

due_now : (s : State) → due (record s { clock = after_ticks 0 s.clock }) ≡ due s
unfolding after_ticks
due_now s = refl

pub due_then : (s : State) (k : ℕ) (run : Bool) → s.clock.run ≡ run → (run ≡ true → k < ticks_to_wrap s.clock) → due (record s { clock = after_ticks k s.clock }) ≡ due s
due_then s k true runs early = let soon = early refl in ap (λ (c : ClockState). due (record s { clock = c })) (after_ticks-count k s.clock runs (omega (arith, soon))) ∙ due_later s (s.clock.icr + k)
due_then s k false runs early = ap (λ (c : ClockState). due (record s { clock = c })) (after_ticks-stopped k s.clock runs)

pub quiet_on : (n : ℕ) (s : State) → IsQuiet 1 s → (IsTrue s.clock.run → n ≤ ticks_to_wrap s.clock) → IsQuiet n s
quiet_on n s q within = record {
  runs = q.runs;
  waits = q.waits;
  none = λ k h. due_then s k s.clock.run refl (λ runs. let all = within runs in omega (arith, h, all)) ∙ sym (due_now s) ∙ q.none 0 (omega arith);
}

-- A guest that has stopped is stopped in all steps.
pub stands_still : (h : Guest) (code : ℕ) → h.state.halt ≡ Some code → step h ≡ stepped h [] steps.Stopped []
unfolding step
stands_still h code e = ap (step_by h) e

rests : (n : ℕ) (run : Run) → step run.guest ≡ stepped run.guest [] steps.Stopped [] → after_steps n run ≡ record run { tally = record run.tally { stopped = run.tally.stopped + n } }
rests zero run is = ap (λ x. record run { tally = record run.tally { stopped = x } }) (omega arith)
rests (suc n) run is =
    let next : Run = record run { tally = record run.tally { stopped = run.tally.stopped + 1 } } in
    let here : after_step run (step run.guest) ≡ next = ap (after_step run) is ∙ ap (λ x. record next { shown = x }) (append-nil run.shown) in
    ap (after_steps n) here ∙ rests n next is ∙ ap (λ x. record run { tally = record run.tally { stopped = x } }) (omega arith)

nothing_goes : (m : Machine) (s : Shadowed) (g : GuestState) → StandsFor m.memory s g → KeepsRefinement m s g m s g
nothing_goes m s g stands = record { stands = stands; only = record { size = refl; other = λ p own tables. refl }; place = record { pages = refl; base = refl; start = refl }; tables = refl }

nothing_retired : (m : Machine) (c c' : Counts) → c'.plain ≡ c.plain → c'.trail ≡ c.trail → CountsRetired m c m c'
nothing_retired m c c' p t = record { retired = (λ i. (m.retired + sym p i) % 2 ^ 64); trail = (λ i. (m.trail + sym t i) % 2 ^ 64) }

pub stands_on : {Port : Type 0} (may : Port → List ℕ → Type 0) (port : Port) (m : Machine) (s : Shadowed) (g : GuestState) (c : Counts) (n code : ℕ) (left : Left) → StandsFor m.memory s g → g.halt ≡ Some code → left ≡ plain_left 0 → Proceeds may (plain_left n) left (underway port m s g c) (underway port m s g (record c { stopped = c.stopped + n }))
stands_on may port m s g c n code left stands halted e = subst (λ x. Proceeds may (plain_left n) x (underway port m s g c) (underway port m s g (record c { stopped = c.stopped + n }))) (sym e) (record {
  text = [];
  run = λ shown. rests n (run_of m.memory g c shown) (stands_still (guest_of m.memory g) code halted) ∙ ap (λ x. run_of m.memory g (record c { stopped = c.stopped + n }) x) (sym (append-nil shown));
  shows = Appends-nil may port;
  goes = nothing_goes m s g stands;
  kinds = omega arith;
  fewer = omega arith;
  retired = nothing_retired m c (record c { stopped = c.stopped + n }) refl refl;
  begun = λ same. absurd (not_counted same);
})

pub halted_on : {Port : Type 0} (may : Port → List ℕ → Type 0) (port : Port) (m : Machine) (s : Shadowed) (g : GuestState) (c : Counts) (n k : ℕ) (left : Left) → StandsFor m.memory s g → is_some g.halt ≡ true → k ≡ n → left ≡ plain_left 0 → Proceeds may (plain_left n) left (underway port m s g c) (underway port m s g (record c { stopped = c.stopped + k }))
halted_on may port m s g c n k left stands halted same e = subst (λ x. Proceeds may (plain_left n) left (underway port m s g c) (underway port m s g (record c { stopped = c.stopped + x }))) (sym same) (by_halt g.halt refl halted)
  where
    by_halt : (o : Option ℕ) → g.halt ≡ o → is_some o ≡ true → Proceeds may (plain_left n) left (underway port m s g c) (underway port m s g (record c { stopped = c.stopped + n }))
    by_halt None is some = absurd (not_counted some)
    by_halt (Some code) is some = stands_on may port m s g c n code left stands is e

pub runs_by : (o : Option ℕ) → is_some o ≡ false → o ≡ None
runs_by None e = refl
runs_by (Some code) e = absurd (not_counted (sym e))

-- The step is counted.
module _ (m : Machine) (s : Shadowed) (g : GuestState) (g1 : GuestState) (stands : StandsFor m.memory s g) (state : state_of g1 ≡ counted (state_of g)) (place : HasPlace g.pages g.base g.start g1) (runs : g.halt ≡ None) where
  abbrev pub now : Guest
  now = record { memory = partition_of m.memory g; state = counted (state_of g) }

  pub counted_is : guest_of m.memory g1 ≡ now
  counted_is = λ i. record { memory = part m.memory (512 * place.base i) (512 * place.pages i); state = state i }

  pub counted_stands : StandsFor m.memory s g1
  counted_stands = record {
    keeps = stands.keeps;
    serves = record { pages = stands.serves.pages ∙ sym place.pages; base = stands.serves.base ∙ sym place.base; told = stands.serves.told ∙ sym (ap (λ (x : State). x.tables) state) };
    allowed = let a = stands.allowed in
        subst (λ (x : State). AreAllowed (512 * g1.pages) x) (sym state) (subst (λ n. AreAllowed (512 * n) (counted (state_of g))) (sym place.pages)
        (record { p0br = a.p0br; p0lr = a.p0lr; p1br = a.p1br; p1lr = a.p1lr; sbr = a.sbr; slr = a.slr; pcbb = a.pcbb; scbb = a.scbb; astlvl = a.astlvl; sisr = a.sisr; psl = a.psl; packets = a.packets; few = a.few }));
  }

  count_goes : KeepsRefinement m s g m s g1
  count_goes = record { stands = counted_stands; only = record { size = refl; other = λ p own tables. refl }; place = place; tables = refl }

  -- its outcome, by what is due
  pub step_is : (o : Option Source) → due (state_of g1) ≡ o → step (guest_of m.memory g) ≡ by_interrupt now o
  unfolding step
  step_is o e = ap (step_by (guest_of m.memory g)) runs ∙ ap (by_interrupt now) (ap due (sym state) ∙ e)

  one_step : (n : ℕ) (c : Counts) (shown : List ℕ) (x : Stepped) → 1 ≤ n → step (guest_of m.memory g) ≡ x → after_steps n (run_of m.memory g c shown) ≡ after_steps (n - 1) (after_step (run_of m.memory g c shown) x)
  one_step zero c shown x some e = absurd (omega (arith, some))
  one_step (suc n) c shown x some e = let is : n ≡ suc n - 1 = omega arith in ap (λ y. after_steps n (after_step (run_of m.memory g c shown) y)) e ∙ ap (λ y. after_steps y (after_step (run_of m.memory g c shown) x)) is

  -- an interrupt is taken
  module _ {Port : Type 0} (may : Port → List ℕ → Type 0) (port port' : Port) (c : Counts) (n : ℕ) (some : 1 ≤ n) (left : Left) where
    module _ (source : Source) (pending : due (state_of g1) ≡ Some source) (m2 : Machine) (s2 : Shadowed) (g2 : GuestState) (c2 : Counts) where
      pub interrupt_on : Made may (interrupted_by (guest_of m.memory g1) source) (underway port m s g1 c) (underway port' m2 s2 g2 c2) → left ≡ plain_left (n - 1) → Proceeds may (plain_left n) left (underway port m s g c) (underway port' m2 s2 g2 c2)
      interrupt_on made e =
          let x = interrupted_by (guest_of m.memory g1) source in
          let is : step (guest_of m.memory g) ≡ x = step_is (Some source) pending ∙ ap (λ h. interrupted_by h source) (sym counted_is) in
          let one = made.one in
          subst (λ y. Proceeds may (plain_left n) y (underway port m s g c) (underway port' m2 s2 g2 c2)) (sym e) (record {
            text = x.shown;
            run = λ shown. one_step n c shown x some is ∙ ap (after_steps (n - 1)) (made.run shown);
            shows = made.shows;
            goes = goes_then m s g m s g1 m2 s2 g2 stands count_goes made.goes;
            kinds = omega (arith, one, some);
            fewer = omega arith;
            retired = made.retired;
            begun = λ same. absurd (not_counted same);
          })

      pub interrupt_falls : left ≡ plain_left (n - 1) → to_do left s2 < to_do (plain_left n) s
      interrupt_falls e = let few = few_unfilled s2 in subst (λ y. to_do y s2 < to_do (plain_left n) s) (sym e) (omega (arith, few, some))

    -- nothing is due
    module _ (none : due (state_of g1) ≡ None) where
      pub waits_on : g1.waiting ≡ true → left ≡ plain_left (n - 1) → Proceeds may (plain_left n) left (underway port m s g c) (underway port m s g1 (record c { idle = c.idle + 1 }))
      waits_on waiting e =
          let x = stepped now [] steps.Idle [] in
          let is : step (guest_of m.memory g) ≡ x = step_is None none ∙ ap (unless_waiting now) (sym (ap (λ (y : State). y.waiting) state) ∙ waiting) in
          let c2 : Counts = record c { idle = c.idle + 1 } in
          subst (λ y. Proceeds may (plain_left n) y (underway port m s g c) (underway port m s g1 c2)) (sym e) (record {
            text = [];
            run = λ shown. one_step n c shown x some is ∙ ap (after_steps (n - 1)) (λ i. record { guest = sym counted_is i; shown = shown ++ []; tally = tally_of c2 });
            shows = Appends-nil may port;
            goes = count_goes;
            kinds = omega (arith, some);
            fewer = omega arith;
            retired = nothing_retired m c c2 refl refl;
            begun = λ same. absurd (not_counted same);
          })

      comes_to : (h : Guest) (k : ℕ) (run : Run) → h ≡ now → 1 ≤ k → after_steps (k - 1) (after_step run (steps.executed h)) ≡ after_counted k (record run { guest = h })
      comes_to h zero run e some = absurd (omega (arith, some))
      comes_to h (suc k) run e some = let is : suc k - 1 ≡ k = omega arith in ap (λ y. after_steps y (after_step run (steps.executed h))) is

      pub begins_on : g1.waiting ≡ false → Proceeds may (plain_left n) (counted_left n) (underway port m s g c) (underway port m s g1 c)
      begins_on waiting =
          let x = steps.executed now in
          let is : step (guest_of m.memory g) ≡ x = step_is None none ∙ ap (unless_waiting now) (sym (ap (λ (y : State). y.waiting) state) ∙ waiting) in
          record {
            text = [];
            run = λ shown. one_step n c shown x some is ∙ ap (λ h. after_steps (n - 1) (after_step (run_of m.memory g c shown) (steps.executed h))) (sym counted_is) ∙ comes_to (guest_of m.memory g1) n (run_of m.memory g c shown) counted_is some ∙ ap (λ y. after_counted n (run_of m.memory g1 c y)) (sym (append-nil shown));
            shows = Appends-nil may port;
            goes = count_goes;
            kinds = refl;
            fewer = omega arith;
            retired = nothing_retired m c c refl refl;
            begun = λ same. (some, record { runs = ap (λ (y : State). y.halt) state ∙ runs; waits = waiting; none = λ k h. let zero_is : k ≡ 0 = omega (arith, h) in subst (λ y. due (record (state_of g1) { clock = after_ticks y g1.clock }) ≡ None) (sym zero_is) (due_now (state_of g1) ∙ none) });
          }
