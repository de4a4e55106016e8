-- What a run of the machine ended before, done for the guest.
use Rattle.std.proofs.Common.{◌≡◌, ℕ, ◌+◌, ◌%◌, ◌^◌, ◌<◌, Bool, true, false, List, [], ◌++◌, append-nil, Option, Some, None, refl, ap, ◌∙◌, sym, subst, arith}
use Rattle.std.specs.Prelude.{is_some, not}
use Rattle.vax_hw.specs.Machine.{Machine}
use Rattle.vax_hw.specs.declared.world.Exit.{Exit}
use Rattle.vax_hw.specs.declared.world.Exit.TheVariants.{Arithmetic, Budget, Denied, Emulate, Modify, NotValid, Refused}
use Rattle.vm_exception.specs.Standing.{standing}
use Rattle.vm_stepping.specs.Guarded.{CanAllow, IsGuarded, StaysGuarded, StepsGuarded, count_below}
use Rattle.vm_stepping.proofs.Completing.{guest_same}
use Rattle.vm_console.specs.Appends.{Appends}
use Rattle.vm_console.proofs.Composes.{Appends-nil}
use Rattle.vm_exception.specs.Made.{MakesStep}
use Rattle.vm_shadow.specs.Layout.{all_entries}
use Rattle.vm_shadow.specs.Shadowed.{Shadowed, read_at}
use Rattle.vm_shadow.specs.StandsFor.{StandsFor}
use Rattle.vm_simulation_laws.specs.Bursts.{after_counted}
use Rattle.vm_simulation_laws.specs.Laws.{Meets}
use Rattle.vm_simulation_laws.specs.Loaded.{guest_try}
use Rattle.vm_state.specs.Initiate.{initiate}
use Rattle.vm_state.specs.Partition.{guest_of}
use Rattle.vm_state.specs.Step.{Idle, Stepped, by_try, executed, initiated_in}
use Rattle.vm_state.specs.Translation.{is_clear}
use Rattle.vm_state.specs.declared.exception.Exc.TheVariants as excs
use Rattle.vm_state.specs.declared.guest_state.GuestState.{GuestState}
use Rattle.vm_stepping.specs.Advances.{Steps, StepsOrRefills}
use Rattle.vm_stepping.specs.Made.{CountsRetired, IsMet, KeepsRefinement, Made, Refills, run_of, tally_of, unfilled, underway}
use Rattle.vm_stepping.specs.declared.counts.Counts.{Counts}
use Rattle.vm_stepping.proofs.Going.{goes_then, retired_then}
use Rattle.vm_stepping.proofs.Making.{makes_goes, same_counts}

-- the step in which the instruction is reached is the counted guest's
pub made_steps : {Port : Type 0} (may : Port → List ℕ → Type 0) (port port' : Port) (m : Machine) (s : Shadowed) (g : GuestState) (c : Counts) (m' : Machine) (s' : Shadowed) (g' : GuestState) (c' : Counts) →
    Made may (by_try (guest_of m.memory g) (guest_try (guest_of m.memory g))) (underway port m s g c) (underway port' m' s' g' c') → Steps may (underway port m s g c) (underway port' m' s' g' c')
unfolding executed
made_steps may port port' m s g c m' s' g' c' k = record { text = (by_try (guest_of m.memory g) (guest_try (guest_of m.memory g))).shown; run = k.run; shows = k.shows; goes = k.goes; one = k.one; retired = k.retired }

pub met_done : {Port : Type 0} (may : Port → List ℕ → Type 0) (b : Bool) (port port' : Port) (m : Machine) (s : Shadowed) (g : GuestState) (c : Counts) (m' : Machine) (s' : Shadowed) (g' : GuestState) (c' : Counts) →
    IsMet may b (underway port m s g c) (underway port' m' s' g' c') → StepsOrRefills may b (underway port m s g c) (underway port' m' s' g' c')
met_done may true port port' m s g c m' s' g' c' k = made_steps may port port' m s g c m' s' g' c' k
met_done may false port port' m s g c m' s' g' c' k = k

-- `done` plain steps more
abbrev pub more_plain : Counts → (done terms : ℕ) → Counts
more_plain c done terms = record c { plain = c.plain + done; trail = (c.trail + terms) % 2 ^ 64 }

-- One instruction retired, and is the counted guest's step.
module _ (m : Machine) (s : Shadowed) (g : GuestState) (c : Counts) (terms : ℕ) (m1 : Machine) (s1 : Shadowed) (g1 : GuestState) (small : c.trail < 2 ^ 64) where
  abbrev counted : Counts
  counted = more_plain c 1 terms

  guarded_goes : (trap : Option ℕ) → StepsGuarded m s g terms trap m1 s1 g1 → KeepsRefinement m s g m1 s1 g1
  guarded_goes trap k = record {
    stands = k.stands;
    only = k.only;
    place = record { pages = ap (λ (x : GuestState). x.pages) k.is; base = ap (λ (x : GuestState). x.base) k.is; start = ap (λ (x : GuestState). x.start) k.is };
    tables = ap (λ (x : Shadowed). x.at) k.rest;
  }

  guarded_retired : (trap : Option ℕ) → StepsGuarded m s g terms trap m1 s1 g1 → CountsRetired m c m1 counted
  guarded_retired trap k = let e = k.retired in let f = k.trail in record { retired = omega (arith, e); trail = omega (arith, f) }

  pub guarded_steps : {Port : Type 0} (may : Port → List ℕ → Type 0) (port : Port) → StepsGuarded m s g terms None m1 s1 g1 → Steps may (underway port m s g c) (underway port m1 s1 g1 counted)
  guarded_steps may port k = record {
    text = [];
    run = λ shown. k.steps (run_of m.memory g c shown) refl small ∙ ap (λ x. run_of m1.memory g1 counted x) (sym (append-nil shown));
    shows = Appends-nil may port;
    goes = guarded_goes None k;
    one = omega arith;
    retired = guarded_retired None k;
  }

  -- with its trap after it
  module _ (kind : ℕ) (m2 : Machine) (s2 : Shadowed) (g2 : GuestState) (stands : StandsFor m.memory s g) (k : StepsGuarded m s g terms (Some kind) m1 s1 g1) where
    abbrev trap : Stepped
    trap = initiated_in Idle (guest_of m1.memory g1) (initiate (guest_of m1.memory g1) (excs.Arithmetic kind))

    pub trapped_steps : {Port : Type 0} (may : Port → List ℕ → Type 0) (port port' : Port) → MakesStep trap m1 s1 g1 m2 s2 g2 → Appends may port port' trap.shown → Steps may (underway port m s g c) (underway port' m2 s2 g2 counted)
    trapped_steps may port port' makes shows = record {
      text = trap.shown;
      run = λ shown. k.steps (run_of m.memory g c shown) refl small ∙ (λ i. record { guest = sym makes.guest i; shown = shown ++ trap.shown; tally = tally_of counted });
      shows = shows;
      goes = goes_then m s g m1 s1 g1 m2 s2 g2 stands (guarded_goes (Some kind) k) (makes_goes trap m1 s1 g1 m2 s2 g2 makes);
      one = omega arith;
      retired = retired_then m c m1 counted m2 counted (guarded_retired (Some kind) k) (same_counts m1 m2 counted counted makes.only.rest refl refl);
    }

-- It didn't retire, and what it ended before is done.
module _ (m : Machine) (s : Shadowed) (g : GuestState) (c : Counts) (e : Exit) (m1 : Machine) (s1 : Shadowed) (k : StaysGuarded m s g e m1 s1 g) (stands : StandsFor m.memory s g) where
  stays_goes : KeepsRefinement m s g m1 s1 g
  stays_goes = record { stands = k.stands; only = k.only; place = record { pages = refl; base = refl; start = refl }; tables = ap (λ (x : Shadowed). x.at) k.rest }

  stays_retired : CountsRetired m c m1 c
  stays_retired = record { retired = (λ i. (ap (λ (x : Machine). x.retired) k.machine i + c.plain) % 2 ^ 64); trail = (λ i. (ap (λ (x : Machine). x.trail) k.machine i + c.trail) % 2 ^ 64) }

  as_many : unfilled s1 ≡ unfilled s
  unfolding unfilled
  as_many = ap (λ (x : Shadowed). count_below (λ n. not (is_some (read_at x n))) all_entries) k.rest

  module _ {Port : Type 0} (may : Port → List ℕ → Type 0) (port port' : Port) (m2 : Machine) (s2 : Shadowed) (g2 : GuestState) (c2 : Counts) where
    steps_after : Steps may (underway port m1 s1 g c) (underway port' m2 s2 g2 c2) → Steps may (underway port m s g c) (underway port' m2 s2 g2 c2)
    steps_after x = record {
      text = x.text;
      run = λ shown. ap (λ y. after_counted 1 (record { guest = y; shown = shown; tally = tally_of c })) (sym (guest_same m m1 g k.own)) ∙ x.run shown;
      shows = x.shows;
      goes = goes_then m s g m1 s1 g m2 s2 g2 stands stays_goes x.goes;
      one = x.one;
      retired = retired_then m c m1 c m2 c2 stays_retired x.retired;
    }

    refills_after : Refills m1 s1 g m2 s2 g2 → Refills m s g m2 s2 g2
    refills_after x = record {
      guest = x.guest;
      stands = x.stands;
      own = x.own ∙ k.own;
      machine = x.machine ∙ (λ i. record (k.machine i) { memory = m2.memory; world = m2.world; misses = m2.misses });
      only = (goes_then m s g m1 s1 g m2 s2 g stands stays_goes (record { stands = x.stands; only = x.only; place = record { pages = refl; base = refl; start = refl }; tables = x.tables })).only;
      tables = x.tables ∙ ap (λ (y : Shadowed). y.at) k.rest;
      fewer = subst (λ n. unfilled s2 < n) as_many x.fewer;
    }

    pub done_after : (b : Bool) → StepsOrRefills may b (underway port m1 s1 g c) (underway port' m2 s2 g2 c2) → StepsOrRefills may b (underway port m s g c) (underway port' m2 s2 g2 c2)
    done_after true x = steps_after x
    done_after false x = (refills_after x.0, x.1, x.2)

-- by the exit of the guarded run
module _ (m : Machine) (s : Shadowed) (g : GuestState) (terms : ℕ) (m1 : Machine) (s1 : Shadowed) (g1 : GuestState) where
  pub stays_by : (e : Exit) → (e ≡ Budget → ⊥) → ((kind : ℕ) → e ≡ Arithmetic kind → ⊥) → IsGuarded e terms (standing m s g) (standing m1 s1 g1) → StaysGuarded m s g e m1 s1 g1
  stays_by Budget b a k = absurd (b refl)
  stays_by (Arithmetic kind) b a k = absurd (a kind refl)
  stays_by (NotValid va write) b a k = k
  stays_by (Denied va write) b a k = k
  stays_by (Modify va) b a k = k
  stays_by (Emulate t) b a k = k
  stays_by (Refused r) b a k = k

module _ {Port : Type 0} (may : Port → List ℕ → Type 0) (port port' : Port) (m : Machine) (s : Shadowed) (g : GuestState) (c : Counts) (terms : ℕ) (m1 : Machine) (s1 : Shadowed) (g1 : GuestState) (stands : StandsFor m.memory s g) where
  pub guarded_budget : (e : Exit) (c1 : Counts) → e ≡ Budget → IsGuarded e terms (standing m s g) (standing m1 s1 g1) → c.trail < 2 ^ 64 → c1 ≡ more_plain c 1 terms → Steps may (underway port m s g c) (underway port m1 s1 g1 c1)
  guarded_budget e c1 is k small same = subst (λ x. Steps may (underway port m s g c) (underway port m1 s1 g1 x)) (sym same) (guarded_steps m s g c terms m1 s1 g1 small may port (subst (λ x. IsGuarded x terms (standing m s g) (standing m1 s1 g1)) is k))

  module _ (m2 : Machine) (s2 : Shadowed) (g2 : GuestState) where
    pub guarded_trap : (e : Exit) (kind : ℕ) (c1 : Counts) → e ≡ Arithmetic kind → IsGuarded e terms (standing m s g) (standing m1 s1 g1) → c.trail < 2 ^ 64 → c1 ≡ more_plain c 1 terms →
        let trap = initiated_in Idle (guest_of m1.memory g1) (initiate (guest_of m1.memory g1) (excs.Arithmetic kind)) in
        MakesStep trap m1 s1 g1 m2 s2 g2 → Appends may port port' trap.shown → Steps may (underway port m s g c) (underway port' m2 s2 g2 c1)
    guarded_trap e kind c1 is k small same makes shows = subst (λ x. Steps may (underway port m s g c) (underway port' m2 s2 g2 x)) (sym same) (trapped_steps m s g c terms m1 s1 g1 small kind m2 s2 g2 stands (subst (λ x. IsGuarded x terms (standing m s g) (standing m1 s1 g1)) is k) may port port' makes shows)

    pub guarded_other : (e : Exit) (b : Bool) (c2 : Counts) → (e ≡ Budget → ⊥) → ((kind : ℕ) → e ≡ Arithmetic kind → ⊥) → IsGuarded e terms (standing m s g) (standing m1 s1 g1) → IsMet may b (underway port m1 s1 g1 c) (underway port' m2 s2 g2 c2) → StepsOrRefills may b (underway port m s g c) (underway port' m2 s2 g2 c2)
    guarded_other e b c2 not_budget not_arithmetic k met =
        let stays = stays_by m s g terms m1 s1 g1 e not_budget not_arithmetic k in
        let own : g1 ≡ g = stays.guest in
        let again = subst (λ x. StaysGuarded m s g e m1 s1 x) own stays in
        let now = subst (λ x. IsMet may b (underway port m1 s1 x c) (underway port' m2 s2 g2 c2)) own met in
        done_after m s g c e m1 s1 again stands may port port' m2 s2 g2 c2 b (met_done may b port port' m1 s1 g c m2 s2 g2 c2 now)

-- a page at whose clear modify bit the machine exited, while that in the guest's own tables is set
pub may_write : (m : Machine) (s : Shadowed) (g : GuestState) (e : Exit) (va : ℕ) → e ≡ Modify va → StandsFor m.memory s g → Meets e m.memory s g → is_clear (guest_of m.memory g) va ≡ false → CanAllow va m s g
may_write m s g e va is stands meets set = record { fits = stands.keeps.fits; partition = omega (arith, stands.keeps.fits.partition, stands.serves.pages, stands.serves.base); unwritten = subst (λ x. Meets x m.memory s g) is meets; set = set }
