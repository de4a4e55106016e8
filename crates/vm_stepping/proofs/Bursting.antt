-- A run of the machine for a guest.
use Rattle.std.proofs.Common.{◌≡◌, ℕ, ◌+◌, ◌*◌, ◌/◌, ◌%◌, ◌^◌, ◌<◌, ◌≤◌, List, [], Option, Some, None, Result, Ok, Err, refl, ap, ◌∙◌, sym, subst, arith}
use Rattle.std.specs.Prelude.{◌==◌, ◌||◌, not, if◌then◌else◌}
use Rattle.vax_arch.specs.Rei.{has_must_be_zero_bit}
use Rattle.vax_arch.specs.Fields.{current_of, mode_number, mode_of, previous_of}
use Rattle.vax_arch.specs.Ring.{ring_of}
use Rattle.vax_arch.specs.declared.mode.Mode.{Mode}
use Rattle.vax_arch.specs.declared.mode.Mode.TheVariants.{Executive, Kernel, Supervisor, User}
use Rattle.vax_hw.specs.Machine.{Machine}
use Rattle.vax_hw.specs.Real.{Retired, going_on, machine_step, misses_after, real, unless_trapped}
use Rattle.vax_hw.specs.declared.world.Exit.{Exit}
use Rattle.vax_hw.specs.declared.world.Exit.TheVariants.{Arithmetic, Budget, Denied, Emulate, Modify, NotValid, Refused}
use Rattle.vax_hw.specs.declared.world.World.{World}
use Rattle.vm_stepping.specs.Ran.{Ended, IsAlone, IsRun, RunsMachine, rise}
use Rattle.vm_simulation_laws.specs.Paid.{Owes, touching_counted}
use Rattle.vm_simulation_laws.specs.Runs.{EndsAt, IsPaidRun, Reaches}
use Rattle.vm_simulation_laws.proofs.Running.{runs_paid}
use Rattle.vm_shadow.specs.Shadowed.{Shadowed}
use Rattle.vm_shadow.specs.StandsFor.{StandsFor, real_psl, world_of}
use Rattle.vm_clock.specs.Ticks.{after_ticks}
use Rattle.vm_simulation_laws.specs.Bursts.{EndsBurst, IsBurst, IsQuiet, counted_by, goes_on, with_count}
use Rattle.vm_simulation_laws.specs.Laws.{Leaves, Meets}
use Rattle.vm_simulation_laws.specs.Loaded.{HasGuestLoaded, RunsGuest, as_run}
use Rattle.vm_simulation_laws.proofs.Bursting.{ends_more, runs_go}
use Rattle.vm_simulation_laws.proofs.Meeting.{exits_meet}
use Rattle.vm_simulation_laws.proofs.Retiring.{retires}
use Rattle.vm_state.proofs.Initiations.{mode_small}
use Rattle.vm_state.specs.Allowed.{AreAllowed}
use Rattle.vm_state.specs.Partition.{guest_of}
use Rattle.vm_state.specs.State.{state_of}
use Rattle.vm_state.specs.Touches.{Touching}
use Rattle.vm_state.specs.declared.guest_state.GuestState.{GuestState}
use Rattle.vm_simulation_laws.specs.Touched.{touches_now}

mode_again : (m : Mode) → mode_of (mode_number m) ≡ m
mode_again Kernel = refl
mode_again Executive = refl
mode_again Supervisor = refl
mode_again User = refl

current_field : (c p l : ℕ) → c < 4 → p < 4 → (2 ^ 29 + c * 2 ^ 24 + p * 2 ^ 22 + l % 2 ^ 8) / 2 ^ 24 ≡ 32 + c
current_field c p l h i = omega arith

previous_field : (c p l : ℕ) → c < 4 → p < 4 → (2 ^ 29 + c * 2 ^ 24 + p * 2 ^ 22 + l % 2 ^ 8) / 2 ^ 22 ≡ 128 + 4 * c + p
previous_field c p l h i = omega arith

mode_modulo : (n c : ℕ) → n % 4 ≡ c % 4 → mode_of n ≡ mode_of c
mode_modulo n c e = λ i. if e i == 0 then Kernel else if e i == 1 then Executive else if e i == 2 then Supervisor else User

low_field : (c p l : ℕ) → (2 ^ 29 + c * 2 ^ 24 + p * 2 ^ 22 + l % 2 ^ 8) % 256 ≡ l % 256
low_field c p l = omega arith

whole_psl : (v l : ℕ) → l % 256 ≡ v % 256 → v / 256 * 256 + l % 256 ≡ v
whole_psl v l e = omega (arith, e)

pub loads_world : (s : Shadowed) (g : GuestState) → HasGuestLoaded (world_of s g) s g
loads_world s g =
    let c = mode_number (ring_of (current_of g.psl.0)) in
    let p = mode_number (ring_of (previous_of g.psl.0)) in
    let small = mode_small (ring_of (current_of g.psl.0)) in
    let low = mode_small (ring_of (previous_of g.psl.0)) in
    record {
      r = refl;
      psl = whole_psl g.psl.0 (real_psl g.psl.0) (low_field c p g.psl.0);
      current = ap mode_of (current_field c p g.psl.0 small low) ∙ mode_modulo (32 + c) c (omega (arith, small)) ∙ mode_again (ring_of (current_of g.psl.0));
      previous = ap mode_of (previous_field c p g.psl.0 small low) ∙ mode_modulo (128 + 4 * c + p) p (omega (arith, low)) ∙ mode_again (ring_of (previous_of g.psl.0));
      tables = refl;
    }

pub loaded : (m : Machine) (s : Shadowed) (g : GuestState) → StandsFor m.memory s g → RunsGuest [] (record m { world = world_of s g }) s g
loaded m s g k = record { keeps = k.keeps; serves = k.serves; loads = loads_world s g }

-- the rise of a count
pub rise_is : (before now done : ℕ) → before < 2 ^ 64 → now % 2 ^ 64 ≡ (before + done) % 2 ^ 64 → rise before now ≡ done % 2 ^ 64
rise_is before now done h e = grind (arith, h, e)

small_rest : (n : ℕ) → n < 2 ^ 32 → n % 2 ^ 64 ≡ n
small_rest n h = omega arith

-- no bit of the PSL that must be zero is below bit 8
pub zero_bits : (p q : ℕ) → p / 2 ^ 8 ≡ q / 2 ^ 8 → has_must_be_zero_bit p ≡ has_must_be_zero_bit q
zero_bits p q e =
    let a : p / 2 ^ 27 ≡ q / 2 ^ 27 = omega (arith, e) in
    let b : p / 2 ^ 21 ≡ q / 2 ^ 21 = omega (arith, e) in
    λ i. not (a i % 32 == 0) || not (b i % 2 == 0) || not (e i % 256 == 0)

-- no step more is counted
no_more : (g : GuestState) → g.steps < 2 ^ 32 → with_count 0 g ≡ g
unfolding after_ticks
no_more g small = let same : (g.steps + 0) % 2 ^ 32 ≡ g.steps = omega (arith, small) in λ i. record g { steps = same i }

module _ (n : ℕ) (m : Machine) (s : Shadowed) (g : GuestState) (w : World) (x : Ended) (m' : Machine) (k : StandsFor m.memory s g) (is : w ≡ world_of s g) (some : 1 ≤ n) (small : g.steps < 2 ^ 32) (few : n < 2 ^ 32) (q : IsQuiet n (state_of g)) (r : RunsMachine n m w x m') where
  abbrev first : Machine
  first = record m { world = world_of s g }

  pub the_burst : IsBurst n first s g m' x.exit
  the_burst =
      let same : real n first ≡ (m', x.exit) = ap (λ v. real n (record m { world = v })) (sym is) ∙ sym r.ran in
      subst (λ y. IsBurst n first s g y.0 y.1) same (runs_go n first s g some small (loaded m s g k) q)

  -- the same run, by first touches
  the_paid : IsPaidRun n first s g m' x.exit
  the_paid =
      let same : real n first ≡ (m', x.exit) = ap (λ v. real n (record m { world = v })) (sym is) ∙ sym r.ran in
      subst (λ y. IsPaidRun n first s g y.0 y.1) same (runs_paid n first s g some small (loaded m s g k) q)

  same_done : the_paid.done ≡ the_burst.done
  same_done =
      let rose : rise m.retired m'.retired ≡ the_paid.done % 2 ^ 64 = rise_is m.retired m'.retired the_paid.done r.retired the_paid.retired in
      let other : rise m.retired m'.retired ≡ the_burst.done % 2 ^ 64 = rise_is m.retired m'.retired the_burst.done r.retired the_burst.retired in
      sym (small_rest the_paid.done (omega (arith, few, the_paid.budget))) ∙ sym rose ∙ other ∙ small_rest the_burst.done (omega (arith, few, the_burst.budget))

  same_left : the_paid.left ≡ the_burst.left
  same_left = omega (arith, same_done, the_paid.budget, the_burst.budget)

  reaches_end : (h : GuestState) → h ≡ with_count (counted_by x.exit the_burst.done) (as_run m'.world g) → Reaches x.exit m'.memory s h
  reaches_end h e = subst (Reaches x.exit m'.memory s) (ap (λ c. with_count (counted_by x.exit c) (as_run m'.world g)) same_done ∙ sym e) the_paid.reaches

  touches_end : (h : GuestState) → h ≡ with_count (counted_by x.exit the_burst.done) (as_run m'.world g) → (owed : ℕ) (t : Touching) → Owes owed (touches_now (guest_of m.memory g)) s t → EndsAt x.exit the_burst.left (t.count + owed) (touching_counted n (guest_of m.memory g) t) s (guest_of m'.memory h)
  touches_end h e owed t o =
      let there : with_count (counted_by x.exit the_paid.done) (as_run m'.world g) ≡ h = ap (λ c. with_count (counted_by x.exit c) (as_run m'.world g)) same_done ∙ sym e in
      subst (λ c. EndsAt x.exit c (t.count + owed) (touching_counted n (guest_of m.memory g) t) s (guest_of m'.memory h)) same_left
      (subst (λ (y : GuestState). EndsAt x.exit the_paid.left (t.count + owed) (touching_counted n (guest_of m.memory g) t) s (guest_of m'.memory y)) there (the_paid.ends owed t o))

  pub done_is : x.done ≡ the_burst.done
  done_is = r.done ∙ rise_is m.retired m'.retired the_burst.done r.retired the_burst.retired ∙ small_rest the_burst.done (omega (arith, few, the_burst.budget))

  pub few_done : x.done < 2 ^ 32
  few_done = omega (arith, done_is, the_burst.budget, few)

  terms_are : x.terms ≡ the_burst.terms % 2 ^ 64
  terms_are = r.terms ∙ rise_is m.trail m'.trail the_burst.terms r.trail the_burst.trail

  -- fewer steps are counted besides the first than there were
  counted_few : (e : Exit) (done left : ℕ) (memory : List ℕ) (h : GuestState) → EndsBurst e done left memory s h → done + left ≡ n → counted_by e done < n
  counted_few Budget done left memory h ends b = omega (arith, ends.1)
  counted_few (Arithmetic kind) done left memory h ends b = omega (arith, ends)
  counted_few (NotValid va write) done left memory h ends b = omega (arith, ends.0)
  counted_few (Denied va write) done left memory h ends b = omega (arith, ends.0)
  counted_few (Modify va) done left memory h ends b = omega (arith, ends.0)
  counted_few (Emulate t) done left memory h ends b = omega (arith, ends.0)
  counted_few (Refused refusal) done left memory h ends b = omega (arith, ends.0)

  pub few_counted : (done : ℕ) → done ≡ x.done → counted_by x.exit done < n
  few_counted done e = subst (λ d. counted_by x.exit d < n) (sym (e ∙ done_is)) (counted_few x.exit the_burst.done the_burst.left m'.memory (as_run m'.world g) the_burst.ends the_burst.budget)

  -- what the guest has become is allowed still
  allowed_still : AreAllowed (512 * g.pages) (state_of g) → (c : ℕ) → AreAllowed (512 * g.pages) (state_of (with_count c (as_run m'.world g)))
  allowed_still a c = record { p0br = a.p0br; p0lr = a.p0lr; p1br = a.p1br; p1lr = a.p1lr; sbr = a.sbr; slr = a.slr; pcbb = a.pcbb; scbb = a.scbb; astlvl = a.astlvl; sisr = a.sisr; psl = zero_bits (as_run m'.world g).psl.0 g.psl.0 the_burst.high ∙ a.psl; packets = a.packets; few = a.few }

  same_trail : (t a b : ℕ) → a ≡ b % 2 ^ 64 → (t + b) % 2 ^ 64 ≡ (t + a) % 2 ^ 64
  same_trail t a b e = ap (λ z. z) (sum_low t b) ∙ ap (λ z. (t + z) % 2 ^ 64) (sym e)
    where
      sum_low : (t b : ℕ) → (t + b) % 2 ^ 64 ≡ (t + b % 2 ^ 64) % 2 ^ 64
      sum_low t b = grind arith

  -- a run of one instruction
  abbrev AloneAt : Machine × Exit → Type 0
  AloneAt z = IsAlone z.1 (guest_of m.memory g) (guest_of z.0.memory (as_run z.0.world g))

  alone_trap : (y : Retired) (t : Option ℕ) → Leaves (guest_of m.memory g) (guest_of y.machine.memory (as_run y.machine.world g)) t → AloneAt (unless_trapped (real 0) y.machine t)
  alone_trap y None k = k
  alone_trap y (Some kind) k = k

  as_before : guest_of m.memory (as_run (world_of s g) g) ≡ guest_of m.memory g
  as_before = λ i. guest_of m.memory (record g { psl = record { 0 = (loads_world s g).psl i } })

  alone_exit : (e : Exit) → Meets e m.memory s g → AloneAt (record first { misses = misses_after m.misses e }, e)
  alone_exit Budget k = absurd k
  alone_exit (Arithmetic kind) k = absurd k
  alone_exit (NotValid va write) k = as_before
  alone_exit (Denied va write) k = as_before
  alone_exit (Modify va) k = as_before
  alone_exit (Emulate t) k = as_before
  alone_exit (Refused refusal) k = as_before

  alone_by : (y : Result Retired Exit) → machine_step first ≡ y → AloneAt (going_on (real 0) first y)
  alone_by (Ok y) e = alone_trap y y.trap (retires [] first s g y (loaded m s g k) e).leaves
  alone_by (Err y) e = alone_exit y (exits_meet [] first s g y (loaded m s g k) e)

  alone_ran : n ≡ 1 → IsAlone x.exit (guest_of m.memory g) (guest_of m'.memory (as_run m'.world g))
  alone_ran single =
      let same : (m', x.exit) ≡ real n first = r.ran ∙ ap (λ v. real n (record m { world = v })) is in
      subst AloneAt (sym (same ∙ ap (λ j. real j first) single)) (alone_by (machine_step first) refl)

  pub is_run : (done : ℕ) (g1 g2 : GuestState) (v : World) → done ≡ x.done → v ≡ m'.world → g1 ≡ as_run v g → g2 ≡ with_count (counted_by x.exit done) g1 → IsRun n m s g (record { done = done; terms = x.terms; exit = x.exit }) m' g2
  is_run done g1 g2 v d vm machine_step two =
      let b = the_burst in
      let same : done ≡ b.done = d ∙ done_is in
      let g1_is : g1 ≡ as_run m'.world g = machine_step ∙ ap (λ y. as_run y g) vm in
      let is : g2 ≡ with_count (counted_by x.exit done) (as_run m'.world g) = two ∙ ap (with_count (counted_by x.exit done)) g1_is in
      let there : g2 ≡ with_count (counted_by x.exit b.done) (as_run m'.world g) = is ∙ ap (λ c. with_count (counted_by x.exit c) (as_run m'.world g)) same in
      record {
        left = b.left;
        budget = omega (arith, same, b.budget);
        steps = λ run own low. b.steps run own low ∙ ap (goes_on x.exit b.left) (λ i. record {
          guest = guest_of m'.memory (sym there i);
          shown = run.shown;
          tally = record run.tally { plain = run.tally.plain + sym same i; trail = same_trail run.tally.trail x.terms b.terms terms_are i };
        });
        alone = λ single.
            let few = few_counted done d in
            let zero : counted_by x.exit done ≡ 0 = omega (arith, few, single) in
            let end : g2 ≡ as_run m'.world g = is ∙ ap (λ c. with_count c (as_run m'.world g)) zero ∙ no_more (as_run m'.world g) small in
            subst (λ (h : GuestState). IsAlone x.exit (guest_of m.memory g) (guest_of m'.memory h)) (sym end) (alone_ran single);
        is = is;
        stands = subst (StandsFor m'.memory s) (sym there) (record {
          keeps = b.runs.keeps;
          serves = record { pages = k.serves.pages; base = k.serves.base; told = k.serves.told };
          allowed = allowed_still k.allowed (counted_by x.exit b.done);
        });
        high = ap (λ (h : GuestState). h.psl.0 / 2 ^ 8) there ∙ b.high;
        only = b.only;
        ends = subst (λ z. EndsBurst x.exit z b.left m'.memory s g2) (sym same) (subst (EndsBurst x.exit b.done b.left m'.memory s) (sym there) (ends_more x.exit b.done b.left m'.memory s (as_run m'.world g) (after_ticks (counted_by x.exit b.done) g.clock) ((g.steps + counted_by x.exit b.done) % 2 ^ 32) b.ends));
        retired = b.retired ∙ ap (λ z. (m.retired + z) % 2 ^ 64) (sym same);
        trail = b.trail ∙ same_trail m.trail x.terms b.terms terms_are;
        misses = b.misses;
        reaches = reaches_end g2 there;
        touches = touches_end g2 there;
      }
