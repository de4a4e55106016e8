-- A run of the machine, instruction by instruction, with first touches.
use Rattle.std.proofs.Common.{◌≡◌, ℕ, zero, suc, ◌+◌, ◌%◌, ◌^◌, ◌<◌, ◌≤◌, List, [], Option, Some, None, Result, Ok, Err, refl, ap, ◌∙◌, sym, subst, arith}
use Rattle.vax_hw.specs.Machine.{Machine}
use Rattle.vax_hw.specs.Real.{Retired, unless_trapped, going_on, misses_after, machine_step, real}
use Rattle.vax_hw.specs.declared.world.Exit.{Exit}
use Rattle.vax_hw.specs.declared.world.Exit.TheVariants.{Arithmetic, Budget, Denied, Emulate, Modify, NotValid, Refused}
use Rattle.vax_hw.specs.declared.world.World.{World}
use Rattle.vm_clock.specs.Clock.{after_tick}
use Rattle.vm_clock.specs.Ticks.{after_ticks}
use Rattle.vm_simulation_laws.specs.Paid.{Owes, touching_counted}
use Rattle.vm_simulation_laws.specs.Present.{after_touches, to_miss}
use Rattle.vm_simulation_laws.specs.Runs.{ComesBefore, ComesTo, EndsAt, IsPaidRun, Reaches, RunsArePaid, StopsBefore, TrapsAfter}
use Rattle.vm_simulation_laws.proofs.Found.{found_entries}
use Rattle.vm_simulation_laws.proofs.Paying.{nothing_owed}
use Rattle.vm_simulation_laws.proofs.Working.{retired_counted}
use Rattle.vm_shadow.specs.Shadowed.{Shadowed}
use Rattle.vm_simulation_laws.specs.Bursts.{IsQuiet, counted_by, with_count}
use Rattle.vm_simulation_laws.specs.Laws.{IsRetired, Meets, frames_claimed}
use Rattle.vm_simulation_laws.specs.Loaded.{RunsGuest, as_run}
use Rattle.vm_simulation_laws.proofs.Bursting.{due_same, more_counted, next_counted, own_world, quiet_next, step_is}
use Rattle.vm_simulation_laws.proofs.Meeting.{exits_meet}
use Rattle.vm_simulation_laws.proofs.Retiring.{retires}
use Rattle.vm_state.specs.Partition.{guest_of}
use Rattle.vm_state.specs.State.{Guest, state_of}
use Rattle.vm_state.specs.Step as steps
use Rattle.vm_state.specs.Step.{Stepped, Touched, executed, instruction_of, step, touched_by, trapped_in}
use Rattle.vm_state.specs.Touches.{Touching, touching_step, touching_steps}
use Rattle.vm_state.specs.declared.guest_state.GuestState.{GuestState}
use Rattle.vm_simulation_laws.specs.Touched.{touches_now}
use Rattle.vm_simulation_laws.proofs.Touching.{misses_touched, retired_filled, stopped_filled}

abbrev next_of : World → GuestState → GuestState
next_of w g = with_count 1 (as_run w g)

none_counted : (g : GuestState) → g.steps < 2 ^ 32 → with_count 0 g ≡ g
unfolding after_ticks
none_counted g h = let e : (g.steps + 0) % 2 ^ 32 ≡ g.steps = omega arith in λ i. record g { steps = e i }

counts_more : (e : Exit) (done : ℕ) → suc (counted_by e done) ≡ counted_by e (suc done) → suc (counted_by e (suc done)) ≡ counted_by e (suc (suc done))
counts_more Budget done k = omega arith
counts_more (Arithmetic kind) done k = omega arith
counts_more (NotValid va write) done k = refl
counts_more (Denied va write) done k = refl
counts_more (Modify va) done k = refl
counts_more (Emulate t) done k = refl
counts_more (Refused r) done k = refl

-- fewer at least
less_stops : (left a b : ℕ) (all : Touching) (s : Shadowed) (h : Guest) → a ≤ b → StopsBefore left b all s h → StopsBefore left a all s h
less_stops left a b all s h less k = record { at = k.at; comes = record { owed = k.comes.owed; owes = k.comes.owes; count = omega (arith, less, k.comes.count) }; is = k.is }

less_traps : (kind left a b : ℕ) (all : Touching) (s : Shadowed) (h : Guest) → a ≤ b → TrapsAfter kind left b all s h → TrapsAfter kind left a all s h
less_traps kind left a b all s h less k = record {
  memory = k.memory;
  before = k.before;
  keeps = k.keeps;
  serves = k.serves;
  found = k.found;
  term = k.term;
  step = k.step;
  at = k.at;
  comes = record { owed = k.comes.owed; owes = k.comes.owes; count = omega (arith, less, k.comes.count) };
  is = k.is;
}

ends_less : (e : Exit) (left a b : ℕ) (all : Touching) (s : Shadowed) (h : Guest) → a ≤ b → EndsAt e left b all s h → EndsAt e left a all s h
ends_less Budget left a b all s h less k = record { has = k.has; count = omega (arith, less, k.count) }
ends_less (Arithmetic kind) left a b all s h less k = less_traps kind left a b all s h less k
ends_less (NotValid va write) left a b all s h less k = less_stops left a b all s h less k
ends_less (Denied va write) left a b all s h less k = less_stops left a b all s h less k
ends_less (Modify va) left a b all s h less k = less_stops left a b all s h less k
ends_less (Emulate x) left a b all s h less k = less_stops left a b all s h less k
ends_less (Refused r) left a b all s h less k = less_stops left a b all s h less k

-- what an exit says of the pages that are touched
pub reached_by : (opened : List ℕ) (e : Exit) (m : Machine) (s : Shadowed) (g : GuestState) → RunsGuest opened m s g → machine_step m ≡ Err e → Meets e m.memory s g → Reaches e m.memory s g
reached_by opened Budget m s g k is meets = tt
reached_by opened (Arithmetic kind) m s g k is meets = tt
reached_by opened (NotValid va write) m s g k is meets =
    let miss = misses_touched opened m s g va write k is in
    (record { touched = miss.touched; empty = miss.empty }, λ needs. stopped_filled opened m s g (NotValid va write) k is needs)
reached_by opened (Denied va write) m s g k is meets = stopped_filled opened m s g (Denied va write) k is tt
reached_by opened (Modify va) m s g k is meets = stopped_filled opened m s g (Modify va) k is tt
reached_by opened (Emulate x) m s g k is meets = stopped_filled opened m s g (Emulate x) k is tt
reached_by opened (Refused r) m s g k is meets = stopped_filled opened m s g (Refused r) k is tt

-- before an instruction that doesn't retire
comes_here : (x : Touched) (owed : ℕ) (s : Shadowed) (t : Touching) → Owes owed x s t → ComesBefore x s (t.count + owed) t
comes_here x owed s t o = record { owed = owed; owes = o; count = omega arith }

stops_here : (left owed : ℕ) (s : Shadowed) (t : Touching) (h : Guest) → Owes owed (touches_now h) s t → StopsBefore left (t.count + owed) (touching_counted left h t) s h
stops_here left owed s t h o = record { at = t; comes = comes_here (touches_now h) owed s t o; is = refl }

stops_as : (e : Exit) (n owed : ℕ) (memory : List ℕ) (s : Shadowed) (g : GuestState) (t : Touching) → Meets e memory s g → Owes owed (touches_now (guest_of memory g)) s t → EndsAt e n (t.count + owed) (touching_counted n (guest_of memory g) t) s (guest_of memory g)
stops_as Budget n owed memory s g t meets o = absurd meets
stops_as (Arithmetic kind) n owed memory s g t meets o = absurd meets
stops_as (NotValid va write) n owed memory s g t meets o = stops_here n owed s t (guest_of memory g) o
stops_as (Denied va write) n owed memory s g t meets o = stops_here n owed s t (guest_of memory g) o
stops_as (Modify va) n owed memory s g t meets o = stops_here n owed s t (guest_of memory g) o
stops_as (Emulate x) n owed memory s g t meets o = stops_here n owed s t (guest_of memory g) o
stops_as (Refused r) n owed memory s g t meets o = stops_here n owed s t (guest_of memory g) o

-- after one that does: the outstanding misses are counted
retired_comes : (m : Machine) (s : Shadowed) (g : GuestState) (x : Retired) (owed : ℕ) (t : Touching) → RunsGuest [] m s g → machine_step m ≡ Ok x → x.trap ≡ None → Owes owed (touches_now (guest_of m.memory g)) s t → ComesTo s (t.count + owed) (touching_step (guest_of m.memory g) (executed (guest_of m.memory g)) t)
unfolding executed
retired_comes m s g x owed t k is none o =
    let within : t.count + owed + to_miss s (touches_now (guest_of m.memory g)) ≤ (after_touches (touches_now (guest_of m.memory g)) t).count = o.within in
    record { has = (retired_counted m s g x t k is none o.has).has; count = omega (arith, within) }

none_of : (e : Exit) (m : Machine) (s : Shadowed) (g : GuestState) → Meets e m.memory s g → (counted_by e 0 ≡ 0) × (suc (counted_by e 0) ≡ counted_by e 1)
none_of Budget m s g meets = absurd meets
none_of (Arithmetic kind) m s g meets = absurd meets
none_of (NotValid va write) m s g meets = (refl, refl)
none_of (Denied va write) m s g meets = (refl, refl)
none_of (Modify va) m s g meets = (refl, refl)
none_of (Emulate x) m s g meets = (refl, refl)
none_of (Refused r) m s g meets = (refl, refl)

stopped_at : (n : ℕ) (m : Machine) (s : Shadowed) (g : GuestState) (e : Exit) → g.steps < 2 ^ 32 → RunsGuest [] m s g → machine_step m ≡ Err e → IsPaidRun n m s g (record m { misses = misses_after m.misses e }) e
stopped_at n m s g e small k is =
    let meets = exits_meet [] m s g e k is in
    let none = none_of e m s g meets in
    let same : with_count (counted_by e 0) (as_run m.world g) ≡ g = ap (λ c. with_count c (as_run m.world g)) none.0 ∙ none_counted (as_run m.world g) small ∙ own_world m s g k in
    record {
      done = 0;
      left = n;
      budget = omega arith;
      retired = ap (λ (c : ℕ). c % 2 ^ 64) (omega arith);
      counts = none.1;
      reaches = subst (λ (x : GuestState). Reaches e m.memory s x) (sym same) (reached_by [] e m s g k is meets);
      ends = λ owed t o. subst (λ (x : GuestState). EndsAt e n (t.count + owed) (touching_counted n (guest_of m.memory g) t) s (guest_of m.memory x)) (sym same) (stops_as e n owed m.memory s g t meets o);
    }

one_more : (a b : ℕ) → b ≡ (a + 1) % 2 ^ 64 → b % 2 ^ 64 ≡ (a + 1) % 2 ^ 64
one_more a b e = grind arith

-- the budget is used
used : (m : Machine) (s : Shadowed) (g : GuestState) (x : Retired) → RunsGuest [] m s g → machine_step m ≡ Ok x → IsRetired [] m s g x → x.trap ≡ None → IsPaidRun 1 m s g x.machine Budget
used m s g x k is r none = record {
  done = 1;
  left = 0;
  budget = refl;
  retired = one_more m.retired x.machine.retired r.retired;
  counts = refl;
  reaches = tt;
  ends = λ owed t o. retired_comes m s g x owed t k is none o;
}

-- a trap ends the run after its instruction
module _ (n : ℕ) (m : Machine) (s : Shadowed) (g : GuestState) (x : Retired) (kind : ℕ) (small : g.steps < 2 ^ 32) (k : RunsGuest [] m s g) (is : machine_step m ≡ Ok x) (r : IsRetired [] m s g x) (some : x.trap ≡ Some kind) where
  abbrev whole : Guest
  whole = guest_of m.memory g

  step_there : executed whole ≡ record (trapped_in (steps.Plain r.term) (frames_claimed (guest_of m.memory g)) (guest_of x.machine.memory (as_run x.machine.world g)) (Some kind)) { touched = touches_now whole }
  unfolding executed
  step_there = ap (λ (y : Stepped). record y { touched = touched_by whole (instruction_of whole.state) }) (r.plain ∙ ap (trapped_in (steps.Plain r.term) (frames_claimed (guest_of m.memory g)) (guest_of x.machine.memory (as_run x.machine.world g))) some)

  traps : (owed : ℕ) (t : Touching) → Owes owed (touches_now whole) s t → TrapsAfter kind n (t.count + owed) (touching_counted (suc n) whole t) s (guest_of x.machine.memory (as_run x.machine.world g))
  traps owed t o = record {
    memory = m.memory;
    before = g;
    keeps = k.keeps;
    serves = k.serves;
    found = λ page j. found_entries [] m.memory s g k.keeps k.serves (retired_filled [] m s g x k is).found page j;
    term = r.term;
    step = step_there;
    at = t;
    comes = comes_here (touches_now whole) owed s t o;
    is = refl;
  }

  trapped : IsPaidRun (suc n) m s g x.machine (Arithmetic kind)
  trapped = record {
    done = 1;
    left = n;
    budget = omega arith;
    retired = one_more m.retired x.machine.retired r.retired;
    counts = refl;
    reaches = tt;
    ends = λ owed t o. subst (λ (y : GuestState). TrapsAfter kind n (t.count + owed) (touching_counted (suc n) whole t) s (guest_of x.machine.memory y)) (sym (none_counted (as_run x.machine.world g) small)) (traps owed t o);
  }

-- one instruction more in front of a run
module _ (n : ℕ) (m : Machine) (s : Shadowed) (g : GuestState) (x : Retired) (m' : Machine) (e : Exit) (k : RunsGuest [] m s g) (is : machine_step m ≡ Ok x) (r : IsRetired [] m s g x) (none : x.trap ≡ None) (q : IsQuiet (suc (suc n)) (state_of g)) (rest : IsPaidRun (suc n) x.machine s (next_of x.machine.world g) m' e) where
  abbrev w : World
  w = x.machine.world

  abbrev first : Guest
  first = guest_of m.memory g

  abbrev after_first : Guest
  after_first = guest_of x.machine.memory (as_run w g)

  abbrev between : Guest
  between = guest_of x.machine.memory (next_of w g)

  first_is : (executed first).guest ≡ after_first
  unfolding executed
  first_is = ap (λ (y : Stepped). y.guest) (r.plain ∙ ap (trapped_in (steps.Plain r.term) (frames_claimed (guest_of m.memory g)) after_first) none)

  second : step after_first ≡ executed between
  unfolding after_ticks
  second = step_is after_first q.runs q.waits
      (due_same (record (state_of g) { clock = after_tick g.clock }) w.r (as_run w g).psl.0 ((g.steps + 1) % 2 ^ 32) r.high ∙ q.none 1 (omega arith))

  begins : (t : Touching) → touching_counted (suc (suc n)) first t ≡ touching_counted (suc n) between (touching_step first (executed first) t)
  begins t =
      ap (λ h. touching_steps (suc n) h (touching_step first (executed first) t)) first_is
      ∙ ap (λ (y : Stepped). touching_steps n y.guest (touching_step after_first y (touching_step first (executed first) t))) second

  same_end : with_count (counted_by e rest.done) (as_run m'.world (next_of w g)) ≡ with_count (counted_by e (suc rest.done)) (as_run m'.world g)
  same_end = more_counted (counted_by e rest.done) m'.world w g ∙ ap (λ c. with_count c (as_run m'.world g)) rest.counts

  ends : (owed : ℕ) (t : Touching) → Owes owed (touches_now first) s t → EndsAt e rest.left (t.count + owed) (touching_counted (suc (suc n)) first t) s (guest_of m'.memory (with_count (counted_by e (suc rest.done)) (as_run m'.world g)))
  ends owed t o =
      let u : Touching = touching_step first (executed first) t in
      let c : ComesTo s (t.count + owed) u = retired_comes m s g x owed t k is none o in
      let there = rest.ends 0 u (nothing_owed m.memory (touches_now between) s u k.keeps.fits c.has) in
      let moved = subst (λ (y : GuestState). EndsAt e rest.left (u.count + 0) (touching_counted (suc n) between u) s (guest_of m'.memory y)) same_end there in
      subst (λ (a : Touching). EndsAt e rest.left (t.count + owed) a s (guest_of m'.memory (with_count (counted_by e (suc rest.done)) (as_run m'.world g)))) (sym (begins t))
      (ends_less e rest.left (t.count + owed) (u.count + 0) (touching_counted (suc n) between u) s (guest_of m'.memory (with_count (counted_by e (suc rest.done)) (as_run m'.world g))) (omega (arith, c.count)) moved)

  sum_mod : (t a b : ℕ) → ((t + a) % 2 ^ 64 + b) % 2 ^ 64 ≡ (t + (a + b)) % 2 ^ 64
  sum_mod t a b = grind arith

  more : IsPaidRun (suc (suc n)) m s g m' e
  more = record {
    done = suc rest.done;
    left = rest.left;
    budget = omega (arith, rest.budget);
    retired = rest.retired ∙ ap (λ z. (z + rest.done) % 2 ^ 64) r.retired ∙ sum_mod m.retired 1 rest.done ∙ ap (λ (z : ℕ). (m.retired + z) % 2 ^ 64) (omega arith);
    counts = counts_more e rest.done rest.counts;
    reaches = subst (λ (y : GuestState). Reaches e m'.memory s y) same_end rest.reaches;
    ends = ends;
  }

Paid : ℕ → Machine → Shadowed → GuestState → Machine × Exit → Type 0
Paid n m s g y = IsPaidRun n m s g y.0 y.1

-- what follows a first instruction
Rest : ℕ → Machine → Shadowed → GuestState → Type 0
Rest zero m s g = Unit {0}
Rest (suc n) m s g = (x : Retired) → IsRetired [] m s g x → Paid (suc n) x.machine s (next_of x.machine.world g) (real (suc n) x.machine)

later : (n : ℕ) (m : Machine) (s : Shadowed) (g : GuestState) (x : Retired) (t : Option ℕ) → x.trap ≡ t → g.steps < 2 ^ 32 → RunsGuest [] m s g → machine_step m ≡ Ok x → IsRetired [] m s g x → IsQuiet (suc n) (state_of g) → Rest n m s g → Paid (suc n) m s g (unless_trapped (real n) x.machine t)
unfolding Paid Rest
later zero m s g x None is small k o r q rest = used m s g x k o r is
later (suc n) m s g x None is small k o r q rest = more n m s g x (real (suc n) x.machine).0 (real (suc n) x.machine).1 k o r is q (rest x r)
later n m s g x (Some kind) is small k o r q rest = trapped n m s g x kind small k o r is

by_one : (n : ℕ) (m : Machine) (s : Shadowed) (g : GuestState) (y : Result Retired Exit) → machine_step m ≡ y → g.steps < 2 ^ 32 → RunsGuest [] m s g → IsQuiet (suc n) (state_of g) → Rest n m s g → Paid (suc n) m s g (going_on (real n) m y)
unfolding Paid
by_one n m s g (Err e) is small k q rest = stopped_at (suc n) m s g e small k is
by_one n m s g (Ok x) is small k q rest = later n m s g x x.trap refl small k is (retires [] m s g x k is) q rest

paid : (n : ℕ) (m : Machine) (s : Shadowed) (g : GuestState) → g.steps < 2 ^ 32 → RunsGuest [] m s g → IsQuiet (suc n) (state_of g) → Paid (suc n) m s g (real (suc n) m)
unfolding Rest
paid zero m s g small k q = by_one zero m s g (machine_step m) refl small k q tt
paid (suc n) m s g small k q = by_one (suc n) m s g (machine_step m) refl small k q (λ x r. paid n x.machine s (next_of x.machine.world g) (omega arith) (next_counted m s g x k r) (quiet_next (suc n) x.machine.world g r.high q))

pub runs_paid : RunsArePaid
unfolding Paid
runs_paid zero m s g h small k q = absurd (omega arith)
runs_paid (suc n) m s g h small k q = paid n m s g small k q
