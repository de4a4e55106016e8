-- A guest that waits, in many steps.
use Rattle.std.proofs.Common.{◌≡◌, ℕ, zero, suc, ◌+◌, ◌-◌, ◌%◌, ◌^◌, ◌<◌, ◌≤◌, true, ◌&&◌, List, None, refl, ap, ◌∙◌, sym, subst, arith}
use Rattle.std.specs.Prelude.{IsTrue, find, nat_lt}
use Rattle.vax_arch.specs.Fields.{ipl_of}
use Rattle.vax_hw.specs.Machine.{Machine}
use Rattle.vm_clock.specs.Clock.{after_tick}
use Rattle.vm_clock.specs.Ticks.{after_ticks, ticks_to_wrap}
use Rattle.vm_clock.proofs.Counting.{after_ticks-add}
use Rattle.vm_shadow.specs.Shadowed.{Shadowed}
use Rattle.vm_shadow.specs.StandsFor.{StandsFor}
use Rattle.vm_simulation_laws.specs.Bursts.{with_count}
use Rattle.vm_state.specs.Interrupts.{IntervalClock, Kcall, Receiver, Software, Source, Transmitter, due, source_row, sources}
use Rattle.vm_state.specs.State.{HasPlace, State, state_of}
use Rattle.vm_state.specs.Step.{counted}
use Rattle.vm_state.specs.declared.guest_state.GuestState.{GuestState}
use Rattle.vm_stepping.specs.Advances.{Idles, Proceeds, to_do}
use Rattle.vm_stepping.specs.Pays.{PaysOn}
use Rattle.vm_stepping.specs.declared.counts.Counts.{Counts}
use Rattle.vm_stepping.specs.declared.turns.Left.{Left}
use Rattle.vm_stepping.proofs.Advancing.{nothing_yet, then_more}
use Rattle.vm_stepping.proofs.Beginning.{counted_stands, due_then, waits_on}
use Rattle.vm_stepping.proofs.PayingBegun.{pays_nothing, pays_then, pays_waiting}
use Rattle.vm_stepping.proofs.Running.{plain_left}
use Rattle.vm_stepping.specs.Made.{underway}

-- what is due depends on no count of steps
requests_uncounted : (s : State) (n : ℕ) (source : Source) → (source_row source).requests (record s { steps = n }) ≡ (source_row source).requests s
requests_uncounted s n IntervalClock = refl
requests_uncounted s n Kcall = refl
requests_uncounted s n Receiver = refl
requests_uncounted s n Transmitter = refl
requests_uncounted s n (Software level) = refl

due_uncounted : (s : State) (n : ℕ) → due (record s { steps = n }) ≡ due s
unfolding due
due_uncounted s n = λ i. find (λ source. requests_uncounted s n source i && nat_lt (ipl_of s.psl) (source_row source).level) sources

-- nothing is due in steps in which the clock doesn't wrap
none_due : (g : GuestState) (k : ℕ) → due (state_of g) ≡ None → (IsTrue g.clock.run → k < ticks_to_wrap g.clock) → due (state_of (with_count k g)) ≡ None
none_due g k none within =
    due_uncounted (record (state_of g) { clock = after_ticks k g.clock }) ((g.steps + k) % 2 ^ 32) ∙ due_then (state_of g) k g.clock.run refl within ∙ none

-- one step more is counted
one_more : (k : ℕ) (g : GuestState) → state_of (with_count (k + 1) g) ≡ counted (state_of (with_count k g))
unfolding after_ticks
one_more k g =
    let clock : after_ticks (k + 1) g.clock ≡ after_tick (after_ticks k g.clock) = after_ticks-add k 1 g.clock in
    let steps : (g.steps + (k + 1)) % 2 ^ 32 ≡ ((g.steps + k) % 2 ^ 32 + 1) % 2 ^ 32 = omega arith in
    λ i. record (state_of g) { clock = clock i; steps = steps i }

no_more : (g : GuestState) → g.steps < 2 ^ 32 → with_count 0 g ≡ g
unfolding after_ticks
no_more g small = let same : (g.steps + 0) % 2 ^ 32 ≡ g.steps = omega (arith, small) in λ i. record g { steps = same i }

module _ (m : Machine) (s : Shadowed) (g : GuestState) (stands : StandsFor m.memory s g) (runs : g.halt ≡ None) (waits : g.waiting ≡ true) (none : due (state_of g) ≡ None) (small : g.steps < 2 ^ 32) where
  abbrev fewer : ℕ → ℕ → Left
  fewer n k = plain_left (n - k)

  next_fewer : (n k : ℕ) → fewer n (k + 1) ≡ plain_left (n - k - 1)
  next_fewer n k = let e : n - (k + 1) ≡ n - k - 1 = omega arith in ap plain_left e

  module _ {Port : Type 0} (may : Port → List ℕ → Type 0) (port : Port) (c : Counts) (n : ℕ) where
    abbrev idle_by : ℕ → Counts
    idle_by k = record c { idle = c.idle + k }

    idle_on : (k : ℕ) → k ≤ n → (IsTrue g.clock.run → k < ticks_to_wrap g.clock) → Proceeds may (plain_left n) (fewer n k) (underway port m s g c) (underway port m s (with_count k g) (idle_by k))
    idle_on zero few within =
        let same : idle_by 0 ≡ c = (let e : c.idle + 0 ≡ c.idle = omega arith in λ i. record c { idle = e i }) in
        subst (λ (x : GuestState). Proceeds may (plain_left n) (fewer n 0) (underway port m s g c) (underway port m s x (idle_by 0))) (sym (no_more g small))
        (subst (λ (x : Counts). Proceeds may (plain_left n) (fewer n 0) (underway port m s g c) (underway port m s g x)) (sym same) (nothing_yet may n (fewer n 0) port m s g c stands (let e : n - 0 ≡ n = omega arith in ap plain_left e)))
    idle_on (suc k) few within =
        let here : GuestState = with_count k g in
        let next : GuestState = with_count (k + 1) g in
        let before : Proceeds may (plain_left n) (fewer n k) (underway port m s g c) (underway port m s here (idle_by k)) = idle_on k (omega (arith, few)) (λ r. let w = within r in omega (arith, w)) in
        let one : Proceeds may (plain_left (n - k)) (fewer n (k + 1)) (underway port m s here (idle_by k)) (underway port m s next (record (idle_by k) { idle = c.idle + k + 1 })) =
        waits_on m s here next before.goes.stands (one_more k g) (record { pages = refl; base = refl; start = refl }) runs may port port (idle_by k) (n - k) (omega (arith, few)) (fewer n (k + 1)) (none_due g (k + 1) none (λ r. let w = within r in omega (arith, w))) waits (next_fewer n k) in
        let both : Proceeds may (plain_left n) (fewer n (k + 1)) (underway port m s g c) (underway port m s next (record (idle_by k) { idle = c.idle + k + 1 })) = then_more may (plain_left n) (fewer n k) (fewer n (k + 1)) port port port m s g c m s here (idle_by k) m s next (record (idle_by k) { idle = c.idle + k + 1 }) stands before one in
        let is : k + 1 ≡ suc k = omega arith in
        let sum : c.idle + k + 1 ≡ c.idle + suc k = omega arith in
        subst (λ j. Proceeds may (plain_left n) (fewer n j) (underway port m s g c) (underway port m s (with_count j g) (idle_by (suc k)))) is (subst (λ x. Proceeds may (plain_left n) (fewer n (k + 1)) (underway port m s g c) (underway port m s next (record c { idle = x }))) sum both)

  -- its tables stand for it all along
  stands_later : (k : ℕ) → StandsFor m.memory s (with_count k g)
  stands_later k = let a = stands.allowed in record {
    keeps = stands.keeps;
    serves = record { pages = stands.serves.pages; base = stands.serves.base; told = stands.serves.told };
    allowed = record { p0br = a.p0br; p0lr = a.p0lr; p1br = a.p1br; p1lr = a.p1lr; sbr = a.sbr; slr = a.slr; pcbb = a.pcbb; scbb = a.scbb; astlvl = a.astlvl; sisr = a.sisr; psl = a.psl; packets = a.packets; few = a.few };
  }

  pays_on : (n k : ℕ) → k ≤ n → (IsTrue g.clock.run → k < ticks_to_wrap g.clock) → PaysOn (plain_left n) (fewer n k) m s g m s (with_count k g)
  pays_on n zero few within = subst (λ (x : GuestState). PaysOn (plain_left n) (fewer n 0) m s g m s x) (sym (no_more g small)) (pays_nothing n (fewer n 0) m s g (let e : n - 0 ≡ n = omega arith in ap plain_left e))
  pays_on n (suc k) few within =
      let here : GuestState = with_count k g in
      let next : GuestState = with_count (k + 1) g in
      let before : PaysOn (plain_left n) (fewer n k) m s g m s here = pays_on n k (omega (arith, few)) (λ r. let w = within r in omega (arith, w)) in
      let one : PaysOn (plain_left (n - k)) (fewer n (k + 1)) m s here m s next =
      pays_waiting m s here next (stands_later k) (one_more k g) (record { pages = refl; base = refl; start = refl }) runs (n - k) (omega (arith, few)) (fewer n (k + 1)) (none_due g (k + 1) none (λ r. let w = within r in omega (arith, w))) waits (next_fewer n k) in
      let is : k + 1 ≡ suc k = omega arith in
      subst (λ j. PaysOn (plain_left n) (fewer n j) m s g m s (with_count j g)) is (pays_then (plain_left n) (fewer n k) (fewer n (k + 1)) m s g m s here m s next before one)

-- The first of them is counted already.
module _ (m : Machine) (s : Shadowed) (g g1 g2 : GuestState) (stands : StandsFor m.memory s g) (state : state_of g1 ≡ counted (state_of g)) (place : HasPlace g.pages g.base g.start g1) (runs : g.halt ≡ None) (n : ℕ) (some : 1 ≤ n) (left : Left) (c c2 : Counts) (none : due (state_of g1) ≡ None) (waits : g1.waiting ≡ true) (x : Idles n left g1 c g2 c2) where
  still_runs : g1.halt ≡ None
  still_runs = ap (λ (y : State). y.halt) state ∙ runs

  stands_now : StandsFor m.memory s g1
  stands_now = counted_stands m s g g1 stands state place runs

  few : x.more ≤ n - 1
  few = let most = x.most in omega (arith, most, some)

  left_now : left ≡ plain_left (n - 1 - x.more)
  left_now = let most = x.most in let e : n - (x.more + 1) ≡ n - 1 - x.more = omega (arith, most, some) in x.left_is ∙ ap plain_left e

  pub idles_on : {Port : Type 0} (may : Port → List ℕ → Type 0) (port : Port) → Proceeds may (plain_left n) left (underway port m s g c) (underway port m s g2 c2)
  idles_on may port =
      let c1 : Counts = record c { idle = c.idle + 1 } in
      let first : Proceeds may (plain_left n) (plain_left (n - 1)) (underway port m s g c) (underway port m s g1 c1) = waits_on m s g g1 stands state place runs may port port c n some (plain_left (n - 1)) none waits refl in
      let others : Proceeds may (plain_left (n - 1)) (plain_left (n - 1 - x.more)) (underway port m s g1 c1) (underway port m s (with_count x.more g1) (record c1 { idle = c.idle + 1 + x.more })) = idle_on m s g1 stands_now still_runs waits none x.small may port c1 (n - 1) x.more few x.within in
      let all = then_more may (plain_left n) (plain_left (n - 1)) (plain_left (n - 1 - x.more)) port port port m s g c m s g1 c1 m s (with_count x.more g1) (record c1 { idle = c.idle + 1 + x.more }) stands first others in
      let sum : c.idle + 1 + x.more ≡ c.idle + (x.more + 1) = omega arith in
      let counts : record c1 { idle = c.idle + 1 + x.more } ≡ c2 = (λ i. record c { idle = sum i }) ∙ sym x.counts in
      subst (λ (l : Left). Proceeds may (plain_left n) l (underway port m s g c) (underway port m s g2 c2)) (sym left_now)
      (subst (λ (h : GuestState). Proceeds may (plain_left n) (plain_left (n - 1 - x.more)) (underway port m s g c) (underway port m s h c2)) (sym x.guest)
      (subst (λ (d : Counts). Proceeds may (plain_left n) (plain_left (n - 1 - x.more)) (underway port m s g c) (underway port m s (with_count x.more g1) d)) counts all))

  pub pays_idle : PaysOn (plain_left n) left m s g m s g2
  pays_idle =
      let first : PaysOn (plain_left n) (plain_left (n - 1)) m s g m s g1 = pays_waiting m s g g1 stands state place runs n some (plain_left (n - 1)) none waits refl in
      let others : PaysOn (plain_left (n - 1)) (plain_left (n - 1 - x.more)) m s g1 m s (with_count x.more g1) = pays_on m s g1 stands_now still_runs waits none x.small (n - 1) x.more few x.within in
      subst (λ (l : Left). PaysOn (plain_left n) l m s g m s g2) (sym left_now)
      (subst (λ (h : GuestState). PaysOn (plain_left n) (plain_left (n - 1 - x.more)) m s g m s h) (sym x.guest) (pays_then (plain_left n) (plain_left (n - 1)) (plain_left (n - 1 - x.more)) m s g m s g1 m s (with_count x.more g1) first others))

  pub idle_falls : to_do left s < to_do (plain_left n) s
  idle_falls = let most = x.most in subst (λ (l : Left). to_do l s < to_do (plain_left n) s) (sym left_now) (omega (arith, few, some))
