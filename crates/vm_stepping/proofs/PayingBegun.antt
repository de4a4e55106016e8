-- Steps that reach no instruction have no misses to count; and all steps, one part after another.
use Rattle.std.proofs.Common.{◌≡◌, ℕ, zero, suc, ◌+◌, ◌-◌, ◌≤◌, Bool, true, false, [], List, Option, Some, None, is_some, refl, ap, ◌∙◌, sym, subst, arith}
use Rattle.vax_hw.specs.Machine.{Machine}
use Rattle.vax_table.specs.Interaction.{IsIn}
use Rattle.vm_simulation_laws.specs.Moves.{Moves}
use Rattle.vm_simulation_laws.specs.Paid.{Pays, touching_counted}
use Rattle.vm_simulation_laws.specs.Present.{HasPresent, after_touches}
use Rattle.vm_simulation_laws.proofs.Fitting.{steps_keep}
use Rattle.vm_simulation_laws.proofs.Paying.{nothing_owed}
use Rattle.vm_shadow.specs.Shadowed.{Shadowed}
use Rattle.vm_shadow.specs.StandsFor.{StandsFor}
use Rattle.vm_state.specs.Initiate.{Initiation, KernelStackBad, StopsGuest, Taken, initiate}
use Rattle.vm_state.specs.Interrupts.{Source, due, interrupt_of}
use Rattle.vm_state.specs.Partition.{guest_of}
use Rattle.vm_state.specs.Run.{Run}
use Rattle.vm_state.specs.State.{Guest, HasPlace, State, state_of}
use Rattle.vm_state.specs.Step as steps
use Rattle.vm_state.specs.Step.{Stepped, Touched, counted, executed, interrupted, step, stepped}
use Rattle.vm_state.specs.Touches.{Touching, touching_step, touching_steps}
use Rattle.vm_state.specs.declared.guest_state.GuestState.{GuestState}
use Rattle.vm_state.proofs.StepCases.{by_interrupt, unless_waiting}
use Rattle.vm_stepping.specs.Advances.{IsBegun}
use Rattle.vm_stepping.specs.Made.{Made, underway}
use Rattle.vm_stepping.specs.Pays.{OwesBy, PaysOn, touching_left}
use Rattle.vm_stepping.specs.declared.counts.Counts.{Counts}
use Rattle.vm_stepping.specs.declared.turns.Left.{Left}
use Rattle.vm_stepping.proofs.Beginning.{counted_is, now, stands_still, step_is}
use Rattle.vm_stepping.proofs.Paying.{no_more, nothing_moves}
use Rattle.vm_stepping.proofs.PayingAlone.{misses_then}
use Rattle.vm_stepping.proofs.Running.{counted_left, not_counted, plain_left}
use Rattle.vm_simulation_laws.specs.Touched.{touches_now}
use Rattle.vm_exception.specs.Made.{interrupted_by}

-- first touches of one step, and of those after it
one_touching : (n : ℕ) (h : Guest) (x : Stepped) (t : Touching) → 1 ≤ n → step h ≡ x → touching_steps n h t ≡ touching_steps (n - 1) x.guest (touching_step h x t)
one_touching zero h x t some e = absurd (omega arith)
one_touching (suc n) h x t some e = let is : n ≡ suc n - 1 = omega arith in ap (λ (y : Stepped). touching_steps n y.guest (touching_step h y t)) e ∙ ap (λ k. touching_steps k x.guest (touching_step h x t)) is

module _ (m : Machine) (s : Shadowed) (g : GuestState) (stands : StandsFor m.memory s g) where
  abbrev h : Guest
  h = guest_of m.memory g

  -- a guest that has stopped
  rests_so : (n : ℕ) (t : Touching) → step h ≡ stepped h [] steps.Stopped [] → HasPresent s t.present → HasPresent s (touching_steps n h t).present × (t.count ≤ (touching_steps n h t).count)
  rests_so zero t is all = (all, omega arith)
  rests_so (suc n) t is all =
      let x : Stepped = stepped h [] steps.Stopped [] in
      let here : HasPresent s (touching_step h x t).present = steps_keep m.memory s g x t s stands.keeps stands.serves (λ page j. absurd j) (nothing_moves [] m.memory s g stands) all in
      let rest = rests_so n (touching_step h x t) is here in
      subst (λ (y : Stepped). HasPresent s (touching_steps n y.guest (touching_step h y t)).present × (t.count ≤ (touching_steps n y.guest (touching_step h y t)).count)) (sym is) rest

  pub pays_standing : (n code : ℕ) (left : Left) → g.halt ≡ Some code → left ≡ plain_left 0 → PaysOn (plain_left n) left m s g m s g
  pays_standing n code left halted e = subst (λ x. PaysOn (plain_left n) x m s g m s g) (sym e) (record {
    missed = 0;
    misses = no_more m m refl;
    goes_on = λ owed t o. let rest = rests_so n t (stands_still h code halted) o.0 in record { at = touching_steps n h t; still = 0; owes = (rest.0, refl); counts = omega (arith, rest.1, o.1); is = refl };
  })

  -- a step that touches nothing
  pub pays_untouched : (n : ℕ) (x : Stepped) (m2 : Machine) (s2 : Shadowed) (g2 : GuestState) (left : Left) → 1 ≤ n → step h ≡ x → x.touched ≡ record { found = []; lacking = [] } → Moves x.written x.guest.state.tables s s2 → m2.misses ≡ m.misses → x.guest ≡ guest_of m2.memory g2 → left ≡ plain_left (n - 1) → PaysOn (plain_left n) left m s g m2 s2 g2
  pays_untouched n x m2 s2 g2 left some is none moves same guest e = subst (λ y. PaysOn (plain_left n) y m s g m2 s2 g2) (sym e) (record {
    missed = 0;
    misses = no_more m m2 same;
    goes_on = λ owed t o.
        let as_many : t.count ≤ (after_touches x.touched t).count = subst (λ (y : Touched). t.count ≤ (after_touches y t).count) (sym none) (omega arith) in
        record {
          at = touching_step h x t;
          still = 0;
          owes = (steps_keep m.memory s g x t s2 stands.keeps stands.serves (λ page j. absurd (subst (λ (y : Touched). IsIn page y.found) none j)) moves o.0, refl);
          counts = omega (arith, as_many, o.1);
          is = one_touching n h x t some is ∙ ap (λ (z : Guest). touching_steps (n - 1) z (touching_step h x t)) guest;
        };
  })

interrupt_untouched : (h : Guest) (source : Source) (i : Initiation) → (interrupted h source i).touched ≡ record { found = []; lacking = [] }
interrupt_untouched h source (Taken g written) = refl
interrupt_untouched h source (KernelStackBad g written) = refl
interrupt_untouched h source (StopsGuest stop) = refl

-- the step is counted
module _ (m : Machine) (s : Shadowed) (g : GuestState) (g1 : GuestState) (stands : StandsFor m.memory s g) (state : state_of g1 ≡ counted (state_of g)) (place : HasPlace g.pages g.base g.start g1) (runs : g.halt ≡ None) (n : ℕ) (some : 1 ≤ n) where
  abbrev begun : Guest
  begun = now m s g g1 stands state place runs

  begun_is : guest_of m.memory g1 ≡ begun
  begun_is = counted_is m s g g1 stands state place runs

  comes : (o : Option Source) (x : Stepped) → due (state_of g1) ≡ o → by_interrupt begun o ≡ x → step (guest_of m.memory g) ≡ x
  comes o x e is = step_is m s g g1 stands state place runs o e ∙ is

  pub pays_interrupt : {Port : Type 0} (may : Port → List ℕ → Type 0) (port port' : Port) (c c2 : Counts) (source : Source) (m2 : Machine) (s2 : Shadowed) (g2 : GuestState) (left : Left) → due (state_of g1) ≡ Some source
      → Made may (interrupted_by (guest_of m.memory g1) source) (underway port m s g1 c) (underway port' m2 s2 g2 c2) → left ≡ plain_left (n - 1) → PaysOn (plain_left n) left m s g m2 s2 g2
  pays_interrupt may port port' c c2 source m2 s2 g2 left pending made e =
      let x = interrupted_by (guest_of m.memory g1) source in
      pays_untouched m s g stands n x m2 s2 g2 left some (comes (Some source) x pending (ap (λ y. interrupted_by y source) (sym begun_is)))
      (interrupt_untouched (guest_of m.memory g1) source (initiate (guest_of m.memory g1) (interrupt_of source))) made.moves made.misses (ap (λ (r : Run). r.guest) (made.run [])) e

  waiting_now : (b : Bool) → g1.waiting ≡ b → (counted (state_of g)).waiting ≡ b
  waiting_now b waits = sym (ap (λ (y : State). y.waiting) state) ∙ waits

  pub pays_waiting : (left : Left) → due (state_of g1) ≡ None → g1.waiting ≡ true → left ≡ plain_left (n - 1) → PaysOn (plain_left n) left m s g m s g1
  pays_waiting left none waits e =
      pays_untouched m s g stands n (stepped begun [] steps.Idle []) m s g1 left some (comes None (stepped begun [] steps.Idle []) none (ap (unless_waiting begun) (waiting_now true waits)))
      refl (nothing_moves [] m.memory s g stands) refl (sym begun_is) e

  -- its instruction is reached
  begins_touching : (k : ℕ) (t : Touching) → 1 ≤ k → step (guest_of m.memory g) ≡ executed begun → touching_steps k (guest_of m.memory g) t ≡ touching_counted k begun t
  begins_touching zero t more is = absurd (omega arith)
  begins_touching (suc k) t more is = ap (λ (y : Stepped). touching_steps k y.guest (touching_step (guest_of m.memory g) y t)) is

  pub pays_beginning : due (state_of g1) ≡ None → g1.waiting ≡ false → PaysOn (plain_left n) (counted_left n) m s g m s g1
  pays_beginning none waits = record {
    missed = 0;
    misses = no_more m m refl;
    goes_on = λ owed t o. record {
      at = t;
      still = 0;
      owes = nothing_owed m.memory (touches_now (guest_of m.memory g1)) s t stands.keeps.fits o.0;
      counts = omega (arith, o.1);
      is = begins_touching n t some (comes None (executed begun) none (ap (unless_waiting begun) (waiting_now false waits))) ∙ ap (λ (z : Guest). touching_counted n z t) (sym begun_is);
    };
  }

pub pays_halted : (m : Machine) (s : Shadowed) (g : GuestState) (n : ℕ) (left : Left) → StandsFor m.memory s g → is_some g.halt ≡ true → left ≡ plain_left 0 → PaysOn (plain_left n) left m s g m s g
pays_halted m s g n left stands halted e = by_halt g.halt refl halted
  where
    by_halt : (o : Option ℕ) → g.halt ≡ o → is_some o ≡ true → PaysOn (plain_left n) left m s g m s g
    by_halt None is some = absurd (not_counted some)
    by_halt (Some code) is some = pays_standing m s g stands n code left is e

-- the steps that are left, by their parts
pub same_left : (left left' : Left) (m : Machine) (s : Shadowed) (g : GuestState) (m' : Machine) (s' : Shadowed) (g' : GuestState) {b : Bool} → left.counted ≡ b → PaysOn (record { steps = left.steps; counted = b }) left' m s g m' s' g' → PaysOn left left' m s g m' s' g'
same_left left left' m s g m' s' g' e x = subst (λ (b : Bool). PaysOn (record { steps = left.steps; counted = b }) left' m s g m' s' g') (sym e) x

-- All steps.
pub pays_nothing : (n : ℕ) (left : Left) (m : Machine) (s : Shadowed) (g : GuestState) → left ≡ plain_left n → PaysOn (plain_left n) left m s g m s g
pays_nothing n left m s g e = subst (λ x. PaysOn (plain_left n) x m s g m s g) (sym e) (record {
  missed = 0;
  misses = no_more m m refl;
  goes_on = λ owed t o. record { at = t; still = owed; owes = o; counts = omega arith; is = refl };
})

pub pays_then : (l l1 l2 : Left) (m : Machine) (s : Shadowed) (g : GuestState) (m1 : Machine) (s1 : Shadowed) (g1 : GuestState) (m2 : Machine) (s2 : Shadowed) (g2 : GuestState) → PaysOn l l1 m s g m1 s1 g1 → PaysOn l1 l2 m1 s1 g1 m2 s2 g2 → PaysOn l l2 m s g m2 s2 g2
pays_then l l1 l2 m s g m1 s1 g1 m2 s2 g2 x y = record {
  missed = x.missed + y.missed;
  misses = misses_then x.missed y.missed m.misses m1.misses m2.misses x.misses y.misses;
  goes_on = λ owed t o.
      let a = x.goes_on owed t o in
      let b = y.goes_on a.still a.at a.owes in
      let one : t.count + owed + x.missed ≤ a.at.count + a.still = a.counts in
      let two : a.at.count + a.still + y.missed ≤ b.at.count + b.still = b.counts in
      record { at = b.at; still = b.still; owes = b.owes; counts = omega (arith, one, two); is = a.is ∙ b.is };
}

-- none is left, and no miss is outstanding
owes_none : (b : Bool) (n still : ℕ) (h : Guest) (s : Shadowed) (u : Touching) → n ≡ 0 → (b ≡ true → 1 ≤ n) → OwesBy b still h s u → HasPresent s u.present × (still ≡ 0) × (touching_left b n h u ≡ u)
owes_none true n still h s u none more o = absurd (omega (arith, none, more refl))
owes_none false n still h s u none more o = (o.0, o.1, ap (λ k. touching_steps k h u) none)

pub all_paid : (n : ℕ) (left : Left) (m : Machine) (s : Shadowed) (g : GuestState) (m' : Machine) (s' : Shadowed) (g' : GuestState) → left.steps ≡ 0 → IsBegun left g' → PaysOn (plain_left n) left m s g m' s' g' → Pays (touching_steps n (guest_of m.memory g)) m s m' s'
all_paid n left m s g m' s' g' none begun x = record {
  missed = x.missed;
  misses = x.misses;
  counts = λ t all.
      let a = x.goes_on 0 t (all, refl) in
      let e = ends t all in
      let counts : t.count + 0 + x.missed ≤ a.at.count + a.still = a.counts in
      subst (λ (u : Touching). t.count + x.missed ≤ u.count) (sym (a.is ∙ e.2)) (omega (arith, counts, e.1));
  has = λ t all. let a = x.goes_on 0 t (all, refl) in let e = ends t all in subst (λ (u : Touching). HasPresent s' u.present) (sym (a.is ∙ e.2)) e.0;
}
  where
    ends : (t : Touching) → (all : HasPresent s t.present) → let a = x.goes_on 0 t (all, refl) in HasPresent s' a.at.present × (a.still ≡ 0) × (touching_left left.counted left.steps (guest_of m'.memory g') a.at ≡ a.at)
    ends t all = let a = x.goes_on 0 t (all, refl) in owes_none left.counted left.steps a.still (guest_of m'.memory g') s' a.at none (λ counted. (begun counted).0) a.owes
