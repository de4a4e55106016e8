-- The first touches that count the misses of one guarded instruction.
use Rattle.std.proofs.Common.{◌≡◌, ℕ, ◌+◌, ◌%◌, ◌^◌, ◌≤◌, Bool, true, false, List, ◌++◌, Option, Some, None, is_some, refl, ap, ◌∙◌, sym, subst, arith}
use Rattle.vax_hw.specs.Machine.{Machine}
use Rattle.vax_hw.specs.Real.{misses_after}
use Rattle.vax_hw.specs.declared.world.Exit.{Exit}
use Rattle.vax_hw.specs.declared.world.Exit.TheVariants.{Arithmetic, Budget, Denied, Emulate, Modify, NotValid, Refused}
use Rattle.vm_exception.specs.Standing.{standing}
use Rattle.vm_stepping.specs.Guarded.{IsGuarded, StaysGuarded, StepsGuarded}
use Rattle.vm_stepping.proofs.Completing.{guest_same}
use Rattle.vm_exception.specs.Made.{MakesStep}
use Rattle.vm_simulation_laws.specs.Misses.{KeepsFilled}
use Rattle.vm_simulation_laws.specs.Moves.{Drops, Moves}
use Rattle.vm_simulation_laws.specs.Paid.{IsSettled, Misses, Owes}
use Rattle.vm_simulation_laws.specs.Present.{to_miss}
use Rattle.vm_simulation_laws.proofs.Fitting.{filled_stay}
use Rattle.vm_simulation_laws.proofs.Own.{moves_alone}
use Rattle.vm_shadow.specs.Shadowed.{Shadowed, read_at}
use Rattle.vm_shadow.specs.StandsFor.{StandsFor}
use Rattle.vm_simulation_laws.specs.Bursts.{missed_by}
use Rattle.vm_simulation_laws.specs.Laws.{frames_claimed}
use Rattle.vm_state.specs.Initiate.{initiate}
use Rattle.vm_state.specs.Partition.{guest_of}
use Rattle.vm_state.specs.State.{Guest, tables_of}
use Rattle.vm_state.specs.Step as steps
use Rattle.vm_state.specs.Step.{Kind, Stepped, executed, initiated_in, trapped_in}
use Rattle.vm_state.specs.Touches.{Touching, touching_step}
use Rattle.vm_state.specs.declared.exception.Exc.TheVariants as excs
use Rattle.vm_state.specs.declared.guest_state.GuestState.{GuestState}
use Rattle.vm_stepping.specs.Pays.{OwesStill, PaysFor, Settles}
use Rattle.vm_stepping.proofs.Meeting.{stays_by}
use Rattle.vm_stepping.proofs.Paying.{among_dropped, dropped_then, step_settles}
use Rattle.vm_stepping.proofs.PayingMet.{none_within}
use Rattle.vm_simulation_laws.specs.Touched.{touches_now}

-- what a trap that is initiated after an instruction drops is beside what that wrote
pub trap_moves : (frames : List ℕ) (s s1 : Shadowed) (x : Stepped) (m1 : Machine) (g1 : GuestState) (m2 : Machine) (s2 : Shadowed) (g2 : GuestState) → Drops frames s s1 → MakesStep x m1 s1 g1 m2 s2 g2 → Moves (frames ++ x.written) x.guest.state.tables s s2
trap_moves frames s s1 x m1 g1 m2 s2 g2 d k =
    moves_alone (frames ++ x.written) m2.memory s s2 x.guest.state.tables k.stands.keeps.fits (k.stands.serves.told ∙ ap (λ (h : Guest). h.state.tables) k.guest) (dropped_then frames x.written s s1 s2 d (among_dropped x.written s1 s2 k.drops))

module _ (m : Machine) (s : Shadowed) (g : GuestState) (terms : ℕ) (m1 : Machine) (s1 : Shadowed) (g1 : GuestState) (stands : StandsFor m.memory s g) where
  abbrev here : Guest
  here = guest_of m.memory g

  steps_drop : (trap : Option ℕ) → StepsGuarded m s g terms trap m1 s1 g1 → Drops (frames_claimed here) s s1
  steps_drop trap k = record { each = k.each; told = ap (λ (x : Shadowed). x.told) k.rest; held = ap (λ (x : Shadowed). x.held) k.rest }

  pub guarded_pays : StepsGuarded m s g terms None m1 s1 g1 → Settles 0 m s g m1 s1
  guarded_pays k =
      step_settles 0 m s g m1 s1 (record (trapped_in (steps.Plain k.term) (frames_claimed here) (guest_of m1.memory g1) None) { touched = touches_now here }) stands k.step refl k.found
      (moves_alone (frames_claimed here) m1.memory s s1 (tables_of g1) k.stands.keeps.fits k.stands.serves.told (steps_drop None k)) (none_within s here) k.misses

  -- with its trap after it
  pub trapped_pays : (kind : ℕ) (m2 : Machine) (s2 : Shadowed) (g2 : GuestState) → StepsGuarded m s g terms (Some kind) m1 s1 g1 → ((k : Kind) → MakesStep (initiated_in k (guest_of m1.memory g1) (initiate (guest_of m1.memory g1) (excs.Arithmetic kind))) m1 s1 g1 m2 s2 g2) → Settles 0 m s g m2 s2
  trapped_pays kind m2 s2 g2 k makes =
      let x = initiated_in (steps.Plain k.term) (guest_of m1.memory g1) (initiate (guest_of m1.memory g1) (excs.Arithmetic kind)) in
      step_settles 0 m s g m2 s2 (record (trapped_in (steps.Plain k.term) (frames_claimed here) (guest_of m1.memory g1) (Some kind)) { touched = touches_now here }) stands k.step refl k.found
      (trap_moves (frames_claimed here) s s1 x m1 g1 m2 s2 g2 (steps_drop (Some kind) k) (makes (steps.Plain k.term))) (none_within s here)
      (ap (λ (y : Machine). y.misses) (makes (steps.Plain k.term)).only.rest ∙ k.misses)

-- It didn't retire: the handling of its exit counts the misses.
one_more : (e : Exit) (n : ℕ) → misses_after n e % 2 ^ 64 ≡ (n + missed_by e) % 2 ^ 64
one_more Budget n = ap (λ (x : ℕ). x % 2 ^ 64) (omega arith)
one_more (Arithmetic kind) n = ap (λ (x : ℕ). x % 2 ^ 64) (omega arith)
one_more (NotValid va write) n = omega arith
one_more (Denied va write) n = ap (λ (x : ℕ). x % 2 ^ 64) (omega arith)
one_more (Modify va) n = ap (λ (x : ℕ). x % 2 ^ 64) (omega arith)
one_more (Emulate t) n = ap (λ (x : ℕ). x % 2 ^ 64) (omega arith)
one_more (Refused r) n = ap (λ (x : ℕ). x % 2 ^ 64) (omega arith)

none_more : (n : ℕ) → n ≡ 0 + n
none_more n = omega arith

pub misses_then : (a b x y z : ℕ) → y % 2 ^ 64 ≡ (x + a) % 2 ^ 64 → z % 2 ^ 64 ≡ (y + b) % 2 ^ 64 → z % 2 ^ 64 ≡ (x + (a + b)) % 2 ^ 64
misses_then a b x y z e f = grind arith

module _ (m : Machine) (s : Shadowed) (g : GuestState) (e : Exit) (m1 : Machine) (s1 : Shadowed) (k : StaysGuarded m s g e m1 s1 g) (m2 : Machine) (s2 : Shadowed) where
  kept : KeepsFilled s s1
  kept = record { each = λ n h. ap (λ (x : Shadowed). is_some (read_at x n)) k.rest ∙ h; slot = ap (λ (x : Shadowed). x.slot) k.rest; held = ap (λ (x : Shadowed). x.held) k.rest }

  same : guest_of m1.memory g ≡ guest_of m.memory g
  same = guest_same m m1 g k.own

  first : Misses (missed_by e) m m1
  first = ap (λ (x : Machine). x.misses % 2 ^ 64) k.machine ∙ one_more e m.misses

  -- outstanding misses are still outstanding
  owes_on : (owed : ℕ) (t : Touching) → Owes owed (touches_now (guest_of m.memory g)) s t → Owes owed (touches_now (guest_of m1.memory g)) s1 t
  owes_on owed t o =
      let less : to_miss s1 (touches_now (guest_of m.memory g)) ≤ to_miss s (touches_now (guest_of m.memory g)) = (filled_stay s s1 t.present kept).fewer (touches_now (guest_of m.memory g)) in
      subst (λ h. Owes owed (touches_now h) s1 t) (sym same) (record { has = (filled_stay s s1 t.present kept).has o.has; within = omega (arith, less, o.within) })

  settles_after : Settles (missed_by e) m1 s1 g m2 s2 → Settles 0 m s g m2 s2
  settles_after x = record {
    more = missed_by e + x.more;
    misses = misses_then (missed_by e) x.more m.misses m1.misses m2.misses first x.misses;
    settles = λ owed t o. subst (λ n. IsSettled owed n t (touching_step (guest_of m.memory g) (executed (guest_of m.memory g)) t) s2) (none_more (missed_by e + x.more))
        (subst (λ h. IsSettled owed (missed_by e + x.more) t (touching_step h (executed h) t) s2) same (x.settles owed t (owes_on owed t o)));
  }

  owes_after : OwesStill (missed_by e) m1 s1 g m2 s2 → OwesStill 0 m s g m2 s2
  owes_after x = record {
    more = missed_by e + x.more;
    misses = misses_then (missed_by e) x.more m.misses m1.misses m2.misses first x.misses;
    owes = λ owed t o. subst (λ n. Owes (owed + n) (touches_now (guest_of m.memory g)) s2 t) (none_more (missed_by e + x.more))
        (subst (λ h. Owes (owed + (missed_by e + x.more)) (touches_now h) s2 t) same (x.owes owed t (owes_on owed t o)));
  }

  pub pays_after : (b : Bool) → PaysFor b (missed_by e) (standing m1 s1 g) m2 s2 → PaysFor b 0 (standing m s g) m2 s2
  pays_after true x = settles_after x
  pays_after false x = owes_after x

-- by the exit of the guarded run
module _ (m : Machine) (s : Shadowed) (g : GuestState) (terms : ℕ) (m1 : Machine) (s1 : Shadowed) (g1 : GuestState) (stands : StandsFor m.memory s g) (e : Exit) (k : IsGuarded e terms (standing m s g) (standing m1 s1 g1)) where
  pub budget_pays : e ≡ Budget → Settles 0 m s g m1 s1
  budget_pays is = guarded_pays m s g terms m1 s1 g1 stands (subst (λ x. IsGuarded x terms (standing m s g) (standing m1 s1 g1)) is k)

  module _ (m2 : Machine) (s2 : Shadowed) (g2 : GuestState) where
    pub trap_pays : (kind : ℕ) → e ≡ Arithmetic kind → ((k : Kind) → MakesStep (initiated_in k (guest_of m1.memory g1) (initiate (guest_of m1.memory g1) (excs.Arithmetic kind))) m1 s1 g1 m2 s2 g2) → Settles 0 m s g m2 s2
    trap_pays kind is makes = trapped_pays m s g terms m1 s1 g1 stands kind m2 s2 g2 (subst (λ x. IsGuarded x terms (standing m s g) (standing m1 s1 g1)) is k) makes

    pub other_pays : (b : Bool) → (e ≡ Budget → ⊥) → ((kind : ℕ) → e ≡ Arithmetic kind → ⊥) → PaysFor b (missed_by e) (standing m1 s1 g1) m2 s2 → PaysFor b 0 (standing m s g) m2 s2
    other_pays b not_budget not_arithmetic pays =
        let stays = stays_by m s g terms m1 s1 g1 e not_budget not_arithmetic k in
        let own : g1 ≡ g = stays.guest in
        pays_after m s g e m1 s1 (subst (λ x. StaysGuarded m s g e m1 s1 x) own stays) m2 s2 b (subst (λ x. PaysFor b (missed_by e) (standing m1 s1 x) m2 s2) own pays)
