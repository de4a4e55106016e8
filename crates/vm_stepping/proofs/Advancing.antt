-- All steps, one part after another.
use Rattle.std.proofs.Common.{◌≡◌, ℕ, Bool, true, false, List, [], ◌++◌, append-nil, append_assoc, refl, ap, ◌∙◌, sym, subst, arith}
use Rattle.std.specs.Prelude.{if◌then◌else◌}
use Rattle.vax_hw.specs.Machine.{Machine}
use Rattle.vm_console.proofs.Composes.{Appends-append, Appends-nil}
use Rattle.vm_shadow.specs.Shadowed.{Shadowed}
use Rattle.vm_shadow.specs.StandsFor.{StandsFor}
use Rattle.vm_simulation_laws.specs.Bursts.{after_counted}
use Rattle.vm_state.specs.Run.{Run, after_steps}
use Rattle.vm_state.specs.declared.guest_state.GuestState.{GuestState}
use Rattle.vm_stepping.specs.Advances.{Advances, Proceeds, after_left_steps}
use Rattle.vm_stepping.specs.Made.{no_counts, run_of, underway}
use Rattle.vm_stepping.specs.declared.counts.Counts.{Counts}
use Rattle.vm_stepping.specs.declared.turns.Left.{Left}
use Rattle.vm_stepping.proofs.Going.{goes_then, retired_then}
use Rattle.vm_stepping.proofs.Running.{not_counted, plain_left}

pub nothing_yet : {Port : Type 0} (may : Port → List ℕ → Type 0) (n : ℕ) (left : Left) (port : Port) (m : Machine) (s : Shadowed) (g : GuestState) (c : Counts) → StandsFor m.memory s g → left ≡ plain_left n → Proceeds may (plain_left n) left (underway port m s g c) (underway port m s g c)
nothing_yet may n left port m s g c stands e = subst (λ x. Proceeds may (plain_left n) x (underway port m s g c) (underway port m s g c)) (sym e) (record {
  text = [];
  run = λ shown. ap (λ x. after_steps n (run_of m.memory g c x)) (sym (append-nil shown));
  shows = Appends-nil may port;
  goes = record { stands = stands; only = record { size = refl; other = λ p own tables. refl }; place = record { pages = refl; base = refl; start = refl }; tables = refl };
  kinds = refl;
  fewer = omega arith;
  retired = record { retired = refl; trail = refl };
  begun = λ same. absurd (not_counted same);
})

pub then_more : {Port : Type 0} (may : Port → List ℕ → Type 0) (l l1 l2 : Left) (p p1 p2 : Port) (m : Machine) (s : Shadowed) (g : GuestState) (c : Counts) (m1 : Machine) (s1 : Shadowed) (g1 : GuestState) (c1 : Counts) (m2 : Machine) (s2 : Shadowed) (g2 : GuestState) (c2 : Counts) →
    StandsFor m.memory s g → Proceeds may l l1 (underway p m s g c) (underway p1 m1 s1 g1 c1) → Proceeds may l1 l2 (underway p1 m1 s1 g1 c1) (underway p2 m2 s2 g2 c2) → Proceeds may l l2 (underway p m s g c) (underway p2 m2 s2 g2 c2)
then_more may l l1 l2 p p1 p2 m s g c m1 s1 g1 c1 m2 s2 g2 c2 stands x y =
    let one = x.kinds in
    let two = y.kinds in
    let fewer_one = x.fewer in
    let fewer_two = y.fewer in
    record {
      text = x.text ++ y.text;
      run = λ shown. x.run shown ∙ y.run (shown ++ x.text) ∙ ap (λ z. after_left_steps l2 (run_of m2.memory g2 c2 z)) (append_assoc shown x.text y.text);
      shows = Appends-append may p p1 p2 x.text y.text x.shows y.shows;
      goes = goes_then m s g m1 s1 g1 m2 s2 g2 stands x.goes y.goes;
      kinds = omega (arith, one, two);
      fewer = omega (arith, fewer_one, fewer_two);
      retired = retired_then m c m1 c1 m2 c2 x.retired y.retired;
      begun = y.begun;
    }

-- none is left
none_after : (n : ℕ) (b : Bool) (run : Run) → n ≡ 0 → (if b then after_counted n run else after_steps n run) ≡ run
none_after n true run e = ap (λ x. after_counted x run) e
none_after n false run e = ap (λ x. after_steps x run) e

pub all_done : {Port : Type 0} (may : Port → List ℕ → Type 0) (n : ℕ) (left : Left) (p p1 : Port) (m : Machine) (s : Shadowed) (g : GuestState) (m1 : Machine) (s1 : Shadowed) (g1 : GuestState) (c1 : Counts) → left.steps ≡ 0 → Proceeds may (plain_left n) left (underway p m s g no_counts) (underway p1 m1 s1 g1 c1) → Advances may n p p1 m s g m1 s1 g1 c1
all_done may n left p p1 m s g m1 s1 g1 c1 e x =
    let kinds = x.kinds in
    record {
      text = x.text;
      run = x.run [] ∙ none_after left.steps left.counted (run_of m1.memory g1 c1 x.text) e;
      shows = x.shows;
      goes = x.goes;
      kinds = omega (arith, kinds, e);
      retired = x.retired;
    }
