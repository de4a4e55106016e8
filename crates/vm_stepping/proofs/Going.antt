-- What steps of a guest leave, one after another.
use Rattle.std.proofs.Common.{◌≡◌, ℕ, zero, suc, ◌+◌, ◌*◌, ◌%◌, ◌^◌, ◌<◌, ◌≤◌, ◌⊎◌, Bool, true, false, not, List, ap, ◌∙◌, sym, subst, arith}
use Rattle.std.specs.Prelude.{if◌then◌else◌, is_some}
use Rattle.vax_hw.specs.Machine.{Machine}
use Rattle.vm_stepping.specs.Guarded.{OnlyBoth, count_below}
use Rattle.vm_shadow.specs.Layout.{all_entries}
use Rattle.vm_shadow.specs.Shadowed.{Shadowed, read_at}
use Rattle.vm_shadow.specs.StandsFor.{StandsFor}
use Rattle.vm_simulation_laws.specs.Bursts.{after_counted}
use Rattle.vm_state.specs.Run.{Run, after_step, after_steps}
use Rattle.vm_state.specs.Step.{executed, step}
use Rattle.vm_state.specs.declared.guest_state.GuestState.{GuestState}
use Rattle.vm_stepping.specs.Made.{CountsRetired, KeepsRefinement, unfilled}
use Rattle.vm_stepping.specs.declared.counts.Counts.{Counts}

both_then : (s s1 : Shadowed) (a b c : List ℕ) → s1.base ≡ s.base → s1.pages ≡ s.pages → s1.at ≡ s.at → OnlyBoth s a b → OnlyBoth s1 b c → OnlyBoth s a c
both_then s s1 a b c base pages at x y = record {
  size = y.size ∙ x.size;
  other = λ p own tables. y.other p (subst (λ n. (p < 512 * n) ⊎ (512 * (n + s1.pages) ≤ p)) (sym base) (subst (λ n. (p < 512 * s.base) ⊎ (512 * (s.base + n) ≤ p)) (sym pages) own)) (subst (λ n. (p < 512 * n) ⊎ (512 * (n + 580) ≤ p)) (sym at) tables) ∙ x.other p own tables;
}

pub goes_then : (m : Machine) (s : Shadowed) (g : GuestState) (m1 : Machine) (s1 : Shadowed) (g1 : GuestState) (m2 : Machine) (s2 : Shadowed) (g2 : GuestState) → StandsFor m.memory s g → KeepsRefinement m s g m1 s1 g1 → KeepsRefinement m1 s1 g1 m2 s2 g2 → KeepsRefinement m s g m2 s2 g2
goes_then m s g m1 s1 g1 m2 s2 g2 k x y = record {
  stands = y.stands;
  only = both_then s s1 m.memory m1.memory m2.memory (x.stands.serves.base ∙ x.place.base ∙ sym k.serves.base) (x.stands.serves.pages ∙ x.place.pages ∙ sym k.serves.pages) x.tables x.only y.only;
  place = record { pages = y.place.pages ∙ x.place.pages; base = y.place.base ∙ x.place.base; start = y.place.start ∙ x.place.start };
  tables = y.tables ∙ x.tables;
}

pub retired_then : (m : Machine) (c : Counts) (m1 : Machine) (c1 : Counts) (m2 : Machine) (c2 : Counts) → CountsRetired m c m1 c1 → CountsRetired m1 c1 m2 c2 → CountsRetired m c m2 c2
retired_then m c m1 c1 m2 c2 x y = record {
  retired = through m.retired c.plain m1.retired c1.plain m2.retired c2.plain x.retired y.retired;
  trail = through m.trail c.trail m1.trail c1.trail m2.trail c2.trail x.trail y.trail;
}
  where
    through : (a p b q c r : ℕ) → (b + p) % 2 ^ 64 ≡ (a + q) % 2 ^ 64 → (c + q) % 2 ^ 64 ≡ (b + r) % 2 ^ 64 → (c + p) % 2 ^ 64 ≡ (a + r) % 2 ^ 64
    through a p b q c r e f = omega (arith, e, f)

-- steps in two parts
pub steps_sum : (a b : ℕ) (run : Run) → after_steps (a + b) run ≡ after_steps b (after_steps a run)
steps_sum zero b run = let is : 0 + b ≡ b = omega arith in ap (λ n. after_steps n run) is
steps_sum (suc a) b run = let is : suc a + b ≡ suc (a + b) = omega arith in ap (λ n. after_steps n run) is ∙ steps_sum a b (after_step run (step run.guest))

pub counted_sum : (a b : ℕ) (run : Run) → 1 ≤ a → after_counted (a + b) run ≡ after_steps b (after_counted a run)
counted_sum zero b run some = absurd (omega (arith, some))
counted_sum (suc a) b run some = let is : suc a + b ≡ suc (a + b) = omega arith in ap (λ n. after_counted n run) is ∙ steps_sum a b (after_step run (executed run.guest))

-- entries that aren't filled are few
at_most : (b : Bool) → (if b then 1 else 0) ≤ 1
at_most true = omega arith
at_most false = omega arith

few_below : (p : ℕ → Bool) (k : ℕ) → count_below p k ≤ k
few_below p zero = omega arith
few_below p (suc k) = let before = few_below p k in let one = at_most (p k) in omega (arith, before, one)

pub few_unfilled : (s : Shadowed) → unfilled s ≤ all_entries
unfolding unfilled
few_unfilled s = few_below (λ n. not (is_some (read_at s n))) all_entries
