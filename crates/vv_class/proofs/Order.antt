-- To flow is a partial order, and joined classes are least upper bounds.
use Rattle.std.proofs.Common.{◌≡◌, ℕ, ◌<◌, ◌^◌, Bool, true, false, not, ◌&&◌, ◌||◌, ◌↔◌, inl, inr, IsTrue, min, max, bit_and, bit_or, refl, sym, ap, ◌∙◌, arith, le-leb}
use Rattle.std.proofs.lemmas.Bool.{and_from, and_parts, or_left, or_right, or_cases, leb-true, true≢false, false≢true}
use Rattle.vv_class.specs.declared.class.AccessClass.{AccessClass}
use Rattle.vv_class.specs.Class.{IsClass, IsSubset, Flows, is_subset, is_within, does_flow, IsJoin, IsLeastUpperBound}
use Rattle.vv_base.specs.Bits.{is_set}
use Rattle.vv_class.proofs.Bits.{same_sets, bool_same, all_of, each_of, implies_at, implied_by, has_and, has_or}

subset_is : (a b : ℕ) → (is_subset a b ≡ true) ↔ IsSubset a b
unfolding is_subset
subset_is a b =
    let p : ℕ → Bool = λ k. not (is_set a k) || is_set b k in (
      λ yes k to has. implies_at (is_set a k) (is_set b k) (each_of p 0 64 yes k (omega arith) (omega arith)) has,
      λ h. all_of p 0 64 (λ k from to. implied_by (is_set a k) (is_set b k) (h k (omega arith))),
    )

pub flow_is : (a b : AccessClass) → IsTrue (does_flow a b) ↔ Flows a b
unfolding does_flow
flow_is a b = (
  λ yes. let both = and_parts _ _ yes in let first = and_parts _ _ both.0 in let second = and_parts _ _ both.1 in
      record {
        secrecy = leb-true a.secrecy b.secrecy first.0;
        secrecy_cats = (subset_is a.secrecy_cats b.secrecy_cats).0 first.1;
        integrity = leb-true b.integrity a.integrity second.0;
        integrity_cats = (subset_is b.integrity_cats a.integrity_cats).0 second.1;
      },
  λ f. and_from _ _
      (and_from _ _ (le-leb a.secrecy b.secrecy f.secrecy) ((subset_is a.secrecy_cats b.secrecy_cats).1 f.secrecy_cats))
      (and_from _ _ (le-leb b.integrity a.integrity f.integrity) ((subset_is b.integrity_cats a.integrity_cats).1 f.integrity_cats)),
)

-- the same of a test's result
pub flow_means : (a b : AccessClass) (result : Bool) → result ≡ does_flow a b → IsTrue result ↔ Flows a b
flow_means a b result is = (λ yes. (flow_is a b).0 (sym is ∙ yes), λ f. is ∙ (flow_is a b).1 f)

pub flow_reflexive : (a : AccessClass) → Flows a a
flow_reflexive a = record { secrecy = omega arith; secrecy_cats = λ k to has. has; integrity = omega arith; integrity_cats = λ k to has. has }

pub flow_transitive : (a b c : AccessClass) → Flows a b → Flows b c → Flows a c
flow_transitive a b c f g =
    record {
      secrecy = omega (arith, f.secrecy, g.secrecy);
      secrecy_cats = λ k to has. g.secrecy_cats k to (f.secrecy_cats k to has);
      integrity = omega (arith, f.integrity, g.integrity);
      integrity_cats = λ k to has. f.integrity_cats k to (g.integrity_cats k to has);
    }

both_subsets : (a b : ℕ) → a < 2 ^ 64 → b < 2 ^ 64 → IsSubset a b → IsSubset b a → a ≡ b
both_subsets a b below_a below_b f g = same_sets a b below_a below_b (λ k to. bool_same (is_set a k) (is_set b k) (f k to) (g k to))

pub flow_antisymmetric : (a b : AccessClass) → IsClass a → IsClass b → Flows a b → Flows b a → a ≡ b
flow_antisymmetric a b in_a in_b f g =
    let secrecy : a.secrecy ≡ b.secrecy = omega (arith, f.secrecy, g.secrecy) in
    let secrecy_cats : a.secrecy_cats ≡ b.secrecy_cats = both_subsets a.secrecy_cats b.secrecy_cats in_a.secrecy_cats in_b.secrecy_cats f.secrecy_cats g.secrecy_cats in
    let integrity : a.integrity ≡ b.integrity = omega (arith, f.integrity, g.integrity) in
    let integrity_cats : a.integrity_cats ≡ b.integrity_cats = both_subsets a.integrity_cats b.integrity_cats in_a.integrity_cats in_b.integrity_cats g.integrity_cats f.integrity_cats in
    λ i. record { secrecy = secrecy i; secrecy_cats = secrecy_cats i; integrity = integrity i; integrity_cats = integrity_cats i }

pub united : (a b c : AccessClass) → c ≡ record { secrecy = max a.secrecy b.secrecy; secrecy_cats = bit_or a.secrecy_cats b.secrecy_cats; integrity = min a.integrity b.integrity; integrity_cats = bit_and a.integrity_cats b.integrity_cats } → IsJoin a b c
united a b c is =
    record {
      secrecy = ap (λ d. d.secrecy) is;
      secrecy_cats = λ k to. ap (λ d. is_set d.secrecy_cats k) is ∙ has_or a.secrecy_cats b.secrecy_cats k;
      integrity = ap (λ d. d.integrity) is;
      integrity_cats = λ k to. ap (λ d. is_set d.integrity_cats k) is ∙ has_and a.integrity_cats b.integrity_cats k;
    }

pub united_is_least : (a b c : AccessClass) → IsJoin a b c → IsLeastUpperBound a b c
united_is_least a b c u =
    record {
      left = record {
        secrecy = omega (arith, u.secrecy);
        secrecy_cats = λ k to has. u.secrecy_cats k to ∙ or_left _ _ has;
        integrity = omega (arith, u.integrity);
        integrity_cats = λ k to has. (and_parts _ _ (sym (u.integrity_cats k to) ∙ has)).0;
      };
      right = record {
        secrecy = omega (arith, u.secrecy);
        secrecy_cats = λ k to has. u.secrecy_cats k to ∙ or_right _ _ has;
        integrity = omega (arith, u.integrity);
        integrity_cats = λ k to has. (and_parts _ _ (sym (u.integrity_cats k to) ∙ has)).1;
      };
      least = λ d f g. record {
        secrecy = omega (arith, u.secrecy, f.secrecy, g.secrecy);
        secrecy_cats = λ k to has. elim (or_cases _ _ (sym (u.secrecy_cats k to) ∙ has)) [ inl l ↦ f.secrecy_cats k to l | inr r ↦ g.secrecy_cats k to r ];
        integrity = omega (arith, u.integrity, f.integrity, g.integrity);
        integrity_cats = λ k to has. u.integrity_cats k to ∙ and_from _ _ (f.integrity_cats k to has) (g.integrity_cats k to has);
      };
    }

-- the test from the tests of its halves
pub both_halves : (a b : AccessClass) (first second result : Bool) → first ≡ is_within a.secrecy a.secrecy_cats b.secrecy b.secrecy_cats
    → second ≡ is_within b.integrity b.integrity_cats a.integrity a.integrity_cats → result ≡ (first && second) → result ≡ does_flow a b
unfolding does_flow
both_halves a b first second result is_first is_second is = is ∙ (λ i. is_first i && is_second i)

pub and_then : (s t : Bool) → s ≡ true → t ≡ (s && t)
and_then true t e = refl
and_then false t e = absurd (false≢true e)

pub and_else : (s t : Bool) → s ≡ false → s ≡ (s && t)
and_else true t e = absurd (true≢false e)
and_else false t e = refl
