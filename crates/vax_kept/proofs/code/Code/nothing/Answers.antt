use Rattle.std.proofs.Common.{◌≡◌, ◌<◌, ℕ, zero, suc, List, length, replicate, ap, ◌∙◌, refl, arith, rules}
use Rattle.std.proofs.lemmas.Grind.{common_steps}
use Rattle.std.specs.Prelude.{slice_index}
use Rattle.vax_kept.proofs.code.Code.nothing.Goals as goal

zeros_read : (n i : ℕ) → slice_index (replicate n 0) i ≡ 0
zeros_read zero i = refl
zeros_read (suc n) zero = refl
zeros_read (suc n) (suc i) = zeros_read n i

pub invariant_of-result-clause-inside : goal.invariant_of-result-clause-inside
invariant_of-result-clause-inside c = λ i.
    let items = c.in_ok-vec.ensures.items_if_clones_equal (search rules) in
    let read : slice_index c.in_ok-vec.field-0.items i ≡ 0 = ap (λ (xs : List ℕ). slice_index xs i) items ∙ zeros_read 1048576 i in
    let some : 0 < length c.push.new.self.items = first_of (omega (arith, c.in_ok-push.ensures.len, c.push.new.self.ok.0), grind (arith, common_steps), search rules) in
    omega (arith, read, some)
