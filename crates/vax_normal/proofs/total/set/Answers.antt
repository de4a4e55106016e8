use Rattle.std.proofs.Common.{◌≡◌, ◌+◌, ◌^◌, ◌<◌, ℕ, List, length, sum, take, ap, sym, ◌∙◌, arith, get_or-set_other, get_or-set_same, slice_index, slice_set}
use Rattle.std.proofs.Math.ListN.{length-set}
use Rattle.vax_normal.proofs.Sums.{changed_sum, part_of_sum, small_sum}
use Rattle.vax_normal.proofs.total.set.Goals as goal

pub overflow_sub-result : goal.overflow_sub-result
overflow_sub-result c =
    let is : c.from.result ≡ slice_index c.args.r.now c.args.n = c.from.ensures ∙ ap (slice_index c.args.r.now) c.from-n.ensures in
    omega (arith, is, part_of_sum 15 c.args.n c.args.r.now c.requires.low, c.requires.sum)

pub overflow_add-result : goal.overflow_add-result
overflow_add-result c =
    let is : c.from.result ≡ slice_index c.args.r.now c.args.n = c.from.ensures ∙ ap (slice_index c.args.r.now) c.from-n.ensures in
    omega (arith, is, c.from-2.ensures, c.ranges.v.fits, part_of_sum 15 c.args.n c.args.r.now c.requires.low, small_sum 15 (2 ^ 32) c.args.r.now c.fits-r, c.requires.sum)

-- a sum goes on by what is set
sum_set : (r : List ℕ) (n v total was : ℕ) → n < 15 → n < length r → total ≡ sum (take 15 r) → was ≡ slice_index r n → sum (take 15 (slice_set r n v)) + was ≡ total + v
sum_set r n v total was low there is old =
    let q : List ℕ = slice_set r n v in
    let put : slice_index q n ≡ v = get_or-set_same r n v 0 there in
    omega (arith, is, old, put, changed_sum 15 n r q (sym (length-set r n v)) low there (λ i few ne. get_or-set_other r n i v 0 ne))

pub returns-clause-sum : goal.returns-clause-sum
returns-clause-sum c =
    let low : c.from-n.result < 15 = omega (arith, c.from-n.ensures, c.requires.low) in
    omega (arith, part_of_sum 15 c.from-n.result c.args.r.now low, c.from.ensures, c.requires.sum, c.from-2.ensures, sum_set c.args.r.now c.from-n.result c.args.v c.args.total c.from.result low (omega (arith, low, c.told-r)) c.requires.sum c.from.ensures)
