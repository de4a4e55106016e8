use Rattle.std.proofs.Common.{◌≡◌, ◌^◌, ◌<◌, ap, sym, ◌∙◌, arith, slice_index}
use Rattle.vax_normal.proofs.Sums.{changed_sum, part_of_sum, small_sum}
use Rattle.vax_kept.proofs.changed.sum_after.Goals as goal

pub overflow_sub-result : goal.overflow_sub-result
overflow_sub-result c =
    let low : c.args.changed < 15 = omega (arith, c.from-n.ensures, c.if-n-lt15.true) in
    let is : c.from.result ≡ slice_index c.args.before.now c.args.changed = c.from.ensures ∙ ap (slice_index c.args.before.now) c.from-n.ensures in
    omega (arith, is, part_of_sum 15 c.args.changed c.args.before.now low, c.requires.sum)

pub overflow_add-result : goal.overflow_add-result
overflow_add-result c =
    let low : c.args.changed < 15 = omega (arith, c.from-n.ensures, c.if-n-lt15.true) in
    let was : c.from.result ≡ slice_index c.args.before.now c.args.changed = c.from.ensures ∙ ap (slice_index c.args.before.now) c.from-n.ensures in
    let is : c.from-then-n-lt15.result ≡ slice_index c.args.after.now c.args.changed = c.from-then-n-lt15.ensures ∙ ap (slice_index c.args.after.now) c.from-n.ensures in
    omega (arith, is, was, c.fits-after c.args.changed, part_of_sum 15 c.args.changed c.args.before.now low, small_sum 15 (2 ^ 32) c.args.before.now c.fits-before, c.requires.sum)

pub returns-then-n-lt15 : goal.returns-then-n-lt15
returns-then-n-lt15 c =
    let low : c.args.changed < 15 = omega (arith, c.from-n.ensures, c.if-n-lt15.true) in
    let was : c.from.result ≡ slice_index c.args.before.now c.args.changed = c.from.ensures ∙ ap (slice_index c.args.before.now) c.from-n.ensures in
    let is : c.from-then-n-lt15.result ≡ slice_index c.args.after.now c.args.changed = c.from-then-n-lt15.ensures ∙ ap (slice_index c.args.after.now) c.from-n.ensures in
    omega (
      arith,
      is,
      was,
      part_of_sum 15 c.args.changed c.args.before.now low,
      c.requires.sum,
      changed_sum 15 c.args.changed c.args.before.now c.args.after.now (c.told-before ∙ sym c.told-after) low (omega (arith, low, c.told-before)) (c.requires.alike low),
    )
