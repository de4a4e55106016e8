use Rattle.std.proofs.Common.{◌≡◌, ◌≤◌, false, true, length, decimal, List, ℕ, ◌++◌, ap, sym, ◌∙◌, arith}
use Rattle.vv_base.specs.Bits.{is_set}
use Rattle.vv_class.proofs.Sets.{two_digits, begun, begun_comma, below_skipped, one_more, comma_more}
use Rattle.vv_class.proofs.text.write_set.Goals as goal

pub loop-category-init : goal.loop-category-init
loop-category-init c = record { written = begun c.args.text.now c.args.cats; comma = begun_comma c.args.cats; short = omega arith; one = omega arith }

pub loop-category-preserved-then-not-has_category : goal.loop-category-preserved-then-not-has_category
loop-category-preserved-then-not-has_category c =
    let cats = c.args.cats in
    let k = c.loop-category.category in
    let out : is_set cats k ≡ false = sym c.has_category.ensures ∙ c.if-not-has_category.true in
    let same = below_skipped cats k out in
    record { written = rw same c.loop-category.invariant.written; comma = rw same c.loop-category.invariant.comma; short = omega (arith, c.loop-category.invariant.short); one = c.loop-category.invariant.one }

pub add_number-requires : goal.add_number-requires
add_number-requires c =
    let digits : length (decimal c.loop-category.category) ≤ 2 = two_digits c.loop-category.category c.loop-category-test.true in
    omega (arith, digits, c.append.ensures.len, c.loop-category.invariant.short, c.loop-category.invariant.one, c.requires)

pub loop-category-preserved : goal.loop-category-preserved
loop-category-preserved c =
    let cats = c.args.cats in
    let k = c.loop-category.category in
    let is : is_set cats k ≡ true = sym c.has_category.ensures ∙ c.if-not-has_category.false in
    let digits : length (decimal k) ≤ 2 = two_digits k c.loop-category-test.true in
    record {
      written = c.add_number.ensures.written ∙ ap (λ (xs : List ℕ). xs ++ decimal k) c.append.ensures.written
          ∙ one_more c.args.text.now c.loop-category.text c.loop-category.comma.now cats k is c.loop-category.invariant.written c.loop-category.invariant.comma;
      comma = comma_more cats k is;
      short = omega (arith, digits, c.add_number.ensures.len, c.append.ensures.len, c.loop-category.invariant.short, c.loop-category.invariant.one);
      one = omega arith;
    }
