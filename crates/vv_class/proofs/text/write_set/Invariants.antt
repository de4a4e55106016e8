use Rattle.std.proofs.Common.{◌≡◌, ◌≤◌, ◌+◌, ◌*◌, ◌++◌, length}
use Rattle.vv_class.specs.Text.{categories_below, listed}
use Rattle.vv_class.proofs.Sets.{lead}
use Rattle.vv_class.proofs.text.write_set.Given as goal

abbrev pub invariant-loop-category : goal.invariant-loop-category
invariant-loop-category l = record {
  written : l.text ≡ l.initial.text ++ listed (categories_below l.category l.cats);
  comma : listed (categories_below l.category l.cats) ++ l.comma ≡ lead (categories_below l.category l.cats);
  short : length l.text ≤ length l.initial.text + 3 * l.category;
  one : length l.comma ≤ 1;
}
