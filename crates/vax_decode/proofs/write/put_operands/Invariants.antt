use Rattle.std.proofs.Common.{◌≡◌, ◌++◌, length, drop}
use Rattle.vax_table.specs.Spelled.{spelled_all}
use Rattle.vax_decode.specs.Encoding.{AllInRange}
use Rattle.vax_decode.proofs.write.put_operands.Given as goal

abbrev pub invariant-loop-form : goal.invariant-loop-form
invariant-loop-form l = record {
  can_next : (goal.iterator-loop-form).can_next l.form-iterator;
  is_finite : (goal.iterator-loop-form).is_finite l.form-iterator;
  ranges : AllInRange (drop (length l.yielded) l.forms) (drop (length l.yielded) l.specs);
  text : l.text ++ spelled_all (drop (length l.yielded) l.forms) (drop (length l.yielded) l.specs) ≡ l.fn.text ++ spelled_all l.forms l.specs;
}
