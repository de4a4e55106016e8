use Rattle.std.proofs.Common.{◌≡◌, ◌≤◌, [], take, drop}
use Rattle.std.specs.List.{sum_by}
use Rattle.sys_objects.specs.Rules.{first_broken}
use Rattle.sys_objects.proofs.Firsts.{pages_hold}
use Rattle.sys_objects.specs.declared.records.GuestRow.{GuestRow}
use Rattle.sys_objects.proofs.rules.bad_pages.Given as goal

abbrev pub invariant-loop-i : goal.invariant-loop-i
invariant-loop-i l = record {
  rest : first_broken pages_hold (take l.i l.guests) (drop l.i l.guests) ≡ first_broken pages_hold [] l.guests;
  so_far : l.pages ≡ sum_by (λ (h : GuestRow). h.pages) (take l.i l.guests);
  most : l.pages ≤ 16384;
}
