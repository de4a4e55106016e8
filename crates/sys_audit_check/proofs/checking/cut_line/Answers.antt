use Rattle.std.proofs.Common.{◌+◌, ◌∙◌, arith, drop, length-drop, sym, ℕ}
use Rattle.std.proofs.lemmas.List.{take_all}
use Rattle.sys_audit_check.proofs.Lines.{line_with_feed, line_without_feed}
use Rattle.sys_audit_check.proofs.checking.cut_line.Goals as goal

pub returns-in-Some-clause-line : goal.returns-in-Some-clause-line
returns-in-Some-clause-line c = (line_with_feed c.args.bytes.now c.in-Some.at (sym c.in-Some.ensures.value)).0

pub returns-in-Some-clause-later : goal.returns-in-Some-clause-later
returns-in-Some-clause-later c =
    take_all _ (drop (c.in-Some.at + 1) c.args.bytes.now) (omega (arith, length-drop {A = ℕ})) ∙ (line_with_feed c.args.bytes.now c.in-Some.at (sym c.in-Some.ensures.value)).1

pub returns-in-None-clause-line : goal.returns-in-None-clause-line
returns-in-None-clause-line c = (line_without_feed c.args.bytes.now (sym c.in-None.ensures.value)).0

pub returns-in-None-clause-later : goal.returns-in-None-clause-later
returns-in-None-clause-later c = (line_without_feed c.args.bytes.now (sym c.in-None.ensures.value)).1
