use Rattle.std.proofs.Common.{ap, sym}
use Rattle.std.specs.Fmt.{digits}
use Rattle.vasm_text.specs.Printing.{register_text}
use Rattle.sys_trace.proofs.words.register_name.Goals as goal

pub returns-in-0-clause-name : goal.returns-in-0-clause-name
unfolding register_text digits
returns-in-0-clause-name c = ap register_text (sym c.in-0.is)

pub returns-in-1-clause-name : goal.returns-in-1-clause-name
unfolding register_text digits
returns-in-1-clause-name c = ap register_text (sym c.in-1.is)

pub returns-in-2-clause-name : goal.returns-in-2-clause-name
unfolding register_text digits
returns-in-2-clause-name c = ap register_text (sym c.in-2.is)

pub returns-in-3-clause-name : goal.returns-in-3-clause-name
unfolding register_text digits
returns-in-3-clause-name c = ap register_text (sym c.in-3.is)

pub returns-in-4-clause-name : goal.returns-in-4-clause-name
unfolding register_text digits
returns-in-4-clause-name c = ap register_text (sym c.in-4.is)

pub returns-in-5-clause-name : goal.returns-in-5-clause-name
unfolding register_text digits
returns-in-5-clause-name c = ap register_text (sym c.in-5.is)

pub returns-in-6-clause-name : goal.returns-in-6-clause-name
unfolding register_text digits
returns-in-6-clause-name c = ap register_text (sym c.in-6.is)

pub returns-in-7-clause-name : goal.returns-in-7-clause-name
unfolding register_text digits
returns-in-7-clause-name c = ap register_text (sym c.in-7.is)

pub returns-in-8-clause-name : goal.returns-in-8-clause-name
unfolding register_text digits
returns-in-8-clause-name c = ap register_text (sym c.in-8.is)

pub returns-in-9-clause-name : goal.returns-in-9-clause-name
unfolding register_text digits
returns-in-9-clause-name c = ap register_text (sym c.in-9.is)

pub returns-in-10-clause-name : goal.returns-in-10-clause-name
unfolding register_text digits
returns-in-10-clause-name c = ap register_text (sym c.in-10.is)

pub returns-in-11-clause-name : goal.returns-in-11-clause-name
unfolding register_text digits
returns-in-11-clause-name c = ap register_text (sym c.in-11.is)
