use Rattle.std.proofs.Common.{◌∙◌, sym}
use Rattle.vm_stepping.proofs.Guards.{noted_fits, retired_too, unretired}
use Rattle.vm_stepping.specs.Guarded.{is_retired}
use Rattle.vm_stepping.proofs.guarded.close_after.Goals as goal

pub returns-then-not-is_retired : goal.returns-then-not-is_retired
returns-then-not-is_retired g c =
    unretired c.args.va c.args.frame c.in-Some.frame (is_retired c.args.exit.now) (g.H.Hardware.machine c.args.machine.now) c.args.s.now c.in-Some.is (g.H.Hardware.machine c.close_write.new.machine) (sym c.is_retired.ensures ∙ c.if-not-is_retired.true) c.close_write.ensures

pub close_write-requires-2-clause-fits : goal.close_write-requires-2-clause-fits
close_write-requires-2-clause-fits g c =
    noted_fits c.args.va c.args.frame c.in-Some.frame (is_retired c.args.exit.now) (g.H.Hardware.machine c.args.machine.now) c.args.s.now c.in-Some.is (g.H.Hardware.machine c.note_write.new.machine) c.note_write.new.self (sym c.is_retired.ensures ∙ c.if-not-is_retired.false) c.requires.keeps c.note_write.ensures

pub returns : goal.returns
returns g c =
    retired_too c.args.va c.args.frame c.in-Some.frame (is_retired c.args.exit.now) (g.H.Hardware.machine c.args.machine.now) c.args.s.now c.in-Some.is (g.H.Hardware.machine c.note_write.new.machine) (g.H.Hardware.machine c.close_write-2.new.machine) c.note_write.new.self (sym c.is_retired.ensures ∙ c.if-not-is_retired.false) c.note_write.ensures c.close_write-2.ensures
