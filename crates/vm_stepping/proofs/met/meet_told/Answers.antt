use Rattle.vm_stepping.proofs.PayingMet.{clear_pays, not_valid_pays}
use Rattle.vm_stepping.proofs.met.meet_told.Goals as goal

pub returns-in-NotValid-clause-pays : goal.returns-in-NotValid-clause-pays
returns-in-NotValid-clause-pays g c =
    not_valid_pays c.meet_missing.result (g.H.Hardware.machine c.args.machine.now) c.args.s.now c.args.g.now (g.H.Hardware.machine c.meet_missing.new.machine) c.meet_missing.new.s c.args.exit.now c.in-NotValid.va c.in-NotValid.write c.intent_of.result
    c.in-NotValid.is c.intent_of.ensures c.requires.reaches c.meet_missing.ensures.pays

pub returns-in-Modify-clause-pays : goal.returns-in-Modify-clause-pays
returns-in-Modify-clause-pays g c =
    clear_pays g.T.Port.may c.args.port.now c.meet_clear.new.port (g.H.Hardware.machine c.args.machine.now) c.args.s.now c.args.g.now c.args.counts.now (g.H.Hardware.machine c.meet_clear.new.machine) c.meet_clear.new.s c.meet_clear.new.g c.meet_clear.new.counts
    c.requires.stands c.args.exit.now c.requires.reaches c.in-Modify.va c.in-Modify.is c.requires.told c.meet_clear.ensures.made
