use Rattle.std.proofs.Common.{◌∙◌, sym}
use Rattle.sys_runs.proofs.Whole.{as_long, fits_still, rounds_made}
use Rattle.sys_runs.proofs.running.finish.Goals as goal

pub power_down-requires-clause-stands : goal.power_down-requires-clause-stands
power_down-requires-clause-stands g c = c.make_rounds.ensures.makes.goes.stands

pub power_down-requires-clause-fit : goal.power_down-requires-clause-fit
power_down-requires-clause-fit g c = fits_still c.args.events.now c.args.rounds _ _ _ _ _ _ _ c.requires.fit c.make_rounds.ensures.makes

pub returns-clause-makes : goal.returns-clause-makes
returns-clause-makes g c m before at alone =
    let lines = g.met.L.Lines.count c.power_down.new.lines ∙ sym (g.met.L.Lines.count c.args.lines.now) in
    let drives = as_long _ c.power_down.new.drives c.args.drives.now c.power_down.ensures.drives_len in
    rounds_made m c.args.events.now c.args.rounds before _ _ _ _ _ _ _ _ _ _ c.requires.holds.accepted c.requires.fit at alone c.make_rounds.ensures.makes c.power_down.ensures.ends c.requires.present _ c.make_rounds.ensures.holds c.counts.ensures c.failed.ensures lines drives
