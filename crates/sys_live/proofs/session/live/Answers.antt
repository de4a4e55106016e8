use Rattle.std.proofs.Common.{◌∙◌, refl, sym}
use Rattle.sys_runs.proofs.Whole.{as_long}
use Rattle.sys_live.proofs.Living.{run_lived}
use Rattle.sys_live.proofs.session.live.Goals as goal

pub returns-clause-lives : goal.returns-clause-lives
returns-clause-lives g c =
    let lines = g.met.L.Lines.count c.power_down.new.lines ∙ sym (g.met.L.Lines.count c.args.lines.now) in
    let drives = as_long _ c.power_down.new.drives c.args.drives.now (c.power_down.ensures.drives_len ∙ c.power_up.ensures.len) in (
      record { config = c.args.config; images = _; volumes = c.in_ok-system.ensures.powers.volumes; events = _; rounds = _ },
      refl,
      refl,
      run_lived c.args.config _ c.args.most c.make_typed-went.result (record { counts = c.counts.result; failed = c.failed.result }) c.rounds-rounds.result _ _ _ _ _ _ _ _ _ _ _ _ _ _ _ c.requires.accepted c.in_ok-system.ensures.powers c.power_up.ensures.alone c.make_typed-went.ensures.makes c.power_down.ensures.ends c.in_ok-system.ensures.present c.make_typed-went.ensures.holds c.counts.ensures c.failed.ensures lines drives c.rounds-rounds.ensures c.requires.few c.typed_law.ensures,
    )
