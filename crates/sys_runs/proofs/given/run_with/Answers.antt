use Rattle.std.proofs.Common.{◌≡◌, ◌∙◌, ap, arith, sym}
use Rattle.std.proofs.lemmas.Result.{err_from_is_err_and}
use Rattle.sys_runs.proofs.GivenRuns.{not_run_with, run_made_with}
use Rattle.sys_system.specs.System.{System}
use Rattle.sys_runs.proofs.given.run_with.Goals as goal

pub returns-in_err-system : goal.returns-in_err-system
returns-in_err-system g c drives =
    let p = err_from_is_err_and c.from_residual.result c.from_residual.ensures.1 in
    rw (p.1, p.2) (not_run_with c.args.config _ _ c.args.events.now c.args.rounds _ _ _ drives _ c.in_err-system.ensures.powers c.power_up_with.ensures.alone)

pub make_rounds-requires-clause-rests : goal.make_rounds-requires-clause-rests
make_rounds-requires-clause-rests g c = ap (λ (s : System). s.turns.is_begun) c.in_ok-system.ensures.powers.powered.system

pub make_rounds-requires-clause-few : goal.make_rounds-requires-clause-few
make_rounds-requires-clause-few g c =
    let none : c.in_ok-system.system.rounds ≡ 0 = ap (λ (s : System). s.rounds) c.in_ok-system.ensures.powers.powered.system in
    omega (arith, c.requires.few, none)

pub make_rounds-requires-clause-holds : goal.make_rounds-requires-clause-holds
make_rounds-requires-clause-holds g c = c.in_ok-system.ensures.holds

pub make_rounds-requires-clause-stands : goal.make_rounds-requires-clause-stands
make_rounds-requires-clause-stands g c = c.in_ok-system.ensures.powers.powered.stands

pub show_dumps-requires : goal.show_dumps-requires
show_dumps-requires g c = c.make_rounds.ensures.makes.goes.stands

pub returns : goal.returns
returns g c drives =
    let size = g.met.L.Lines.count c.show_dumps.new.lines ∙ sym (g.met.L.Lines.count c.args.lines.now) in
    run_made_with c.args.config _ _ c.args.events.now c.args.rounds _ _ _ _ _ _ _ _ _ drives _ c.in_ok-system.ensures.powers c.power_up_with.ensures.alone c.make_rounds.ensures.makes c.show_dumps.ensures c.in_ok-system.ensures.present c.make_rounds.ensures.holds c.counts.ensures c.failed.ensures size
