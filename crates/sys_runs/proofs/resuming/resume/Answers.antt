use Rattle.std.proofs.Common.{◌≡◌, ap, arith}
use Rattle.std.proofs.lemmas.Result.{err_from_is_err_and}
use Rattle.sys_runs.proofs.Resumed.{stays_at}
use Rattle.sys_runs.proofs.Whole.{fits_at}
use Rattle.sys_snap.specs.Held.{snapshot_moment}
use Rattle.sys_system.specs.System.{System}
use Rattle.sys_runs.proofs.resuming.resume.Goals as goal

pub returns-in_err-system-clause-goes_on : goal.returns-in_err-system-clause-goes_on
returns-in_err-system-clause-goes_on g c =
    let p = err_from_is_err_and c.from_residual.result c.from_residual.ensures.1 in
    rw (p.1, p.2) (stays_at (snapshot_moment c.args.snap) _ _ _ _ _ c.in_err-system.ensures.resumes c.resume.ensures.alone)

pub finish-requires-clause-rests : goal.finish-requires-clause-rests
finish-requires-clause-rests g c = ap (λ (s : System). s.turns.is_begun) c.in_ok-system.ensures.resumes.0.system

pub finish-requires-clause-few : goal.finish-requires-clause-few
finish-requires-clause-few g c =
    let made : c.in_ok-system.system.rounds ≡ (snapshot_moment c.args.snap).made = ap (λ (s : System). s.rounds) c.in_ok-system.ensures.resumes.0.system in
    omega (arith, c.requires.few, c.requires.moment.few_rounds, made)

pub finish-requires-clause-stands : goal.finish-requires-clause-stands
finish-requires-clause-stands g c = c.in_ok-system.ensures.resumes.0.stands

pub finish-requires-clause-fit : goal.finish-requires-clause-fit
finish-requires-clause-fit g c = fits_at (snapshot_moment c.args.snap) _ _ _ c.in_ok-system.ensures.resumes.0 c.in_ok-system.ensures.resumes.1

pub returns-clause-goes_on : goal.returns-clause-goes_on
returns-clause-goes_on g c = c.finish.ensures.makes _ _ c.in_ok-system.ensures.resumes.0 c.resume.ensures.alone
