use Rattle.std.proofs.Common.{◌≡◌, ◌∙◌, refl, sym, ap, arith, Ok}
use Rattle.std.proofs.lemmas.Result.{err_from_is_err_and}
use Rattle.sys_moment_laws.proofs.Stands.{moments_stand_right}
use Rattle.sys_runs.proofs.Resumed.{stays_at}
use Rattle.sys_snap.specs.Held.{snapshot_moment}
use Rattle.sys_system.specs.System.{System}
use Rattle.sys_runs.proofs.extending.extend.Goals as goal

pub returns-in_err-system : goal.returns-in_err-system
returns-in_err-system g c =
    let p = err_from_is_err_and c.from_residual.result c.from_residual.ensures.1 in
    rw (p.1, p.2) (stays_at (snapshot_moment c.args.snap) _ _ _ _ _ c.in_err-system.ensures.resumes c.resume.ensures.alone, refl)

pub keep-requires-clause-rests : goal.keep-requires-clause-rests
keep-requires-clause-rests g c = ap (λ (s : System). s.turns.is_begun) c.in_ok-system.ensures.resumes.0.system

pub keep-requires-clause-text : goal.keep-requires-clause-text
keep-requires-clause-text g c =
    let config : c.in_ok-system.system.config ≡ c.args.snap.config = ap (λ (s : System). s.config) c.in_ok-system.ensures.resumes.0.system in
    c.requires.text ∙ ap Ok (sym config)

pub keep-requires-clause-few : goal.keep-requires-clause-few
keep-requires-clause-few g c =
    let made : c.in_ok-system.system.rounds ≡ c.args.snap.round = ap (λ (s : System). s.rounds) c.in_ok-system.ensures.resumes.0.system in
    omega (arith, c.requires.few, made)

pub keep-requires-clause-stands : goal.keep-requires-clause-stands
keep-requires-clause-stands g c = c.in_ok-system.ensures.resumes.0.stands

pub returns : goal.returns
returns g c =
    let p = c.in_ok-system.ensures.resumes in
    c.keep.ensures _ _ _ p.0 c.resume.ensures.alone (moments_stand_right (snapshot_moment c.args.snap) c.requires.moment) p.1
