use Rattle.std.proofs.Common.{◌≡◌, ◌∙◌, refl, sym, ap, arith, Ok}
use Rattle.std.proofs.lemmas.Result.{err_from_is_err_and}
use Rattle.sys_moment_laws.proofs.Stands.{opens_right}
use Rattle.sys_runs.proofs.Faults.{stays_down}
use Rattle.sys_runs.proofs.SavedRuns.{run_saved}
use Rattle.sys_runs.proofs.Whole.{fits_read}
use Rattle.sys_system.specs.System.{System}
use Rattle.sys_runs.proofs.saving.save.Goals as goal

pub returns-in_err-system-clause-saves : goal.returns-in_err-system-clause-saves
returns-in_err-system-clause-saves g c =
    let p = err_from_is_err_and c.from_residual.result c.from_residual.ensures.1 in
    rw (p.1, p.2) (stays_down c.args.config _ _ _ _ _ _ _ c.in_err-system.ensures.powers c.power_up.ensures.alone, refl)

pub keep-requires-clause-rests : goal.keep-requires-clause-rests
keep-requires-clause-rests g c = ap (λ (s : System). s.turns.is_begun) c.in_ok-system.ensures.powers.powered.system

pub keep-requires-clause-text : goal.keep-requires-clause-text
keep-requires-clause-text g c =
    let config : c.in_ok-system.system.config ≡ c.args.config = ap (λ (s : System). s.config) c.in_ok-system.ensures.powers.powered.system in
    c.requires.text ∙ ap Ok (sym config)

pub keep-requires-clause-few : goal.keep-requires-clause-few
keep-requires-clause-few g c =
    let none : c.in_ok-system.system.rounds ≡ 0 = ap (λ (s : System). s.rounds) c.in_ok-system.ensures.powers.powered.system in
    omega (arith, c.requires.few, none)

pub keep-requires-clause-stands : goal.keep-requires-clause-stands
keep-requires-clause-stands g c = c.in_ok-system.ensures.powers.powered.stands

pub returns-clause-saves : goal.returns-clause-saves
returns-clause-saves g c =
    let p = c.in_ok-system.ensures.powers in
    let right = opens_right (record { config = c.args.config; images = _; volumes = p.volumes; events = c.args.events.now; rounds = c.args.rounds }) c.requires.accepted in
    (p.volumes, run_saved c.args.config _ c.args.events.now c.args.rounds _ _ _ _ _ _ _ _ p c.args.text.now _ _ _ (c.keep.ensures _ _ _ p.powered c.power_up.ensures.alone right (fits_read c.args.config _ _ _ _ _ p)))
