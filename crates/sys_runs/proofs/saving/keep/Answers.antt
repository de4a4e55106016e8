use Rattle.std.proofs.Common.{◌≡◌, ◌+◌, ◌∙◌, sym, ap, arith, Ok}
use Rattle.sys_runs.proofs.SavedRuns.{rounds_saved}
use Rattle.sys_system.specs.System.{System}
use Rattle.sys_runs.proofs.saving.keep.Goals as goal

pub save-requires-clause-rests : goal.save-requires-clause-rests
save-requires-clause-rests g c = c.make_rounds.ensures.makes.ended

pub save-requires-clause-few : goal.save-requires-clause-few
save-requires-clause-few g c =
    let made : c.make_rounds.new.system.rounds ≡ c.args.system.now.rounds + c.args.rounds = ap (λ (s : System). s.rounds) c.make_rounds.ensures.makes.system in
    omega (arith, c.requires.few, made)

pub save-requires-clause-text : goal.save-requires-clause-text
save-requires-clause-text g c =
    let config : c.make_rounds.new.system.config ≡ c.args.system.now.config = ap (λ (s : System). s.config) c.make_rounds.ensures.makes.system in
    c.requires.text ∙ ap Ok (sym config)

pub save-requires-clause-stands : goal.save-requires-clause-stands
save-requires-clause-stands g c = c.make_rounds.ensures.makes.goes.stands

pub returns : goal.returns
returns g c m before drives at alone right fit =
    let lines = g.met.L.Lines.count c.make_rounds.new.lines ∙ sym (g.met.L.Lines.count c.args.lines.now) in
    rounds_saved m c.args.events.now c.args.rounds before _ _ _ _ _ _ drives right fit at alone c.make_rounds.ensures.makes c.requires.present c.args.text.now _ _ _ c.save.result c.make_rounds.ensures.holds c.requires.few lines c.failed-failed.ensures c.is_err-is_cut.ensures.value c.save.ensures.shown c.save.ensures.sound c.save.ensures.long
