use Rattle.std.proofs.Common.{◌∙◌, List, slice_get, sym, ap}
use Rattle.sys_events.proofs.Replying.{answered}
use Rattle.sys_objects.specs.declared.records.Terminal.{Terminal}
use Rattle.sys_events.proofs.answering.answer.Goals as goal

pub returns : goal.returns
returns g c =
    let is = ap (λ (ts : List Terminal). slice_get ts c.args.terminal) (sym c.as_slice.ensures) ∙ c.terminal_at-row.ensures in
    answered _ _ _ _ _ _ c.args.config.now c.args.terminal c.terminal_at-row.result.now c.args.verdict.now c.args.taken c.as_bytes.result.now is (c.as_bytes.ensures.value ∙ c.reply.ensures) c.say.ensures c.tell_taken.ensures
