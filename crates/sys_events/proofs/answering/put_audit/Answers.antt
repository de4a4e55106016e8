use Rattle.std.proofs.Common.{◌∙◌, List, slice_get, sym, ap}
use Rattle.sys_events.proofs.Replying.{audited}
use Rattle.sys_objects.specs.declared.records.Terminal.{Terminal}
use Rattle.sys_events.proofs.answering.put_audit.Goals as goal

pub returns-in-Some : goal.returns-in-Some
returns-in-Some g c =
    let is = ap (λ (ts : List Terminal). slice_get ts c.args.terminal) (sym c.as_slice.ensures) ∙ c.terminal_at-row.ensures in
    audited _ _ _ _ c.args.config.now c.args.round c.args.terminal c.terminal_at-row.result.now c.args.text.now c.args.verdict.now c.in-Some.audit c.bytes.result.now is c.in-Some.is (c.bytes.ensures.value ∙ c.audit_text-text.ensures) c.show_whole.ensures
