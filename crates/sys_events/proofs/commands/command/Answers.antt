use Rattle.std.proofs.Common.{◌<◌, [], length, sym, subst}
use Rattle.sys_events.proofs.Obeying.{commands}
use Rattle.sys_events.proofs.Seats.{verdict_names}
use Rattle.sys_events.specs.Seats.{VerdictNames}
use Rattle.sys_objects.specs.declared.records.Config.{Config}
use Rattle.sys_server.specs.declared.command.Verdict.{Verdict}
use Rattle.sys_events.proofs.Touching.{judged_so}
use Rattle.sys_events.proofs.commands.command.Goals as goal

pub carry_out-taken-requires-clause-names : goal.carry_out-taken-requires-clause-names
carry_out-taken-requires-clause-names g c =
    let k = c.args.kernel.now in
    subst (λ (v : Verdict). VerdictNames k.config v) (sym c.verdict-verdict.ensures.value) (verdict_names k.config k.server c.args.terminal c.args.text.now)

pub answer-requires-clause-there : goal.answer-requires-clause-there
answer-requires-clause-there g c = subst (λ (d : Config). c.args.terminal < length d.terminals) (sym (c.carry_out-taken.ensures.does []).config) c.requires.there

pub answer-requires-clause-terminals : goal.answer-requires-clause-terminals
answer-requires-clause-terminals g c = (c.carry_out-taken.ensures.does []).holds.accepted.terminals

pub put_audit-requires-clause-there : goal.put_audit-requires-clause-there
put_audit-requires-clause-there g c = subst (λ (d : Config). c.args.terminal < length d.terminals) (sym (c.carry_out-taken.ensures.does []).config) c.requires.there

pub put_audit-requires-clause-audit : goal.put_audit-requires-clause-audit
put_audit-requires-clause-audit g c = (c.carry_out-taken.ensures.does []).holds.accepted.audit

pub returns-clause-does : goal.returns-clause-does
returns-clause-does g c = commands _ _ c.args.kernel.now _ _ _ _ _ _ _ c.args.round c.args.terminal c.args.text.now c.verdict-verdict.result c.carry_out-taken.result c.requires.holds c.requires.there c.verdict-verdict.ensures.value c.carry_out-taken.ensures.took c.carry_out-taken.ensures.does c.answer.ensures c.put_audit.ensures

pub returns-clause-present : goal.returns-clause-present
returns-clause-present g c = judged_so (g.H.Hardware.machine c.args.machine.now) c.args.kernel.now _ _ _ c.args.terminal c.args.text.now c.verdict-verdict.result c.verdict-verdict.ensures.value c.carry_out-taken.ensures.present
