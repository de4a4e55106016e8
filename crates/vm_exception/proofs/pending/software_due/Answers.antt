use Rattle.std.proofs.Common.{◌∙◌, sym}
use Rattle.vm_exception.proofs.Requests.{all_levels, level_due, level_not_due, no_level, no_levels}
use Rattle.vm_state.specs.State.{state_of}
use Rattle.vm_exception.proofs.pending.software_due.Goals as goal

pub returns-then-g-eq0 : goal.returns-then-g-eq0
returns-then-g-eq0 c = no_levels (state_of c.args.g.now) c.if-g-eq0.true

pub loop-level-init : goal.loop-level-init
loop-level-init c = all_levels (state_of c.args.g.now)

pub returns-then-is_due : goal.returns-then-is_due
returns-then-is_due c = level_due (state_of c.args.g.now) c.loop-level.level c.loop-level-test.true (sym c.is_due.ensures ∙ c.if-is_due.true) ∙ c.loop-level.invariant

pub loop-level-preserved : goal.loop-level-preserved
loop-level-preserved c = level_not_due (state_of c.args.g.now) c.loop-level.level c.loop-level-test.true (sym c.is_due.ensures ∙ c.if-is_due.false) ∙ c.loop-level.invariant

pub returns : goal.returns
returns c = no_level (state_of c.args.g.now) c.loop-level.level c.loop-level-test.false ∙ c.loop-level.invariant
