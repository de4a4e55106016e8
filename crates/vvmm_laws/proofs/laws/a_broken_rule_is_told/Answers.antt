use Rattle.sys_flow.specs.Report.{IsReport}
use Rattle.vvmm_call.specs.Answer.{AreCounts, IsDrawing, IsMigrated}
use Rattle.vvmm_laws.proofs.Shown.{tells_config_rule}
use Rattle.vvmm_laws.proofs.laws.a_broken_rule_is_told.Goals as goal

pub returns-clause-check : goal.returns-clause-check
returns-clause-check c = tells_config_rule AreCounts

pub returns-clause-migrate : goal.returns-clause-migrate
returns-clause-migrate c = tells_config_rule IsMigrated

pub returns-clause-flow : goal.returns-clause-flow
returns-clause-flow c = tells_config_rule IsReport

pub returns-clause-draw : goal.returns-clause-draw
returns-clause-draw c = tells_config_rule IsDrawing
