use Rattle.sys_flow.specs.Report.{IsReport}
use Rattle.vvmm_call.specs.Answer.{AreCounts, IsDrawing, IsMigrated}
use Rattle.vvmm_laws.proofs.Shown.{tells_config_missing}
use Rattle.vvmm_laws.proofs.laws.a_missing_configuration_is_told.Goals as goal

pub returns-clause-check : goal.returns-clause-check
returns-clause-check c = tells_config_missing AreCounts

pub returns-clause-migrate : goal.returns-clause-migrate
returns-clause-migrate c = tells_config_missing IsMigrated

pub returns-clause-flow : goal.returns-clause-flow
returns-clause-flow c = tells_config_missing IsReport

pub returns-clause-draw : goal.returns-clause-draw
returns-clause-draw c = tells_config_missing IsDrawing
