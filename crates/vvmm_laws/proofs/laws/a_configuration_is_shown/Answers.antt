use Rattle.sys_flow.specs.Report.{IsReport}
use Rattle.vvmm_call.specs.Answer.{AreCounts, IsDrawing, IsMigrated}
use Rattle.vvmm_laws.proofs.Shown.{completes_config}
use Rattle.vvmm_laws.proofs.laws.a_configuration_is_shown.Goals as goal

pub returns-clause-check : goal.returns-clause-check
returns-clause-check c = completes_config AreCounts

pub returns-clause-migrate : goal.returns-clause-migrate
returns-clause-migrate c = completes_config IsMigrated

pub returns-clause-flow : goal.returns-clause-flow
returns-clause-flow c = completes_config IsReport

pub returns-clause-draw : goal.returns-clause-draw
returns-clause-draw c = completes_config IsDrawing
