use Rattle.sys_state.proofs.Schedules.{any_schedule}
use Rattle.sys_state.proofs.laws.any_schedule.Goals as goal

pub returns : goal.returns
returns c = any_schedule
