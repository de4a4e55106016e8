use Rattle.sys_config.proofs.Accepted.{accepted_is}
use Rattle.sys_config.proofs.config.config_laws.Goals as goal

pub returns : goal.returns
returns c = accepted_is
