use Rattle.sys_purge.proofs.Lines.{keeps_devices}
use Rattle.sys_purge.proofs.laws.a_device_keeps_its_bytes.Goals as goal

pub returns : goal.returns
returns c = keeps_devices
