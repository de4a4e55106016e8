use Rattle.sys_moment_laws.proofs.Halts.{stops_with_codes}
use Rattle.sys_moment_laws.proofs.a_guest_stops_with_a_code.Goals as goal

pub returns : goal.returns
returns c = stops_with_codes
