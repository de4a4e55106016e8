use Rattle.vm_simulation_laws.proofs.Claimed.{claimed_written}
use Rattle.vm_simulation_laws.proofs.laws.claimed_frames_are_written.Goals as goal

pub returns : goal.returns
returns c = claimed_written
