use Rattle.std.proofs.Common.{map}
use Rattle.sys_system.proofs.Copying.{AreGivenTo}
use Rattle.sys_system.proofs.given.volumes_of.Given as goal

abbrev pub invariant-loop-place : goal.invariant-loop-place
invariant-loop-place l = AreGivenTo l.place (map (λ b. b.items) l.given) l.volumes
