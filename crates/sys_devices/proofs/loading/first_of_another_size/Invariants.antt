use Rattle.std.proofs.Common.{map, take, All}
use Rattle.sys_devices.specs.Rows.{FitsDrive}
use Rattle.sys_devices.proofs.loading.first_of_another_size.Given as goal

-- the drives of the rows before this one have as many blocks as they say
abbrev pub invariant-loop-place : goal.invariant-loop-place
invariant-loop-place g l = All (FitsDrive (map (λ b. (goal.Drive-dyn g (b.vtable, b.value)).kept b.value) l.drives.items)) (take l.place l.rows)
