use Rattle.std.proofs.Common.{arith, ap}
use Rattle.vv_io.specs.Memory.{MemoryDrive}
use Rattle.vv_io.proofs.Drives.{failed_set}
use Rattle.vv_io.proofs.mem_drive.MemDriveDrive.set.Goals as goal

pub returns-then-is_named-clause-sets : goal.returns-then-is_named-clause-sets
returns-then-is_named-clause-sets c =
    let faults = ap (λ (d : MemoryDrive). d.faults) c.self.view_is in
    failed_set _ _ _ _ c.args.block c.args.from.now _ (ap (λ (d : MemoryDrive). d.blocks) c.self.view_is) (omega arith) (omega arith)
