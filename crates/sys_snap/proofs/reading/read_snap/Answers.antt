use Rattle.std.proofs.Common.{ℕ, List, ap, subst}
use Rattle.std.specs.Prelude.{IfOk}
use Rattle.std.specs.declared.result.Result.{Result}
use Rattle.std.specs.declared.result.Result.TheVariants.{Ok, Err}
use Rattle.sys_snap.proofs.Misfits.{fault_place}
use Rattle.sys_snap.specs.Held.{HoldsMoment, ReadsSnap, snapshot_moment}
use Rattle.sys_snap.specs.Reader.{moment_got, moment_in, snap_in}
use Rattle.sys_snap.specs.Reading.{Rest}
use Rattle.sys_snap.specs.Reads.{ReadsOrLacks}
use Rattle.sys_snap.specs.declared.fault.SnapError.{SnapError}
use Rattle.sys_snap.specs.declared.fault.SnapError.TheVariants.{Fault, NoMemory}
use Rattle.sys_snap.specs.declared.snap.Snap.{Snap}
use Rattle.sys_snap.proofs.reading.read_snap.Goals as goal

read_or_refused : (bytes : List ℕ) (left : Rest) (result : Result Snap SnapError) → ReadsOrLacks snapshot_moment moment_in (record { at = 0; bytes = bytes }) left result → IfOk result (λ s. HoldsMoment s) → ReadsSnap bytes result
unfolding snap_in
read_or_refused bytes left (Ok s) reads holds = (ap moment_got reads, holds)
read_or_refused bytes left (Err (Fault fault)) reads holds = fault_place bytes fault (ap moment_got reads)
read_or_refused bytes left (Err NoMemory) reads holds = tt

pub returns : goal.returns
returns c =
    let reads : ReadsOrLacks snapshot_moment moment_in (record { at = 0; bytes = c.args.b.now }) c.read_moment.new.r c.read_moment.result =
    subst (λ before. ReadsOrLacks snapshot_moment moment_in before c.read_moment.new.r c.read_moment.result) c.new.ensures c.read_moment.ensures.reads in
    record { reads = read_or_refused c.args.b.now c.read_moment.new.r c.read_moment.result reads c.read_moment.ensures.holds }
