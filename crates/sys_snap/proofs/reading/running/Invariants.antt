use Rattle.std.proofs.Common.{◌≡◌, ◌-◌, ◌++◌, map, replicate, take, false}
use Rattle.sys_state.specs.State.{is_running}
use Rattle.sys_snap.specs.Held.{snapshot_guest}
use Rattle.sys_snap.proofs.reading.running.Given as goal

abbrev pub invariant-loop-i : goal.invariant-loop-i
invariant-loop-i l = l.running ≡ map (λ g. is_running (snapshot_guest g)) (take l.i l.guests) ++ replicate (16 - l.i) false
