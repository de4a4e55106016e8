use Rattle.std.proofs.Common.{◌≡◌, ◌+◌, ◌-◌, ◌++◌, ◌∙◌, false, length, map, replicate, take, ap, arith}
use Rattle.std.proofs.lemmas.List.{take_all}
use Rattle.sys_state.specs.State.{is_running}
use Rattle.sys_snap.specs.Held.{snapshot_guest}
use Rattle.sys_snap.specs.declared.snap.GuestSnap.{GuestSnap}
use Rattle.sys_snap.proofs.Fills.{maps_more}
use Rattle.sys_snap.proofs.reading.running.Goals as goal

pub loop-i-preserved : goal.loop-i-preserved
loop-i-preserved c =
    let i = c.loop-i.i in
    let g = c.index-guests-i.result in
    rw (c.is_running.ensures, c.loop-i.invariant) (maps_more (λ (g : GuestSnap). is_running (snapshot_guest g)) c.args.guests.now i (16 - i) (16 - (i + 1)) g g false c.loop-i-test.true c.index-guests-i.is (omega arith))

pub returns : goal.returns
returns c =
    let guests = c.args.guests.now in
    let all : c.loop-i.i ≡ length guests = omega arith in
    c.loop-i.invariant ∙ ap (λ n. map (λ (g : GuestSnap). is_running (snapshot_guest g)) (take n guests) ++ replicate (16 - n) false) all ∙ ap (λ gs. map (λ (g : GuestSnap). is_running (snapshot_guest g)) gs ++ replicate (16 - length guests) false) (take_all (length guests) guests (omega arith))
