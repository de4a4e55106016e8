use Rattle.std.proofs.Common.{arith, drop, map, take}
use Rattle.std.proofs.lemmas.List.{at_drop_all}
use Rattle.std.specs.Prelude.{false, is_err}
use Rattle.sys_devices.proofs.Puts.{goes_on, hands_on, stops}
use Rattle.sys_snap.specs.Written.{place_byte, seat_bytes}
use Rattle.sys_output.proofs.Flat.{all_shown, same_shown}
use Rattle.sys_output.proofs.Seating.{all_seated, seat_next}
use Rattle.sys_output.proofs.server.put_seats.Goals as goal

pub returns-in_err-put : goal.returns-in_err-put
returns-in_err-put g c =
    let at = c.args.at.now in
    let start = g.O.Sink.printed c.args.out.now in
    let after = g.O.Sink.printed c.put.new.out in
    same_shown (is_err c.from_residual.result) start after (map place_byte at) (seat_bytes (take c.args.terminals at)) (all_seated c.args.terminals at c.told-at c.requires.beyond)
    (stops _ _ _ _ _ _ _ _ (hands_on _ c.from_residual.result c.from_residual.ensures.1) (seat_next at c.loop-seat.seat-index _ c.seat_byte.result (omega arith) c.seat_byte.ensures) c.loop-seat.invariant c.in_err-put.ensures)

pub loop-seat-preserved : goal.loop-seat-preserved
loop-seat-preserved g c = goes_on _ _ _ _ _ _ _ (seat_next c.args.at.now c.loop-seat.seat-index _ c.seat_byte.result (omega arith) c.seat_byte.ensures) c.loop-seat.invariant c.in_ok-put.ensures

pub returns : goal.returns
returns g c =
    let at = c.args.at.now in
    let start = g.O.Sink.printed c.args.out.now in
    let now = g.O.Sink.printed c.loop-seat.out in
    let shown = all_shown start now (map place_byte (drop c.loop-seat.seat-index at)) (map place_byte at) c.loop-seat.invariant (at_drop_all (map place_byte) at c.loop-seat.seat-index (omega (arith, c.told-at, c.loop-seat-test.false))) in
    same_shown false start now (map place_byte at) (seat_bytes (take c.args.terminals at)) (all_seated c.args.terminals at c.told-at c.requires.beyond) shown
