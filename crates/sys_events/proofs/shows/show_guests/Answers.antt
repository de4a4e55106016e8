use Rattle.std.proofs.Common.{arith}
use Rattle.sys_events.proofs.Telling.{guests_more, told_then}
use Rattle.sys_events.proofs.shows.show_guests.Goals as goal

pub loop-place-preserved : goal.loop-place-preserved
loop-place-preserved g c = record {
  shows = told_then _ _ _ _ _ _ _ _ _ (guests_more c.args.terminal.now.line c.args.terminal.now.class c.args.rows.now c.args.guests.now c.loop-place.place _ _ (omega arith) (omega arith) c.index-rows-place.is c.index-guests-place.is) c.loop-place.invariant.shows c.show_guest.ensures;
}
