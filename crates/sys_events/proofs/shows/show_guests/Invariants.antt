use Rattle.std.proofs.Common.{map, take}
use Rattle.sys_events.specs.Saying.{puts_on, runs}
use Rattle.sys_devices.specs.Shows.{Shows}
use Rattle.sys_state.specs.State.{bytes_on}
use Rattle.sys_server.specs.Replies.{guest_lines}
use Rattle.sys_events.proofs.shows.show_guests.Given as goal

-- the guests so far are shown
abbrev pub invariant-loop-place : goal.invariant-loop-place
invariant-loop-place g l = record {
  shows : Shows l.fn.marks l.marks (g.L.Lines.lines l.fn.lines) (g.L.Lines.lines l.lines) (λ k. bytes_on k (puts_on l.terminal.line (guest_lines l.terminal.class (take l.place l.rows) (take l.place (map runs l.guests)))));
}
