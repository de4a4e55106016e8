use Rattle.std.proofs.Common.{map, take}
use Rattle.std.specs.Prelude.{filter}
use Rattle.sys_events.specs.Saying.{puts_on}
use Rattle.sys_devices.specs.Shows.{Shows}
use Rattle.sys_state.specs.State.{bytes_on}
use Rattle.sys_server.specs.Replies.{volume_line}
use Rattle.vv_class.specs.Class.{does_flow}
use Rattle.sys_events.proofs.shows.show_volumes.Given as goal

-- the volumes so far are shown
abbrev pub invariant-loop-row : goal.invariant-loop-row
invariant-loop-row g l = record {
  shows : Shows l.fn.marks l.marks (g.L.Lines.lines l.fn.lines) (g.L.Lines.lines l.lines) (λ k. bytes_on k (puts_on l.terminal.line (map volume_line (filter (λ v. does_flow v.class l.terminal.class) (take l.row-index l.rows)))));
}
