use Rattle.std.proofs.Common.{◌≡◌, filter, take}
use Rattle.sys_purge.specs.Events.{is_kept_event}
use Rattle.sys_purge.proofs.events.purge_events.Given as goal

abbrev pub invariant-loop-event : goal.invariant-loop-event
invariant-loop-event l = l.kept.items ≡ filter (is_kept_event l.c l.to) (take l.event-index l.e)
