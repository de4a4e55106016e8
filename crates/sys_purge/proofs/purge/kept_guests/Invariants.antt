use Rattle.std.proofs.Common.{◌≡◌, filter, map, take}
use Rattle.vv_class.specs.Class.{does_flow}
use Rattle.sys_objects.specs.declared.records.GuestRow.{GuestRow}
use Rattle.sys_purge.specs.Purge.{renumbered}
use Rattle.sys_purge.proofs.purge.kept_guests.Given as goal

abbrev pub invariant-loop-g : goal.invariant-loop-g
invariant-loop-g l = l.kept.items ≡ map (renumbered l.to l.c) (filter (λ (row : GuestRow). does_flow row.class l.to) (take l.g-index l.guests))
