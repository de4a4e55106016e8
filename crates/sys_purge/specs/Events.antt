-- The purge of events to a class: those at terminals that the configuration has and whose class flows into it.
use Rattle.std.specs.Prelude.{List, Bool, false, filter, find, bytes_eq}
use Rattle.std.specs.Option.{option_map_or}
use Rattle.vv_class.specs.declared.class.AccessClass.{AccessClass}
use Rattle.vv_class.specs.Class.{does_flow}
use Rattle.sys_objects.specs.declared.records.Config.{Config}
use Rattle.sys_script.specs.declared.event.Event.{Event}

-- an event at a terminal that doesn't exist is not kept
abbrev pub is_kept_event : Config → AccessClass → Event → Bool
is_kept_event c to e = option_map_or (λ t. does_flow t.class to) (find (λ t. bytes_eq t.name e.terminal) c.terminals) false

abbrev pub purge_events : Config → List Event → AccessClass → List Event
purge_events c events to = filter (is_kept_event c to) events
