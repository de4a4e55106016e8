-- The purge of a moment between two rounds to a class: what is kept of it stands as it did, and places are those among what is
-- kept.
use Rattle.vv_class.specs.declared.class.AccessClass.{AccessClass}
use Rattle.sys_objects.specs.declared.records.Config.{Config}
use Rattle.sys_purge.specs.Input.{purge_images, purge_volumes}
use Rattle.sys_purge.specs.Judged.{purged_state}
use Rattle.sys_purge.specs.Purge.{purge_config}
use Rattle.sys_state.specs.Run.{Moment}
use Rattle.sys_state.specs.State.{SystemState, server_of}

-- the server's state, the guests and the volumes that are kept
abbrev pub purged_system : Config → AccessClass → SystemState → SystemState
purged_system c to s =
    let server = purged_state c to (server_of s) in
    record { connected = server.at; mounts = server.mounts; guests = purge_images c.guests s.guests to; volumes = purge_volumes c.volumes s.volumes to }

-- the number of rounds that were made stays
abbrev pub purged_moment : Moment → AccessClass → Moment
purged_moment m to = record { config = purge_config m.config to; made = m.made; state = purged_system m.config to m.state }
