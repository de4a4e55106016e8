-- The purge of a run's whole input to a class.
use Rattle.std.specs.Prelude.{List, [], ◌∷◌, Bool, if◌then◌else◌}
use Rattle.vv_class.specs.Class.{does_flow}
use Rattle.vv_class.specs.declared.class.AccessClass.{AccessClass}
use Rattle.sys_objects.specs.declared.records.GuestRow.{GuestRow}
use Rattle.sys_objects.specs.declared.records.VolumeRow.{VolumeRow}
use Rattle.sys_purge.specs.Events.{purge_events}
use Rattle.sys_purge.specs.Purge.{purge_config}
use Rattle.sys_state.specs.Run.{Input}

-- what is beside the rows that are kept
abbrev pub beside : {X Y : Type 0} → (X → Bool) → List X → List Y → List Y
beside test (x ∷ xs) (y ∷ ys) = if test x then y ∷ beside test xs ys else beside test xs ys
beside test _ _ = []

abbrev pub is_kept : AccessClass → GuestRow → Bool
is_kept to g = does_flow g.class to

abbrev pub is_kept_volume : AccessClass → VolumeRow → Bool
is_kept_volume to v = does_flow v.class to

-- the images of the guests that are kept, and the blocks of the volumes
abbrev pub purge_images : {A : Type 0} → List GuestRow → List A → AccessClass → List A
purge_images rows images to = beside (is_kept to) rows images

abbrev pub purge_volumes : {A : Type 0} → List VolumeRow → List A → AccessClass → List A
purge_volumes rows volumes to = beside (is_kept_volume to) rows volumes

-- the input without all that doesn't flow into the class; the number of rounds stays
abbrev pub purged : Input → AccessClass → Input
purged x to = record {
  config = purge_config x.config to;
  images = purge_images x.config.guests x.images to;
  volumes = purge_volumes x.config.volumes x.volumes to;
  events = purge_events x.config x.events to;
  rounds = x.rounds;
}
