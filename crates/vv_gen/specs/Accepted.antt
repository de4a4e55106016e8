-- What a system that is run on a workload relies on.
use Rattle.std.specs.List.{AllZip}
use Rattle.std.specs.Prelude.{◌≡◌, ◌≤◌, ◌+◌, ◌*◌, ℕ, List, length, map}
use Rattle.sys_objects.specs.Condition.{IsConfig}
use Rattle.sys_objects.specs.declared.records.GuestRow.{GuestRow}
use Rattle.sys_script.specs.Events.{AreEvents}
use Rattle.vv_gen.specs.Workload.{Generated}

-- an image, where it is loaded, within the guest's memory
abbrev pub ImageFits : GuestRow → List ℕ → Type 0
ImageFits guest image = guest.load + length image ≤ 512 * guest.pages

pub record IsAccepted (w : Generated) : Type 0 where
  pub config : IsConfig w.config
  pub events : AreEvents w.events
  -- there is an image for each guest, and it fits
  pub images : AllZip ImageFits w.config.guests w.images
  -- there is a list of blocks for each volume, as long as the row says
  pub volumes : map length w.volumes ≡ map (λ v. v.blocks) w.config.volumes
