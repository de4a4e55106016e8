-- The devices that have failed.
use Rattle.std.specs.Prelude.{ℕ, List, Bool, Option, Some, None, option_map}
use Rattle.sys_devices.specs.declared.device.Device.{Device}
use Rattle.sys_devices.specs.declared.device.Device.TheVariants as devices
use Rattle.sys_state.specs.Places.{place_of}

-- a line, or else a drive
abbrev pub device_of : Option ℕ → Option ℕ → Option Device
device_of (Some line) drive = Some (devices.Line line)
device_of None drive = option_map (λ d. devices.Drive d) drive

-- the first line that is marked, or else the first drive
abbrev pub first_failed : List Bool → List Bool → Option Device
first_failed marks drives = device_of (place_of (λ b. b) marks) (place_of (λ b. b) drives)
