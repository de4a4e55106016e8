-- Worked examples of the definitions, checked by computation.
use Rattle.std.specs.Prelude.{◌≡◌, refl, Some, None}
use Rattle.sys_devices.specs.declared.device.Device.TheVariants as devices
use Rattle.vvmm_call.specs.Serves.{synced_status}
use Rattle.vvmm_files.specs.declared.status.Status.TheVariants.{Done, Words, OutFault, DeviceFault}

a_line_that_is_not_synced : synced_status Done (Some (devices.Line 4)) ≡ DeviceFault (devices.Line 4)
a_line_that_is_not_synced = refl

a_line_before_the_output : synced_status OutFault (Some (devices.Line 4)) ≡ DeviceFault (devices.Line 4)
a_line_before_the_output = refl

the_lower_line : synced_status (DeviceFault (devices.Line 2)) (Some (devices.Line 4)) ≡ DeviceFault (devices.Line 2)
the_lower_line = refl

a_line_before_a_drive : synced_status (DeviceFault (devices.Drive 0)) (Some (devices.Line 4)) ≡ DeviceFault (devices.Line 4)
a_line_before_a_drive = refl

bad_words_stay : synced_status Words (Some (devices.Line 4)) ≡ Words
bad_words_stay = refl

all_synced : synced_status Done None ≡ Done
all_synced = refl
