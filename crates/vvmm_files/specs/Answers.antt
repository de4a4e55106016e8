-- The text and the exit code of each answer.
use Rattle.std.specs.Prelude.{ℕ, List, [], ◌++◌, codes, decimal}
use Rattle.sys_objects.specs.declared.errors.ConfigFault.{ConfigFault}
use Rattle.sys_script.specs.Kinds.{kind_text}
use Rattle.sys_script.specs.declared.event.ScriptFault.{ScriptFault}
use Rattle.sys_devices.specs.declared.device.Device.{Device}
use Rattle.sys_devices.specs.declared.device.Device.TheVariants as devices
use Rattle.vvmm_files.specs.Texts.{fault_text}
use Rattle.vvmm_files.specs.declared.status.Status.{Status}
use Rattle.vvmm_files.specs.declared.status.Status.TheVariants.{Done, Words, Missing, TooLong, ShelfFault, Config as ConfigRefused, Script as ScriptRefused, Image, VolumeSize, DriveIn, DeviceFault, Asm, SnapSize, Snap, Audit, OutFault, KeyFault, NoMemory}

abbrev pub device_text : Device → List ℕ
device_text (devices.Line n) = codes "device line " ++ decimal n
device_text (devices.Drive n) = codes "device drive " ++ decimal n

abbrev pub config_text : ConfigFault → List ℕ
config_text f = ((codes "config rule " ++ decimal f.rule) ++ codes " at ") ++ decimal f.place

abbrev pub script_fault_text : ScriptFault → List ℕ
script_fault_text f = ((codes "script line " ++ decimal f.line) ++ codes " ") ++ kind_text f.kind

abbrev pub text_of : Status → List ℕ
text_of Done = []
text_of Words = codes "bad words"
text_of (Missing name) = codes "missing " ++ name
text_of ShelfFault = codes "shelf fault"
text_of (ConfigRefused f) = config_text f
text_of (ScriptRefused f) = script_fault_text f
text_of (Image guest) = codes "image " ++ decimal guest
text_of (VolumeSize volume) = codes "volume size " ++ decimal volume
text_of (DriveIn drive) = codes "drive " ++ decimal drive
text_of (DeviceFault device) = device_text device
text_of OutFault = codes "output fault"
text_of KeyFault = codes "keyboard fault"
text_of NoMemory = codes "no memory"
text_of (TooLong name) = codes "too long " ++ name
text_of (Asm f) = fault_text f
text_of SnapSize = codes "snapshot size"
text_of (Snap f) = codes "snapshot at " ++ decimal f.place
text_of (Audit f) = codes "audit line " ++ decimal f.line

abbrev pub code_of : Status → ℕ
code_of Done = 0
code_of Words = 2
code_of (Missing name) = 3
code_of ShelfFault = 4
code_of (ConfigRefused f) = 5
code_of (ScriptRefused f) = 6
code_of (Image guest) = 7
code_of (VolumeSize volume) = 8
code_of (DriveIn drive) = 9
code_of (DeviceFault device) = 10
code_of OutFault = 11
code_of NoMemory = 12
code_of (TooLong name) = 13
code_of (Asm f) = 15
code_of SnapSize = 16
code_of (Snap f) = 17
code_of (Audit f) = 18
code_of KeyFault = 19
