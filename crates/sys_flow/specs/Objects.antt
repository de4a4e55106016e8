-- An object of the code as an object of the definitions.
use Rattle.sys_flow.specs.Reach.{ObjectPlace, IsTerminalAt, IsVolumeAt, IsPrinterAt, IsGuestAt, IsTheAudit}
use Rattle.sys_flow.specs.declared.objects.Place.{Place}
use Rattle.sys_flow.specs.declared.objects.Place.TheVariants.{Terminal, Volume, Printer, Guest, Audit}

abbrev pub object_of : Place → ObjectPlace
object_of (Terminal t) = IsTerminalAt t
object_of (Volume v) = IsVolumeAt v
object_of (Printer p) = IsPrinterAt p
object_of (Guest g) = IsGuestAt g
object_of Audit = IsTheAudit
