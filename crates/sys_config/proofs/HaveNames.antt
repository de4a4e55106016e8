-- The objects of a configuration have names, and its guests name them.
use Rattle.std.proofs.Common.{◌≡◌, true, List, All}
use Rattle.vv_base.specs.Names.{is_object_name}
use Rattle.sys_objects.specs.Condition.{IsConfig, IsTerminal, IsVolume, IsPrinter, IsGuest, NamesObjects}
use Rattle.sys_objects.specs.declared.records.Config.{Config}
use Rattle.sys_objects.specs.declared.records.GuestRow.{GuestRow}
use Rattle.sys_objects.specs.declared.records.Terminal.{Terminal}
use Rattle.sys_objects.specs.declared.records.VolumeRow.{VolumeRow}
use Rattle.sys_objects.specs.declared.records.PrinterRow.{PrinterRow}

pub terminals_named : (ts : List Terminal) → All IsTerminal ts → All (λ t. is_object_name t.name ≡ true) ts
terminals_named ts all k d within = (all k d within).named

pub volumes_named : (vs : List VolumeRow) → All IsVolume vs → All (λ v. is_object_name v.name ≡ true) vs
volumes_named vs all k d within = (all k d within).named

pub printers_named : (ps : List PrinterRow) → All IsPrinter ps → All (λ p. is_object_name p.name ≡ true) ps
printers_named ps all k d within = (all k d within).named

pub ruleset named = (terminals_named, printers_named)

pub guests_stand : (c : Config) → IsConfig c → All (λ (g : GuestRow). IsConfig c × IsGuest g × NamesObjects c g) c.guests
guests_stand c met k d within = (met, met.guests k d within, met.numbers k d within)
