-- Worked examples of devices and their classes, by computation: each kind of device has the class of its own row.
use Rattle.std.specs.Prelude.{◌≡◌, ◌^◌, [], ◌∷◌, codes, true, false, refl, Some, None}
use Rattle.vv_class.specs.Class.{does_flow, is_subset}
use Rattle.vv_class.specs.declared.class.AccessClass.{AccessClass}
use Rattle.sys_objects.specs.declared.records.Config.{Config}
use Rattle.sys_purge.specs.Purge.{purge_config}
use Rattle.sys_state.specs.Bytes.{devices_of}
use Rattle.sys_state.specs.ShownSetup.{config, guest, level, printer, terminal, volume}

-- level 2 with the greatest category, 63
abbrev pub with_greatest : AccessClass
with_greatest = record { secrecy = 2; secrecy_cats = 2 ^ 63; integrity = 0; integrity_cats = 0 }

-- level 9 with that category, of integrity 1
abbrev pub of_audit : AccessClass
of_audit = record { secrecy = 9; secrecy_cats = 2 ^ 63; integrity = 1; integrity_cats = 0 }

-- Two terminals, a printer, a guest's dump and an audit, each of another class. The first guest has no dump, and a volume is
-- on a drive and on no line.
abbrev pub offices : Config
offices = config
    (Some (record { line = 7; class = of_audit }))
    (terminal (codes "TL") 4 0 ∷ record { name = codes "TG"; line = 1; class = with_greatest } ∷ [])
    (volume (codes "V") 6 5 ∷ [])
    (printer (codes "P") 2 1 ∷ [])
    (guest (codes "A") 6 1 1 false None ∷ record (guest (codes "B") 3 1 1 false None) { dump = Some 5 } ∷ [])

pub devices : devices_of offices ≡
    record { line = 4; class = level 0 }
    ∷ record { line = 1; class = with_greatest }
    ∷ record { line = 2; class = level 1 }
    ∷ record { line = 5; class = level 3 }
    ∷ record { line = 7; class = of_audit }
    ∷ []
devices = refl

-- without an audit there are the others alone
pub no_audit : devices_of (config None (terminal (codes "TL") 4 0 ∷ []) [] [] []) ≡ record { line = 4; class = level 0 } ∷ []
no_audit = refl

-- a class with the greatest category flows into those alone that have it
pub greatest_category :
    (does_flow with_greatest (level 2) ≡ false)
    × (does_flow with_greatest with_greatest ≡ true)
    × (does_flow (level 2) with_greatest ≡ true)
    × (does_flow (record (level 0) { integrity_cats = 2 ^ 63 }) (level 0) ≡ true)
    × (does_flow (level 0) (record (level 0) { integrity_cats = 2 ^ 63 }) ≡ false)
unfolding does_flow is_subset
greatest_category = (refl, refl, refl, refl, refl)

-- at level 3 the devices are left whose class flows into it
pub devices_at_three : devices_of (purge_config offices (level 3)) ≡
    record { line = 4; class = level 0 }
    ∷ record { line = 2; class = level 1 }
    ∷ record { line = 5; class = level 3 }
    ∷ []
unfolding does_flow is_subset
devices_at_three = refl
