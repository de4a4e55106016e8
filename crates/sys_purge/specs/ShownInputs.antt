-- Worked examples of purged inputs and of their runs, by computation.
use Rattle.std.specs.Prelude.{◌≡◌, ℕ, [], ◌∷◌, codes, false, true, refl, Some, None}
use Rattle.std.specs.Fmt.{digits}
use Rattle.vv_class.specs.declared.class.AccessClass.{AccessClass}
use Rattle.vv_class.specs.Class.{does_flow, is_subset}
use Rattle.vv_class.specs.Text.{categories_below, class_text}
use Rattle.sys_audit.specs.Audit.{audit_record}
use Rattle.sys_purge.specs.Input.{beside, purged}
use Rattle.sys_state.specs.Bytes.{drive_blocks, line_bytes}
use Rattle.sys_state.specs.ShownRuns.{both_there, low_alone}
use Rattle.sys_state.specs.ShownServer.{consoles, mounts, stopping}
use Rattle.sys_state.specs.ShownSetup.{config, level, volume}
use Rattle.sys_state.specs.ShownTransfers.{nine, printing, shared}
use Rattle.sys_server.specs.Apply.{applied, taken}
use Rattle.sys_server.specs.CommandLine.{asked_in}
use Rattle.sys_server.specs.Verdict.{judged}
use Rattle.vm_state.specs.Start.{memory_with_image}
use Rattle.vm_state.specs.Step.{step}

-- without the high guest, its terminal and that terminal's events
pub low_is_alone : purged both_there (level 0) ≡ low_alone
unfolding does_flow is_subset
low_is_alone = refl

pub high_stays : purged both_there (level 2) ≡ both_there
unfolding does_flow is_subset
high_stays = refl

-- Of a terminal and a guest of level 1, a volume above, one below and an audit, the lowest level keeps the low volume
-- with its blocks, and no event.
pub low_volume_alone : purged mounts (level 0) ≡ record {
  config = config None [] (volume (codes "PUB") 1 0 ∷ []) [] [];
  images = [];
  volumes = ([] ∷ []) ∷ [];
  events = [];
  rounds = 2;
}
unfolding does_flow is_subset
low_volume_alone = refl

-- the terminal's own level drops the high volume and the audit: the terminal is shown the same, and the audit's line nothing
pub same_replies :
    (line_bytes (purged mounts (level 1)) 0 ≡ codes "NO SUCH OBJECT\r\nDENIED WRITE\r\nOK\r\nNO SUCH OBJECT\r\nBAD COMMAND\r\nNO SUCH OBJECT\r\n")
    × (line_bytes (purged mounts (level 1)) 9 ≡ [])
    × (drive_blocks (purged mounts (level 1)) 1 ≡ drive_blocks mounts 1)
    × (drive_blocks (purged mounts (level 1)) 0 ≡ [])
unfolding asked_in judged does_flow is_subset applied taken audit_record class_text categories_below digits memory_with_image step
same_replies = (refl, refl, refl, refl)

-- what is all of one level stays at that level, and nothing of it is kept at a class into which it doesn't flow
pub one_level_stays :
    (purged shared (level 0) ≡ shared) × (purged nine (level 0) ≡ nine) × (purged (printing (Some 0)) (level 0) ≡ printing (Some 0)) × (purged consoles (level 0) ≡ consoles) × (purged stopping (level 0) ≡ stopping)
unfolding does_flow is_subset
one_level_stays = (refl, refl, refl, refl, refl)

abbrev trusted : AccessClass
trusted = record { secrecy = 9; secrecy_cats = 0; integrity = 1; integrity_cats = 0 }

pub nothing_flows :
    (purged shared trusted ≡ record { config = config None [] [] [] []; images = []; volumes = []; events = []; rounds = 1 })
    × (purged stopping trusted ≡ record { config = config None [] [] [] []; images = []; volumes = []; events = []; rounds = 3 })
unfolding does_flow is_subset
nothing_flows = (refl, refl)

-- what is kept beside rows that are kept; rows with nothing beside them have nothing
pub kept_beside : beside {Y = ℕ} (λ x. x) (false ∷ true ∷ true ∷ []) (7 ∷ 8 ∷ []) ≡ 8 ∷ []
kept_beside = refl
