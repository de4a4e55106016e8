-- All volumes of a configuration have few blocks.
use Rattle.std.specs.List.{sum_by}
use Rattle.std.proofs.Common.{◌≤◌, List, All, arith}
use Rattle.std.proofs.lemmas.List.Sums.{sum_by-le}
use Rattle.sys_objects.specs.Condition.{IsConfig, IsVolume}
use Rattle.sys_objects.specs.declared.records.Config.{Config}
use Rattle.sys_objects.specs.declared.records.VolumeRow.{VolumeRow}

few_each : (rows : List VolumeRow) → All IsVolume rows → All (λ row. row.blocks ≤ 2048) rows
few_each rows are = λ k row within. (are k row within).few_blocks

pub few_blocks : (c : Config) → IsConfig c → sum_by (λ row. row.blocks) c.volumes ≤ 32768
few_blocks c is = omega (arith, is.few_volumes, sum_by-le (λ row. row.blocks) 2048 c.volumes (few_each c.volumes is.volumes))
