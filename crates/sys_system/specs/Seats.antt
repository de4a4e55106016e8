-- The places of terminals and guests that the kernel has, and those that the configuration has.
use Rattle.std.specs.Prelude.{ℕ, ◌≡◌, ◌<◌, List, length, take, drop, replicate, Option, None, IfSome, All, map}
use Rattle.sys_objects.specs.declared.records.Config.{Config}
use Rattle.sys_objects.specs.declared.records.GuestRow.{GuestRow}
use Rattle.sys_objects.specs.declared.records.Mount.{Mount}
use Rattle.sys_objects.specs.declared.records.Terminal.{Terminal}
use Rattle.sys_server.specs.declared.command.ServerState.{ServerState}
use Rattle.sys_state.specs.Run.{connections}

-- by terminal the guest whose console it is at power-up, and none beyond the terminals
pub record AreSeated (rows : List GuestRow) (terminals : ℕ) (at : List (Option ℕ)) : Type 0 where
  pub connected : (ts : List Terminal) → length ts ≡ terminals → take terminals at ≡ connections rows 0 ts
  pub consoles : All (λ o. IfSome o (λ g. g < length rows)) at
  pub beyond : All (λ o. o ≡ None) (drop terminals at)
  pub size : length at ≡ 32

abbrev pub no_units : List (Option Mount)
no_units = replicate 4 None

-- by guest and unit what is mounted at power-up, and nothing beyond the guests
pub record AreMounted (rows : List GuestRow) (mounts : List (List (Option Mount))) : Type 0 where
  pub mounted : take (length rows) mounts ≡ map (λ row. row.mounts) rows
  pub beyond : All (λ units. units ≡ no_units) (drop (length rows) mounts)
  pub size : length mounts ≡ 16

-- what the server keeps at power-up
pub record IsInitialServer (c : Config) (server : ServerState) : Type 0 where
  pub seated : AreSeated c.guests (length c.terminals) server.at
  pub mounted : AreMounted c.guests server.mounts
