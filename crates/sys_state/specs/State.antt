-- What a system of several guests is and shows: nothing is shared but the volumes
-- (Rushby, Design and verification of secure systems, SOSP 1981; Karger and others, IEEE TSE 17(11), 1991).
use Rattle.std.specs.Prelude.{ℕ, List, Bool, not, Option, filter, flat_map, map, is_some, ◌==◌}
use Rattle.sys_objects.specs.declared.records.Mount.{Mount}
use Rattle.sys_server.specs.declared.command.ServerState.{ServerState}
use Rattle.vm_state.specs.State.{Guest}

-- bytes that a line is shown
pub record Put : Type 0 where
  pub line : ℕ
  pub bytes : List ℕ

-- The state beside a configuration: by terminal, the guest whose console it is; by guest and unit, what is mounted; by
-- guest, the guest; by volume, its blocks.
pub record SystemState : Type 0 where
  pub connected : List (Option ℕ)
  pub mounts : List (List (Option Mount))
  pub guests : List Guest
  pub volumes : List (List (List ℕ))

-- where something led, and what was shown
pub record Went (A : Type 0) : Type 0 where
  pub now : A
  pub puts : List Put

-- the bytes that a line is shown
abbrev pub bytes_on : ℕ → List Put → List ℕ
bytes_on line puts = flat_map (λ q. q.bytes) (filter (λ q. q.line == line) puts)

abbrev pub is_running : Guest → Bool
is_running g = not (is_some g.state.halt)

-- the secure server's part of the state
abbrev pub server_of : SystemState → ServerState
server_of s = record { at = s.connected; mounts = s.mounts; running = map is_running s.guests }
