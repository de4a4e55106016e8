-- Which bytes are an audit: the records of commands at the server, each with the answer that the server gives where the
-- granted commands before it were done (profile).
use Rattle.std.specs.Option.{option_map_or}
use Rattle.std.specs.Prelude.{ℕ, ◌≡◌, ◌≤◌, ◌<◌, List, [], ◌∷◌, ◌++◌, length, map, Option, slice_get, All}
use Rattle.sys_audit.specs.Audit.{audit_record}
use Rattle.sys_objects.specs.declared.records.Config.{Config}
use Rattle.sys_objects.specs.declared.records.Terminal.{Terminal}
use Rattle.sys_state.specs.Run.{connections}
use Rattle.sys_server.specs.Apply.{applied}
use Rattle.sys_server.specs.Verdict.{verdict_of}
use Rattle.sys_server.specs.declared.command.ServerState.{ServerState}
use Rattle.sys_server.specs.declared.command.Verdict.{Verdict}
use Rattle.sys_server.specs.declared.command.Verdict.TheVariants.{Granted}

-- a command: its round, the place of its terminal, its text
pub record Entry : Type 0 where
  pub round : ℕ
  pub terminal : ℕ
  pub text : List ℕ

-- rounds are 1 to 1,000,000, terminals those of the configuration, texts at most 1,000 bytes from hexadecimal 20 to 7E
pub record IsEntry (c : Config) (e : Entry) : Type 0 where
  pub some : 1 ≤ e.round
  pub few : e.round ≤ 1000000
  pub there : e.terminal < length c.terminals
  pub short : length e.text ≤ 1000
  pub printed : All (λ b. (32 ≤ b) × (b ≤ 126)) e.text

-- rounds never fall, from one on
abbrev pub EntryRoundsNeverFall : ℕ → List Entry → Type 0
EntryRoundsNeverFall from [] = Unit {0}
EntryRoundsNeverFall from (e ∷ es) = (from ≤ e.round) × EntryRoundsNeverFall e.round es

-- the server's state as the configuration has it
abbrev pub opening_server : Config → ServerState
opening_server c = record { at = connections c.guests 0 c.terminals; mounts = map (λ row. row.mounts) c.guests; running = map (λ row. row.autostart) c.guests }

-- the state after a command at a terminal; a granted one alone changes it
abbrev pub server_after_verdict : ServerState → ℕ → Verdict → ServerState
server_after_verdict s n (Granted command) = applied s n command
server_after_verdict s n refused = s

abbrev pub verdict_on : Config → ServerState → Entry → Verdict
verdict_on c s e = verdict_of c s e.terminal e.text

abbrev pub server_after_entry : Config → ServerState → Entry → ServerState
server_after_entry c s e = server_after_verdict s e.terminal (verdict_on c s e)

-- the record of a command
abbrev pub record_at : ℕ → Option Terminal → List ℕ → Verdict → List ℕ
record_at round terminal text v = option_map_or (λ t. audit_record round t text v) terminal []

abbrev pub record_of : Config → ServerState → Entry → List ℕ
record_of c s e = record_at e.round (slice_get c.terminals e.terminal) e.text (verdict_on c s e)

-- those of all, one after another
abbrev pub audit_bytes : Config → ServerState → List Entry → List ℕ
audit_bytes c s [] = []
audit_bytes c s (e ∷ es) = record_of c s e ++ audit_bytes c (server_after_entry c s e) es

-- the bytes are the records of such commands, from a state of the server and from a round on
pub record AuditedFrom (c : Config) (s : ServerState) (from : ℕ) (bytes : List ℕ) : Type 0 where
  pub entries : List Entry
  pub each : All (IsEntry c) entries
  pub order : EntryRoundsNeverFall from entries
  pub is : bytes ≡ audit_bytes c s entries

-- the bytes are an audit
abbrev pub Audited : Config → List ℕ → Type 0
Audited c bytes = AuditedFrom c (opening_server c) 1 bytes
