-- Laws of audits.
use Rattle.std.specs.Prelude.{ℕ, ◌≡◌, ◌<◌, List, [], ◌∷◌, ◌++◌, length, Some, All, slice_get}
use Rattle.sys_audit.specs.Audit.{audit_record}
use Rattle.sys_audit_check.specs.Audited.{Audited, Entry, IsEntry, audit_bytes, opening_server, record_of, server_after_entry, verdict_on}
use Rattle.sys_audit_check.specs.Lines.{through}
use Rattle.sys_objects.specs.Condition.{IsConfig}
use Rattle.sys_objects.specs.declared.records.Config.{Config}
use Rattle.sys_objects.specs.declared.records.Terminal.{Terminal}
use Rattle.sys_server.specs.Verdict.{mount_at, verdict_of}
use Rattle.sys_server.specs.declared.command.Command.{Command}
use Rattle.sys_server.specs.declared.command.ServerState.{ServerState}
use Rattle.sys_server.specs.declared.command.Verdict.{Verdict}
use Rattle.sys_server.specs.declared.command.Verdict.TheVariants.{Granted, BadCommand, NoSuchObject, Denied}

-- a record has one round, one terminal and one text, and it ends in one place
abbrev pub OneReading : Type 0
OneReading = (c : Config) (s t : ServerState) (e f : Entry) (more other : List ℕ) → IsConfig c → IsEntry c e → IsEntry c f
    → record_of c s e ++ more ≡ record_of c t f ++ other → (e ≡ f) × (more ≡ other)

-- the bytes of an audit through the end of each of its lines are an audit
abbrev pub AuditsFronts : Type 0
AuditsFronts = (c : Config) (bytes : List ℕ) (k : ℕ) → IsConfig c → Audited c bytes → Audited c (through k bytes)

-- the server's state that some commands leave
abbrev pub server_after : Config → ServerState → List Entry → ServerState
server_after c s [] = s
server_after c s (e ∷ es) = server_after c (server_after_entry c s e) es

abbrev pub IsGranted : Verdict → Type 0
IsGranted (Granted command) = Unit {0}
IsGranted BadCommand = ⊥
IsGranted NoSuchObject = ⊥
IsGranted (Denied rule) = ⊥

-- Where an audit goes on, after the records of some commands, with a record that says OK, the server grants that command in the
-- state that they leave. A record that says OK is the same for each command that is granted.
abbrev pub OkIsGranted : Type 0
OkIsGranted = (c : Config) (before : List Entry) (e : Entry) (t : Terminal) (command : Command) (rest : List ℕ)
    → IsConfig c → All (IsEntry c) before → IsEntry c e → slice_get c.terminals e.terminal ≡ Some t
    → Audited c (audit_bytes c (opening_server c) before ++ (audit_record e.round t e.text (Granted command) ++ rest))
    → IsGranted (verdict_on c (server_after c (opening_server c) before) e)

-- what is at the units of the configuration's guests is the same
abbrev pub SameMounts : Config → ServerState → ServerState → Type 0
SameMounts c s t = (g unit : ℕ) → g < length c.guests → mount_at s g unit ≡ mount_at t g unit

-- of the server's state that alone decides what it answers
abbrev pub MountsTell : Type 0
MountsTell = (c : Config) (s t : ServerState) (n : ℕ) (text : List ℕ) → SameMounts c s t → verdict_of c s n text ≡ verdict_of c t n text
