-- The law of audits and runs.
use Rattle.std.specs.Prelude.{◌≡◌, Some}
use Rattle.sys_audit_check.specs.Audited.{Audited}
use Rattle.sys_objects.specs.Condition.{IsConfig}
use Rattle.sys_objects.specs.declared.records.Audit.{Audit}
use Rattle.sys_script.specs.Events.{AreEvents}
use Rattle.sys_state.specs.Bytes.{line_bytes}
use Rattle.sys_state.specs.Run.{Input}

-- what the audit line of a run is shown is an audit
abbrev pub AuditsRuns : Type 0
AuditsRuns = (x : Input) (a : Audit) → IsConfig x.config → AreEvents x.events → x.config.audit ≡ Some a → Audited x.config (line_bytes x a.line)
