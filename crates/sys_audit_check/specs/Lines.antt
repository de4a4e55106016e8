-- Lines of bytes, and the first through whose end the bytes are no audit. A line ends with LF, and bytes after the last LF
-- are a line.
use Rattle.std.specs.Prelude.{ℕ, zero, suc, ◌≤◌, ◌<◌, ◌==◌, if◌then◌else◌, List, [], ◌∷◌, ◌++◌, Result, Ok, Err}
use Rattle.sys_objects.specs.declared.records.Config.{Config}
use Rattle.sys_audit_check.specs.Audited.{Audited}
use Rattle.sys_audit_check.specs.declared.fault.AuditFault.{AuditFault}

-- the first line, with its line feed if it has one
abbrev pub first_line : List ℕ → List ℕ
first_line [] = []
first_line (b ∷ bytes) = if b == 10 then b ∷ [] else b ∷ first_line bytes

-- what follows it
abbrev pub after_first_line : List ℕ → List ℕ
after_first_line [] = []
after_first_line (b ∷ bytes) = if b == 10 then bytes else after_first_line bytes

-- the bytes through the end of the first n lines
abbrev pub through : ℕ → List ℕ → List ℕ
through zero bytes = []
through (suc n) bytes = first_line bytes ++ through n (after_first_line bytes)

-- it is the first line such that the bytes through its end are no audit; lines are counted from 1
pub record IsFirstBad (c : Config) (bytes : List ℕ) (line : ℕ) : Type 0 where
  pub from : 1 ≤ line
  pub before : (k : ℕ) → k < line → Audited c (through k bytes)
  pub bad : Audited c (through line bytes) → ⊥

-- what a check answers: whether the bytes are an audit, and else the first such line
abbrev pub Checks : Config → List ℕ → Result (Unit {0}) AuditFault → Type 0
Checks c bytes (Ok _) = Audited c bytes
Checks c bytes (Err fault) = IsFirstBad c bytes fault.line × (Audited c bytes → ⊥)
