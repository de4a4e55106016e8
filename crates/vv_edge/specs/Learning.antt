-- What a file says about an answer.
use Rattle.std.specs.Prelude.{ℕ, ◌-◌, min, List, [], ◌∷◌, length, map, take, slice_index_or, nat_le, nat_lt, ◌&&◌, if◌then◌else◌, Option, Some, None, option_map, Result, Ok, Err, slice_get}
use Rattle.std.specs.Str.Lines.{lines}
use Rattle.sys_objects.specs.declared.errors.ConfigFault.{ConfigFault}
use Rattle.sys_objects.specs.declared.records.Config.{Config}
use Rattle.sys_objects.specs.declared.records.VolumeRow.{VolumeRow}
use Rattle.vv_edge.specs.Columns.{script_column, source_column}
use Rattle.vv_edge.specs.declared.telling.Note.{Note}
use Rattle.vv_edge.specs.declared.telling.Note.TheVariants.{Wanted}
use Rattle.vvmm_files.specs.declared.status.Status.{Status}
use Rattle.vvmm_files.specs.declared.status.Status.TheVariants as answers
use Rattle.vvmm_files.specs.declared.status.Status.TheVariants.{Script, Audit, Asm, VolumeSize, DeviceFault}

-- the place among the words of the file that says more about an answer, if one does
abbrev pub told_word : Status → Option ℕ
told_word (answers.Config fault) = Some 1
told_word (Script fault) = Some 2
told_word (Audit fault) = Some 2
told_word (Asm fault) = Some 1
told_word (VolumeSize volume) = Some 1
told_word (DeviceFault device) = Some 1
told_word status = None

-- the audit's line, where a device failed
abbrev pub audit_line_in : Result Config ConfigFault → Status → Option ℕ
audit_line_in (Ok config) (DeviceFault device) = option_map (λ audit. audit.line) config.audit
audit_line_in config status = None

-- what the drive of a volume must have
abbrev pub drive_wanted : Option VolumeRow → Option Note
drive_wanted None = None
drive_wanted (Some row) = Some (Wanted row.drive row.blocks)

abbrev pub wanted_in : Result Config ConfigFault → Status → Option Note
wanted_in (Ok config) (VolumeSize volume) = drive_wanted (slice_get config.volumes volume)
wanted_in config status = None

-- a byte that prints, or else a point
abbrev pub seen_as : ℕ → ℕ
seen_as byte = if nat_le 32 byte && nat_lt byte 127 then byte else 46

-- a line of a text, counted from 1; no bytes where there is none
abbrev pub line_of_text : List ℕ → ℕ → List ℕ
line_of_text text line = slice_index_or (lines text) (line - 1) []

-- at most 80 bytes, each as it is shown
abbrev pub shown_front : List ℕ → List ℕ
shown_front line = map seen_as (take (min (length line) 80) line)

-- the line that an answer refuses
abbrev pub refused_line : List ℕ → Status → List ℕ
refused_line text (Script fault) = shown_front (line_of_text text fault.line)
refused_line text (Asm fault) = shown_front (line_of_text text fault.line)
refused_line text (Audit fault) = shown_front (line_of_text text fault.line)
refused_line text status = []

-- what is said of a line, if it has bytes
abbrev pub column_if : (List ℕ → ℕ) → List ℕ → ℕ
column_if column [] = 0
column_if column (byte ∷ line) = column (byte ∷ line)

-- the column of that line where the part begins that is refused; 0 where it isn't known
abbrev pub refused_column : List ℕ → Status → ℕ
refused_column text (Script fault) = column_if (script_column fault.kind) (line_of_text text fault.line)
refused_column text (Asm fault) = column_if (source_column fault.kind) (line_of_text text fault.line)
refused_column text status = 0
