-- What people at a terminal are shown beside an answer: what to do about it.
use Rattle.std.specs.Prelude.{ℕ, List, [], ◌∷◌, ◌++◌, ◌==◌, if◌then◌else◌, codes, decimal}
use Rattle.sys_script.specs.declared.event.ScriptKind.{ScriptKind}
use Rattle.sys_script.specs.declared.event.ScriptKind.TheVariants as script
use Rattle.vasm_text.specs.declared.fault.AsmKind.{AsmKind}
use Rattle.vasm_text.specs.declared.fault.AsmKind.TheVariants as source
use Rattle.vvmm_files.specs.declared.status.Status.{Status}
use Rattle.vvmm_files.specs.declared.status.Status.TheVariants as answers
use Rattle.vv_edge.specs.Notes.{note_if, notes_of}
use Rattle.vv_edge.specs.declared.asked.TheConstants.{HELP}
use Rattle.vv_edge.specs.declared.hints.Told.{Told}

-- what a configuration's rule asks for
abbrev pub rule_text : ℕ → List ℕ
rule_text rule =
    if rule == 0 then codes "the text is TOML, with arrays at most 80 deep in one another"
    else if rule == 1 then codes "the keys at the top are there, known and of their forms"
    else if rule == 2 then codes "the version is 1 or 2"
    else if rule == 3 then codes "the quantum is 1 to 100000"
    else if rule == 4 then codes "the slice is 1 to the quantum, in version 2 to 100000"
    else if rule == 5 then codes "terminal, volume, printer and guest are arrays of tables, not too long"
    else if rule == 6 then codes "a terminal's keys are there, known and in range"
    else if rule == 7 then codes "a volume's keys are there, known and in range"
    else if rule == 8 then codes "a printer's keys are there, known and in range"
    else if rule == 9 then codes "the keys of a guest and its mounts are there, known and in range"
    else if rule == 10 then codes "the audit's keys are there, known and in range"
    else if rule == 11 then codes "a name occurs once"
    else if rule == 12 then codes "a line occurs once"
    else if rule == 13 then codes "a drive occurs once"
    else if rule == 14 then codes "a guest's printer is a printer into whose class the guest flows"
    else if rule == 15 then codes "a guest's console is a terminal of its class, and no other guest's"
    else if rule == 16 then codes "a mounted volume flows into the guest, and has its class to be written"
    else if rule == 17 then codes "each class flows into the audit's"
    else codes "all guests have at most 16384 pages together"

-- the key of the tables of which a rule's place is one
abbrev pub table_key : ℕ → List ℕ
table_key rule =
    if rule == 6 then codes "terminal"
    else if rule == 7 then codes "volume"
    else if rule == 8 then codes "printer"
    else if rule == 9 then codes "guest"
    else if rule == 13 then codes "volume"
    else if rule == 14 then codes "guest"
    else if rule == 15 then codes "guest"
    else if rule == 16 then codes "guest"
    else if rule == 18 then codes "guest"
    else []

abbrev pub numbered_table : List ℕ → ℕ → List ℕ
numbered_table [] place = []
numbered_table (byte ∷ key) place = (((byte ∷ key) ++ codes " ") ++ decimal place) ++ codes ", counted from 0"

-- how a script's line is to be
abbrev pub script_advice : ScriptKind → List ℕ
script_advice script.BadRound = codes "it begins with a round, 1 to 1000000, and a blank"
script_advice script.BadName = codes "after the round comes a terminal's name, A to Z and 0 to 9"
script_advice script.BadEvent = codes "after the name comes > TEXT or break"
script_advice script.BadText = codes "a text has at most 1000 bytes, each a blank to ~"
script_advice script.RoundFalls = codes "rounds may not fall"

-- what is wrong with a source's line
abbrev pub source_advice : AsmKind → List ℕ
source_advice source.BadLine = codes "no instruction, directive or operand is so, or a number does not fit"
source_advice source.TwiceNamed = codes "its name was given to an earlier line"
source_advice source.NoName = codes "no line has that name"
source_advice source.OutOfReach = codes "take a longer field: W^ for B^, BSBW for BSBB, BRW for BRB"

-- what to do about an answer that says all by itself
abbrev pub advice : Status → List ℕ
advice (answers.Missing name) = codes "no file has that name, counted from the folder of the call"
advice (answers.TooLong name) = codes "a file has at most 16777216 bytes"
advice (answers.Image guest) = codes "the image does not end in its guest's memory: more pages, or a lower load"
advice answers.SnapSize = codes "at most 31250 pages and blocks together, and 262144 bytes of configuration"
advice (answers.Snap fault) = codes "no snapshot of save, or one that was cut or changed"
advice answers.OutFault = codes "standard output took not all: a full disk, or a reader that went"
advice answers.KeyFault = codes "standard input failed"
advice answers.NoMemory = codes "see ulimit -v, and what the system has left"
advice status = []

-- a line with its end, if it says something
abbrev pub line_if : List ℕ → List ℕ → List ℕ
line_if before [] = []
line_if before (byte ∷ bytes) = ((codes "vvmm: " ++ before) ++ byte ∷ bytes) ++ 10 ∷ []

-- the column where the part of a line begins that is refused, where it is known
abbrev pub column_text : ℕ → List ℕ
column_text column = if column == 0 then [] else (codes "column " ++ decimal column) ++ codes ": "

-- all that is shown of an answer beside its text
abbrev pub hint_of : Status → Told → List ℕ
hint_of answers.Words told = HELP.now
hint_of answers.ShelfFault told = line_if (codes "this file cannot be read, or is a drive: ") told.unread
hint_of (answers.Config fault) told = (line_if (codes "the rule: ") (rule_text fault.rule) ++ line_if (codes "the table: ") (numbered_table (table_key fault.rule) fault.place)) ++ line_if (codes "the key: ") told.key
hint_of (answers.Script fault) told = line_if (codes "the line is: ") told.line ++ line_if (column_text told.column) (script_advice fault.kind)
hint_of (answers.Asm fault) told = line_if (codes "the line is: ") told.line ++ line_if (column_text told.column) (source_advice fault.kind)
hint_of (answers.Audit fault) told = line_if (codes "the line is: ") told.line
hint_of (answers.VolumeSize volume) told = note_if told.wanted ++ notes_of told.flawed
hint_of (answers.DriveIn drive) told = notes_of told.flawed
hint_of (answers.DeviceFault device) told = notes_of told.lines ++ notes_of told.drives
hint_of status told = line_if [] (advice status)
