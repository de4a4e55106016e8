-- Worked examples of the definitions, checked by computation.
use Rattle.std.specs.Prelude.{◌≡◌, refl, [], ◌∷◌, ◌++◌, true, false, codes, decimal, Some, None}
use Rattle.std.specs.declared.io.ErrorKind.TheVariants.{InvalidData, OutOfMemory}
use Rattle.sys_devices.specs.declared.device.Device.TheVariants as devices
use Rattle.vasm_text.specs.declared.fault.AsmKind.TheVariants.{BadLine}
use Rattle.vv_edge.specs.Notes.{notes_of}
use Rattle.vv_edge.specs.declared.stat.Flaw.TheVariants.{Link}
use Rattle.vv_edge.specs.declared.telling.Note.TheVariants as notes
use Rattle.vv_edge.specs.Asked.{files_named, text_asked, words_status}
use Rattle.vv_edge.specs.Ends.{end_text}
use Rattle.vv_edge.specs.Hints.{hint_of}
use Rattle.vv_edge.specs.Learning.{seen_as}
use Rattle.vv_edge.specs.declared.asked.TheConstants.{HELP}
use Rattle.vv_edge.specs.declared.hints.Told.{Told}
use Rattle.vvmm_files.specs.declared.status.Status.TheVariants.{Done, Words, ShelfFault, NoMemory, DriveIn, DeviceFault, Config as ConfigRefused, Asm}

two_words_are_no_text : text_asked (codes "--help" ∷ codes "--version" ∷ []) ≡ None
two_words_are_no_text = refl

another_word : text_asked (codes "--helpx" ∷ []) ≡ None
another_word = refl

bytes_that_are_no_text : words_status InvalidData ≡ Words
bytes_that_are_no_text = refl

no_room_for_words : words_status OutOfMemory ≡ NoMemory
no_room_for_words = refl

-- a drive is a link, and a line and a drive failed
abbrev pub told : Told
told = record { flawed = Some (notes.Flawed 3 Link) ∷ []; wanted = Some (notes.Wanted 3 2); lines = Some (notes.Audit 4) ∷ []; drives = Some (notes.Drive (record { drive = 3; stored = 1; blocks = 2 })) ∷ []; unread = codes "public"; key = codes "version = 3"; line = codes "HALTS"; column = 0 }

nothing_to_tell : end_text true Done told ≡ []
nothing_to_tell = refl

the_forms : end_text true Words told ≡ ((codes "vvmm: " ++ codes "bad words") ++ 10 ∷ []) ++ HELP.now
the_forms = refl

one_line_elsewhere : end_text false Words told ≡ (codes "vvmm: " ++ codes "bad words") ++ 10 ∷ []
one_line_elsewhere = refl

a_drive_and_its_note : end_text true (DriveIn 3) told ≡ ((codes "vvmm: " ++ (codes "drive " ++ decimal 3)) ++ 10 ∷ []) ++ notes_of (Some (notes.Flawed 3 Link) ∷ [])
a_drive_and_its_note = refl

all_that_failed : end_text true (DeviceFault (devices.Line 4)) told ≡ ((codes "vvmm: " ++ (codes "device line " ++ decimal 4)) ++ 10 ∷ []) ++ (notes_of told.lines ++ notes_of told.drives)
all_that_failed = refl

a_file_that_cannot_be_read : hint_of ShelfFault told ≡ codes "vvmm: this file cannot be read, or is a drive: public\n"
a_file_that_cannot_be_read = refl

a_line_that_is_refused : hint_of (Asm (record { line = 2; kind = BadLine })) told ≡ codes "vvmm: the line is: HALTS\nvvmm: no instruction, directive or operand is so, or a number does not fit\n"
a_line_that_is_refused = refl

a_rule_that_is_broken : hint_of (ConfigRefused (record { rule = 2; place = 0 })) told ≡ codes "vvmm: the rule: the version is 1 or 2\nvvmm: the key: version = 3\n"
a_rule_that_is_broken = refl

two_files : files_named (codes "run" ∷ codes "config" ∷ codes "script" ∷ codes "6" ∷ []) ≡ codes "config" ∷ codes "script" ∷ []
two_files = refl

no_file : files_named (codes "load" ∷ codes "7" ∷ []) ≡ []
no_file = refl

a_point_for_a_tab : seen_as 9 ≡ 46
a_point_for_a_tab = refl
