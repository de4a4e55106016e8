-- Worked examples of the definitions, checked by computation.
use Rattle.std.specs.Prelude.{◌≡◌, refl, [], ◌∷◌, ◌++◌, true, false, codes, decimal, Some, None}
use Rattle.std.specs.declared.io.ErrorKind.TheVariants.{NotFound, PermissionDenied, NotADirectory, OutOfMemory}
use Rattle.vv_edge.specs.Faults.{shelf_fault}
use Rattle.vv_edge.specs.Found.{flaw_of, is_as_shown, is_removable}
use Rattle.vv_edge.specs.Notes.{notes_of}
use Rattle.vv_edge.specs.declared.stat.Found.{Found}
use Rattle.vv_edge.specs.declared.stat.Flaw.TheVariants as flaws
use Rattle.vv_edge.specs.declared.telling.Note.TheVariants as notes
use Rattle.vv_edge.specs.declared.stat.Kind.TheVariants.{File, Link, Other}
use Rattle.vv_edge.specs.declared.stat.Identity.{Identity}
use Rattle.vv_io.specs.declared.shelf.ShelfFault.TheVariants.{Missing, Failed, NoMemory}

nothing_there : shelf_fault NotFound ≡ Missing
nothing_there = refl

no_rights : shelf_fault PermissionDenied ≡ Failed
no_rights = refl

a_file_in_place_of_a_folder : shelf_fault NotADirectory ≡ Failed
a_file_in_place_of_a_folder = refl

no_room : shelf_fault OutOfMemory ≡ NoMemory
no_room = refl

abbrev pub one : Identity
one = record { device = 8; number = 100 }

abbrev pub two : Identity
two = record { device = 8; number = 200 }

abbrev pub elsewhere : Identity
elsewhere = record { device = 9; number = 100 }

-- a file of two blocks
abbrev pub good : Found
good = record { kind = File; identity = one; names = 1; length = 1024 }

a_good_drive : flaw_of good (two ∷ elsewhere ∷ []) ≡ None
a_good_drive = refl

another_drives_file : flaw_of good (two ∷ one ∷ []) ≡ Some flaws.Shared
another_drives_file = refl

an_empty_file : flaw_of (record good { length = 0 }) [] ≡ None
an_empty_file = refl

a_byte_more : flaw_of (record good { length = 1025 }) [] ≡ None
a_byte_more = refl

a_second_name : flaw_of (record good { names = 2 }) [] ≡ Some flaws.OtherName
a_second_name = refl

a_removed_file : flaw_of (record good { names = 0 }) [] ≡ Some flaws.OtherName
a_removed_file = refl

a_link : flaw_of (record good { kind = Link }) [] ≡ Some flaws.Link
a_link = refl

a_folder : flaw_of (record good { kind = Other; names = 2 }) [] ≡ Some flaws.NoFile
a_folder = refl

an_earlier_runs_file : is_removable good (two ∷ []) ≡ true
an_earlier_runs_file = refl

a_taken_file_stays : is_removable good (two ∷ one ∷ []) ≡ false
a_taken_file_stays = refl

a_link_stays : is_removable (record good { kind = Link }) [] ≡ false
a_link_stays = refl

a_folder_stays : is_removable (record good { kind = Other }) [] ≡ false
a_folder_stays = refl

a_file_of_two_names_stays : is_removable (record good { names = 2 }) [] ≡ false
a_file_of_two_names_stays = refl

a_line_as_shown : is_as_shown good 1024 ≡ true
a_line_as_shown = refl

a_line_that_was_cut : is_as_shown good 1025 ≡ false
a_line_that_was_cut = refl

a_line_of_two_names : is_as_shown (record good { names = 2 }) 1024 ≡ false
a_line_of_two_names = refl

two_notes : notes_of (None ∷ Some (notes.Flawed 0 flaws.Link) ∷ None ∷ Some (notes.Flawed 15 flaws.NoFile) ∷ [])
    ≡ (((codes "vvmm: drive " ++ decimal 0) ++ codes " is a link") ++ 10 ∷ []) ++ ((((codes "vvmm: drive " ++ decimal 15) ++ codes " is no file") ++ 10 ∷ []) ++ [])
two_notes = refl

a_drive_that_failed : notes_of (Some (notes.Drive (record { drive = 3; stored = 5; blocks = 8 })) ∷ [])
    ≡ ((((((((codes "vvmm: drive " ++ decimal 3) ++ codes " failed: ") ++ decimal 5) ++ codes " of its ") ++ decimal 8) ++ codes " blocks were stored") ++ 10 ∷ []) ++ [])
a_drive_that_failed = refl

the_audit_failed : notes_of (Some (notes.Audit 4) ∷ []) ≡ ((((codes "vvmm: line " ++ decimal 4) ++ codes ", the audit, failed") ++ 10 ∷ []) ++ [])
the_audit_failed = refl
