-- Which files may be devices. What the system says of a name is that of stat(2): kind, device and inode number, number of links,
-- length.
use Rattle.std.specs.Prelude.{ℕ, ◌/◌, ◌-◌, ◌^◌, min, List, Bool, true, false, ◌==◌, ◌&&◌, not, if◌then◌else◌, Option, Some, None, Result, Ok, Err}
use Rattle.std.specs.List.{list_any}
use Rattle.std.specs.declared.io.ErrorKind.{ErrorKind}
use Rattle.std.specs.declared.io.ErrorKind.TheVariants.{NotFound}
use Rattle.vv_edge.specs.declared.stat.Found.{Found}
use Rattle.vv_edge.specs.declared.stat.Flaw.{Flaw}
use Rattle.vv_edge.specs.declared.stat.Flaw.TheVariants as flaws
use Rattle.vv_edge.specs.declared.stat.Identity.{Identity}
use Rattle.vv_edge.specs.declared.stat.Look.{Look}
use Rattle.vv_edge.specs.declared.stat.Look.TheVariants.{Nothing, Untold, There}
use Rattle.vv_edge.specs.declared.stat.Kind.{Kind}
use Rattle.vv_edge.specs.declared.stat.Kind.TheVariants.{File, Link, Other}

abbrev pub is_file : Kind → Bool
is_file File = true
is_file Link = false
is_file Other = false

-- one file: the same number on the same device
abbrev pub is_same_file : Identity → Identity → Bool
is_same_file a b = (a.device == b.device) && (a.number == b.number)

abbrev pub is_identity_taken : Identity → List Identity → Bool
is_identity_taken identity taken = list_any (is_same_file identity) taken

-- what a line's name may be cleared of: a file that is no link, has one name, and isn't taken
abbrev pub is_removable : Found → List Identity → Bool
is_removable found taken = is_file found.kind && (found.names == 1) && not (is_identity_taken found.identity taken)

-- a line's file is still one of one name, and as long as what was shown
abbrev pub is_as_shown : Found → ℕ → Bool
is_as_shown found shown = is_file found.kind && (found.names == 1) && (found.length == shown)

-- what is wrong with a file, by the first test that fails: one name, nobody else's
abbrev pub file_flaw : Found → List Identity → Option Flaw
file_flaw found taken =
    if found.names == 1 then
    (if is_identity_taken found.identity taken then Some flaws.Shared else None)
    else Some flaws.OtherName

abbrev pub kind_flaw : Kind → Option Flaw → Option Flaw
kind_flaw Link other = Some flaws.Link
kind_flaw Other other = Some flaws.NoFile
kind_flaw File other = other

-- why it can't be a drive, beside the files that are taken
abbrev pub flaw_of : Found → List Identity → Option Flaw
flaw_of found taken = kind_flaw found.kind (file_flaw found taken)

-- a look that fails shows that nothing is there only where the system finds nothing under the name
abbrev pub look_failed : ErrorKind → Look
look_failed NotFound = Nothing
look_failed kind = Untold

abbrev pub unless_flawed : Found → Option Flaw → Result Found Flaw
unless_flawed found None = Ok found
unless_flawed found (Some flaw) = Err flaw

-- what is under a drive's name, or why it can't be a drive; none where nothing is there
abbrev pub drive_under : Look → List Identity → Option (Result Found Flaw)
drive_under Nothing taken = None
drive_under Untold taken = Some (Err flaws.Untold)
drive_under (There found) taken = Some (unless_flawed found (flaw_of found taken))

-- the whole blocks of 512 bytes of a file, as far as 32 bits hold their number; what is no file has none
abbrev pub whole_blocks : Option Found → ℕ
whole_blocks None = 0
whole_blocks (Some found) = if is_file found.kind then min (found.length / 512) (2 ^ 32 - 1) else 0

abbrev pub is_known : Option Identity → Identity → Bool
is_known None identity = true
is_known (Some known) identity = is_same_file known identity

-- a device's file is still the one that is known, if one is, with one name and of this length
abbrev pub is_as_found : Found → Option Identity → ℕ → Bool
is_as_found found known length = is_known known found.identity && is_as_shown found length
