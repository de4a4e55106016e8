-- Computed examples of keys that break a rule.
use Rattle.std.specs.Prelude.{◌≡◌, refl, [], codes, true, false, pos}
use Rattle.std.specs.Fmt.{digits}
use Rattle.toml.specs.Data.{Members, no_members, member, string, integer, table, array, item, no_items}
use Rattle.sys_objects.specs.Faults.{fault}
use Rattle.vv_edge.specs.Broken.{key_in, key_of}

-- a terminal with a line above 31, and no class
abbrev pub terminal : Members
terminal = member (codes "line") (integer (pos 40)) (member (codes "name") (string (codes "T")) no_members)

-- what comes first is told: a line that is no line, before a class that is missing
pub bad_line : key_of true (fault 6 0) terminal ≡ codes "line"
bad_line = refl

-- a key that is unknown comes before all
pub unknown_first : key_of true (fault 6 0) (member (codes "colour") (integer (pos 1)) terminal) ≡ codes "colour"
unknown_first = refl

-- in version 1 a quantum must be at the top, and not in version 2
pub no_quantum : key_of false (fault 1 0) no_members ≡ codes "quantum"
no_quantum = refl

pub no_version : key_of true (fault 1 0) no_members ≡ codes "version"
no_version = refl

-- the second printer is the fourth of the names after two terminals
abbrev pub document : Members
document =
    member (codes "printer") (array (item (table no_members) (item (table (member (codes "name") (string (codes "P")) no_members)) no_items)))
    (member (codes "terminal") (array (item (table terminal) (item (table terminal) no_items))) no_members)

pub twice_named : key_in document (fault 11 3) ≡ codes "name = \"P\""
twice_named = refl

pub first_terminal : key_in document (fault 6 1) ≡ codes "line = 40"
unfolding digits
first_terminal = refl

pub no_table : key_in document (fault 9 0) ≡ []
no_table = refl
