-- Worked examples of lines at the server, checked by computation.
use Rattle.std.specs.Prelude.{◌≡◌, [], codes, true, false, None, Some, refl}
use Rattle.std.specs.List.{join_with_byte}
use Rattle.sys_server.specs.CommandLine.{asked_in, words_of}
use Rattle.sys_server.specs.declared.command.NamedCommand.TheVariants.{Connect, Start, Halt, Mount, Dismount, Show}

a_mount : join_with_byte 32 (words_of (Mount (codes "A") 3 (codes "PUB") true)) ≡ codes "MOUNT A 3 PUB WRITE"
a_mount = refl

pub connects : asked_in (codes "CONNECT A1234567") ≡ Some (Connect (codes "A1234567"))
unfolding asked_in
connects = refl

pub starts : asked_in (codes "START A") ≡ Some (Start (codes "A"))
unfolding asked_in
starts = refl

pub halts : asked_in (codes "HALT X") ≡ Some (Halt (codes "X"))
unfolding asked_in
halts = refl

pub mounts_to_read : asked_in (codes "MOUNT A 0 SEC READ") ≡ Some (Mount (codes "A") 0 (codes "SEC") false)
unfolding asked_in
mounts_to_read = refl

pub mounts_to_write : asked_in (codes "MOUNT A 3 PUB WRITE") ≡ Some (Mount (codes "A") 3 (codes "PUB") true)
unfolding asked_in
mounts_to_write = refl

pub dismounts : asked_in (codes "DISMOUNT A 2") ≡ Some (Dismount (codes "A") 2)
unfolding asked_in
dismounts = refl

pub shows : asked_in (codes "SHOW") ≡ Some Show
unfolding asked_in
shows = refl

pub nothing : asked_in [] ≡ None
unfolding asked_in
nothing = refl

pub a_blank_after : asked_in (codes "SHOW ") ≡ None
unfolding asked_in
a_blank_after = refl

pub a_blank_in_front : asked_in (codes " SHOW") ≡ None
unfolding asked_in
a_blank_in_front = refl

pub two_blanks : asked_in (codes "CONNECT  A") ≡ None
unfolding asked_in
two_blanks = refl

pub no_blank : asked_in (codes "CONNECTA") ≡ None
unfolding asked_in
no_blank = refl

pub lower_case : asked_in (codes "connect A") ≡ None
unfolding asked_in
lower_case = refl

pub nine_characters : asked_in (codes "CONNECT A12345678") ≡ None
unfolding asked_in
nine_characters = refl

pub no_name : asked_in (codes "CONNECT ") ≡ None
unfolding asked_in
no_name = refl

pub a_digit_first : asked_in (codes "CONNECT 1A") ≡ None
unfolding asked_in
a_digit_first = refl

pub a_word_too_many : asked_in (codes "CONNECT A B") ≡ None
unfolding asked_in
a_word_too_many = refl

pub unit_four : asked_in (codes "MOUNT A 4 PUB READ") ≡ None
unfolding asked_in
unit_four = refl

pub two_digits : asked_in (codes "DISMOUNT A 00") ≡ None
unfolding asked_in
two_digits = refl

pub no_access : asked_in (codes "MOUNT A 0 PUB") ≡ None
unfolding asked_in
no_access = refl

pub another_access : asked_in (codes "MOUNT A 0 PUB READS") ≡ None
unfolding asked_in
another_access = refl

pub a_word_after_the_access : asked_in (codes "MOUNT A 0 PUB READ ") ≡ None
unfolding asked_in
a_word_after_the_access = refl

pub a_unit_too_many : asked_in (codes "HALT A 0") ≡ None
unfolding asked_in
a_unit_too_many = refl
