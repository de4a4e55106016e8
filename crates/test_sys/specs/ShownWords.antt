-- Worked examples of the words of commands at the server, by computation.
use Rattle.std.specs.Prelude.{◌≡◌, codes, false, refl}
use Rattle.std.specs.List.{join_with_byte}
use Rattle.sys_server.specs.CommandLine.{words_of}
use Rattle.sys_server.specs.declared.command.NamedCommand.TheVariants.{Connect, Start, Halt, Mount, Dismount, Show}

pub words_of_each :
    (join_with_byte 32 (words_of (Connect (codes "A1"))) ≡ codes "CONNECT A1")
    × (join_with_byte 32 (words_of (Start (codes "A1"))) ≡ codes "START A1")
    × (join_with_byte 32 (words_of (Halt (codes "A1"))) ≡ codes "HALT A1")
    × (join_with_byte 32 (words_of (Mount (codes "A1") 0 (codes "PUB") false)) ≡ codes "MOUNT A1 0 PUB READ")
    × (join_with_byte 32 (words_of (Dismount (codes "A1") 2)) ≡ codes "DISMOUNT A1 2")
    × (join_with_byte 32 (words_of Show) ≡ codes "SHOW")
words_of_each = (refl, refl, refl, refl, refl, refl)
