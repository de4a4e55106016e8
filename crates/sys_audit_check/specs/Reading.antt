-- A line as the record of a command, by a reading that computes. The round and the terminal's name have no blank (32), the
-- terminal gives the class, and a reply's first letter gives its length: so a line can be cut in one way alone. What was read is
-- compared with the line as a whole.
use Rattle.std.specs.Prelude.{ℕ, ◌+◌, ◌-◌, ◌==◌, ◌&&◌, nat_le, bytes_eq, if◌then◌else◌, List, [], ◌∷◌, length, take, drop, position, Option, Some, None, slice_get}
use Rattle.vv_base.specs.Digits.{decimal_of}
use Rattle.vv_class.specs.Text.{class_text}
use Rattle.vv_class.specs.declared.class.AccessClass.{AccessClass}
use Rattle.sys_audit_check.specs.Audited.{Entry, record_of, server_after_entry}
use Rattle.sys_audit_check.specs.declared.replay.Replay.{Replay}
use Rattle.sys_objects.specs.declared.records.Config.{Config}
use Rattle.sys_objects.specs.declared.records.Terminal.{Terminal}
use Rattle.sys_script.specs.EventLine.{after_blank, front}
use Rattle.sys_script.specs.Texts.{is_text}

-- how long the reply is that begins so: O, B and N begin one each, D the two denials
abbrev pub reply_length : List ℕ → ℕ
reply_length [] = 0
reply_length (b ∷ bytes) = if b == 79 then 2 else if b == 66 then 11 else if b == 78 then 14 else 12

-- what follows a reply and a blank
abbrev pub text_after_reply : List ℕ → List ℕ
text_after_reply bytes = drop (reply_length bytes + 1) bytes

-- all but a carriage return and a line feed
abbrev pub without_end : List ℕ → List ℕ
without_end bytes = take (length bytes - 2) bytes

-- the text of a command, which comes after the class and the reply
unfoldable pub command_in : AccessClass → List ℕ → List ℕ
command_in class bytes = without_end (text_after_reply (drop (length (class_text class) + 1) bytes))

-- what a line says, step by step: the bytes are those after the words that were read
abbrev pub entry_read_at : ℕ → ℕ → Option Terminal → List ℕ → Option Entry
entry_read_at round n None bytes = None
entry_read_at round n (Some t) bytes = Some (record { round = round; terminal = n; text = command_in t.class bytes })

abbrev pub entry_read : Config → ℕ → Option ℕ → List ℕ → Option Entry
entry_read c round None bytes = None
entry_read c round (Some n) bytes = entry_read_at round n (slice_get c.terminals n) bytes

abbrev pub terminal_place : Config → List ℕ → Option ℕ
terminal_place c name = position (λ t. bytes_eq t.name name) c.terminals

abbrev pub read_in_round : Config → Option ℕ → List ℕ → Option Entry
read_in_round c None bytes = None
read_in_round c (Some round) bytes = entry_read c round (terminal_place c (front bytes)) (after_blank bytes)

unfoldable pub entry_in : Config → List ℕ → Option Entry
entry_in c line = read_in_round c (decimal_of (front line) 1000000) (after_blank line)

-- the replay after a command, where the line is its record and its round doesn't fall
unfoldable pub followed_by : Config → Replay → List ℕ → Entry → Option Replay
followed_by c replay line e =
    if nat_le replay.round e.round && is_text e.text && bytes_eq (record_of c replay.server e) line
    then Some (record { round = e.round; server = server_after_entry c replay.server e }) else None

abbrev pub followed_if : Config → Replay → List ℕ → Option Entry → Option Replay
followed_if c replay line None = None
followed_if c replay line (Some e) = followed_by c replay line e

-- the replay after a line, where it is the record of a command
abbrev pub followed : Config → Replay → List ℕ → Option Replay
followed c replay line = followed_if c replay line (entry_in c line)
