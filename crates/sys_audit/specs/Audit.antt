-- The audit of a command (profile): `ROUND TERMINAL CLASS REPLY COMMAND` with a carriage return and a line feed. The
-- class is the terminal's.
use Rattle.std.specs.Prelude.{ℕ, List, [], ◌∷◌, ◌++◌, codes, decimal}
use Rattle.vv_class.specs.Text.{class_text}
use Rattle.sys_objects.specs.declared.records.Terminal.{Terminal}
use Rattle.sys_server.specs.declared.command.Verdict.{Verdict}
use Rattle.sys_server.specs.Replies.{reply_of}

unfoldable pub audit_record : ℕ → Terminal → List ℕ → Verdict → List ℕ
audit_record round t text v =
    decimal round ++ codes " " ++ t.name ++ codes " " ++ class_text t.class ++ codes " " ++ reply_of v ++ codes " " ++ text ++ 13 ∷ 10 ∷ []
