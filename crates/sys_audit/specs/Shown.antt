-- Worked examples of audited commands, checked by computation.
use Rattle.std.specs.Prelude.{◌≡◌, ℕ, List, [], codes, refl}
use Rattle.std.specs.Fmt.{digits}
use Rattle.vv_class.specs.Text.{class_text, categories_below}
use Rattle.sys_objects.specs.declared.records.Terminal.{Terminal}
use Rattle.sys_server.specs.declared.command.Command.TheVariants.{Connect}
use Rattle.sys_server.specs.declared.command.Rule.TheVariants.{Write}
use Rattle.sys_server.specs.declared.command.Verdict.TheVariants.{Granted, BadCommand, NoSuchObject, Denied}
use Rattle.sys_audit.specs.Audit.{audit_record}

abbrev terminal : List ℕ → ℕ → Terminal
terminal name level = record { name = name; line = 0; class = record { secrecy = level; secrecy_cats = 0; integrity = 0; integrity_cats = 0 } }

pub no_such_object : audit_record 1 (terminal (codes "T1") 1) (codes "HALT X") NoSuchObject ≡ codes "1 T1 1{};0{} NO SUCH OBJECT HALT X\r\n"
unfolding audit_record class_text categories_below digits
no_such_object = refl

pub granted : audit_record 2 (terminal (codes "T2") 0) (codes "CONNECT A") (Granted (Connect 0)) ≡ codes "2 T2 0{};0{} OK CONNECT A\r\n"
unfolding audit_record class_text categories_below digits
granted = refl

pub denied : audit_record 1000000 (terminal (codes "T1") 1) (codes "MOUNT A 0 PUB WRITE") (Denied Write) ≡ codes "1000000 T1 1{};0{} DENIED WRITE MOUNT A 0 PUB WRITE\r\n"
unfolding audit_record class_text categories_below digits
denied = refl

-- the blank after the reply stays
pub empty_command : audit_record 3 (terminal (codes "T1") 0) [] BadCommand ≡ codes "3 T1 0{};0{} BAD COMMAND \r\n"
unfolding audit_record class_text categories_below digits
empty_command = refl
