-- Worked examples of the lengths of replies, by computation: a reply's first letter gives its length.
use Rattle.std.specs.Prelude.{◌≡◌, ℕ, List, ◌++◌, codes, refl}
use Rattle.sys_audit_check.specs.Reading.{text_after_reply}

abbrev pub shown_after : List ℕ → List ℕ
shown_after reply = text_after_reply (reply ++ codes " SHOW")

pub each_reply :
    (shown_after (codes "OK") ≡ codes "SHOW")
    × (shown_after (codes "BAD COMMAND") ≡ codes "SHOW")
    × (shown_after (codes "NO SUCH OBJECT") ≡ codes "SHOW")
    × (shown_after (codes "DENIED WRITE") ≡ codes "SHOW")
    × (shown_after (codes "DENIED EQUAL") ≡ codes "SHOW")
each_reply = (refl, refl, refl, refl, refl)
