-- A print job (profile): `CLASS NAME: TEXT` with a carriage return and a line feed. Class and name are those of the
-- guest that prints.
use Rattle.std.specs.Prelude.{ℕ, List, [], ◌∷◌, ◌++◌, codes, map, nat_le, ◌&&◌, if◌then◌else◌}
use Rattle.vv_class.specs.declared.class.AccessClass.{AccessClass}
use Rattle.vv_class.specs.Text.{class_text}

-- a byte that is no blank and doesn't print becomes a point (46)
abbrev pub shown : ℕ → ℕ
shown b = if nat_le 0x20 b && nat_le b 0x7e then b else 46

unfoldable pub job_text : AccessClass → List ℕ → List ℕ → List ℕ
job_text class guest text = class_text class ++ codes " " ++ guest ++ codes ": " ++ map shown text ++ 13 ∷ 10 ∷ []
