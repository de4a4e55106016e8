-- The report of what is reached: a line `FLOW A B` for each object A and each object B other than A that is reached from A,
-- in the order of A and then of B.
use Rattle.std.specs.Prelude.{ℕ, zero, suc, ◌≡◌, ◌==◌, ◌&&◌, not, Bool, List, [], ◌++◌, length, slice_get, codes, if◌then◌else◌}
use Rattle.std.specs.Option.{option_map_or}
use Rattle.sys_flow.specs.Reach.{ObjectPlace, IsTerminalAt, IsVolumeAt, IsPrinterAt, IsGuestAt, IsTheAudit, all_objects}
use Rattle.sys_flow.specs.Relation.{IsReach, reads}
use Rattle.sys_objects.specs.declared.records.Config.{Config}

-- an object's name; the audit has none and is shown as `*`
abbrev pub object_name : Config → ObjectPlace → List ℕ
object_name c (IsTerminalAt t) = option_map_or (λ row. row.name) (slice_get c.terminals t) []
object_name c (IsVolumeAt v) = option_map_or (λ row. row.name) (slice_get c.volumes v) []
object_name c (IsPrinterAt p) = option_map_or (λ row. row.name) (slice_get c.printers p) []
object_name c (IsGuestAt g) = option_map_or (λ row. row.name) (slice_get c.guests g) []
object_name c IsTheAudit = codes "*"

-- by its number
abbrev pub name_of : Config → ℕ → List ℕ
name_of c a = option_map_or (object_name c) (slice_get (all_objects c) a) []

unfoldable pub flow_line : List ℕ → List ℕ → List ℕ
flow_line from to = codes "FLOW " ++ from ++ codes " " ++ to ++ codes "\n"

-- the line of two, where there is one
abbrev pub flow_between : Config → (ℕ → ℕ → Bool) → ℕ → ℕ → List ℕ
flow_between c reached a b = if not (b == a) && reached a b then flow_line (name_of c a) (name_of c b) else []

-- the lines of an object to the first objects
abbrev pub flows_of : Config → (ℕ → ℕ → Bool) → ℕ → ℕ → List ℕ
flows_of c reached a zero = []
flows_of c reached a (suc n) = flows_of c reached a n ++ flow_between c reached a n

-- the lines of the first objects
abbrev pub flows_from : Config → (ℕ → ℕ → Bool) → ℕ → List ℕ
flows_from c reached zero = []
flows_from c reached (suc n) = flows_from c reached n ++ flows_of c reached n (length (all_objects c))

abbrev pub flow_text : Config → (ℕ → ℕ → Bool) → List ℕ
flow_text c reached = flows_from c reached (length (all_objects c))

-- the bytes are the report of what is reached
pub record IsReport (c : Config) (bytes : List ℕ) : Type 0 where
  pub rows : List ℕ
  pub reached : IsReach c rows
  pub is : bytes ≡ flow_text c (reads rows)
