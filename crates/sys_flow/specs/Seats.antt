-- How high an object is in the picture, and in what order. What flows, flows up: an object whose class flows into another
-- class is lower, and incomparable classes may be beside each other.
use Rattle.std.specs.Prelude.{ℕ, ◌+◌, ◌-◌, ◌*◌, List, map, length, slice_get, unwrap_or, position, count_ones}
use Rattle.std.specs.List.{range_with_len}
use Rattle.std.specs.Option.{option_map_or}
use Rattle.vv_class.specs.declared.class.AccessClass.{AccessClass}
use Rattle.sys_objects.specs.declared.records.Config.{Config}
use Rattle.sys_objects.specs.Rules.{same_class}
use Rattle.sys_flow.specs.Reach.{ObjectPlace, IsTerminalAt, IsVolumeAt, IsPrinterAt, IsGuestAt, IsTheAudit, all_objects}
use Rattle.sys_flow.specs.declared.seats.Seat.{Seat}

-- where there is no object
abbrev pub no_class : AccessClass
no_class = record { secrecy = 0; secrecy_cats = 0; integrity = 0; integrity_cats = 0 }

abbrev pub object_class : Config → ObjectPlace → AccessClass
object_class c (IsTerminalAt t) = option_map_or (λ row. row.class) (slice_get c.terminals t) no_class
object_class c (IsVolumeAt v) = option_map_or (λ row. row.class) (slice_get c.volumes v) no_class
object_class c (IsPrinterAt p) = option_map_or (λ row. row.class) (slice_get c.printers p) no_class
object_class c (IsGuestAt g) = option_map_or (λ row. row.class) (slice_get c.guests g) no_class
object_class c IsTheAudit = option_map_or (λ row. row.class) c.audit no_class

-- of the object of a number
abbrev pub object_class_at : Config → ℕ → AccessClass
object_class_at c a = option_map_or (object_class c) (slice_get (all_objects c) a) no_class

-- more secrecy and less integrity rank higher, so a class that flows into another ranks no higher
abbrev pub class_rank : AccessClass → ℕ
class_rank class = class.secrecy + count_ones class.secrecy_cats + (255 - class.integrity) + (64 - count_ones class.integrity_cats)

-- among objects of one rank volumes are lowest, then guests, then terminals and printers, then the audit
abbrev pub order_in_rank : ObjectPlace → ℕ
order_in_rank (IsVolumeAt v) = 0
order_in_rank (IsGuestAt g) = 1
order_in_rank (IsTerminalAt t) = 2
order_in_rank (IsPrinterAt p) = 2
order_in_rank IsTheAudit = 3

abbrev pub order_in_rank_at : Config → ℕ → ℕ
order_in_rank_at c a = option_map_or order_in_rank (slice_get (all_objects c) a) 0

abbrev pub numbers : Config → List ℕ
numbers c = range_with_len 0 (length (all_objects c))

abbrev pub classes_of : Config → List AccessClass
classes_of c = map (object_class_at c) (numbers c)

-- the first object of a class
abbrev pub first_of_class : List AccessClass → AccessClass → ℕ
first_of_class classes class = unwrap_or (position (same_class class) classes) 0

-- objects of one class are together, in the order of their numbers; there are fewer than 128
abbrev pub seat_of : Config → ℕ → Seat
seat_of c a = record { height = 4 * class_rank (object_class_at c a) + order_in_rank_at c a; order = 128 * first_of_class (classes_of c) (object_class_at c a) + a }

abbrev pub seats_of : Config → List Seat
seats_of c = map (seat_of c) (numbers c)
