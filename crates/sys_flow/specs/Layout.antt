-- Where the objects are: those of one height in one row, the highest row first, each of a row in a column of its own.
-- Lengths are in pixels.
use Rattle.std.specs.Prelude.{ℕ, ◌+◌, ◌-◌, ◌*◌, ◌%◌, ◌==◌, ◌&&◌, nat_lt, max, List, [], ◌∷◌, map, length, count_by}
use Rattle.vv_class.specs.Text.{class_text}
use Rattle.sys_objects.specs.declared.records.Config.{Config}
use Rattle.sys_flow.specs.Seats.{classes_of, seats_of}
use Rattle.sys_flow.specs.declared.layout.Spot.{Spot}
use Rattle.sys_flow.specs.declared.seats.Seat.{Seat}

-- how many of the same row come before
abbrev pub column : List Seat → Seat → ℕ
column seats s = count_by (λ t. t.height == s.height && nat_lt t.order s.order) seats

-- how many rows are higher: each has one object in its first column
abbrev pub row : List Seat → Seat → ℕ
row seats s = count_by (λ t. nat_lt s.height t.height && column seats t == 0) seats

abbrev pub greatest : List ℕ → ℕ
greatest [] = 0
greatest (n ∷ ns) = max n (greatest ns)

-- the most letters in a line of a box: of a class, a name or a kind
unfoldable pub letters : Config → ℕ
letters c = max 8 (greatest (map (λ class. length (class_text class)) (classes_of c)))

-- half of a box's width: 8 a letter, and a border
abbrev pub half : ℕ → ℕ
half n = 4 * n + 6

-- a quarter of the way from column to column
abbrev pub quarter : ℕ → ℕ
quarter n = 2 * n + 8

-- the left upper corner of a box; the rows of one rank are shifted, so that fewer arrows pass under boxes
abbrev pub spot : ℕ → List Seat → Seat → Spot
spot n seats s = record { x = 10 + (4 * column seats s + 3 * (3 - s.height % 4)) * quarter n; y = 10 + 96 * row seats s }

abbrev pub spots_of : Config → List Spot
spots_of c = map (spot (letters c) (seats_of c)) (seats_of c)
