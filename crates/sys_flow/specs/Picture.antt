-- The picture of a configuration as an SVG document: a box for each object, and an arrow for each edge. Names, classes and
-- numbers have no character that XML would need escaped.
use Rattle.std.specs.Prelude.{ℕ, ◌+◌, ◌-◌, ◌*◌, nat_lt, List, [], ◌∷◌, ◌++◌, map, filter, codes, decimal, slice_get, unwrap_or, if◌then◌else◌}
use Rattle.std.specs.List.{flat_map}
use Rattle.std.specs.Option.{option_map_or}
use Rattle.vv_class.specs.Text.{class_text}
use Rattle.sys_objects.specs.declared.records.Config.{Config}
use Rattle.sys_flow.specs.Reach.{ObjectPlace, IsTerminalAt, IsVolumeAt, IsPrinterAt, IsGuestAt, IsTheAudit, all_objects, has_edge}
use Rattle.sys_flow.specs.Report.{name_of}
use Rattle.sys_flow.specs.Layout.{greatest, half, letters, quarter, spots_of}
use Rattle.sys_flow.specs.Seats.{numbers, object_class_at}
use Rattle.sys_flow.specs.declared.layout.Spot.{Spot}

-- ` name="12"`
abbrev pub attribute : List ℕ → ℕ → List ℕ
attribute name n = codes " " ++ name ++ codes "=\"" ++ decimal n ++ codes "\""

-- an object's word, the color of its box, and the color of the arrows from it
pub record DrawnAs : Type 0 where
  pub kind : List ℕ
  pub fill : List ℕ
  pub ink : List ℕ

abbrev pub drawn_as : ObjectPlace → DrawnAs
drawn_as (IsTerminalAt t) = record { kind = codes "terminal"; fill = codes "#cfe2f7"; ink = codes "#1f5fa8" }
drawn_as (IsVolumeAt v) = record { kind = codes "volume"; fill = codes "#d8ecd0"; ink = codes "#3a7d2c" }
drawn_as (IsPrinterAt p) = record { kind = codes "printer"; fill = codes "#eadcf0"; ink = codes "#000000" }
drawn_as (IsGuestAt g) = record { kind = codes "guest"; fill = codes "#fff2c4"; ink = codes "#b07a00" }
drawn_as IsTheAudit = record { kind = codes "audit"; fill = codes "#ffffff"; ink = codes "#000000" }

abbrev pub by_number : Config → (ObjectPlace → List ℕ) → ℕ → List ℕ
by_number c words a = option_map_or words (slice_get (all_objects c) a) []

-- a text around a place
unfoldable pub label : ℕ → ℕ → List ℕ → List ℕ
label x y words = codes "<text" ++ attribute (codes "x") x ++ attribute (codes "y") y ++ codes ">" ++ words ++ codes "</text>"

unfoldable pub before_color : List ℕ
before_color = codes " height=\"48\" rx=\"4\" fill=\""

unfoldable pub after_color : List ℕ
after_color = codes "\" fill-opacity=\"0.8\" stroke=\"black\"/>"

unfoldable pub frame_of_box : ℕ → Spot → List ℕ → List ℕ
frame_of_box n s color =
    codes "<rect" ++ attribute (codes "x") s.x ++ attribute (codes "y") s.y ++ attribute (codes "width") (2 * half n) ++ before_color ++ color ++ after_color

-- kind, name and class
unfoldable pub whole_box : ℕ → Spot → List ℕ → List ℕ → List ℕ → List ℕ → List ℕ
whole_box n s color first second third =
    frame_of_box n s color ++ label (s.x + half n) (s.y + 14) first ++ label (s.x + half n) (s.y + 29) second ++ label (s.x + half n) (s.y + 43) third ++ codes "\n"

unfoldable pub segment : ℕ → ℕ → ℕ → ℕ → List ℕ → List ℕ
segment x y x' y' color =
    codes "<line" ++ attribute (codes "x1") x ++ attribute (codes "y1") y ++ attribute (codes "x2") x' ++ attribute (codes "y2") y'
    ++ codes " stroke=\"" ++ color ++ codes "\" marker-end=\"url(#head)\"/>\n"

-- from border to border: up on the right of the middle, down on the left
abbrev pub arrow : ℕ → Spot → Spot → List ℕ → List ℕ
arrow n from to color =
    if nat_lt to.y from.y
    then segment (from.x + half n + 10) from.y (to.x + half n + 10) (to.y + 48) color
    else segment (from.x + half n - 10) (from.y + 48) (to.x + half n - 10) to.y color

-- how an SVG document begins, letters as they are in every browser, and the head of an arrow
unfoldable pub document_opening : List ℕ
document_opening = codes "<svg xmlns=\"http://www.w3.org/2000/svg\""

unfoldable pub style : List ℕ
style = codes " font-family=\"monospace\" font-size=\"13\" text-anchor=\"middle\">\n"

unfoldable pub marker : List ℕ
marker = codes "<defs><marker id=\"head\" viewBox=\"0 0 8 8\" refX=\"8\" refY=\"4\" markerWidth=\"8\" markerHeight=\"8\" orient=\"auto\"><path d=\"M0 0L8 4L0 8z\"/></marker></defs>\n"

unfoldable pub head : ℕ → ℕ → List ℕ
head width height =
    document_opening ++ attribute (codes "width") width ++ attribute (codes "height") height ++ style ++ marker

-- the spot of the object of a number
abbrev pub spot_at : List Spot → ℕ → Spot
spot_at spots a = unwrap_or (slice_get spots a) (record { x = 0; y = 0 })

abbrev pub box_of : Config → ℕ → List Spot → ℕ → List ℕ
box_of c n spots a = whole_box n (spot_at spots a) (by_number c (λ o. (drawn_as o).fill) a) (by_number c (λ o. (drawn_as o).kind) a) (name_of c a) (class_text (object_class_at c a))

abbrev pub arrow_of : Config → ℕ → List Spot → ℕ × ℕ → List ℕ
arrow_of c n spots edge = arrow n (spot_at spots edge.0) (spot_at spots edge.1) (by_number c (λ o. (drawn_as o).ink) edge.0)

-- the edges
abbrev pub edge_to : ℕ → ℕ → ℕ × ℕ
edge_to a b = (a, b)

abbrev pub edges_from : Config → ℕ → List (ℕ × ℕ)
edges_from c a = map (edge_to a) (filter (has_edge c a) (numbers c))

abbrev pub edges_of : Config → List (ℕ × ℕ)
edges_of c = flat_map (edges_from c) (numbers c)

abbrev pub arrows : Config → ℕ → List Spot → List (List ℕ)
arrows c n spots = map (arrow_of c n spots) (edges_of c)

abbrev pub boxes : Config → ℕ → List Spot → List (List ℕ)
boxes c n spots = map (box_of c n spots) (numbers c)

abbrev pub joined : List (List ℕ) → List ℕ
joined [] = []
joined (part ∷ parts) = part ++ joined parts

-- as wide and as high as what is in it
abbrev pub start : ℕ → List Spot → List ℕ
start n spots = head (greatest (map (λ s. s.x) spots) + 4 * quarter n) (greatest (map (λ s. s.y) spots) + 58)

-- with lines of at most n letters, and the spots of the objects
unfoldable pub picture : Config → ℕ → List Spot → List ℕ
picture c n spots = start n spots ++ joined (arrows c n spots) ++ joined (boxes c n spots) ++ codes "</svg>\n"

abbrev pub drawing_of : Config → List ℕ
drawing_of c = picture c (letters c) (spots_of c)
