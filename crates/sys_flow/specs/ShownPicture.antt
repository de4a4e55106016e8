-- Worked examples of the picture, checked by computation: a terminal and a guest of level 1, a volume above and one below.
use Rattle.std.specs.Prelude.{◌≡◌, ℕ, false, List, [], ◌∷◌, ◌++◌, codes, map, None, refl}
use Rattle.std.specs.Fmt.{digits}
use Rattle.std.specs.Int.Count.{ones}
use Rattle.vv_class.specs.Class.{does_flow, is_subset}
use Rattle.vv_class.specs.Text.{class_text, categories_below}
use Rattle.vv_class.specs.declared.class.AccessClass.{AccessClass}
use Rattle.sys_objects.specs.declared.records.Config.{Config}
use Rattle.sys_objects.specs.declared.records.GuestRow.{GuestRow}
use Rattle.sys_objects.specs.declared.records.VolumeRow.{VolumeRow}
use Rattle.sys_flow.specs.Layout.{letters, spot}
use Rattle.sys_flow.specs.Picture.{arrow, before_color, after_color, edges_of, frame_of_box, label, segment, whole_box}
use Rattle.sys_flow.specs.Seats.{class_rank, seats_of}
use Rattle.sys_flow.specs.declared.layout.Spot.{Spot}
use Rattle.sys_flow.specs.declared.seats.Seat.{Seat}

abbrev level : ℕ → AccessClass
level n = record { secrecy = n; secrecy_cats = 0; integrity = 0; integrity_cats = 0 }

abbrev volume : List ℕ → ℕ → ℕ → VolumeRow
volume name drive n = record { name = name; drive = drive; blocks = 8; class = level n }

abbrev guest : GuestRow
guest = record {
  name = codes "A";
  class = level 1;
  pages = 64;
  image = codes "a";
  load = 512;
  start = 512;
  autostart = false;
  console = None;
  printer = None;
  dump = None;
  mounts = None ∷ None ∷ None ∷ None ∷ [];
  modify_faults = false;
  quantum = 10;
}

abbrev small : Config
small = record {
  slice = 3;
  audit = None;
  terminals = record { name = codes "T1"; line = 0; class = level 1 } ∷ [];
  volumes = volume (codes "SEC") 0 2 ∷ volume (codes "PUB") 1 0 ∷ [];
  printers = [];
  guests = guest ∷ [];
}

-- more categories rank higher in secrecy and lower in integrity
ranks :
    (class_rank (level 0) ≡ 319)
    × (class_rank (record { secrecy = 1; secrecy_cats = 5; integrity = 0; integrity_cats = 0 }) ≡ 322)
    × (class_rank (record { secrecy = 0; secrecy_cats = 0; integrity = 255; integrity_cats = 7 }) ≡ 61)
unfolding ones
ranks = (refl, refl, refl)

abbrev seat : ℕ → ℕ → Seat
seat height order = record { height = height; order = order }

-- T1 and A have one class, of which T1 is the first
seats : seats_of small ≡ seat 1282 0 ∷ seat 1284 129 ∷ seat 1276 258 ∷ seat 1281 3 ∷ []
unfolding ones
seats = refl

abbrev at : ℕ → ℕ → Spot
at x y = record { x = x; y = y }

-- from above: SEC, T1, A, PUB, which are shifted by 9, 3, 6 and 9 quarters of 24
spots : map (spot 8 (seats_of small)) (seats_of small) ≡ at 82 106 ∷ at 226 10 ∷ at 226 298 ∷ at 154 202 ∷ []
unfolding ones
spots = refl

most : letters small ≡ 8
unfolding letters class_text categories_below digits
most = refl

edges : edges_of small ≡ (0, 3) ∷ (2, 3) ∷ (3, 0) ∷ []
unfolding does_flow is_subset
edges = refl

-- up on the right, down on the left
up : arrow 8 (at 154 266) (at 82 138) (codes "#b07a00") ≡
    codes "<line x1=\"202\" y1=\"266\" x2=\"130\" y2=\"186\" stroke=\"#b07a00\" marker-end=\"url(#head)\"/>\n"
unfolding segment digits
up = refl

down : arrow 8 (at 82 138) (at 154 266) (codes "#1f5fa8") ≡
    codes "<line x1=\"110\" y1=\"186\" x2=\"182\" y2=\"266\" stroke=\"#1f5fa8\" marker-end=\"url(#head)\"/>\n"
unfolding segment digits
down = refl

box_of_a : whole_box 8 (at 154 266) (codes "#fff2c4") (codes "guest") (codes "A") (codes "1{};0{}") ≡
    codes "<rect x=\"154\" y=\"266\" width=\"76\" height=\"48\" rx=\"4\" fill=\"#fff2c4\" fill-opacity=\"0.8\" stroke=\"black\"/>"
    ++ codes "<text x=\"192\" y=\"280\">guest</text>"
    ++ codes "<text x=\"192\" y=\"295\">A</text>"
    ++ codes "<text x=\"192\" y=\"309\">1{};0{}</text>\n"
unfolding whole_box frame_of_box before_color after_color label digits
box_of_a = refl
