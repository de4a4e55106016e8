-- What is in a picture: a box for each object and an arrow for each edge, once, and nothing else.
use Rattle.std.specs.Prelude.{ℕ, ◌≡◌, ◌↔◌, true, List, Contains, count_by, length, sum_by}
use Rattle.sys_objects.specs.declared.records.Config.{Config}
use Rattle.sys_flow.specs.Reach.{all_objects, has_edge}
use Rattle.sys_flow.specs.Picture.{arrows, boxes, edges_of}
use Rattle.sys_flow.specs.Seats.{numbers}
use Rattle.sys_flow.specs.declared.layout.Spot.{Spot}

-- as many boxes as objects
abbrev pub OneBoxEach : Type 0
OneBoxEach = (c : Config) (n : ℕ) (spots : List Spot) → length (boxes c n spots) ≡ length (all_objects c)

-- as many arrows as pairs of objects with an edge
abbrev pub OneArrowEach : Type 0
OneArrowEach = (c : Config) (n : ℕ) (spots : List Spot) → length (arrows c n spots) ≡ sum_by (λ a. count_by (has_edge c a) (numbers c)) (numbers c)

-- the arrows are those of the edges
abbrev pub EdgesAlone : Type 0
EdgesAlone = (c : Config) (a b : ℕ) → Contains (edges_of c) (a, b) ↔ (has_edge c a b ≡ true)
