use Rattle.std.proofs.Common.{◌≡◌, Bor, List, ℕ, drop, map}
use Rattle.toml.specs.View.{table_view}
use Rattle.vv_edge.specs.Broken.{table_counted}
use Rattle.vv_edge.proofs.broken.table_counted.Given as goal

abbrev pub invariant-loop-list : goal.invariant-loop-list
invariant-loop-list l =
    table_counted (map (λ (k : Bor (List ℕ)). k.now) (drop l.list-index l.lists)) l.left (table_view l.document)
    ≡ table_counted (map (λ (k : Bor (List ℕ)). k.now) l.lists) l.place (table_view l.document)
