use Rattle.std.proofs.Common.{◌≡◌, ◌++◌, map}
use Rattle.std.specs.List.{range_with_len, filter}
use Rattle.sys_flow.specs.Reach.{has_edge}
use Rattle.sys_flow.specs.Picture.{arrow_of, edge_to, joined}
use Rattle.sys_flow.proofs.whole.put_arrows_from.Given as goal

abbrev pub invariant-loop-b : goal.invariant-loop-b
invariant-loop-b l = l.text.items ≡ l.fn.text.items ++ joined (map (arrow_of l.c l.letters l.spots) (map (edge_to l.a) (filter (has_edge l.c l.a) (range_with_len 0 l.b))))
