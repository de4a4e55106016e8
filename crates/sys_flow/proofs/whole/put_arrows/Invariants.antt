use Rattle.std.proofs.Common.{◌≡◌, ◌++◌, map}
use Rattle.std.specs.List.{range_with_len, flat_map}
use Rattle.sys_flow.specs.Picture.{arrow_of, edges_from, joined}
use Rattle.sys_flow.proofs.whole.put_arrows.Given as goal

abbrev pub invariant-loop-a : goal.invariant-loop-a
invariant-loop-a l = l.text.items ≡ l.fn.text.items ++ joined (map (arrow_of l.c l.letters l.spots) (flat_map (edges_from l.c) (range_with_len 0 l.a)))
