use Rattle.std.proofs.Common.{◌≡◌, ◌++◌, map}
use Rattle.std.specs.List.{range_with_len}
use Rattle.sys_flow.specs.Picture.{box_of, joined}
use Rattle.sys_flow.proofs.whole.put_boxes.Given as goal

abbrev pub invariant-loop-a : goal.invariant-loop-a
invariant-loop-a l = l.text.items ≡ l.fn.text.items ++ joined (map (box_of l.c l.letters l.spots) (range_with_len 0 l.a))
