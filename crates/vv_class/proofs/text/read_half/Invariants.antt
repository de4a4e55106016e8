use Rattle.std.proofs.Common.{◌≡◌, ◌<◌, ◌^◌, drop}
use Rattle.vv_class.specs.Scan.{part_of, start_of}
use Rattle.vv_class.proofs.text.read_half.Given as goal

abbrev pub invariant-loop-place : goal.invariant-loop-place
invariant-loop-place l = record {
  part : part_of l.half (drop l.place l.b) ≡ part_of start_of l.b;
  room : l.half.cats < 2 ^ l.half.least;
}
