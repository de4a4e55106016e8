use Rattle.std.proofs.Common.{◌≡◌, ◌<◌, ◌^◌, drop}
use Rattle.vasm_text.specs.Numbers.{hex_from}
use Rattle.vasm.proofs.numbers.hex_number.Given as goal

abbrev pub invariant-loop-d : goal.invariant-loop-d
invariant-loop-d l = record {
  sum : hex_from l.value (drop l.d-index l.digits) ≡ hex_from 0 l.digits;
  small : l.value < 16 ^ l.d-index;
}
