use Rattle.std.proofs.Common.{◌≡◌, drop}
use Rattle.vm_guest.proofs.typing.type_all.Given as goal
use Rattle.vm_state.specs.Outside.{all_typed}

abbrev pub invariant-loop-byte : goal.invariant-loop-byte
invariant-loop-byte l = all_typed (drop l.byte-index l.text) l.console ≡ all_typed l.text l.fn.console
