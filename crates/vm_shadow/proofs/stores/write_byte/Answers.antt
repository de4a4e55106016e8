use Rattle.std.proofs.Common.{◌∙◌, ◌%◌, ap, List, set, ℕ, rules}
use Rattle.vm_shadow.proofs.Storing.{byte_written}
use Rattle.vm_shadow.proofs.stores.write_byte.Goals as goal

pub returns : goal.returns
returns g c =
    let m = g.H.Hardware.machine c.args.machine.now in
    c.write_long.ensures ∙ ap (λ (x : List ℕ). record m { memory = x }) (byte_written m.memory c.args.at c.args.byte c.read_long.result c.from_le_bytes.result (set c.to_le_bytes-bytes.result (c.args.at % 4) c.args.byte) c.requires c.ranges.byte.fits (search rules) c.read_long.ensures.bytes c.read_long.ensures.value c.from_le_bytes.ensures (ap (λ (x : List ℕ). set x (c.args.at % 4) c.args.byte) c.to_le_bytes-bytes.ensures))
