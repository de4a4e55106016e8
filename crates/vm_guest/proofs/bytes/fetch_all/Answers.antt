use Rattle.std.proofs.Common.{◌∙◌, arith, length-set}
use Rattle.vm_guest.proofs.Storing.{byte_read}
use Rattle.vm_guest.proofs.bytes.fetch_all.Goals as goal

pub loop-k-preserved : goal.loop-k-preserved
loop-k-preserved g c = record {
  done = byte_read (g.H.Hardware.machine c.args.machine.now).memory c.args.g.now c.args.pa c.loop-k.k c.read_byte.result c.loop-k.bytes (omega (arith, c.requires.inside, c.loop-k.invariant.same)) c.requires.memory (omega (arith, c.loop-k.invariant.same)) c.read_byte.ensures c.loop-k.invariant.done;
  same = length-set c.loop-k.bytes c.loop-k.k c.read_byte.result ∙ c.loop-k.invariant.same;
}
