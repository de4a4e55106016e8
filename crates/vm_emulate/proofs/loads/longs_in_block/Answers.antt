use Rattle.std.proofs.Common.{◌≡◌, ◌<◌, ◌≢◌, length, subst, arith, below_more, get_or-set_other, get_or-set_same, length-set}
use Rattle.vm_state.specs.Contexts.{control_block_long}
use Rattle.vm_state.specs.Partition.{guest_of}
use Rattle.vm_emulate.proofs.Loading.{longs_are}
use Rattle.vm_emulate.proofs.loads.longs_in_block.Goals as goal

pub loop-k-preserved : goal.loop-k-preserved
loop-k-preserved g c =
    let whole = guest_of (g.H.Hardware.machine c.args.machine.now).memory c.args.g.now in
    record {
      size = simp length-set c.loop-k.invariant.size;
      at = omega (arith, c.loop-k.invariant.at);
      read = below_more _ _
          (λ j h. let ne : j ≢ c.loop-k.k = omega arith in rw get_or-set_other (c.loop-k.invariant.read j h))
          (let lt : c.loop-k.k < length c.loop-k.longs = omega (arith, c.loop-k.invariant.size, c.loop-k-test.true) in rw get_or-set_same (subst (λ x. c.long_in_block.result ≡ control_block_long whole x) c.loop-k.invariant.at c.long_in_block.ensures));
    }

pub returns : goal.returns
returns g c =
    let whole = guest_of (g.H.Hardware.machine c.args.machine.now).memory c.args.g.now in
    longs_are whole g.row.N c.args.offset c.loop-k.longs c.loop-k.invariant.size (λ j h. c.loop-k.invariant.read j (omega (arith, c.loop-k-test.false, h)))
