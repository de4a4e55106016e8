use Rattle.std.proofs.Common.{refl}
use Rattle.vm_emulate.proofs.Loading.{loads}
use Rattle.vm_emulate.specs.declared.loads.Process.{Process}
use Rattle.vm_emulate.proofs.loads.process_in.Goals as goal

pub returns : goal.returns
returns c = λ memory k.
    let b = c.args.block.now in
    let p : Process = record {
      r = c.loaded_registers.result;
      psl = c.off_interrupt_stack.result;
      stacks = c.loaded_stacks.result;
      p0br = b.p0br;
      p0lr = c.p0lr.result;
      p1br = b.p1br;
      p1lr = c.p1lr.result;
      astlvl = c.astlvl.result;
    } in
    loads memory c.args.g.now b c.args.next_pc c.pointer.result p k c.loaded_registers.ensures c.off_interrupt_stack.ensures c.loaded_stacks.ensures c.pointer.ensures refl c.p0lr.ensures refl c.p1lr.ensures c.astlvl.ensures
