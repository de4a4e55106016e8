use Rattle.std.proofs.Common.{◌∙◌, false, sym, true}
use Rattle.vm_emulate.proofs.Loading.{is_reserved, lies_past, past_by_pages}
use Rattle.vm_state.specs.Partition.{guest_of}
use Rattle.vm_emulate.proofs.loads.load_context.Goals as goal

pub returns-then-is_block_past : goal.returns-then-is_block_past
returns-then-is_block_past g c =
    let m = g.H.Hardware.machine c.args.machine.now in
    lies_past m c.args.s.now c.args.g.now c.args.t.now c.requires c.stop_past_memory.result c.stop_past_memory.new.g
    (past_by_pages m c.args.s.now c.args.g.now c.args.t.now c.requires c.is_block_past.result true c.is_block_past.ensures c.if-is_block_past.true)
    c.stop_past_memory.ensures.result c.stop_past_memory.ensures.state c.stop_past_memory.ensures.place

pub block_of-block-requires-clause-inside : goal.block_of-block-requires-clause-inside
block_of-block-requires-clause-inside g c =
    past_by_pages (g.H.Hardware.machine c.args.machine.now) c.args.s.now c.args.g.now c.args.t.now c.requires c.is_block_past.result false c.is_block_past.ensures c.if-is_block_past.false

pub returns-then-is_reserved : goal.returns-then-is_reserved
returns-then-is_reserved g c =
    let m = g.H.Hardware.machine c.args.machine.now in
    is_reserved m c.args.s.now c.args.g.now c.args.t.now c.requires
    (past_by_pages m c.args.s.now c.args.g.now c.args.t.now c.requires c.is_block_past.result false c.is_block_past.ensures c.if-is_block_past.false)
    (sym (c.is_reserved.ensures (guest_of m.memory c.args.g.now) c.block_of-block.ensures) ∙ c.if-is_reserved.true)

pub load-requires-clause-inside : goal.load-requires-clause-inside
load-requires-clause-inside g c =
    past_by_pages (g.H.Hardware.machine c.args.machine.now) c.args.s.now c.args.g.now c.args.t.now c.requires c.is_block_past.result false c.is_block_past.ensures c.if-is_block_past.false

pub load-requires-clause-allowed : goal.load-requires-clause-allowed
load-requires-clause-allowed g c =
    let m = g.H.Hardware.machine c.args.machine.now in
    sym (c.is_reserved.ensures (guest_of m.memory c.args.g.now) c.block_of-block.ensures) ∙ c.if-is_reserved.false
