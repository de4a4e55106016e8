use Rattle.std.proofs.Common.{◌∙◌, Err, ap, arith, sym}
use Rattle.vm_emulate.proofs.SavingContext.{saves_done, saves_faulty, saves_nowhere, saves_past}
use Rattle.vm_emulate.proofs.saves.save_context.Goals as goal

pub returns-in-Ok : goal.returns-in-Ok
returns-in-Ok g c =
    saves_nowhere (g.H.Hardware.machine c.args.machine.now) c.args.s.now c.args.g.now c.args.t.now c.requires c.read_popped.result c.in-Ok.field-0 c.read_popped.ensures c.in-Ok.is c.stop_past_memory.result c.stop_past_memory.new.g
    (sym c.is_block_past.ensures ∙ c.if-is_block_past.true) c.stop_past_memory.ensures.result c.stop_past_memory.ensures.state c.stop_past_memory.ensures.place

pub returns-in-Ok-2 : goal.returns-in-Ok-2
returns-in-Ok-2 g c =
    saves_done (g.H.Hardware.machine c.args.machine.now) c.args.s.now c.args.g.now c.args.t.now c.requires c.read_popped.result c.in-Ok.field-0 c.read_popped.ensures c.in-Ok.is
    c.go_after_pops.new.g c.go_on_interrupt_stack.new.g c.saved_longs-longs.result (g.H.Hardware.machine c.store_longs.new.machine) c.store_longs.new.s
    (sym c.is_block_past.ensures ∙ c.if-is_block_past.false) c.go_after_pops.ensures.state c.go_after_pops.ensures.place
    c.saved_longs-longs.ensures (omega arith) c.store_longs.ensures c.go_on_interrupt_stack.ensures.state c.go_on_interrupt_stack.ensures.place

pub returns-in-Err-Faulty : goal.returns-in-Err-Faulty
returns-in-Err-Faulty g c =
    saves_faulty (g.H.Hardware.machine c.args.machine.now) c.args.s.now c.args.g.now c.args.t.now c.requires c.read_popped.result c.in-Err-Faulty.fault c.read_popped.ensures (c.in-Err-Faulty.is ∙ ap Err c.in-Err-Faulty.field-0-is)

pub returns-in-Err-PastMemory : goal.returns-in-Err-PastMemory
returns-in-Err-PastMemory g c =
    saves_past (g.H.Hardware.machine c.args.machine.now) c.args.s.now c.args.g.now c.args.t.now c.requires c.read_popped.result c.stop_past_memory-in-Err-PastMemory.result c.stop_past_memory-in-Err-PastMemory.new.g
    c.read_popped.ensures (c.in-Err-PastMemory.is ∙ ap Err c.in-Err-PastMemory.field-0-is)
    c.stop_past_memory-in-Err-PastMemory.ensures.result c.stop_past_memory-in-Err-PastMemory.ensures.state c.stop_past_memory-in-Err-PastMemory.ensures.place
