use Rattle.std.proofs.Common.{◌∙◌, ◌∷◌, [], ap, map, refl}
use Rattle.vm_exception.specs.Pushed.{home_of}
use Rattle.vm_state.specs.Pushes.{Homes}
use Rattle.vm_emulate.proofs.Loading.{can_switch, homes_proper, is_faulty, is_loaded, is_stack_past, put_back}
use Rattle.vm_emulate.proofs.loads.load.Goals as goal

pub push-requires-clause-homes : goal.push-requires-clause-homes
push-requires-clause-homes g c =
    let b = c.args.block.now in
    let m = g.H.Hardware.machine c.args.machine.now in
    homes_proper m c.args.s.now c.args.g.now c.args.t.now c.requires.stands b c.requires.block c.requires.inside c.requires.allowed c.set_process.new.g
    (c.set_process.ensures.state ∙ c.process_in-process.ensures m.memory c.requires.block) c.set_process.ensures.place (b.psl ∷ b.pc ∷ []) refl (map home_of c.deref.result.now)
    (ap (λ x. Homes (map home_of x)) c.deref.ensures.0 ∙ c.in-Homes.ensures)

pub switch-requires-clause-tables : goal.switch-requires-clause-tables
switch-requires-clause-tables g c =
    let b = c.args.block.now in
    let m = g.H.Hardware.machine c.args.machine.now in
    can_switch m c.args.s.now c.args.g.now c.args.t.now c.requires.stands b c.requires.block c.requires.inside c.requires.allowed c.set_process.new.g
    (c.set_process.ensures.state ∙ c.process_in-process.ensures m.memory c.requires.block) c.set_process.ensures.place (b.psl ∷ b.pc ∷ []) refl (map home_of c.deref.result.now)
    (ap (λ x. Homes (map home_of x)) c.deref.ensures.0 ∙ c.in-Homes.ensures)

pub returns-in-Homes : goal.returns-in-Homes
returns-in-Homes g c =
    let b = c.args.block.now in
    let m = g.H.Hardware.machine c.args.machine.now in
    is_loaded m c.args.s.now c.args.g.now c.args.t.now c.requires.stands b c.requires.block c.requires.inside c.requires.allowed c.set_process.new.g
    (c.set_process.ensures.state ∙ c.process_in-process.ensures m.memory c.requires.block) c.set_process.ensures.place (b.psl ∷ b.pc ∷ []) refl (map home_of c.deref.result.now)
    (ap (λ x. Homes (map home_of x)) c.deref.ensures.0 ∙ c.in-Homes.ensures)
    (g.H.Hardware.machine c.push.new.machine) (g.H.Hardware.machine c.switch.new.machine) c.push.new.s c.switch.new.self c.push.ensures c.switch.ensures

pub returns-in-Faulty : goal.returns-in-Faulty
returns-in-Faulty g c =
    let b = c.args.block.now in
    let m = g.H.Hardware.machine c.args.machine.now in
    let loaded = c.set_process.ensures.state ∙ c.process_in-process.ensures m.memory c.requires.block in
    is_faulty m c.args.s.now c.args.g.now c.args.t.now c.requires.stands b c.requires.block c.requires.inside c.requires.allowed c.set_process.new.g
    loaded c.set_process.ensures.place (b.psl ∷ b.pc ∷ []) refl c.in-Faulty.field-0 c.set_process-in-Faulty.new.g c.in-Faulty.ensures
    (put_back c.args.g.now c.set_process.new.g c.set_process-in-Faulty.new.g c.process_of-before.result c.process_in-process.result c.process_of-before.ensures c.set_process.ensures.state c.set_process.ensures.place c.set_process-in-Faulty.ensures.state c.set_process-in-Faulty.ensures.place)

pub returns-in-PastMemory : goal.returns-in-PastMemory
returns-in-PastMemory g c =
    let b = c.args.block.now in
    let m = g.H.Hardware.machine c.args.machine.now in
    let loaded = c.set_process.ensures.state ∙ c.process_in-process.ensures m.memory c.requires.block in
    is_stack_past m c.args.s.now c.args.g.now c.args.t.now c.requires.stands b c.requires.block c.requires.inside c.requires.allowed c.set_process.new.g
    loaded c.set_process.ensures.place (b.psl ∷ b.pc ∷ []) refl c.stop_past_memory.result c.set_process-in-PastMemory.new.g c.stop_past_memory.new.g c.in-PastMemory.ensures
    (put_back c.args.g.now c.set_process.new.g c.set_process-in-PastMemory.new.g c.process_of-before.result c.process_in-process.result c.process_of-before.ensures c.set_process.ensures.state c.set_process.ensures.place c.set_process-in-PastMemory.ensures.state c.set_process-in-PastMemory.ensures.place)
    c.stop_past_memory.ensures.result c.stop_past_memory.ensures.state c.stop_past_memory.ensures.place
