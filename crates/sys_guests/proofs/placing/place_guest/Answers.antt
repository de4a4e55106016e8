use Rattle.std.proofs.Common.{◌*◌, arith}
use Rattle.std.proofs.lemmas.Result.{IfOk-weaker}
use Rattle.sys_guests.specs.Loads.{HasFirst, PutsIn}
use Rattle.sys_guests.proofs.Powering.{HasImage, alone_placed, puts_in}
use Rattle.vm_guest.specs.Kept.{IsResumed}
use Rattle.vm_state.specs.Start.{memory_with_image}
use Rattle.sys_guests.proofs.placing.place_guest.Goals as goal

pub returns-clause-ok : goal.returns-clause-ok
returns-clause-ok g c =
    let before = g.H.Hardware.machine c.args.machine.now in
    let loaded = g.H.Hardware.machine c.load_image.new.machine in
    let after = g.H.Hardware.machine c.of_state.new.machine in
    let state = c.args.state in
    let has : HasImage state.base state.pages c.args.load c.args.tables c.args.image.now before loaded = record { fits = c.requires.fits; order = c.requires.order; inside = omega (arith, c.requires.order, c.requires.tables, c.requires.pages); loaded = c.load_image.ensures } in
    IfOk-weaker c.of_state.result (IsResumed state c.args.tables loaded after) (PutsIn state c.args.tables (memory_with_image (512 * state.pages) c.args.load c.args.image.now) before.memory after.memory)
    (λ k resumed. puts_in state c.args.load c.args.tables c.args.image.now before loaded has after k resumed) c.of_state.ensures.ok

pub returns-clause-present : goal.returns-clause-present
returns-clause-present g c =
    let loaded = g.H.Hardware.machine c.load_image.new.machine in
    let after = g.H.Hardware.machine c.of_state.new.machine in
    IfOk-weaker c.of_state.result (IsResumed c.args.state c.args.tables loaded after) HasFirst (λ k resumed. resumed.present) c.of_state.ensures.ok

pub returns-clause-alone : goal.returns-clause-alone
returns-clause-alone g c =
    let before = g.H.Hardware.machine c.args.machine.now in
    let loaded = g.H.Hardware.machine c.load_image.new.machine in
    let state = c.args.state in
    let has : HasImage state.base state.pages c.args.load c.args.tables c.args.image.now before loaded = record { fits = c.requires.fits; order = c.requires.order; inside = omega (arith, c.requires.order, c.requires.tables, c.requires.pages); loaded = c.load_image.ensures } in
    alone_placed state c.args.load c.args.tables c.args.image.now before loaded has (g.H.Hardware.machine c.of_state.new.machine) c.of_state.result c.of_state.ensures.ok c.of_state.ensures.err
