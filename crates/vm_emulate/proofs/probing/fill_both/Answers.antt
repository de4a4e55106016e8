use Rattle.vax_arch.specs.Walk.{page_of}
use Rattle.vm_emulate.proofs.Probings.{fills_two, still_present}
use Rattle.vm_emulate.proofs.probing.fill_both.Goals as goal

pub fill-requires-2-clause-present : goal.fill-requires-2-clause-present
fill-requires-2-clause-present g c = still_present (g.H.Hardware.machine c.args.machine.now) (g.H.Hardware.machine c.fill.new.machine) c.args.s.now c.args.g.now (page_of c.args.second) c.requires.stands c.fill.ensures.only c.requires.second

pub returns : goal.returns
returns g c =
    fills_two (page_of c.args.first) (page_of c.args.second) c.args.g.now (g.H.Hardware.machine c.args.machine.now) (g.H.Hardware.machine c.fill.new.machine) (g.H.Hardware.machine c.fill-2.new.machine) c.args.s.now c.fill.new.self c.fill-2.new.self c.requires.stands c.requires.first c.requires.second c.fill.ensures c.fill-2.ensures
