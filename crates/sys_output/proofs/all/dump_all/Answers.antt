use Rattle.std.proofs.Common.{arith, ap}
use Rattle.sys_output.proofs.AllDumps.{lies_within, next_shown}
use Rattle.sys_output.proofs.all.dump_all.Goals as goal

pub dump_at-requires-clause-inside : goal.dump_at-requires-clause-inside
dump_at-requires-clause-inside g c =
    let within = lies_within (g.H.Hardware.machine c.args.machine.now).memory c.args.guests.now c.loop-place.place _ (omega arith) c.index-guests-place.is c.requires.guests in
    omega (arith, within.0, ap (λ s. s.base) c.state.ensures, ap (λ s. s.pages) c.state.ensures)

pub dump_at-requires-clause-pages : goal.dump_at-requires-clause-pages
dump_at-requires-clause-pages g c =
    let within = lies_within (g.H.Hardware.machine c.args.machine.now).memory c.args.guests.now c.loop-place.place _ (omega arith) c.index-guests-place.is c.requires.guests in
    omega (arith, within.1, ap (λ s. s.base) c.state.ensures, ap (λ s. s.pages) c.state.ensures)

pub loop-place-preserved : goal.loop-place-preserved
loop-place-preserved g c =
    let memory = (g.H.Hardware.machine c.args.machine.now).memory in
    next_shown memory c.args.rows.now c.args.guests.now c.loop-place.place _ _ _ c.loop-place-test.true c.requires.beside c.index-rows-place.is c.index-guests-place.is c.state.ensures c.requires.apart c.loop-place.invariant c.dump_at.ensures
