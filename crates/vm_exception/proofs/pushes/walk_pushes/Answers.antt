use Rattle.std.proofs.Common.{◌∙◌, ap, sym}
use Rattle.vm_exception.proofs.Pages.{faulty_first, homes_in_page, past_first}
use Rattle.vm_state.specs.Partition.{guest_of}
use Rattle.vm_state.specs.Pushes.{Homes, push_walked}
use Rattle.vm_exception.proofs.pushes.walk_pushes.Goals as goal

pub returns-in-Frame : goal.returns-in-Frame
unfolding push_walked
returns-in-Frame g c =
    let h = guest_of (g.H.Hardware.machine c.args.machine.now).memory c.args.g.now in
    let are = c.are_in_page.ensures c.if-not-are_in_page.false in
    ap Homes c.homes_in.ensures ∙ sym (homes_in_page c.args.sp c.args.longs.now c.ranges.sp.fits c.requires.few are.0 are.1 h c.args.m c.in-Frame.pa c.in-Frame.entry c.in-Frame.table (sym c.in-Frame.is ∙ c.walk.ensures))

pub returns-in-Fault : goal.returns-in-Fault
unfolding push_walked
returns-in-Fault g c =
    let h = guest_of (g.H.Hardware.machine c.args.machine.now).memory c.args.g.now in
    sym (faulty_first c.args.sp c.args.longs.now h c.args.m c.in-Fault.fault (c.are_in_page.ensures c.if-not-are_in_page.false).0 (sym c.in-Fault.is ∙ c.walk.ensures))

pub returns-in-Beyond : goal.returns-in-Beyond
unfolding push_walked
returns-in-Beyond g c =
    let h = guest_of (g.H.Hardware.machine c.args.machine.now).memory c.args.g.now in
    sym (past_first c.args.sp c.args.longs.now h c.args.m (c.are_in_page.ensures c.if-not-are_in_page.false).0 (sym c.in-Beyond.is ∙ c.walk.ensures))
