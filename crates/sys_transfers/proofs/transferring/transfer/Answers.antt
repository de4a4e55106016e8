use Rattle.std.proofs.Common.{◌∙◌, arith, refl}
use Rattle.sys_transfers.proofs.Rounds.{all_guests_served, all_places, all_present, kernel_still, loop_there, none_served, one_more_of, sizes_kept, there_same, volumes_same}
use Rattle.sys_transfers.proofs.transferring.transfer.Goals as goal

pub loop-place-init : goal.loop-place-init
loop-place-init g c = record { so_far = none_served c.args.kernel.now c.args.volumes.now (g.H.Hardware.machine c.args.machine.now) _ c.requires.holds.placed; rest = refl }

pub serve_at-requires-clause-holds : goal.serve_at-requires-clause-holds
serve_at-requires-clause-holds g c = kernel_still c.args.kernel.now c.args.volumes.now (g.H.Hardware.machine c.args.machine.now) _ c.loop-place.place c.loop-place.volumes (g.H.Hardware.machine c.loop-place.machine) c.loop-place.kernel _ c.requires.holds c.loop-place.invariant.rest c.loop-place.invariant.so_far

pub serve_at-requires-clause-there : goal.serve_at-requires-clause-there
serve_at-requires-clause-there g c = there_same c.args.kernel.now c.loop-place.kernel c.loop-place.invariant.rest (g.H.Hardware.machine c.args.machine.now).memory c.loop-place.place c.requires.holds (omega arith)

pub serve_at-requires-clause-volumes : goal.serve_at-requires-clause-volumes
serve_at-requires-clause-volumes g c = volumes_same c.args.kernel.now c.loop-place.kernel c.loop-place.invariant.rest c.loop-place.volumes c.args.volumes.now c.loop-place.invariant.so_far.sizes_are c.requires.volumes

pub loop-place-preserved : goal.loop-place-preserved
loop-place-preserved g c = record {
  so_far = one_more_of c.args.kernel.now c.loop-place.kernel c.loop-place.invariant.rest c.args.volumes.now (g.H.Hardware.machine c.args.machine.now) _ c.loop-place.place c.loop-place.volumes c.serve_at.new.volumes (g.H.Hardware.machine c.loop-place.machine) _ (g.H.Hardware.machine c.serve_at.new.machine) c.serve_at.new.kernel _ (loop_there c.args.kernel.now c.loop-place.kernel c.loop-place.invariant.rest (g.H.Hardware.machine c.args.machine.now).memory c.loop-place.place c.requires.holds (omega arith)) c.loop-place.invariant.so_far c.serve_at.ensures;
  rest = c.serve_at.ensures.rest ∙ (λ i. record (c.loop-place.invariant.rest i) { guests = c.serve_at.new.kernel.guests; marks = c.serve_at.new.kernel.marks });
}

pub returns-clause-leads : goal.returns-clause-leads
returns-clause-leads g c = all_guests_served c.args.kernel.now c.args.volumes.now (g.H.Hardware.machine c.args.machine.now) _ c.loop-place.place c.loop-place.volumes (g.H.Hardware.machine c.loop-place.machine) c.loop-place.kernel _ c.requires.holds (omega arith) c.loop-place.invariant.rest c.loop-place.invariant.so_far

pub returns-clause-sizes : goal.returns-clause-sizes
returns-clause-sizes g c = sizes_kept c.args.kernel.now c.args.volumes.now (g.H.Hardware.machine c.args.machine.now) _ c.loop-place.place c.loop-place.volumes (g.H.Hardware.machine c.loop-place.machine) c.loop-place.kernel.guests.items c.loop-place.kernel.marks _ c.loop-place.invariant.so_far

pub returns-clause-present : goal.returns-clause-present
returns-clause-present g c =
    all_present c.args.kernel.now c.args.volumes.now (g.H.Hardware.machine c.args.machine.now) _ c.loop-place.place c.loop-place.volumes (g.H.Hardware.machine c.loop-place.machine) c.loop-place.kernel.guests.items c.loop-place.kernel.marks _
    (all_places c.args.kernel.now (g.H.Hardware.machine c.args.machine.now).memory c.loop-place.place c.requires.holds (omega arith)) c.loop-place.invariant.so_far
