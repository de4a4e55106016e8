use Rattle.std.proofs.Common.{◌≡◌, ◌<◌, ◌∙◌, List, [], Option, All, ap, arith, length, slice_index_or, subst, sym}
use Rattle.sys_guests.specs.Kernel.{AreUnits}
use Rattle.sys_objects.specs.declared.records.GuestRow.{GuestRow}
use Rattle.sys_objects.specs.declared.records.Mount.{Mount}
use Rattle.sys_transfers.proofs.Places.{read_there}
use Rattle.sys_transfers.proofs.Rounds.{as_many_guests, served_at, stands_at, units_mounted}
use Rattle.sys_transfers.proofs.guests.serve_at.Goals as goal

pub bounds-as_slice-place : goal.bounds-as_slice-place
bounds-as_slice-place g c = omega (arith, c.requires.there, ap length c.as_slice.ensures)

pub bounds-kernel-place : goal.bounds-kernel-place
bounds-kernel-place g c = omega (arith, c.requires.there, c.requires.holds.accepted.few_guests, c.requires.holds.guests)

pub index_mut-guest-requires : goal.index_mut-guest-requires
index_mut-guest-requires g c = omega (arith, c.requires.there, as_many_guests c.args.kernel.now.config (g.H.Hardware.machine c.args.machine.now).memory c.args.kernel.now.guests.items c.requires.holds.placed)

pub serve_guest-requires-clause-stands : goal.serve_guest-requires-clause-stands
serve_guest-requires-clause-stands g c = stands_at c.args.kernel.now.config c.args.place (g.H.Hardware.machine c.args.machine.now).memory c.args.kernel.now.guests.items c.index_mut-guest.result.now c.requires.there c.index_mut-guest.ensures.value c.requires.holds.placed

pub serve_guest-requires-clause-mounted : goal.serve_guest-requires-clause-mounted
serve_guest-requires-clause-mounted g c =
    let k = c.args.kernel.now in
    let none : List (Option Mount) = [] in
    let units : List (Option Mount) = slice_index_or k.server.mounts c.args.place none in
    let within : c.args.place < length k.server.mounts = omega (arith, c.requires.there, c.requires.holds.accepted.few_guests, c.requires.holds.guests) in
    let units_is : units ≡ slice_index_or k.server.mounts c.args.place units = read_there k.server.mounts c.args.place none within in
    units_mounted k.server.mounts c.args.place units c.args.volumes.now within units_is (subst (λ n. All (AreUnits n) k.server.mounts) (sym c.requires.volumes) c.requires.holds.mounts)

pub serve_guest-requires-clause-printers : goal.serve_guest-requires-clause-printers
serve_guest-requires-clause-printers g c = c.requires.holds.accepted.printers

pub returns : goal.returns
returns g c =
    let k = c.args.kernel.now in
    let none : List (Option Mount) = [] in
    let units : List (Option Mount) = slice_index_or k.server.mounts c.args.place none in
    let within : c.args.place < length k.server.mounts = omega (arith, c.requires.there, c.requires.holds.accepted.few_guests, c.requires.holds.guests) in
    let units_is : units ≡ slice_index_or k.server.mounts c.args.place units = read_there k.server.mounts c.args.place none within in
    let row = c.index-as_slice-place.result in
    let row_is : row ≡ slice_index_or k.config.guests c.args.place row = c.index-as_slice-place.is ∙ ap (λ (xs : List GuestRow). slice_index_or xs c.args.place row) c.as_slice.ensures in
    served_at k c.args.place row units c.args.volumes.now (g.H.Hardware.machine c.args.machine.now) c.index_mut-guest.result.now _ c.serve_guest.new.volumes (g.H.Hardware.machine c.serve_guest.new.machine) c.serve_guest.new.guest c.serve_guest.new.marks _ c.requires.there row_is within units_is c.index_mut-guest.ensures.value c.requires.holds.placed c.serve_guest.ensures.serves c.serve_guest.ensures.shows
