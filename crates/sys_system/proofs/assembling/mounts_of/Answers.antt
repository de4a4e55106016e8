use Rattle.std.proofs.Common.{◌∙◌, List, Option, slice_set, ap, arith}
use Rattle.sys_objects.specs.declared.records.GuestRow.{GuestRow}
use Rattle.sys_objects.specs.declared.records.Mount.{Mount}
use Rattle.sys_system.proofs.Mounting.{are_mounted, empty, written_at}
use Rattle.sys_system.proofs.assembling.mounts_of.Goals as goal

pub loop-place-preserved : goal.loop-place-preserved
loop-place-preserved c =
    let f : GuestRow → List (Option Mount) = λ row. row.mounts in
    let k = c.loop-place.place in
    let row = c.index-rows-place.result in
    ap (λ xs. slice_set xs k (f row)) c.loop-place.invariant ∙ written_at f c.args.rows.now empty k row c.loop-place-test.true (omega (arith, c.requires)) c.index-rows-place.is

pub returns : goal.returns
returns c = are_mounted c.args.rows.now c.loop-place.place c.loop-place.mounts (omega arith) (omega (arith, c.requires)) c.loop-place.invariant
