use Rattle.std.proofs.Common.{List, Option, ◌∙◌, arith, length-set}
use Rattle.sys_audit_check.proofs.Mounting.{mounted_more}
use Rattle.sys_audit_check.proofs.replay.mounts_of.Goals as goal
use Rattle.sys_objects.specs.declared.records.GuestRow.{GuestRow}
use Rattle.sys_objects.specs.declared.records.Mount.{Mount}

pub loop-place-preserved : goal.loop-place-preserved
loop-place-preserved c =
    let f : GuestRow → List (Option Mount) = λ row. row.mounts in
    let k = c.loop-place.place in
    let row = c.index-rows-place.result in (
      mounted_more f c.args.rows.now c.loop-place.mounts k row c.loop-place-test.true (omega (arith, c.requires)) c.index-rows-place.is c.loop-place.invariant.0,
      length-set c.loop-place.mounts k (f row) ∙ c.loop-place.invariant.1,
    )
