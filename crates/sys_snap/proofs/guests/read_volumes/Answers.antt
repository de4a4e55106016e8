use Rattle.std.proofs.Common.{◌≤◌, ◌∙◌, map, sym, subst, arith}
use Rattle.std.proofs.lemmas.Result.{err_from_is_err_and}
use Rattle.std.specs.Prelude.{List, Vec, ℕ}
use Rattle.std.specs.declared.alloc.Global.{Global}
use Rattle.sys_objects.specs.declared.records.VolumeRow.{VolumeRow}
use Rattle.sys_snap.specs.Reader.{volume_in}
use Rattle.sys_snap.proofs.Loops.{each_none}
use Rattle.sys_snap.proofs.Placing.{blocks_in, seen_fault, seen_more}
use Rattle.sys_snap.proofs.guests.read_volumes.Goals as goal

pub read_volume-requires : goal.read_volume-requires
read_volume-requires c = subst (λ (r : VolumeRow). r.blocks ≤ 2048) (sym c.row-item.is) (c.requires c.loop-row.row-index c.row-item.result c.loop-row-test.true)

pub returns-in_err-read_volume : goal.returns-in_err-read_volume
returns-in_err-read_volume c =
    let p = err_from_is_err_and c.from_residual.result c.from_residual.ensures.1 in
    rw (p.1, p.2) (seen_fault (λ (vs : Vec (Vec (List ℕ) Global) Global). map blocks_in vs.items) volume_in blocks_in c.args.rows.now c.loop-row.row-index c.row-item.result _ c.args.r.now c.loop-row.r c.read_volume.new.r c.read_volume.new.r _ c.loop-row-test.true c.row-item.is c.loop-row.invariant c.in_err-read_volume.ensures)

pub loop-row-preserved : goal.loop-row-preserved
loop-row-preserved c =
    sym (seen_more volume_in blocks_in c.args.rows.now c.loop-row.row-index c.row-item.result c.loop-row.volumes.items c.push.new.self.items c.in_ok-read_volume.field-0 c.loop-row.r c.read_volume.new.r c.loop-row-test.true c.row-item.is c.in_ok-push.ensures.items c.in_ok-read_volume.ensures) ∙ c.loop-row.invariant

pub returns : goal.returns
returns c = sym c.loop-row.invariant ∙ each_none volume_in (map blocks_in c.loop-row.volumes.items) c.args.rows.now c.loop-row.row-index c.loop-row.r (omega arith)
