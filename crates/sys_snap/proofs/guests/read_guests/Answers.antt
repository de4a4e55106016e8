use Rattle.std.proofs.Common.{◌≤◌, ◌∙◌, map, sym, subst, arith}
use Rattle.std.proofs.lemmas.List.{take_all}
use Rattle.std.proofs.lemmas.Result.{err_from_is_err_and}
use Rattle.std.specs.Prelude.{Vec}
use Rattle.std.specs.declared.alloc.Global.{Global}
use Rattle.sys_snap.specs.declared.snap.GuestSnap.{GuestSnap}
use Rattle.sys_objects.specs.declared.records.GuestRow.{GuestRow}
use Rattle.sys_snap.specs.Held.{ArePlacedSnapshots, snapshot_guest}
use Rattle.sys_snap.specs.Reader.{guest_reading}
use Rattle.sys_snap.proofs.Loops.{each_none}
use Rattle.sys_snap.proofs.Placing.{placed_more, seen_fault, seen_more, sum_more}
use Rattle.sys_snap.proofs.guests.read_guests.Goals as goal

pub read_guest-requires : goal.read_guest-requires
read_guest-requires c = record { few = subst (λ (r : GuestRow). r.pages ≤ 2048) (sym c.row-item.is) (c.requires.few c.loop-row.row-index c.row-item.result c.loop-row-test.true) }

pub overflow_add-base : goal.overflow_add-base
overflow_add-base c =
    let few : c.row-item.result.pages ≤ 2048 = subst (λ (r : GuestRow). r.pages ≤ 2048) (sym c.row-item.is) (c.requires.few c.loop-row.row-index c.row-item.result c.loop-row-test.true) in
    omega (arith, few, c.loop-row.invariant.few, c.requires.count, c.loop-row-test.true)

pub returns-in_err-read_guest-clause-reads : goal.returns-in_err-read_guest-clause-reads
returns-in_err-read_guest-clause-reads c =
    let p = err_from_is_err_and c.from_residual.result c.from_residual.ensures.1 in
    rw (p.1, p.2) (seen_fault (λ (gs : Vec GuestSnap Global). map snapshot_guest gs.items) guest_reading snapshot_guest c.args.rows.now c.loop-row.row-index c.row-item.result _ c.args.r.now c.loop-row.r c.read_guest.new.r c.read_guest.new.r _ c.loop-row-test.true c.row-item.is c.loop-row.invariant.left c.in_err-read_guest.ensures.reads)

pub loop-row-preserved : goal.loop-row-preserved
loop-row-preserved c =
    let row = c.row-item.result in
    let i = c.loop-row.row-index in
    let g = c.in_ok-read_guest.field-0 in
    let few : row.pages ≤ 2048 = subst (λ (r : GuestRow). r.pages ≤ 2048) (sym c.row-item.is) (c.requires.few i row c.loop-row-test.true) in
    record {
      few = omega (arith, few, c.loop-row.invariant.few);
      sum = sum_more c.args.rows.now i c.loop-row.base row c.loop-row-test.true c.row-item.is c.loop-row.invariant.sum;
      left = sym (seen_more guest_reading snapshot_guest c.args.rows.now i row c.loop-row.guests.items c.push.new.self.items g c.loop-row.r c.read_guest.new.r c.loop-row-test.true c.row-item.is c.in_ok-push.ensures.items c.in_ok-read_guest.ensures.reads) ∙ c.loop-row.invariant.left;
      placed = placed_more c.args.rows.now i c.loop-row.base c.loop-row.guests.items c.push.new.self.items row g c.loop-row-test.true c.row-item.is c.loop-row.invariant.sum c.in_ok-push.ensures.items c.loop-row.invariant.placed c.in_ok-read_guest.ensures.place;
    }

pub returns-clause-reads : goal.returns-clause-reads
returns-clause-reads c = sym c.loop-row.invariant.left ∙ each_none guest_reading (map snapshot_guest c.loop-row.guests.items) c.args.rows.now c.loop-row.row-index c.loop-row.r (omega arith)

pub returns-clause-places : goal.returns-clause-places
returns-clause-places c = subst (λ rows. ArePlacedSnapshots 0 rows c.loop-row.guests.items) (take_all c.loop-row.row-index c.args.rows.now (omega arith)) c.loop-row.invariant.placed
