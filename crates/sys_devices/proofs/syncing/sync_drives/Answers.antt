use Rattle.std.proofs.Common.{◌≡◌, ◌≤◌, ◌+◌, length, is_err, sym, ◌∙◌, ap, subst, arith}
use Rattle.sys_devices.proofs.Devices.{all_drives, as_few, inside, one_drive}
use Rattle.sys_devices.proofs.Synced.{AreSynced, next_synced}
use Rattle.sys_devices.specs.Syncing.{IsStillDrive, first_fault}
use Rattle.vv_io.specs.Blocks.{unkept}
use Rattle.sys_devices.proofs.syncing.sync_drives.Goals as goal

pub loop-k-preserved : goal.loop-k-preserved
loop-k-preserved g c =
    let k = c.loop-k.k in
    let before = c.loop-k.invariant in
    let failed = c.loop-k.failed in
    let r = c.sync_drive.result in
    let one = one_drive k c.from.result _ _ r c.from.ensures (inside _ c.loop-k.drives.items k (omega (arith, c.loop-k-test.true, before.len, c.len.ensures, c.min-count.ensures))) c.sync_drive.ensures.syncs in
    let next = next_synced unkept _ IsStillDrive k _ _ _ failed (is_err r) one before.synced in
    let first : c.first_fault-failed.result ≡ first_fault failed k (is_err r) = c.first_fault-failed.ensures ∙ ap (first_fault failed k) c.is_err-fails.ensures.value in
    record {
      synced = subst (AreSynced unkept _ IsStillDrive (k + 1) _ _) (sym first) next;
      len = c.sync_drive.ensures.len ∙ before.len;
    }

pub returns-clause-syncs : goal.returns-clause-syncs
returns-clause-syncs g c =
    let few : c.loop-k.k ≤ length c.args.drives.now.items = omega (arith, c.loop-k.auto.k-end, c.len.ensures, c.min-count.ensures) in
    all_drives c.loop-k.k _ _ c.loop-k.failed (as_few _ c.args.drives.now.items c.loop-k.k few) c.loop-k.invariant.synced
