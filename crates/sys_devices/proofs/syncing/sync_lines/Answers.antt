use Rattle.std.proofs.Common.{◌≡◌, ◌+◌, is_err, refl, sym, ◌∙◌, ap, subst, arith}
use Rattle.sys_devices.proofs.Devices.{all_lines, one_line}
use Rattle.sys_devices.proofs.Synced.{AreSynced, next_synced}
use Rattle.sys_devices.specs.Syncing.{IsStillLine, first_fault}
use Rattle.vv_io.specs.Lines.{unseen}
use Rattle.sys_devices.proofs.syncing.sync_lines.Goals as goal

pub loop-k-preserved : goal.loop-k-preserved
loop-k-preserved g c =
    let k = c.loop-k.k in
    let before = c.loop-k.invariant in
    let failed = c.loop-k.failed in
    let r = c.sync_line.result in
    let one = one_line k k _ _ r refl (omega (arith, c.loop-k-test.true, g.met.L.Lines.count c.loop-k.lines)) c.sync_line.ensures in
    let next = next_synced unseen _ IsStillLine k _ _ _ failed (is_err r) one before in
    let first : c.first_fault-failed.result ≡ first_fault failed k (is_err r) = c.first_fault-failed.ensures ∙ ap (first_fault failed k) c.is_err-fails.ensures.value in
    subst (AreSynced unseen _ IsStillLine (k + 1) _ _) (sym first) next

pub returns : goal.returns
returns g c = all_lines c.loop-k.k _ _ c.loop-k.failed (omega (arith, c.loop-k.auto.k-end, g.met.L.Lines.count c.args.lines.now)) c.loop-k.invariant
