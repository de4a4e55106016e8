use Rattle.std.proofs.Common.{◌≡◌, ◌-◌, ◌∙◌, None, drop, length, replicate, refl, ap, arith}
use Rattle.std.proofs.lemmas.List.Elements.{All-replicate}
use Rattle.std.proofs.lemmas.Result.{err_from_is_err_and}
use Rattle.sys_snap.specs.Reader.{units_in}
use Rattle.sys_snap.proofs.Fills.{fills_all, fills_fault, fills_more, fills_none}
use Rattle.sys_snap.proofs.mounts.read_mounts.Goals as goal

pub returns-in_err-mounts-clause-reads : goal.returns-in_err-mounts-clause-reads
returns-in_err-mounts-clause-reads c =
    let p = err_from_is_err_and c.from_residual.result c.from_residual.ensures.1 in
    rw (p.1, p.2) (fills_fault (units_in c.args.volumes.now) c.args.rows.now 16 (replicate 4 None) c.loop-i.i c.loop-i.mounts c.args.r.now c.loop-i.r c.index-rows-i.result _ c.loop-i-test.true c.index-rows-i.is c.loop-i.invariant c.in_err-mounts.ensures)

pub loop-i-init : goal.loop-i-init
loop-i-init c = fills_none (units_in c.args.volumes.now) c.args.rows.now 16 (replicate 4 None) c.args.r.now

pub loop-i-preserved : goal.loop-i-preserved
loop-i-preserved c =
    fills_more (units_in c.args.volumes.now) c.args.rows.now 16 (replicate 4 None) c.loop-i.i c.loop-i.mounts c.args.r.now c.loop-i.r c.units.new.r c.index-rows-i.result c.in_ok-mounts.field-0
    c.loop-i-test.true (omega (arith, c.loop-i-test.true, c.requires)) c.index-rows-i.is c.loop-i.invariant c.in_ok-mounts.ensures

pub returns-clause-reads : goal.returns-clause-reads
returns-clause-reads c = fills_all (units_in c.args.volumes.now) c.args.rows.now 16 (replicate 4 None) c.loop-i.i c.loop-i.mounts c.args.r.now c.loop-i.r (omega arith) c.loop-i.invariant

pub returns-clause-beyond : goal.returns-clause-beyond
returns-clause-beyond c =
    let i = c.loop-i.i in
    let all : length c.args.rows.now ≡ i = omega arith in
    let none : drop (length c.args.rows.now) c.loop-i.mounts ≡ replicate (16 - i) (replicate 4 None) = ap (λ n. drop n c.loop-i.mounts) all ∙ c.loop-i.invariant.beyond in
    rw none (All-replicate (λ units. units ≡ replicate 4 None) (16 - i) (replicate 4 None) refl)

pub returns-clause-len : goal.returns-clause-len
returns-clause-len c = c.loop-i.invariant.long
