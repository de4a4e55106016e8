use Rattle.std.proofs.Common.{◌∙◌, ◌-◌, ◌+◌, ◌≡◌, take, arith, sym, ap, length-set}
use Rattle.std.proofs.lemmas.List.{length-replicate, take_all, take_more_set}
use Rattle.std.proofs.lemmas.Result.{err_from_is_err_and}
use Rattle.sys_snap.specs.Conditions.{any}
use Rattle.sys_snap.specs.Reader.{longs_in}
use Rattle.sys_snap.specs.Reading.{four}
use Rattle.sys_snap.proofs.Loops.{got, times_all, times_fault, times_more, times_none}
use Rattle.sys_snap.proofs.cursor.longs.Goals as goal

pub returns-in_err-values : goal.returns-in_err-values
unfolding longs_in
returns-in_err-values g c =
    let p = err_from_is_err_and c.from_residual.result c.from_residual.ensures.1 in
    let n = g.row.N - (c.loop-i.i + 1) in
    rw (p.1, p.2) (sym c.loop-i.invariant.left ∙ times_fault (four any) (take c.loop-i.i c.loop-i.values) (g.row.N - c.loop-i.i) n c.loop-i.r _ (omega arith) c.in_err-values.ensures)

pub loop-i-init : goal.loop-i-init
loop-i-init g c = record { long = length-replicate g.row.N 0; left = times_all (four any) (g.row.N - 0) g.row.N c.args.r.now (omega arith) }

pub loop-i-preserved : goal.loop-i-preserved
loop-i-preserved g c =
    let i = c.loop-i.i in
    let x = c.in_ok-values.field-0 in
    record {
      long = length-set c.loop-i.values i x ∙ c.loop-i.invariant.long;
      left = rw (take_more_set c.loop-i.values i x (omega arith))
          (sym (times_more (four any) (take i c.loop-i.values) x (g.row.N - i) (g.row.N - (i + 1)) c.loop-i.r c.long.new.r (omega arith) c.in_ok-values.ensures) ∙ c.loop-i.invariant.left);
    }

pub returns : goal.returns
unfolding longs_in
returns g c =
    let i = c.loop-i.i in
    let all : take i c.loop-i.values ≡ c.loop-i.values = take_all i c.loop-i.values (omega arith) in
    sym c.loop-i.invariant.left ∙ times_none (four any) (take i c.loop-i.values) (g.row.N - i) c.loop-i.r (omega arith) ∙ ap (λ vs. got vs c.loop-i.r) all
