use Rattle.std.proofs.Common.{◌<◌, ℕ, Option, subst, arith}
use Rattle.std.specs.Prelude.{IfSome}
use Rattle.sys_output.proofs.AllDumps.{dump_shown}
use Rattle.sys_output.proofs.all.dump_at.Goals as goal

pub returns-then-not-marks-k : goal.returns-then-not-marks-k
returns-then-not-marks-k g c =
    let small : c.in-Some.line < 32 = subst (λ (o : Option ℕ). IfSome o (λ n. n < 32)) c.in-Some.is c.requires.there in
    dump_shown c.args.marks.now _ _ _ c.in-Some.line _ _ _ _ c.in-Some.is (omega (arith, small)) c.if-not-marks-k.true c.is_err.ensures.value c.dump.ensures
