use Rattle.std.proofs.Common.{◌≡◌, ◌<◌, ◌+◌, ◌∙◌, Some, None, ap, arith, length, subst, sym}
use Rattle.std.proofs.lemmas.Bool.{eqb-false, eqb-true}
use Rattle.sys_audit_check.proofs.Lines.{rest_shorter}
use Rattle.sys_audit_check.proofs.Reaching.{Reached, begins, ends, goes_further, stops}
use Rattle.sys_audit_check.proofs.checking.check_audit.Goals as goal
use Rattle.sys_audit_check.specs.Lines.{after_first_line, first_line}
use Rattle.sys_audit_check.specs.Reading.{followed}

pub loop-rest-init : goal.loop-rest-init
loop-rest-init c = begins c.args.c.now c.args.b.now c.opening-replay.result c.opening-replay.ensures.round c.opening-replay.ensures.mounts

pub returns-in_default : goal.returns-in_default
returns-in_default c =
    let some : 0 < length c.loop-rest.rest.now = omega (arith, eqb-false (length c.loop-rest.rest.now) 0 (sym c.is_empty.ensures ∙ c.loop-rest-test.true)) in
    let none : followed c.args.c.now c.loop-rest.replay (first_line c.loop-rest.rest.now) ≡ None = ap (followed c.args.c.now c.loop-rest.replay) (sym c.cut_line.ensures.line) ∙ sym c.followed.ensures ∙ c.in_default.is in
    stops c.args.c.now c.requires.config c.args.b.now c.loop-rest.line c.loop-rest.replay c.loop-rest.rest.now some c.loop-rest.invariant none

pub loop-rest-smaller : goal.loop-rest-smaller
loop-rest-smaller c =
    let some : 0 < length c.loop-rest.rest.now = omega (arith, eqb-false (length c.loop-rest.rest.now) 0 (sym c.is_empty.ensures ∙ c.loop-rest-test.true)) in
    let shorter : length (after_first_line c.loop-rest.rest.now) < length c.loop-rest.rest.now = rest_shorter c.loop-rest.rest.now some in
    subst (λ bytes. length bytes < length c.loop-rest.rest.now) (sym c.cut_line.ensures.later) shorter

pub loop-rest-preserved : goal.loop-rest-preserved
loop-rest-preserved c =
    let some : 0 < length c.loop-rest.rest.now = omega (arith, eqb-false (length c.loop-rest.rest.now) 0 (sym c.is_empty.ensures ∙ c.loop-rest-test.true)) in
    let next : followed c.args.c.now c.loop-rest.replay (first_line c.loop-rest.rest.now) ≡ Some c.in-Some.next = ap (followed c.args.c.now c.loop-rest.replay) (sym c.cut_line.ensures.line) ∙ sym c.followed.ensures ∙ c.in-Some.is in
    let reached : Reached c.args.c.now c.args.b.now (c.loop-rest.line + 1) c.in-Some.next (after_first_line c.loop-rest.rest.now) = goes_further c.args.c.now c.requires.config c.args.b.now c.loop-rest.line c.loop-rest.replay c.loop-rest.rest.now some c.loop-rest.invariant c.in-Some.next next in
    subst (λ bytes. Reached c.args.c.now c.args.b.now (c.loop-rest.line + 1) c.in-Some.next bytes) (sym c.cut_line.ensures.later) reached

pub returns : goal.returns
returns c =
    let none : length c.loop-rest.rest.now ≡ 0 = eqb-true (length c.loop-rest.rest.now) 0 (sym c.is_empty.ensures ∙ c.loop-rest-test.false) in
    ends c.args.c.now c.args.b.now c.loop-rest.line c.loop-rest.replay c.loop-rest.rest.now none c.loop-rest.invariant
