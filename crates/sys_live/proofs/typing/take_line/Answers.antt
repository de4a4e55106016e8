use Rattle.std.proofs.Common.{◌≡◌, true, false, Ok, Err, refl, sym, ◌∙◌, subst, is_ok}
use Rattle.sys_script.specs.Script.{is_passed_over}
use Rattle.sys_script.specs.Typed.{ReadsTyped, typed_in}
use Rattle.sys_live.proofs.Words.{no_event, on_err, says_one, says_that, tells_no_event, tells_why}
use Rattle.sys_live.proofs.typing.take_line.Goals as goal

pub returns-then-is_passed_over-clause-ok : goal.returns-then-is_passed_over-clause-ok
returns-then-is_passed_over-clause-ok g c = no_event c.args.round c.args.line.now c.args.events.now.items (sym c.is_passed_over.ensures ∙ c.if-is_passed_over.true)

pub returns-in_err-push-in-Ok-clause-err : goal.returns-in_err-push-in-Ok-clause-err
returns-in_err-push-in-Ok-clause-err g c =
    let said : typed_in c.args.round c.args.line.now ≡ Ok c.in-Ok.event = subst (ReadsTyped (typed_in c.args.round c.args.line.now)) c.in-Ok.is c.read_typed.ensures in
    on_err c.from_residual.result (c.in_err-push-in-Ok.ensures.items, says_that c.args.round c.args.line.now c.in-Ok.event said)

pub returns-in_ok-push-in-Ok-clause-tells : goal.returns-in_ok-push-in-Ok-clause-tells
returns-in_ok-push-in-Ok-clause-tells g c =
    let said : typed_in c.args.round c.args.line.now ≡ Ok c.in-Ok.event = subst (ReadsTyped (typed_in c.args.round c.args.line.now)) c.in-Ok.is c.read_typed.ensures in
    tells_no_event c.args.count.now.is_cut (g.E.Sink.printed c.args.errors.now) c.args.count.now.lines c.args.line.now (says_that c.args.round c.args.line.now c.in-Ok.event said)

pub returns-in-Err-Refused-clause-tells : goal.returns-in-Err-Refused-clause-tells
returns-in-Err-Refused-clause-tells g c =
    let refused : typed_in c.args.round c.args.line.now ≡ Err c.in-Err-Refused.kind = subst (λ e. ReadsTyped (typed_in c.args.round c.args.line.now) (Err e)) c.in-Err-Refused.field-0-is c.in-Err-Refused.ensures in
    let read : is_passed_over c.args.line.now ≡ false = sym c.if-is_passed_over.ensures in
    tells_why c.args.count.now.is_cut c.tell.new.count.is_cut (g.E.Sink.printed c.args.errors.now) (g.E.Sink.printed c.tell.new.errors) c.args.count.now.lines c.args.round c.args.line.now c.in-Err-Refused.kind read refused c.tell.ensures.tells

pub returns-in-Err-NoMemory-clause-err : goal.returns-in-Err-NoMemory-clause-err
returns-in-Err-NoMemory-clause-err g c =
    let said : is_ok (typed_in c.args.round c.args.line.now) ≡ true = subst (λ e. ReadsTyped (typed_in c.args.round c.args.line.now) (Err e)) c.in-Err-NoMemory.field-0-is c.in-Err-NoMemory.ensures in
    (refl, says_one c.args.round c.args.line.now said)
