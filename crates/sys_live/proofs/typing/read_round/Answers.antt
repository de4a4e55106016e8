use Rattle.std.proofs.Common.{◌≡◌, ◌+◌, ◌-◌, ◌^◌, ◌==◌, ℕ, List, [], length, All, Some, Ok, true, false, is_err, refl, sym, ◌∙◌, ap, subst, arith}
use Rattle.vv_io.specs.Keys.{Takes}
use Rattle.sys_script.specs.Events.{IsEvent}
use Rattle.sys_script.specs.Typed.{refusal_message, says_event}
use Rattle.sys_system.specs.Calls.{AreOf}
use Rattle.sys_devices.specs.Shows.{ShowsUnlessMarked}
use Rattle.sys_live.specs.Typing.{TypesRound}
use Rattle.sys_live.specs.declared.typing.Typing.TheVariants.{GoesOn, Over, Broken, Lost}
use Rattle.sys_live.specs.declared.typing.TypedRound.{TypedRound}
use Rattle.sys_live.proofs.Reading.{TypesSoFar, begins, desk, empty_line, far_each, far_of, full_line, goes_on, is_counted, is_ended, is_failed, is_lost, is_over}
use Rattle.sys_live.proofs.Words.{off_err, off_ok}
use Rattle.sys_live.proofs.typing.read_round.Goals as goal

pub loop-lines-init : goal.loop-lines-init
loop-lines-init g c =
    let keys = g.K.Keyboard.keys c.args.keyboard.now in
    let errors = g.E.Sink.printed c.args.errors.now in
    record { far = subst (λ es. TypesSoFar c.args.round (g.O.Sink.printed c.args.out.now) c.args.count.now c.args.count.now es keys keys errors errors) (sym c.new-events.ensures.items) (begins c.args.round (g.O.Sink.printed c.args.out.now) c.args.count.now keys errors); lines = refl }

pub returns-in-Ok-None-clause-types : goal.returns-in-Ok-None-clause-types
returns-in-Ok-None-clause-types g c =
    let keys = g.K.Keyboard.keys c.args.keyboard.now in
    let keys1 = g.K.Keyboard.keys c.loop-lines.keyboard in
    let keys2 = g.K.Keyboard.keys c.next.new.self in
    let errors = g.E.Sink.printed c.args.errors.now in
    let errors1 = g.E.Sink.printed c.loop-lines.errors in
    let typed : TypedRound = record { events = c.loop-lines.events; typing = Over } in
    subst (λ t. TypesRound c.args.round (g.O.Sink.printed c.args.out.now) c.args.count.now c.loop-lines.count t (desk keys keys2 errors errors1)) (sym c.ended.ensures)
    (is_over c.args.round (g.O.Sink.printed c.args.out.now) c.args.count.now c.loop-lines.count typed keys keys1 keys2 errors errors1 c.loop-lines.invariant.far (omega (arith, c.loop-lines.invariant.lines, c.loop-lines-test.true)) (subst (Takes (g.O.Sink.printed c.args.out.now) keys1 keys2) (c.in-Ok-None.is ∙ ap Ok c.in-Ok-None.field-0-is) c.next.ensures) refl)

pub returns-in-Ok-None-clause-each : goal.returns-in-Ok-None-clause-each
returns-in-Ok-None-clause-each g c =
    subst (λ (t : TypedRound). All IsEvent t.events.items) (sym c.ended.ensures)
    (far_each c.loop-lines.invariant.far c.requires.from c.requires.to)

pub returns-in-Ok-None-clause-round : goal.returns-in-Ok-None-clause-round
returns-in-Ok-None-clause-round g c =
    subst (λ (t : TypedRound). AreOf c.args.round t.events.items) (sym c.ended.ensures)
    (far_of c.loop-lines.invariant.far c.requires.from c.requires.to)

pub returns-in-Err-clause-types : goal.returns-in-Err-clause-types
returns-in-Err-clause-types g c =
    let keys = g.K.Keyboard.keys c.args.keyboard.now in
    let keys1 = g.K.Keyboard.keys c.loop-lines.keyboard in
    let keys2 = g.K.Keyboard.keys c.next.new.self in
    let errors = g.E.Sink.printed c.args.errors.now in
    let errors1 = g.E.Sink.printed c.loop-lines.errors in
    let typed : TypedRound = record { events = c.loop-lines.events; typing = Broken } in
    subst (λ t. TypesRound c.args.round (g.O.Sink.printed c.args.out.now) c.args.count.now c.loop-lines.count t (desk keys keys2 errors errors1)) (sym c.ended-in-Err.ensures)
    (is_failed c.args.round (g.O.Sink.printed c.args.out.now) c.args.count.now c.loop-lines.count typed keys keys1 keys2 errors errors1 c.in-Err.field-0 c.loop-lines.invariant.far (omega (arith, c.loop-lines.invariant.lines, c.loop-lines-test.true)) (subst (Takes (g.O.Sink.printed c.args.out.now) keys1 keys2) c.in-Err.is c.next.ensures) refl)

pub returns-in-Err-clause-each : goal.returns-in-Err-clause-each
returns-in-Err-clause-each g c =
    subst (λ (t : TypedRound). All IsEvent t.events.items) (sym c.ended-in-Err.ensures)
    (far_each c.loop-lines.invariant.far c.requires.from c.requires.to)

pub returns-in-Err-clause-round : goal.returns-in-Err-clause-round
returns-in-Err-clause-round g c =
    subst (λ (t : TypedRound). AreOf c.args.round t.events.items) (sym c.ended-in-Err.ensures)
    (far_of c.loop-lines.invariant.far c.requires.from c.requires.to)

pub returns-then-is_empty-clause-types : goal.returns-then-is_empty-clause-types
returns-then-is_empty-clause-types g c =
    let keys = g.K.Keyboard.keys c.args.keyboard.now in
    let keys1 = g.K.Keyboard.keys c.loop-lines.keyboard in
    let keys2 = g.K.Keyboard.keys c.next.new.self in
    let errors = g.E.Sink.printed c.args.errors.now in
    let errors1 = g.E.Sink.printed c.loop-lines.errors in
    let typed : TypedRound = record { events = c.loop-lines.events; typing = GoesOn } in
    let after = record c.loop-lines.count { lines = c.loop-lines.lines + 1 } in
    let given : c.next.result ≡ Ok (Some c.in-Ok-Some.line) = c.in-Ok-Some.is ∙ ap Ok c.in-Ok-Some.field-0-is in
    let empty : c.in-Ok-Some.line ≡ [] = sym c.bytes.ensures.value ∙ empty_line c.bytes.result.now (sym c.is_empty.ensures ∙ c.if-is_empty.true) in
    subst (λ t. TypesRound c.args.round (g.O.Sink.printed c.args.out.now) c.args.count.now after t (desk keys keys2 errors errors1)) (sym c.ended-then-is_empty.ensures)
    (is_ended c.args.round (g.O.Sink.printed c.args.out.now) c.args.count.now c.loop-lines.count after typed c.in-Ok-Some.line keys keys1 keys2 errors errors1 errors1 c.loop-lines.invariant.far (omega (arith, c.loop-lines.invariant.lines, c.loop-lines-test.true)) empty (subst (Takes (g.O.Sink.printed c.args.out.now) keys1 keys2) given c.next.ensures) (ap (λ n. n + 1) (sym c.loop-lines.invariant.lines)) refl refl refl)

pub returns-then-is_empty-clause-each : goal.returns-then-is_empty-clause-each
returns-then-is_empty-clause-each g c =
    subst (λ (t : TypedRound). All IsEvent t.events.items) (sym c.ended-then-is_empty.ensures)
    (far_each c.loop-lines.invariant.far c.requires.from c.requires.to)

pub returns-then-is_empty-clause-round : goal.returns-then-is_empty-clause-round
returns-then-is_empty-clause-round g c =
    subst (λ (t : TypedRound). AreOf c.args.round t.events.items) (sym c.ended-then-is_empty.ensures)
    (far_of c.loop-lines.invariant.far c.requires.from c.requires.to)

pub returns-then-is_err-clause-types : goal.returns-then-is_err-clause-types
returns-then-is_err-clause-types g c =
    let keys = g.K.Keyboard.keys c.args.keyboard.now in
    let keys1 = g.K.Keyboard.keys c.loop-lines.keyboard in
    let keys2 = g.K.Keyboard.keys c.next.new.self in
    let errors = g.E.Sink.printed c.args.errors.now in
    let errors1 = g.E.Sink.printed c.loop-lines.errors in
    let errors2 = g.E.Sink.printed c.take_line.new.errors in
    let line = c.bytes-in-loop-lines.result.now in
    let typed : TypedRound = record { events = c.take_line.new.events; typing = Lost } in
    let given : c.next.result ≡ Ok (Some line) = c.in-Ok-Some.is ∙ ap Ok (c.in-Ok-Some.field-0-is ∙ ap Some (sym c.bytes-in-loop-lines.ensures.value)) in
    let failed : is_err c.take_line.result ≡ true = sym c.is_err.ensures.value ∙ c.if-is_err.true in
    let lost : (c.take_line.new.events.items ≡ c.loop-lines.events.items) × (says_event line ≡ true) = off_err c.take_line.result failed c.take_line.ensures.err in
    let untold : (errors2 ≡ errors1) × (c.take_line.new.count.is_cut ≡ c.loop-lines.count.is_cut) = off_err c.take_line.result failed c.take_line.ensures.untold in
    let far : TypesSoFar c.args.round (g.O.Sink.printed c.args.out.now) c.args.count.now c.loop-lines.count c.take_line.new.events.items keys keys1 errors errors1 =
    subst (λ es. TypesSoFar c.args.round (g.O.Sink.printed c.args.out.now) c.args.count.now c.loop-lines.count es keys keys1 errors errors1) (sym lost.0) c.loop-lines.invariant.far in
    subst (λ t. TypesRound c.args.round (g.O.Sink.printed c.args.out.now) c.args.count.now c.take_line.new.count t (desk keys keys2 errors errors2)) (sym c.ended-then-is_err.ensures)
    (is_lost c.args.round (g.O.Sink.printed c.args.out.now) c.args.count.now c.loop-lines.count c.take_line.new.count typed line keys keys1 keys2 errors errors1 errors2 far (omega (arith, c.loop-lines.invariant.lines, c.loop-lines-test.true)) lost.1 (subst (Takes (g.O.Sink.printed c.args.out.now) keys1 keys2) given c.next.ensures) untold.1 untold.0 refl)

pub returns-then-is_err-clause-each : goal.returns-then-is_err-clause-each
returns-then-is_err-clause-each g c =
    let failed : is_err c.take_line.result ≡ true = sym c.is_err.ensures.value ∙ c.if-is_err.true in
    let lost : (c.take_line.new.events.items ≡ c.loop-lines.events.items) × (says_event c.bytes-in-loop-lines.result.now ≡ true) = off_err c.take_line.result failed c.take_line.ensures.err in
    subst (λ (t : TypedRound). All IsEvent t.events.items) (sym c.ended-then-is_err.ensures)
    (subst (λ es. All IsEvent es) (sym lost.0)
    (far_each c.loop-lines.invariant.far c.requires.from c.requires.to))

pub returns-then-is_err-clause-round : goal.returns-then-is_err-clause-round
returns-then-is_err-clause-round g c =
    let failed : is_err c.take_line.result ≡ true = sym c.is_err.ensures.value ∙ c.if-is_err.true in
    let lost : (c.take_line.new.events.items ≡ c.loop-lines.events.items) × (says_event c.bytes-in-loop-lines.result.now ≡ true) = off_err c.take_line.result failed c.take_line.ensures.err in
    subst (λ (t : TypedRound). AreOf c.args.round t.events.items) (sym c.ended-then-is_err.ensures)
    (subst (λ es. AreOf c.args.round es) (sym lost.0)
    (far_of c.loop-lines.invariant.far c.requires.from c.requires.to))

pub loop-lines-preserved : goal.loop-lines-preserved
loop-lines-preserved g c =
    let keys = g.K.Keyboard.keys c.args.keyboard.now in
    let keys1 = g.K.Keyboard.keys c.loop-lines.keyboard in
    let keys2 = g.K.Keyboard.keys c.next.new.self in
    let errors = g.E.Sink.printed c.args.errors.now in
    let errors1 = g.E.Sink.printed c.loop-lines.errors in
    let errors2 = g.E.Sink.printed c.take_line.new.errors in
    let line = c.bytes-in-loop-lines.result.now in
    let given : c.next.result ≡ Ok (Some line) = c.in-Ok-Some.is ∙ ap Ok (c.in-Ok-Some.field-0-is ∙ ap Some (sym c.bytes-in-loop-lines.ensures.value)) in
    let same : c.bytes.result.now ≡ line = c.bytes.ensures.value ∙ sym c.bytes-in-loop-lines.ensures.value in
    let some : (length line == 0) ≡ false = subst (λ (l : List ℕ). (length l == 0) ≡ false) same (sym c.is_empty.ensures ∙ c.if-is_empty.false) in
    let went : is_err c.take_line.result ≡ false = sym c.is_err.ensures.value ∙ c.if-is_err.false in
    let counted : c.take_line.new.count.lines ≡ c.loop-lines.count.lines + 1 = c.take_line.ensures.lines ∙ ap (λ n. n + 1) (sym c.loop-lines.invariant.lines) in
    let tells : ShowsUnlessMarked c.loop-lines.count.is_cut c.take_line.new.count.is_cut errors1 errors2 (refusal_message (c.loop-lines.count.lines + 1) line) =
    subst (λ n. ShowsUnlessMarked c.loop-lines.count.is_cut c.take_line.new.count.is_cut errors1 errors2 (refusal_message (n + 1) line)) (sym c.loop-lines.invariant.lines) (off_ok c.take_line.result went c.take_line.ensures.tells) in
    let far = goes_on c.args.round (g.O.Sink.printed c.args.out.now) c.args.count.now c.loop-lines.count c.take_line.new.count c.loop-lines.events.items c.take_line.new.events.items line keys keys1 keys2 errors errors1 errors2 c.loop-lines.invariant.far (full_line line some) (subst (Takes (g.O.Sink.printed c.args.out.now) keys1 keys2) given c.next.ensures)
    (off_ok c.take_line.result went c.take_line.ensures.ok) tells counted in
    record { far = far; lines = c.take_line.ensures.lines }

pub returns-clause-types : goal.returns-clause-types
returns-clause-types g c =
    let keys = g.K.Keyboard.keys c.args.keyboard.now in
    let keys1 = g.K.Keyboard.keys c.loop-lines.keyboard in
    let errors = g.E.Sink.printed c.args.errors.now in
    let errors1 = g.E.Sink.printed c.loop-lines.errors in
    let typed : TypedRound = record { events = c.loop-lines.events; typing = Broken } in
    let last : c.loop-lines.count.lines ≡ 2 ^ 32 - 1 = omega arith in
    subst (λ t. TypesRound c.args.round (g.O.Sink.printed c.args.out.now) c.args.count.now c.loop-lines.count t (desk keys keys1 errors errors1)) (sym c.ended-2.ensures)
    (is_counted c.args.round (g.O.Sink.printed c.args.out.now) c.args.count.now c.loop-lines.count typed keys keys1 errors errors1 c.loop-lines.invariant.far last refl)

pub returns-clause-each : goal.returns-clause-each
returns-clause-each g c =
    subst (λ (t : TypedRound). All IsEvent t.events.items) (sym c.ended-2.ensures)
    (far_each c.loop-lines.invariant.far c.requires.from c.requires.to)

pub returns-clause-round : goal.returns-clause-round
returns-clause-round g c =
    subst (λ (t : TypedRound). AreOf c.args.round t.events.items) (sym c.ended-2.ensures)
    (far_of c.loop-lines.invariant.far c.requires.from c.requires.to)
