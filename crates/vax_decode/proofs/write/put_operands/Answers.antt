use Rattle.std.proofs.Common.{◌++◌, ◌∙◌, sym, ap, append-nil}
use Rattle.std.proofs.lemmas.Slice.Zip.{zip_turn, zip_end}
use Rattle.vax_decode.proofs.Encodings.{room_next, spelled_end}
use Rattle.vax_decode.proofs.write.put_operands.Goals as goal

pub put_operand-requires-clause-room : goal.put_operand-requires-clause-room
put_operand-requires-clause-room c =
    let turn = zip_turn c.args.forms.now c.args.specs.now c.loop-form.yielded _ _ c.next.new.self _ (cc) (cc) c.loop-form.yielded_by _ c.in-Some.is c.next.ensures.steps in
    room_next c.args.forms.now c.args.specs.now _ c.in-Some.form.now c.in-Some.spec.now c.loop-form.text c.args.text.now turn.0 turn.1 (turn.2 _) (turn.3 _) c.loop-form.invariant.text c.requires.room

pub returns : goal.returns
returns c =
    let end = zip_end c.args.forms.now c.args.specs.now c.loop-form.yielded _ _ c.next.new.self _ (cc) (cc) c.loop-form.yielded_by c.in-None.is c.next.ensures.steps in
    let none = spelled_end c.args.forms.now c.args.specs.now _ end in
    sym (append-nil c.loop-form.text) ∙ (ap (λ xs. c.loop-form.text ++ xs) (sym none) ∙ c.loop-form.invariant.text)
