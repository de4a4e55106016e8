use Rattle.std.proofs.Common.{◌∙◌, ◌++◌, List, ℕ, ap}
use Rattle.sys_trace.proofs.Columns.{words_by}
use Rattle.sys_trace.proofs.Lines.{words_for}
use Rattle.sys_trace.specs.TraceLine.{shown_word}
use Rattle.sys_trace.proofs.step_line.words.Goals as goal

pub returns-clause-words : goal.returns-clause-words
returns-clause-words c h before tells after =
    let l3 : List ℕ = c.put_changed.new.line in
    words_for h c.args.before.now c.args.watched.now c.args.after.now c.put_shown.new.line before tells after
    (words_by _ _ _ _ c.new-line.result c.put_note.new.line c.put_registers.new.line l3 c.put_shown.new.line c.new-line.ensures c.put_note.ensures.word c.put_registers.ensures.words c.put_changed.ensures.word (c.put_shown.ensures.word ∙ ap (λ (bs : List ℕ). l3 ++ shown_word bs) c.bytes.ensures.value))
