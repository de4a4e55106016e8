use Rattle.std.proofs.Common.{◌≡◌, ◌∙◌}
use Rattle.sys_trace.specs.TraceLine.{head_and_words, head_of, step_words, trace_line}
use Rattle.vm_state.specs.Step.{step}
use Rattle.sys_trace.proofs.step_line.step_line.Goals as goal

pub returns : goal.returns
unfolding trace_line
returns c h before tells after =
    let words : c.bytes.result.now ≡ step_words h (step h) = c.bytes.ensures.value ∙ c.words-words.ensures.words h before tells after in
    let head : c.head.result ≡ head_of c.args.number h (step h).kind = c.head.ensures.head h (step h).kind before tells.kind in
    c.joined.ensures ∙ (λ i. head_and_words (head i) (words i))
