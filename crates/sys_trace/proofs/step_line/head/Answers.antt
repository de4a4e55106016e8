use Rattle.std.proofs.Common.{◌≡◌, ◌∙◌, ◌++◌, ◌∷◌, List, ℕ, ap}
use Rattle.std.specs.Prelude.{decimal, slice_index}
use Rattle.sys_trace.proofs.Columns.{head_by}
use Rattle.sys_trace.proofs.Lines.{head_for}
use Rattle.sys_trace.specs.TraceLine.{at_right, instruction_or_mark, kind_name, mode_name}
use Rattle.vax_arch.specs.Fields.{current_of}
use Rattle.vv_base.specs.Digits.{hex_text}
use Rattle.sys_trace.proofs.step_line.head.Goals as goal

pub returns-clause-head : goal.returns-clause-head
returns-clause-head c h kind before tally =
    let b = c.args.before.now in
    let l0 : List ℕ = c.number_column-line.result in
    let l2 : List ℕ = c.put_blanks.new.line in
    let l3 : List ℕ = c.put_part-2.new.line in
    let l4 : List ℕ = c.put_part-3.new.line in
    let name : c.as_bytes.result.now ≡ kind_name kind = c.as_bytes.ensures.value ∙ c.kind_name.ensures.name kind tally in
    let mode : c.mode_name.result.now ≡ mode_name (current_of b.psl.0) = c.mode_name.ensures.name ∙ ap mode_name c.current.ensures in
    let pc : c.bytes.result.now ≡ hex_text 8 (slice_index b.r 15) = c.bytes.ensures.value ∙ c.address.ensures.text in
    let text : c.instruction_in.result.now ≡ instruction_or_mark kind b.text = c.instruction_in.ensures.text kind tally ∙ ap (instruction_or_mark kind) c.bytes-2.ensures.value in
    let whole = head_by (at_right 6 (decimal c.args.number)) (kind_name kind) (mode_name (current_of b.psl.0)) (hex_text 8 (slice_index b.r 15)) (instruction_or_mark kind b.text) l0 c.put_part.new.line l2 l3 l4 c.put_part-4.new.line
    c.number_column-line.ensures.number c.number_column-line.ensures.size
    (c.put_part.ensures.part ∙ ap (λ (bs : List ℕ). l0 ++ (32 ∷ bs)) name)
    c.put_blanks.ensures.blanks
    (c.put_part-2.ensures.part ∙ ap (λ (bs : List ℕ). l2 ++ (32 ∷ bs)) mode)
    (c.put_part-3.ensures.part ∙ ap (λ (bs : List ℕ). l3 ++ (32 ∷ bs)) pc)
    (c.put_part-4.ensures.part ∙ ap (λ (bs : List ℕ). l4 ++ (32 ∷ bs)) text) in
    head_for c.args.number h kind b c.put_part-4.new.line before whole
