use Rattle.std.proofs.Common.{◌≡◌, ◌≤◌, ◌∙◌, ◌-◌, ◌++◌, List, ℕ, [], ap, arith, length}
use Rattle.std.specs.Prelude.{decimal}
use Rattle.std.proofs.lemmas.Fmt.{length-decimal-le}
use Rattle.sys_trace.proofs.Columns.{column_is, right_long}
use Rattle.sys_trace.specs.TraceLine.{at_left}
use Rattle.sys_trace.proofs.step_line.number_column.Goals as goal

pub overflow_sub-bytes : goal.overflow_sub-bytes
overflow_sub-bytes c =
    let n : ℕ = c.args.number in
    let same : c.from.result ≡ n = omega (arith, c.from.ensures) in
    let few : length (decimal n) ≤ 6 = length-decimal-le 6 n (omega arith) (omega (arith, c.requires)) (omega (arith, c.requires)) in
    let long : length c.bytes.result.now ≡ length (decimal n) = ap length (c.bytes.ensures.value ∙ c.decimal-digits.ensures ∙ ap decimal same) in
    omega (arith, few, long)

pub returns-clause-number : goal.returns-clause-number
returns-clause-number c =
    let n : ℕ = c.args.number in
    let same : c.from.result ≡ n = omega (arith, c.from.ensures) in
    let long : length c.bytes.result.now ≡ length (decimal n) = ap length (c.bytes.ensures.value ∙ c.decimal-digits.ensures ∙ ap decimal same) in
    let digits : c.bytes-2.result.now ≡ decimal n = c.bytes-2.ensures.value ∙ c.decimal-digits.ensures ∙ ap decimal same in
    let blanks : c.put_blanks.new.line ≡ at_left (6 - length (decimal n)) [] = c.put_blanks.ensures.blanks ∙ (λ i. at_left (6 - long i) (c.new-line.ensures i)) in
    column_is 6 (decimal n) c.put_blanks.new.line c.append.new.self blanks (c.append.ensures.written ∙ ap (λ (bs : List ℕ). c.put_blanks.new.line ++ bs) digits)

pub returns-clause-size : goal.returns-clause-size
returns-clause-size c =
    let n : ℕ = c.args.number in
    let few : length (decimal n) ≤ 6 = length-decimal-le 6 n (omega arith) (omega (arith, c.requires)) (omega (arith, c.requires)) in
    ap length (returns-clause-number c) ∙ right_long 6 (decimal n) few
