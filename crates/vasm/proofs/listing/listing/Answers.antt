use Rattle.std.proofs.Common.{◌++◌, ap, ◌∙◌, arith}
use Rattle.std.specs.Str.Lines.{lines}
use Rattle.vasm_text.specs.Asm.{source_line_size}
use Rattle.vasm_text.specs.Statements.{SourceLine}
use Rattle.vasm.proofs.Listed.{line_listed, name_listed, all_listed}
use Rattle.vasm.proofs.listing.listing.Goals as goal

pub loop-left-preserved : goal.loop-left-preserved
loop-left-preserved c =
    let sized = c.line_size-size.ensures.value ∙ ap source_line_size c.said_in-line.ensures in
    record {
      listed = line_listed c.loop-left.at c.line_size-size.result c.loop-left.left.now c.front_of.result.0.now c.front_of.result.1.now c.loop-left.shown.items c.put_line.new.shown.items _ c.loop-left.rest.now c.first_line.result.0.now (lines c.first_line.result.1.now) c.loop-left.invariant.listed c.first_line.ensures.cut sized c.front_of.ensures.own c.front_of.ensures.later c.in_ok-put_line.ensures;
      named = name_listed c.loop-left.at c.line_size-size.result c.loop-left.names.items c.put_name.new.names.items _ c.loop-left.rest.now c.first_line.result.0.now (lines c.first_line.result.1.now) _ c.loop-left.invariant.named c.first_line.ensures.cut sized (ap (λ (l : SourceLine). l.label) c.said_in-line.ensures) c.in_ok-put_name.ensures;
      low = omega (arith, c.first_line.ensures.shorter, c.line_size-size.ensures.most, c.loop-left.invariant.low);
    }

pub returns : goal.returns
returns c = c.in_ok-extend_from_slice.ensures.items ∙ ap (λ xs. c.loop-left.shown.items ++ xs) c.as_slice.ensures.value ∙ all_listed c.loop-left.at c.loop-left.left.now c.loop-left.shown.items c.loop-left.names.items _ _ c.loop-left.rest.now c.loop-left-test.ensures c.loop-left.invariant.listed c.loop-left.invariant.named
