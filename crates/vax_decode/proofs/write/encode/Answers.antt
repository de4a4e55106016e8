use Rattle.std.proofs.Common.{sym}
use Rattle.vax_table.specs.RowViews.{row_view}
use Rattle.vax_table.specs.Spelling.{view}
use Rattle.vax_decode.proofs.Encodings.{ready}
use Rattle.vax_decode.proofs.write.encode.Goals as goal

pub put_operands-requires-clause-range : goal.put_operands-requires-clause-range
put_operands-requires-clause-range c =
    let formed = ready (view c.args.d.now) c.requires c.if-d.false (row_view c.in-Some.row) (sym c.in-Some.ensures) in
    rw (c.as_slice.ensures.value, c.as_slice-in-Some.ensures.value) formed.range

pub put_operands-requires-clause-room : goal.put_operands-requires-clause-room
put_operands-requires-clause-room c =
    let formed = ready (view c.args.d.now) c.requires c.if-d.false (row_view c.in-Some.row) (sym c.in-Some.ensures) in
    rw (c.as_slice.ensures.value, c.as_slice-in-Some.ensures.value, c.append_byte.ensures.written, c.new-text.ensures) formed.room

pub returns-in-Some : goal.returns-in-Some
returns-in-Some c =
    let formed = ready (view c.args.d.now) c.requires c.if-d.false (row_view c.in-Some.row) (sym c.in-Some.ensures) in
    rw (c.put_operands.ensures, c.as_slice.ensures.value, c.as_slice-in-Some.ensures.value, c.append_byte.ensures.written, c.new-text.ensures) formed.spelled
