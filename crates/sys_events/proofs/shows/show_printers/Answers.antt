use Rattle.std.proofs.Common.{Bool, arith}
use Rattle.sys_events.proofs.Replying.{same_puts}
use Rattle.sys_events.proofs.Telling.{all_passing, passing_more, told_then}
use Rattle.sys_objects.specs.declared.records.PrinterRow.{PrinterRow}
use Rattle.sys_server.specs.Replies.{printer_line}
use Rattle.vv_class.specs.Class.{does_flow}
use Rattle.sys_events.proofs.shows.show_printers.Goals as goal

pub loop-row-preserved : goal.loop-row-preserved
loop-row-preserved g c =
    let sees : PrinterRow → Bool = λ x. does_flow x.class c.args.terminal.now.class in
    record {
      shows = told_then _ _ _ _ _ _ _ _ _ (passing_more c.args.terminal.now.line sees printer_line c.args.rows.now c.loop-row.row-index _ (omega arith) c.row-item.is) c.loop-row.invariant.shows c.show_printer.ensures;
    }

pub returns : goal.returns
returns g c =
    let sees : PrinterRow → Bool = λ x. does_flow x.class c.args.terminal.now.class in
    same_puts _ _ _ _ _ _ (all_passing c.args.terminal.now.line sees printer_line c.args.rows.now c.loop-row.row-index (omega arith)) c.loop-row.invariant.shows
