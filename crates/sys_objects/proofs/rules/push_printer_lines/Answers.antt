use Rattle.std.proofs.Common.{rules}
use Rattle.std.proofs.lemmas.Iterator.{YieldsList-from_map, YieldsList-from_slice}
use Rattle.std.proofs.lemmas.Iterator.Adapters.{items_from_extend}
use Rattle.sys_objects.specs.declared.records.PrinterRow.{PrinterRow}
use Rattle.sys_objects.proofs.rules.push_printer_lines.Goals as goal

pub returns : goal.returns
returns c =
    let pushed = items_from_extend c.extend.result c.extend.ensures.ran
    (YieldsList-from_map _ (λ (x : PrinterRow). x.line) (YieldsList-from_slice c.args.rows.now cc) c.map.ensures.closure (λ x r q k. search rules)) in
    search rules
