use Rattle.std.proofs.Common.{length, refl, ◌∙◌}
use Rattle.sys_flow.proofs.Numbers.{terminal_at, volume_at, printer_at, guest_at, audit_at}
use Rattle.sys_flow.proofs.objects.object_at.Goals as goal

pub returns-then-number-terminals : goal.returns-then-number-terminals
returns-then-number-terminals c =
    let k = c.args.c.now in
    terminal_at k _ _ (length k.volumes) (length k.printers) (length k.guests) c.len-terminals.ensures refl refl refl c.if-number-terminals.true

pub returns-then-number-terminals-2 : goal.returns-then-number-terminals-2
returns-then-number-terminals-2 c =
    let k = c.args.c.now in
    volume_at k _ _ _ (length k.printers) (length k.guests) c.len-terminals.ensures c.len-volumes.ensures refl refl c.if-number-terminals.false c.if-number-terminals-2.true

pub returns-then-number-terminals-3 : goal.returns-then-number-terminals-3
returns-then-number-terminals-3 c =
    let k = c.args.c.now in
    printer_at k _ _ _ _ (length k.guests) c.len-terminals.ensures c.len-volumes.ensures c.len-printers.ensures refl c.if-number-terminals.false c.if-number-terminals-2.false c.if-number-terminals-3.true

pub returns-then-number-terminals-4 : goal.returns-then-number-terminals-4
returns-then-number-terminals-4 c =
    guest_at c.args.c.now _ _ _ _ _ c.len-terminals.ensures c.len-volumes.ensures c.len-printers.ensures c.len-guests.ensures c.if-number-terminals.false c.if-number-terminals-2.false c.if-number-terminals-3.false c.if-number-terminals-4.true

pub returns : goal.returns
returns c =
    c.audit_at.ensures
    ∙ audit_at c.args.c.now _ _ _ _ _ c.len-terminals.ensures c.len-volumes.ensures c.len-printers.ensures c.len-guests.ensures c.if-number-terminals.false c.if-number-terminals-2.false c.if-number-terminals-3.false c.if-number-terminals-4.false
