use Rattle.std.proofs.Common.{◌∙◌, List, slice_get, sym, ap}
use Rattle.sys_events.proofs.Replying.{objects_shown}
use Rattle.sys_objects.specs.declared.records.Terminal.{Terminal}
use Rattle.sys_events.proofs.shows.show_objects.Goals as goal

pub returns : goal.returns
returns g c =
    let is = ap (λ (ts : List Terminal). slice_get ts c.args.terminal) (sym c.as_slice.ensures) ∙ c.terminal_at-terminal.ensures in
    objects_shown _ _ _ _ _ _ _ _ c.args.config.now c.args.guests.now c.as_slice-2.result.now c.as_slice-3.result.now c.as_slice-4.result.now c.args.terminal c.terminal_at-terminal.result.now is c.as_slice-2.ensures c.as_slice-3.ensures c.as_slice-4.ensures c.show_guests.ensures c.show_volumes.ensures c.show_printers.ensures
