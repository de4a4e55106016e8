use Rattle.std.proofs.Common.{◌∙◌, List, slice_get, sym, ap}
use Rattle.sys_events.proofs.Happening.{breaks}
use Rattle.sys_events.proofs.Replying.{line_of}
use Rattle.sys_objects.specs.declared.records.Terminal.{Terminal}
use Rattle.sys_events.proofs.Touching.{none_told}
use Rattle.sys_events.proofs.events.disconnect.Goals as goal

pub say-requires-clause-there : goal.say-requires-clause-there
say-requires-clause-there g c =
    let is = ap (λ (ts : List Terminal). slice_get ts c.args.terminal) (sym c.as_slice.ensures) ∙ c.terminal_at-row.ensures in
    line_of c.args.kernel.now.config.terminals c.args.terminal c.terminal_at-row.result.now c.requires.accepted.terminals is

pub returns-clause-does : goal.returns-clause-does
returns-clause-does g c =
    let is = ap (λ (ts : List Terminal). slice_get ts c.args.terminal) (sym c.as_slice.ensures) ∙ c.terminal_at-row.ensures in
    breaks c.args.kernel.now _ _ _ c.args.terminal c.terminal_at-row.result.now c.requires.there is c.say.ensures

pub returns-clause-present : goal.returns-clause-present
returns-clause-present g c = none_told c.args.kernel.now.guests.items
