use Rattle.std.proofs.Common.{◌≡◌, ◌∙◌, slice_set, ap, arith}
use Rattle.sys_system.proofs.Seating.{are_seated, seated, seated_next}
use Rattle.sys_system.proofs.consoles.connections.Goals as goal

pub loop-terminal-preserved : goal.loop-terminal-preserved
loop-terminal-preserved c = (λ i. slice_set (c.loop-terminal.invariant i) c.loop-terminal.terminal (c.first_guest.ensures i)) ∙ seated_next c.args.rows.now c.loop-terminal.terminal (omega arith)

pub returns : goal.returns
returns c =
    let all : c.loop-terminal.terminal ≡ c.args.terminals = omega arith in
    are_seated c.args.rows.now c.args.terminals c.loop-terminal.at c.requires.terminals (c.loop-terminal.invariant ∙ ap (seated c.args.rows.now) all)
