use Rattle.std.proofs.Common.{◌≡◌}
use Rattle.sys_live.proofs.Reading.{TypesSoFar}
use Rattle.sys_live.proofs.typing.read_round.Given as goal

abbrev pub invariant-loop-lines : goal.invariant-loop-lines
invariant-loop-lines g l = record {
  far : TypesSoFar l.round (g.O.Sink.printed l.fn.out) l.fn.count l.count l.events.items (g.K.Keyboard.keys l.fn.keyboard) (g.K.Keyboard.keys l.keyboard) (g.E.Sink.printed l.fn.errors) (g.E.Sink.printed l.errors);
  lines : l.count.lines ≡ l.lines;
}
