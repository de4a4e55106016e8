use Rattle.std.proofs.Common.{◌≡◌, ◌≤◌, ◌+◌, length}
use Rattle.std.specs.Str.Lines.{lines}
use Rattle.sys_script.specs.Script.{events_from, script_of}
use Rattle.sys_script.proofs.Reading.{after_all}
use Rattle.sys_script.proofs.script.read_script.Given as goal

abbrev pub invariant-loop-line : goal.invariant-loop-line
invariant-loop-line l = record {
  rest : after_all l.events.items (events_from (l.number + 1) l.last (lines l.rest)) ≡ script_of l.b;
  count : l.number + length l.rest ≤ length l.b;
}

abbrev pub decreases-loop-line : goal.decreases-loop-line
decreases-loop-line l = length l.rest
