use Rattle.std.proofs.Common.{◌≡◌, ◌≤◌, ◌+◌, ◌*◌, ◌++◌, drop, length, take}
use Rattle.sys_trace.specs.TraceLine.{register_words}
use Rattle.sys_trace.proofs.words.put_registers.Given as goal

abbrev pub invariant-loop-n : goal.invariant-loop-n
invariant-loop-n l = (l.line ++ register_words l.n (drop l.n (take 15 l.before)) (drop l.n (take 15 l.after)) ≡ l.fn.line ++ register_words 0 (take 15 l.before) (take 15 l.after)) × (length l.line ≤ length l.fn.line + 13 * l.n)
