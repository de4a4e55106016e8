-- Laws of the real machine.
use Rattle.std.specs.Prelude.{◌≡◌, ℕ, ◌+◌}
use Rattle.vax_hw.specs.Machine.{Machine}
use Rattle.vax_hw.specs.Real.{real}
use Rattle.vax_hw.specs.declared.world.Exit.{Exit}
use Rattle.vax_hw.specs.declared.world.Exit.TheVariants.{Arithmetic, Budget, NotValid, Denied, Emulate, Modify, Refused}

-- after a run: one that used its budget goes on by at most `more` instructions, and any other has ended
abbrev pub continued : (more : ℕ) → Machine → Exit → Machine × Exit
continued more m Budget = real more m
continued more m (NotValid va write) = (m, NotValid va write)
continued more m (Denied va write) = (m, Denied va write)
continued more m (Modify va) = (m, Modify va)
continued more m (Emulate t) = (m, Emulate t)
continued more m (Arithmetic kind) = (m, Arithmetic kind)
continued more m (Refused r) = (m, Refused r)

-- a run with the sum of two budgets is one with the first, and then one with the second
abbrev pub RunsGoOn : Type 0
RunsGoOn = (n more : ℕ) (m : Machine) → real (n + more) m ≡ continued more (real n m).0 (real n m).1
