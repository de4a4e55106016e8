-- A guest's run: the guest then, what it has shown, and its steps by their kinds.
use Rattle.std.specs.Prelude.{ℕ, zero, suc, ◌+◌, ◌%◌, ◌^◌, List, ◌++◌}
use Rattle.vm_state.specs.State.{Guest}
use Rattle.vm_state.specs.Step.{Kind, Stopped, Interrupt, Idle, SetModify, Plain, Sensitive, Fault, Stepped, step}

-- how many steps of each kind there were, and the trail modulo 2^64
pub record Tally : Type 0 where
  pub plain : ℕ
  pub sensitive : ℕ
  pub faults : ℕ
  pub interrupts : ℕ
  pub modify : ℕ
  pub idle : ℕ
  pub stopped : ℕ
  pub trail : ℕ

abbrev pub no_steps : Tally
no_steps = record { plain = 0; sensitive = 0; faults = 0; interrupts = 0; modify = 0; idle = 0; stopped = 0; trail = 0 }

abbrev pub tallied : Kind → Tally → Tally
tallied (Plain term) t = record t { plain = t.plain + 1; trail = (t.trail + term) % 2 ^ 64 }
tallied Sensitive t = record t { sensitive = t.sensitive + 1 }
tallied Fault t = record t { faults = t.faults + 1 }
tallied Interrupt t = record t { interrupts = t.interrupts + 1 }
tallied SetModify t = record t { modify = t.modify + 1 }
tallied Idle t = record t { idle = t.idle + 1 }
tallied Stopped t = record t { stopped = t.stopped + 1 }

pub record Run : Type 0 where
  pub guest : Guest
  pub shown : List ℕ
  pub tally : Tally

abbrev pub after_step : Run → Stepped → Run
after_step run s = record { guest = s.guest; shown = run.shown ++ s.shown; tally = tallied s.kind run.tally }

-- n steps more
abbrev pub after_steps : ℕ → Run → Run
after_steps zero run = run
after_steps (suc n) run = after_steps n (after_step run (step run.guest))
