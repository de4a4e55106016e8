-- Which answer must be given to `load`.
use Rattle.std.proofs.Common.{ℕ, ◌≡◌, ◌<◌, inl, inr, List, Bool, true, false, Option, Some, None, refl, subst, sym, ap, ◌∙◌, arith}
use Rattle.sys_runs.specs.Besides.{MissesArePaid}
use Rattle.vv_io.specs.Lines.{Seen}
use Rattle.sys_system.specs.Devices.{device_of}
use Rattle.sys_devices.specs.declared.device.Device.{Device}
use Rattle.vvmm_call.specs.Answer.{Outside, PlaysLoad, run_outside, status_when_done}
use Rattle.vvmm_files.specs.declared.status.Status.{Status}
use Rattle.vv_gen.specs.Workload.{workload_of}
use Rattle.vvmm_laws.proofs.Marked.{first_marked, line_rose}
use Rattle.vvmm_laws.proofs.Played.{closes_served, named_line, no_device}
use Rattle.vvmm_laws.specs.Complete.{CanCome, CompletesLoad, IsServed, LimitsLoad, NamesLine, TellsLoadLineFault, line_at}

-- only a line can have failed
can_come : (line : Option ℕ) (cut : Bool) → CanCome (status_when_done (device_of line None) cut)
can_come (Some line) cut = tt
can_come None true = tt
can_come None false = tt

module _ (number : ℕ) (status : Status) (o : Outside) (p : (PlaysLoad MissesArePaid) (workload_of number) status (run_outside o) o.out o.out') where
  -- the answer, by the lines that failed
  answer : status ≡ status_when_done (device_of (first_marked p.made.marks) None) p.closes.cut
  answer = p.closes.is ∙ ap (λ (f : Option Device). status_when_done f p.closes.cut) p.made.failed

  pub load_limits : CanCome status
  load_limits = subst (λ (s : Status). CanCome s) (sym answer) (can_come (first_marked p.made.marks) p.closes.cut)

  pub load_names_line : (k : ℕ) → (line_at o.lines k).faults < (line_at o.lines' k).faults → NamesLine k status
  load_names_line k h = subst (λ (s : Status). NamesLine k s) (sym answer) (named_line p.made.marks o.lines o.lines' _ k p.made.lines h (first_marked p.made.marks) None p.closes.cut refl)

pub completes_load : CompletesLoad
completes_load number status o (inl (none_left, untouched, same)) none = subst (λ (s : Status). IsServed s) (sym none_left) tt
completes_load number status o (inr p) none =
    let failed : p.ran.failed ≡ None = p.made.failed ∙ no_device (first_marked p.made.marks) None (λ k e. none.lines k (line_rose p.made.marks o.lines o.lines' _ k e p.made.lines)) (λ d e. cc) in
    closes_served p.ran.failed _ status o.out o.out' failed p.closes none.out

pub limits_load : LimitsLoad
limits_load number status o (inl (none_left, untouched, same)) = subst (λ (s : Status). CanCome s) (sym none_left) tt
limits_load number status o (inr p) = load_limits number status o p

pub tells_load_line_fault : TellsLoadLineFault
tells_load_line_fault number status o k (inl (none_left, untouched, same)) h = absurd (omega (arith, h, ap (λ (ls : List Seen). (line_at ls k).faults) untouched.shown.lines))
tells_load_line_fault number status o k (inr p) h = load_names_line number status o p k h
