-- The code's stop codes as the numbers that guests show.
use Rattle.std.specs.Prelude.{◌≡◌, ◌==◌, ℕ, if◌then◌else◌, refl}
use Rattle.vm_state.specs.Stops.{BadVector, ChangedMode, Commanded, Halted, InterruptStackBad, PastMemory, stop_code}
use Rattle.vm_state.specs.declared.stops.StopCode.TheInside.{Inside}
use Rattle.vm_state.specs.declared.stops.StopReason.{StopReason}
use Rattle.vm_state.specs.declared.stops.StopReason.TheVariants as reasons

-- as the definition numbers its stops; 0 is the code of a guest that was never started
abbrev pub reason_number : StopReason → ℕ
reason_number reasons.NeverStarted = 0
reason_number reasons.Commanded = stop_code Commanded
reason_number reasons.InterruptStackBad = stop_code InterruptStackBad
reason_number reasons.Halted = stop_code Halted
reason_number reasons.BadVector = stop_code BadVector
reason_number reasons.ChangedMode = stop_code ChangedMode
reason_number reasons.PastMemory = stop_code PastMemory

-- the stop code of a number
abbrev pub numbered_code : ℕ → Inside
numbered_code n = record {
  0 =
      if n == reason_number reasons.Commanded then reasons.Commanded
      else if n == reason_number reasons.InterruptStackBad then reasons.InterruptStackBad
      else if n == reason_number reasons.Halted then reasons.Halted
      else if n == reason_number reasons.BadVector then reasons.BadVector
      else if n == reason_number reasons.ChangedMode then reasons.ChangedMode
      else if n == reason_number reasons.PastMemory then reasons.PastMemory
      else reasons.NeverStarted;
}

pub codes_have_numbers : (code : Inside) → numbered_code (reason_number code.0) ≡ code
codes_have_numbers code = by code.0
  where
    by : (r : StopReason) → numbered_code (reason_number r) ≡ record { 0 = r }
    by reasons.NeverStarted = refl
    by reasons.Commanded = refl
    by reasons.InterruptStackBad = refl
    by reasons.Halted = refl
    by reasons.BadVector = refl
    by reasons.ChangedMode = refl
    by reasons.PastMemory = refl
