-- What can interrupt a guest, as the code has it.
use Rattle.std.specs.Prelude.{◌^◌, ◌<◌, ◌≤◌, Bool, ◌&&◌, nat_lt, drop, find, Option}
use Rattle.vax_arch.specs.Fields.{ipl_of}
use Rattle.vm_exception.specs.declared.pending.Source.{Source}
use Rattle.vm_exception.specs.declared.pending.Source.TheVariants.{IntervalClock, Kcall, Receiver, Software, Transmitter}
use Rattle.vm_state.specs.Interrupts as interrupts
use Rattle.vm_state.specs.Interrupts.{source_row, sources}
use Rattle.vm_state.specs.State.{State}

abbrev pub source_of : Source → interrupts.Source
source_of IntervalClock = interrupts.IntervalClock
source_of Kcall = interrupts.Kcall
source_of Receiver = interrupts.Receiver
source_of Transmitter = interrupts.Transmitter
source_of (Software level) = interrupts.Software level

-- a software level is one of the 16
abbrev pub HasLevel : interrupts.Source → Type 0
HasLevel (interrupts.Software level) = level < 16
HasLevel _ = Unit {0}

-- a software level's bit can be taken from the requests
abbrev pub HasRequest : State → interrupts.Source → Type 0
HasRequest s (interrupts.Software level) = (level < 16) × (2 ^ level ≤ s.sisr)
HasRequest s _ = Unit {0}

-- it is pending above the guest's level
abbrev pub is_due : State → interrupts.Source → Bool
is_due s source = (source_row source).requests s && nat_lt (ipl_of s.psl) (source_row source).level

-- the highest software level that is
unfoldable pub software_due : State → Option interrupts.Source
software_due s = find (λ source. is_due s source) (drop 4 sources)
