-- Pending interrupts (VAX Architecture Reference Manual: interrupts, software interrupts, interval clock, console
-- terminal; the KCALL interrupt and the order at one level are profile).
use Rattle.std.specs.Prelude.{ℕ, ◌+◌, ◌*◌, ◌/◌, ◌%◌, ◌^◌, ◌==◌, ◌&&◌, Bool, false, nat_lt, List, [], ◌∷◌, map, find, Option, ◌-◌}
use Rattle.vax_arch.specs.Fields.{ipl_of}
use Rattle.vm_clock.specs.Clock.{after_taken}
use Rattle.vm_console.specs.Console.{after_rx_taken, after_tx_taken}
use Rattle.vm_state.specs.State.{State}
use Rattle.vm_state.specs.declared.exception.Exc.{Exc}
use Rattle.vm_state.specs.declared.exception.Exc.TheVariants.{Interrupt}

-- what can interrupt: the clock, a transfer that was made, the console's receiver and transmitter, a software level
pub data Source : Type 0 where
  IntervalClock Kcall Receiver Transmitter : Source
  Software : (level : ℕ) → Source

-- from the highest level down
abbrev pub sources : List Source
sources = IntervalClock ∷ Kcall ∷ Receiver ∷ Transmitter ∷ map (λ n. Software n) (15 ∷ 14 ∷ 13 ∷ 12 ∷ 11 ∷ 10 ∷ 9 ∷ 8 ∷ 7 ∷ 6 ∷ 5 ∷ 4 ∷ 3 ∷ 2 ∷ 1 ∷ [])

-- its level, its vector, whether it requests an interrupt, and the state after its interrupt is taken, where the request ends
pub record SourceRow : Type 0 where
  pub level : ℕ
  pub vector : ℕ
  pub requests : State → Bool
  pub taken : State → State

abbrev pub source_row : Source → SourceRow
source_row IntervalClock = record { level = 24; vector = 0xc0; requests = λ s. s.clock.request; taken = λ s. record s { clock = after_taken s.clock } }
source_row Kcall = record { level = 21; vector = 0x100; requests = λ s. s.kcall_due; taken = λ s. record s { kcall_due = false } }
source_row Receiver = record { level = 20; vector = 0xf8; requests = λ s. s.console.rx_request; taken = λ s. record s { console = after_rx_taken s.console } }
source_row Transmitter = record { level = 20; vector = 0xfc; requests = λ s. s.console.tx_request; taken = λ s. record s { console = after_tx_taken s.console } }
source_row (Software level) = record { level = level; vector = 0x80 + 4 * level; requests = λ s. s.sisr / 2 ^ level % 2 == 1; taken = λ s. record s { sisr = s.sisr - 2 ^ level } }

-- the highest that is pending above the guest's level
unfoldable pub due : State → Option Source
due s = find (λ source. (source_row source).requests s && nat_lt (ipl_of s.psl) (source_row source).level) sources

abbrev pub interrupt_of : Source → Exc
interrupt_of source = Interrupt (source_row source).level (source_row source).vector
