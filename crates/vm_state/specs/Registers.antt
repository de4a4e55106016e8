-- Processor registers, as MTPR writes and MFPR reads them (VAX Architecture Reference Manual: processor registers; the
-- ranges, and the registers KCALL, MEMSIZE and UPTIME, are profile).
use Rattle.std.specs.Prelude.{ℕ, ◌+◌, ◌-◌, ◌*◌, ◌/◌, ◌%◌, ◌^◌, ◌==◌, ◌&&◌, Bool, true, false, nat_le, nat_lt, if◌then◌else◌, List, [], ◌∷◌, find, Option, Some, None, Result, Ok, Err, slice_set}
use Rattle.vax_arch.specs.Fields.{ipl_of}
use Rattle.vax_arch.specs.Walk.{Tables}
use Rattle.vm_clock.specs.Clock.{after_iccs_write, after_nicr_write, iccs_of}
use Rattle.vm_console.specs.Console.{after_rxcs_write, after_rxdb_read, after_sent, after_txcs_write, rxcs_of, rxdb_of, txcs_of}
use Rattle.vm_state.specs.State.{State, pointer_of, stack_in}
use Rattle.vm_state.specs.declared.register.RegisterEffect.{RegisterEffect}
use Rattle.vm_state.specs.declared.register.RegisterEffect.TheVariants as effects
use Rattle.vm_state.specs.declared.register.Register.{Register}
use Rattle.vm_state.specs.declared.register.Register.TheVariants.{Ksp, Esp, Ssp, Usp, Isp, P0br, P0lr, P1br, P1lr, Sbr, Slr, Pcbb, Scbb, Ipl, Astlvl, Sirr, Sisr, Iccs, Nicr, Icr, Rxcs, Rxdb, Txcs, Txdb, Mapen, Tbia, Tbis, Sid, Kcall, Memsize, Uptime}
use Rattle.vm_state.specs.declared.register.ReservedOperand.{ReservedOperand}

-- A register: its number; the values that may be written, none where it is read-only; what a write leaves, and what it asks for
-- besides (a shown byte, real tables for other table registers, a packet); and the value read, in a memory of `size`
-- bytes, none where it is write-only.
pub record RegisterRow : Type 0 where
  pub number : ℕ
  pub allowed : ℕ → Bool
  pub after_write : ℕ → State → State
  pub effect : ℕ → RegisterEffect
  pub value : (size : ℕ) → State → Option ℕ

-- any value is allowed
abbrev pub any_value : ℕ → Bool
any_value v = true

-- one that is read and written; one of page tables; a write-only one; a read-only one
abbrev pub read_and_written : ℕ → (ℕ → Bool) → (ℕ → State → State) → (State → ℕ) → RegisterRow
read_and_written n allowed after value = record { number = n; allowed = allowed; after_write = after; effect = λ v. effects.Done; value = λ size s. Some (value s) }

abbrev pub of_tables : ℕ → (ℕ → Bool) → (ℕ → Tables → Tables) → (Tables → ℕ) → RegisterRow
of_tables n allowed after value = record (read_and_written n allowed (λ v s. record s { tables = after v s.tables }) (λ s. value s.tables)) { effect = λ v. effects.Remap }

abbrev pub write_only : ℕ → (ℕ → Bool) → (ℕ → State → State) → (ℕ → RegisterEffect) → RegisterRow
write_only n allowed after effect = record { number = n; allowed = allowed; after_write = after; effect = effect; value = λ size s. None }

abbrev pub read_only : ℕ → (ℕ → State → ℕ) → RegisterRow
read_only n value = record { number = n; allowed = λ v. false; after_write = λ v s. s; effect = λ v. effects.Done; value = λ size s. Some (value size s) }

-- the pointer of a stack, which is R14 where the stack is in use
abbrev pub with_pointer : ℕ → ℕ → State → State
with_pointer stack v s = if stack == stack_in s.psl then record s { r = slice_set s.r 14 v } else record s { stacks = slice_set s.stacks stack v }

abbrev pub pointer : ℕ → RegisterRow
pointer stack = read_and_written stack any_value (with_pointer stack) (λ s. pointer_of s stack)

abbrev pub is_aligned : ℕ → Bool
is_aligned v = v % 4 == 0

-- The first page that P1 may have, and so the least P1LR: of the 2^21 pages of a region a guest may map 8192, the first
-- of P0 and of system space, and the last of P1.
abbrev pub first_p1_page : ℕ
first_p1_page = 2 ^ 21 - 8192

-- another IPL
abbrev pub with_ipl : ℕ → ℕ → ℕ
with_ipl psl level = psl / 2 ^ 21 * 2 ^ 21 + 2 ^ 16 * level + psl % 2 ^ 16

-- with the bit of a software level, which SIRR has set
abbrev pub with_request : ℕ → ℕ → ℕ
with_request level sisr = if level == 0 then sisr else if sisr / 2 ^ level % 2 == 1 then sisr else sisr + 2 ^ level

-- what KCALL does is said of packets
abbrev pub register_row : Register → RegisterRow
register_row Ksp = pointer 0
register_row Esp = pointer 1
register_row Ssp = pointer 2
register_row Usp = pointer 3
register_row Isp = pointer 4
register_row P0br = of_tables 8 (λ v. v % 4 == 0 && v / 2 ^ 30 == 2) (λ v t. record t { p0br = v }) (λ t. t.p0br)
register_row P0lr = of_tables 9 (λ v. nat_le v 8192) (λ v t. record t { p0lr = v }) (λ t. t.p0lr)
register_row P1br = of_tables 10 is_aligned (λ v t. record t { p1br = v }) (λ t. t.p1br)
register_row P1lr = of_tables 11 (λ v. nat_le first_p1_page v && nat_le v (2 ^ 21)) (λ v t. record t { p1lr = v }) (λ t. t.p1lr)
register_row Sbr = of_tables 12 is_aligned (λ v t. record t { sbr = v }) (λ t. t.sbr)
register_row Slr = of_tables 13 (λ v. nat_le v 8192) (λ v t. record t { slr = v }) (λ t. t.slr)
register_row Pcbb = read_and_written 16 is_aligned (λ v s. record s { pcbb = v }) (λ s. s.pcbb)
register_row Scbb = read_and_written 17 (λ v. v % 512 == 0) (λ v s. record s { scbb = v }) (λ s. s.scbb)
register_row Ipl = read_and_written 18 any_value (λ v s. record s { psl = with_ipl s.psl (v % 32) }) (λ s. ipl_of s.psl)
register_row Astlvl = read_and_written 19 (λ v. nat_le v 4) (λ v s. record s { astlvl = v }) (λ s. s.astlvl)
register_row Sirr = write_only 20 (λ v. nat_le v 15) (λ v s. record s { sisr = with_request v s.sisr }) (λ v. effects.Done)
register_row Sisr = read_and_written 21 (λ v. v % 2 == 0 && nat_lt v (2 ^ 16)) (λ v s. record s { sisr = v }) (λ s. s.sisr)
register_row Iccs = read_and_written 24 any_value (λ v s. record s { clock = after_iccs_write s.clock v }) (λ s. iccs_of s.clock)
register_row Nicr = write_only 25 any_value (λ v s. record s { clock = after_nicr_write s.clock v }) (λ v. effects.Done)
register_row Icr = read_only 26 (λ size s. s.clock.icr)
register_row Rxcs = read_and_written 32 any_value (λ v s. record s { console = after_rxcs_write s.console v }) (λ s. rxcs_of s.console)
register_row Rxdb = read_only 33 (λ size s. rxdb_of s.console)
register_row Txcs = read_and_written 34 any_value (λ v s. record s { console = after_txcs_write s.console v }) (λ s. txcs_of s.console)
register_row Txdb = write_only 35 any_value (λ v s. record s { console = after_sent s.console }) (λ v. effects.Show (v % 256))
register_row Mapen = of_tables 56 (λ v. nat_le v 1) (λ v t. record t { mapped = v == 1 }) (λ t. if t.mapped then 1 else 0)
register_row Tbia = write_only 57 any_value (λ v s. s) (λ v. effects.Done)
register_row Tbis = write_only 58 any_value (λ v s. s) (λ v. effects.Done)
register_row Sid = read_only 62 (λ size s. 0x56000001)
register_row Kcall = write_only 200 any_value (λ v s. s) (λ v. effects.Kcall v)
register_row Memsize = read_only 201 (λ size s. size)
register_row Uptime = read_only 202 (λ size s. s.steps)

abbrev pub registers : List Register
registers =
    Ksp ∷ Esp ∷ Ssp ∷ Usp ∷ Isp ∷ P0br ∷ P0lr ∷ P1br ∷ P1lr ∷ Sbr ∷ Slr ∷ Pcbb ∷ Scbb ∷ Ipl ∷ Astlvl ∷ Sirr ∷ Sisr
    ∷ Iccs ∷ Nicr ∷ Icr ∷ Rxcs ∷ Rxdb ∷ Txcs ∷ Txdb ∷ Mapen ∷ Tbia ∷ Tbis ∷ Sid ∷ Kcall ∷ Memsize ∷ Uptime ∷ []

unfoldable pub register_of : ℕ → Option Register
register_of number = find (λ register. (register_row register).number == number) registers

abbrev pub allows : Register → ℕ → Bool
allows register v = (register_row register).allowed v

-- a write, or why it is refused
pub record Written : Type 0 where
  pub state : State
  pub effect : RegisterEffect

abbrev pub write_by : State → ℕ → Option Register → Result Written ReservedOperand
write_by s v None = Err (record {})
write_by s v (Some register) = if allows register v then Ok (record { state = (register_row register).after_write v s; effect = (register_row register).effect v }) else Err (record {})

unfoldable pub written : State → (number v : ℕ) → Result Written ReservedOperand
written s number v = write_by s v (register_of number)

-- reading the console's receive buffer takes its byte; other reads change nothing
abbrev pub after_read : Register → State → State
after_read Rxdb s = record s { console = after_rxdb_read s.console }
after_read register s = s

-- a value that was read, and the state after the read
pub record Value : Type 0 where
  pub value : ℕ
  pub state : State

abbrev pub read_to : State → Register → Option ℕ → Result Value ReservedOperand
read_to s register None = Err (record {})
read_to s register (Some v) = Ok (record { value = v; state = after_read register s })

abbrev pub read_or_refused : ℕ → State → Option Register → Result Value ReservedOperand
read_or_refused size s None = Err (record {})
read_or_refused size s (Some register) = read_to s register ((register_row register).value size s)

unfoldable pub read : (size : ℕ) → State → (number : ℕ) → Result Value ReservedOperand
read size s number = read_or_refused size s (register_of number)
