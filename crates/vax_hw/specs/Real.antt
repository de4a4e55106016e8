-- What the real machine does: the instructions of the one plan, over its own page tables. Sensitive instructions trap
-- (Hall and Robinson, Virtualizing the VAX Architecture, ISCA 1991: the virtual-machine extension).
use Rattle.std.specs.Prelude.{ℕ, zero, suc, ◌+◌, ◌%◌, ◌^◌, Bool, true, false, List, Option, Some, None, Result, Ok, Err}
use Rattle.vax_arch.specs.Fields.{current_of}
use Rattle.vax_arch.specs.declared.mode.Intent.{Intent}
use Rattle.vax_arch.specs.declared.mode.Intent.TheVariants.{Read, Write}
use Rattle.vax_hw.specs.Machine.{Machine, is_real_bit_clear, machine_space, machine_tables, psw_of, retire, seen_psl}
use Rattle.vax_hw.specs.RealTables.{access_judged, both_judged}
use Rattle.vax_hw.specs.declared.world.Exit.{Exit}
use Rattle.vax_hw.specs.declared.world.Exit.TheVariants.{Arithmetic, Budget, NotValid, Denied, Emulate, Modify, Refused}
use Rattle.vax_hw.specs.declared.world.World.{World}
use Rattle.vax_table.specs.Effects.{Effect, long_of}
use Rattle.vax_table.specs.Plan.{probed}
use Rattle.vax_table.specs.Probing.{last_of, probe_mode}
use Rattle.vax_table.specs.Interaction.{Absent, Refusing, Past, Trouble, At, Test}
use Rattle.vax_table.specs.Tries.{Clear, Completes, Stopped, Tried, tried}
use Rattle.vax_table.specs.Whole.{Act, Meant, Plain, Probes, Traps, instruction, is_kernel_mode, probe_of, trap_of}
use Rattle.vax_table.specs.declared.evaluation.Operands.{Operands}

abbrev pub is_write : Intent → Bool
is_write Read = false
is_write Write = true

-- what a trouble stops the machine with; nothing lies beyond the real memory, so that a length or a code refuses there
abbrev pub exit_of : Trouble → Exit
exit_of (At Absent i va) = NotValid va (is_write i)
exit_of (At Refusing i va) = Denied va (is_write i)
exit_of (At Past i va) = Denied va (is_write i)
exit_of (Test r) = Refused r

-- whether the virtual machine's mode is kernel
abbrev pub in_kernel : World → Bool
in_kernel w = is_kernel_mode (current_of w.vmpsl.0)

-- a machine that retired an instruction, and its arithmetic trap
pub record Retired : Type 0 where
  pub machine : Machine
  pub trap : Option ℕ

abbrev pub retired_with : Machine → ℕ → Effect → Result Retired Exit
retired_with m opcode e = Ok (record { machine = retire opcode e m; trap = e.trap })

-- PROBE over the real tables for an intent, by the real PSL and the operands: the mode, the length, which is a word, and the base
abbrev pub real_probe : List ℕ → World → Intent → (mode bytes base : ℕ) → Option Bool
real_probe memory w i mode bytes base =
    let m = probe_mode w.psl.0 mode in
    both_judged (access_judged memory (machine_tables w) m i base) (access_judged memory (machine_tables w) m i (last_of base (bytes % 2 ^ 16)))

-- PROBE is executed where the real entries judge both bytes, and traps otherwise
abbrev pub retired_by_probe : Machine → ℕ → Intent → Operands → Option Bool → Result Retired Exit
retired_by_probe m opcode i o (Some is_accessible) = retired_with m opcode (probed is_accessible o (psw_of m.world))
retired_by_probe m opcode i o None = Err (Emulate (trap_of (probe_of i) o))

-- an instruction that was found to be this retires, or traps
abbrev pub carried_out : Machine → ℕ → Act → Result Retired Exit
carried_out m opcode (Plain e) = retired_with m opcode e
carried_out m opcode (Traps t) = Err (Emulate t)
carried_out m opcode (Probes i o) =
    retired_by_probe m opcode i o (real_probe m.memory m.world i (long_of o 0) (long_of o 1) (long_of o 2))

-- by the try of the instruction at PC
abbrev pub retired_by_try : Machine → Tried Meant → Result Retired Exit
retired_by_try m (Completes meant) = carried_out m meant.opcode meant.act
retired_by_try m (Clear va) = Err (Modify va)
retired_by_try m (Stopped trouble) = Err (exit_of trouble)

-- one instruction: the machine after it, or why it didn't retire
unfoldable pub machine_step : Machine → Result Retired Exit
machine_step m = retired_by_try m (tried (machine_space m) (is_real_bit_clear m) (instruction (in_kernel m.world) (seen_psl m.world) m.world.r))

-- an entry that wasn't valid is a miss
abbrev pub misses_after : ℕ → Exit → ℕ
misses_after n (NotValid va write) = (n + 1) % 2 ^ 64
misses_after n e = n

-- going on after an instruction that retired, unless it had a trap
abbrev pub unless_trapped : (Machine → Machine × Exit) → Machine → Option ℕ → Machine × Exit
unless_trapped rest m None = rest m
unless_trapped rest m (Some kind) = (m, Arithmetic kind)

-- going on after one instruction
abbrev pub going_on : (Machine → Machine × Exit) → Machine → Result Retired Exit → Machine × Exit
going_on rest m (Ok after) = unless_trapped rest after.machine after.trap
going_on rest m (Err e) = (record m { misses = misses_after m.misses e }, e)

-- a run of at most n instructions
abbrev pub real : ℕ → Machine → Machine × Exit
real zero m = (m, Budget)
real (suc budget) m = going_on (real budget) m (machine_step m)
