-- What the machine does with what it found, by the troubles' exits: a plain instruction looks at the bytes that it
-- stores.
use Rattle.std.specs.Prelude.{◌≡◌, ℕ, suc, ◌+◌, ◌%◌, ◌^◌, Bool, List, Option, Some, None, Result, Ok, Err, slice_index, sum, take}
use Rattle.vax_arch.specs.declared.mode.Intent.{Intent}
use Rattle.vax_hw.specs.Machine.{Machine, psl_with_psw, psw_of, seen_psl}
use Rattle.vax_hw.specs.Real.{Retired, carried_out, in_kernel, real, real_probe, retired_by_try, retired_with}
use Rattle.vax_hw.specs.declared.world.Exit.{Exit}
use Rattle.vax_hw.specs.declared.world.Exit.TheVariants.{Emulate, Modify}
use Rattle.vax_hw.specs.declared.world.World.{World}
use Rattle.vax_table.specs.Effects.{Effect, long_of}
use Rattle.vax_table.specs.Fetch.{fetched}
use Rattle.vax_table.specs.Interaction.{outcome}
use Rattle.vax_table.specs.Plan.{probed}
use Rattle.vax_table.specs.PlanLaws.{bytes_of_stores}
use Rattle.vax_table.specs.Spelling.{Instruction}
use Rattle.vax_table.specs.Tries.{first_clear, unless_clear}
use Rattle.vax_table.specs.Whole.{Act, Meant, Plain, Probes, Traps, instruction, meant, probe_of, trap_of}
use Rattle.vax_table.specs.declared.evaluation.Operands.{Operands}
use Rattle.vax_table.specs.Stores.{all_stored}
use Rattle.vax_table.specs.Trail.{term}
use Rattle.vax_paged.specs.Paged.{is_clear_for, paged, written_place}
use Rattle.vax_kept.specs.Fetched.{exits}

abbrev pub completed : Machine → ℕ → Act → Result Retired Exit
completed m opcode (Plain e) = retired_by_try m (unless_clear (meant opcode (Plain e)) (first_clear (is_clear_for m.memory m.world) (bytes_of_stores e.writes)))
completed m opcode (Traps t) = carried_out m opcode (Traps t)
completed m opcode (Probes i o) = carried_out m opcode (Probes i o)

abbrev pub completed_by : Machine → Result Meant Exit → Result Retired Exit
completed_by m (Ok meant) = completed m meant.opcode meant.act
completed_by m (Err e) = Err e

-- The same without the machine's counts: by what an instruction retires, or why it doesn't.

abbrev pub unless_modified : Effect → Option ℕ → Result Effect Exit
unless_modified e None = Ok e
unless_modified e (Some va) = Err (Modify va)

abbrev pub by_judgement : Intent → Operands → ℕ → Option Bool → Result Effect Exit
by_judgement i o psw (Some is_accessible) = Ok (probed is_accessible o psw)
by_judgement i o psw None = Err (Emulate (trap_of (probe_of i) o))

abbrev pub settled : List ℕ → World → Act → Result Effect Exit
settled memory w (Plain e) = unless_modified e (first_clear (is_clear_for memory w) (bytes_of_stores e.writes))
settled memory w (Traps t) = Err (Emulate t)
settled memory w (Probes i o) = by_judgement i o (psw_of w) (real_probe memory w i (long_of o 0) (long_of o 1) (long_of o 2))

-- an instruction that was found, or wasn't: its opcode, and what it retires by
abbrev pub with_opcode : ℕ → Result Effect Exit → Result (ℕ × Effect) Exit
with_opcode opcode (Ok e) = Ok (opcode, e)
with_opcode opcode (Err x) = Err x

abbrev pub settled_meaning : List ℕ → World → Result Meant Exit → Result (ℕ × Effect) Exit
settled_meaning memory w (Ok meant) = with_opcode meant.opcode (settled memory w meant.act)
settled_meaning memory w (Err x) = Err x

-- The instruction at PC with these registers, over the page tables: its bytes, what it means, and what it retires by; or with
-- what the machine stops at it.
abbrev pub fetched_at : List ℕ → World → List ℕ → Result Instruction Exit
fetched_at memory w r = exits (outcome (paged memory w) (fetched (slice_index r 15)))

abbrev pub meaning_at : List ℕ → World → List ℕ → Result Meant Exit
meaning_at memory w r = exits (outcome (paged memory w) (instruction (in_kernel w) (seen_psl w) r))

abbrev pub settled_at : List ℕ → World → List ℕ → Result (ℕ × Effect) Exit
settled_at memory w r = settled_meaning memory w (meaning_at memory w r)

-- and the machine with its counts
abbrev pub retired_by : Machine → ℕ → Result Effect Exit → Result Retired Exit
retired_by m opcode (Ok e) = retired_with m opcode e
retired_by m opcode (Err x) = Err x

abbrev pub retired_from : Machine → Result (ℕ × Effect) Exit → Result Retired Exit
retired_from m (Ok x) = retired_with m x.0 x.1
retired_from m (Err x) = Err x

-- the machine after an instruction at an address, but for its registers
abbrev pub completed_but_registers : (pc opcode : ℕ) → Effect → Machine → Machine
completed_but_registers pc opcode e m = record m {
  memory = all_stored (written_place m.memory m.world) e.writes m.memory;
  world = record m.world { psl = psl_with_psw m.world.psl e.psw };
  retired = (m.retired + 1) % 2 ^ 64;
  trail = (m.trail + term pc opcode e.r) % 2 ^ 64;
}

-- with these registers
abbrev pub with_registers : List ℕ → Machine → Machine
with_registers r m = record m { world = record m.world { r = r } }

-- the first instruction of a run retires, and the run goes on; or the run ends at it
abbrev pub RunsOn : (before after : Machine) → Type 0
RunsOn before after = (n : ℕ) → real (suc n) before ≡ real n after

-- with the sum of R0 to R14 after it
abbrev pub RunsOnWithSum : ℕ → (before : Machine) (r : List ℕ) (after : Machine) (q : List ℕ) → Type 0
RunsOnWithSum total before r after q = (total ≡ sum (take 15 q)) × RunsOn (with_registers r before) (with_registers q after)

abbrev pub EndsWith : Exit → (before after : Machine) → Type 0
EndsWith exit before after = (n : ℕ) → real (suc n) before ≡ (after, exit)
