-- What was decoded, without where it lies in memory.
use Rattle.std.specs.Prelude.{ℕ, Result, Ok, Err}
use Rattle.vax_decode.specs.declared.outcome.DecodeFault.{DecodeFault}
use Rattle.vax_decode.specs.declared.outcome.DecodeFault.TheVariants as faults
use Rattle.vax_hw.specs.Real.{exit_of}
use Rattle.vax_hw.specs.declared.world.Exit.{Exit}
use Rattle.vax_hw.specs.declared.world.Exit.TheVariants.{Refused}
use Rattle.vax_kept.specs.declared.fault.Fault.{Fault}
use Rattle.vax_kept.specs.declared.fault.Fault.TheVariants as told
use Rattle.vax_table.specs.Interaction.{Trouble}
use Rattle.vax_table.specs.Spelling.{Instruction, view}
use Rattle.vax_table.specs.Troubles.{trouble_of}
use Rattle.vax_table.specs.declared.act.Refusal.{Refusal}
use Rattle.vax_table.specs.declared.act.Refusal.TheVariants as refusals
use Rattle.vax_table.specs.declared.decoded.Decoded.{Decoded}

-- a trouble stops the machine
abbrev pub exits : {A : Type 0} → Result A Trouble → Result A Exit
exits (Ok x) = Ok x
exits (Err t) = Err (exit_of t)

-- what the code's faults stop the machine with
abbrev pub fault_exit : Fault → Exit
fault_exit (told.Trouble t) = exit_of (trouble_of t)
fault_exit (told.Refused r) = Refused r

-- a byte of an instruction, or why there is none
abbrev pub byte_view : Result ℕ Fault → Result ℕ Exit
byte_view (Ok b) = Ok b
byte_view (Err f) = Err (fault_exit f)

-- what is kept after a fetch, unless that stopped
abbrev pub decoded_or_exit : {A : Type 0} → Decoded → Result A Fault → Result Instruction Exit
decoded_or_exit d (Ok u) = Ok (view d)
decoded_or_exit d (Err f) = Err (fault_exit f)

-- bytes that spell nothing are a reserved instruction, or have a reserved addressing mode
abbrev pub refusal_of : DecodeFault → Refusal
refusal_of faults.Opcode = refusals.Instruction
refusal_of faults.Addressing = refusals.Addressing
