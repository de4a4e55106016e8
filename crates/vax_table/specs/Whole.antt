-- The instruction at PC, whole: its bytes, the privilege test, and then its outcome; a sensitive instruction
-- traps with its operands (VAX Architecture Reference Manual: instruction execution; Hall and Robinson, Virtualizing
-- the VAX Architecture, ISCA 1991, for the trap).
use Rattle.std.specs.Prelude.{ℕ, Bool, true, false, if◌then◌else◌, List, take, slice_index}
use Rattle.vv_base.specs.declared.width.Width.TheVariants.{Word}
use Rattle.vv_base.specs.Width.{low}
use Rattle.vax_arch.specs.declared.mode.Intent.{Intent}
use Rattle.vax_arch.specs.declared.mode.Intent.TheVariants as intents
use Rattle.vax_arch.specs.declared.mode.Mode.{Mode}
use Rattle.vax_arch.specs.declared.mode.Mode.TheVariants.{Kernel}
use Rattle.vax_table.specs.Effects.{Effect, dest_of, long_of}
use Rattle.vax_table.specs.Fetch.{fetched}
use Rattle.vax_table.specs.Operand.{extended}
use Rattle.vax_table.specs.AllOperands.{operands_of, trap_operands}
use Rattle.vax_table.specs.InstructionSet.{Meaning, Sensitive, Privileged, Probe, Performs, opcode_meaning}
use Rattle.vax_table.specs.Interaction.{Interaction, Done, Refuse, ◌>>=◌}
use Rattle.vax_table.specs.Spelling.{Instruction}
use Rattle.vax_table.specs.declared.act.Refusal.TheVariants as refusals
use Rattle.vax_table.specs.declared.act.Sens.{Sens}
use Rattle.vax_table.specs.declared.act.Sens.TheVariants.{Chm, Prober, Probew}
use Rattle.vax_table.specs.declared.act.Trapped.{Trapped}
use Rattle.vax_table.specs.declared.evaluation.Operands.{Operands}

-- a plain instruction's effect, a sensitive one's operands, or PROBE's: whether its bytes are accessible is judged
-- after the interaction, over the page tables
pub data Act : Type 0 where
  Plain : Effect → Act
  Traps : Trapped → Act
  Probes : Intent → Operands → Act

-- what an instruction was found to be, and its outcome
pub record Meant : Type 0 where
  pub opcode : ℕ
  pub act : Act

abbrev pub meant : ℕ → Act → Meant
meant opcode act = record { opcode = opcode; act = act }

abbrev pub is_kernel_mode : Mode → Bool
is_kernel_mode Kernel = true
is_kernel_mode mode = false

-- CHM's code is sign-extended
abbrev pub first_operand : Sens → Operands → ℕ
first_operand (Chm to) o = extended 2 (low Word (long_of o 0))
first_operand op o = long_of o 0

-- a trap with these operands
abbrev pub trap_of : Sens → Operands → Trapped
trap_of op o = record {
  op = op;
  a = first_operand op o;
  b = long_of o 1;
  c = long_of o 2;
  dest = dest_of o 1;
  next_pc = slice_index o.r 15;
  regs = take 15 o.r;
}

abbrev pub probe_of : Intent → Sens
probe_of intents.Read = Prober
probe_of intents.Write = Probew

abbrev pub trapping : Sens → Instruction → List ℕ → Interaction Meant
trapping op d r = trap_operands d r >>= λ o. Done (meant d.opcode (Traps (trap_of op o)))

-- what it comes to, by what the instruction set says, in kernel mode or not
abbrev pub comes_to : (is_kernel : Bool) (psl : ℕ) → Meaning → Instruction → List ℕ → Interaction Meant
comes_to is_kernel psl (Sensitive op) d r = trapping op d r
comes_to is_kernel psl (Privileged op) d r = if is_kernel then trapping op d r else Refuse refusals.Instruction
comes_to is_kernel psl (Probe intent) d r = operands_of d r >>= λ o. Done (meant d.opcode (Probes intent o))
comes_to is_kernel psl (Performs effect) d r = (operands_of d r >>= λ o. effect o psl) >>= λ e. Done (meant d.opcode (Plain e))

-- the instruction at PC, with the PSL that MOVPSL stores
unfoldable pub instruction : (is_kernel : Bool) (psl : ℕ) → List ℕ → Interaction Meant
instruction is_kernel psl r = fetched (slice_index r 15) >>= λ d. comes_to is_kernel psl (opcode_meaning d.opcode) d r
