-- What an instruction does by the operation that the code has for it.
use Rattle.std.specs.Prelude.{ℕ, ◌||◌, Bool, true, false, List, if◌then◌else◌}
use Rattle.vax_arch.specs.declared.mode.Intent.{Intent}
use Rattle.vax_table.specs.AllOperands.{operands_of}
use Rattle.vax_table.specs.InstructionSet.{Meaning, Privileged, Performs}
use Rattle.vax_table.specs.InstructionSet as meanings
use Rattle.vax_table.specs.Interaction.{Interaction, Done, Refuse, ◌>>=◌}
use Rattle.vax_table.specs.Operations.{operation_of}
use Rattle.vax_table.specs.Plan.{performed_with, plan_of}
use Rattle.vax_table.specs.Spelling.{Instruction}
use Rattle.vax_table.specs.Whole.{Meant, Plain, Probes, meant, trapping}
use Rattle.vax_table.specs.declared.act.Refusal.TheVariants as refusals
use Rattle.vax_table.specs.declared.act.Sens.{Sens}
use Rattle.vax_table.specs.declared.act.Sens.TheVariants.{Chm, Rei}
use Rattle.vax_table.specs.declared.meaning.Operation.{Operation}
use Rattle.vax_table.specs.declared.meaning.Operation.TheVariants.{Sensitive, Probe}

-- CHM and REI are done in every mode, the other sensitive instructions in kernel mode alone
abbrev pub is_always_done : Sens → Bool
is_always_done (Chm to) = true
is_always_done Rei = true
is_always_done op = false

-- a plain instruction
abbrev pub plain_meaning : ℕ → Instruction → List ℕ → Interaction Meant
plain_meaning psl d r = plan_of psl d r >>= λ e. Done (meant d.opcode (Plain e))

abbrev pub probing : Intent → Instruction → List ℕ → Interaction Meant
probing intent d r = operands_of d r >>= λ o. Done (meant d.opcode (Probes intent o))

-- by its operation
abbrev pub acted_by : Bool → ℕ → Operation → Instruction → List ℕ → Interaction Meant
acted_by kernel psl (Sensitive op) d r = if is_always_done op || kernel then trapping op d r else Refuse refusals.Instruction
acted_by kernel psl (Probe intent) d r = probing intent d r
acted_by kernel psl operation d r = plain_meaning psl d r

-- an instruction whose bytes are fetched, in kernel mode or not, with the PSL that MOVPSL gives
unfoldable pub acted : Bool → ℕ → Instruction → List ℕ → Interaction Meant
acted kernel psl d r = acted_by kernel psl (operation_of d.opcode) d r

-- what the instruction set says of an operation
abbrev pub meaning_by : Operation → Meaning
meaning_by (Sensitive op) = if is_always_done op then meanings.Sensitive op else Privileged op
meaning_by (Probe intent) = meanings.Probe intent
meaning_by operation = Performs (λ o psl. performed_with psl operation o)
