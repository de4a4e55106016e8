-- What the operands of PROBER or PROBEW in normal form are (VAX Architecture Reference Manual: PROBEx): a mode, how many bytes,
-- and the address of the first, by the registers alone. Whether the bytes may be used is judged by the page tables.
use Rattle.std.specs.Prelude.{◌≡◌, ℕ, List, [], length, Result, Ok, Err}
use Rattle.vax_table.specs.Effects.{long_of}
use Rattle.vax_table.specs.Interaction.{Space, Trouble, outcome}
use Rattle.vax_table.specs.AllOperands.{no_operands, operands_of, past_own_bytes}
use Rattle.vax_table.specs.Operations.{operation_of}
use Rattle.vax_table.specs.Spelling.{Instruction}
use Rattle.vax_table.specs.declared.evaluation.Operands.{Operands}
use Rattle.vax_table.specs.declared.meaning.Operation.TheVariants.{Probe}
use Rattle.vax_normal.specs.Normal.{number_by}
use Rattle.vax_normal.specs.declared.rarer_shape.ProbeTest.{ProbeTest}

-- operands that were had, or none after a trouble
abbrev pub operands_had : Result Operands Trouble → Operands
operands_had (Ok o) = o
operands_had (Err t) = no_operands []

-- these numbers are the operands, and PC goes on by the instruction's own bytes
abbrev pub AreProbed : ProbeTest → List ℕ → Operands → Type 0
AreProbed n r o = (long_of o 0 ≡ number_by n.mode r) × (long_of o 1 ≡ number_by n.bytes r) × (long_of o 2 ≡ number_by n.base r) × (o.r ≡ past_own_bytes n.length r)

-- it is what an instruction tests, wherever it is
abbrev pub IsProbeTest : ProbeTest → Instruction → Type 0
IsProbeTest n d =
    (operation_of d.opcode ≡ Probe n.intent)
    × ((s : Space) (r : List ℕ) → length r ≡ 16 → (outcome s (operands_of d r) ≡ Ok (operands_had (outcome s (operands_of d r)))) × AreProbed n r (operands_had (outcome s (operands_of d r))))
