-- The instruction set: of each opcode the instruction's name, its operands in order, and what it does after them (VAX
-- Architecture Reference Manual: instruction formats and descriptions; Hall and Robinson, ISCA 1991, for the sensitive ones).
-- WAIT is this project's own choice (profile).
use Rattle.std.specs.Prelude.{ℕ, ◌+◌, ◌%◌, ◌^◌, ◌==◌, Bool, true, false, not, ◌||◌, List, [], ◌∷◌, ◌++◌, codes, find, Option, Some, None, option_map, unwrap_or}
use Rattle.std.specs.List.{enumerate_from}
use Rattle.vv_base.specs.declared.width.Width.{Width}
use Rattle.vv_base.specs.declared.width.Width.TheVariants.{Byte, Word, Long, Quad}
use Rattle.vv_base.specs.Width.{low, size_of}
use Rattle.vax_arch.specs.declared.mode.Intent.{Intent}
use Rattle.vax_arch.specs.declared.mode.Intent.TheVariants as intents
use Rattle.vax_arch.specs.declared.mode.Mode.TheVariants.{Kernel, Executive, Supervisor, User}
use Rattle.vax_table.specs.Arithmetic.{Codes, alu_of, codes_of}
use Rattle.vax_table.specs.Branches.{added_and_compared, added_one, branched_on_bit, branched_on_low_bit, called_subroutine, cased, left_subroutine, subtracted_one}
use Rattle.vax_table.specs.Calls.{called_general, called_on_stack, registers_popped, registers_pushed, returned}
use Rattle.vax_table.specs.Computing.{moved_quad, operand_pushed, status_cleared, status_set}
use Rattle.vax_table.specs.Effects.{Effect, begun, dest_of, long_of, put, quad_of, went_if}
use Rattle.vax_table.specs.Interaction.{Interaction, Done, Refuse}
use Rattle.vax_table.specs.Operand.{extended}
use Rattle.vax_table.specs.declared.act.Dest.{Dest}
use Rattle.vax_table.specs.declared.act.Dest.TheVariants.{Nowhere}
use Rattle.vax_table.specs.declared.act.Refusal.{Refusal}
use Rattle.vax_table.specs.declared.act.Refusal.TheVariants as refusals
use Rattle.vax_table.specs.declared.act.Sens.{Sens}
use Rattle.vax_table.specs.declared.act.Sens.TheVariants.{Halt, Wait, Rei, Ldpctx, Svpctx, Chm, Mtpr, Mfpr}
use Rattle.vax_table.specs.declared.answer.AluOp.{AluOp}
use Rattle.vax_table.specs.declared.answer.AluOp.TheVariants.{Add, Sub, AddCarry, SubBorrow, Mul, Div, Bis, Bic, Xor, Mneg, Mcom, Move, Cmp, Bit, Tst, Ash, Rot, Narrow}
use Rattle.vax_table.specs.declared.evaluation.Operands.{Operands}
use Rattle.vax_table.specs.declared.forms.Access.TheVariants as accesses
use Rattle.vax_table.specs.declared.forms.Form.{Form}

-- What an instruction does after its operands: it traps, in every mode or in kernel mode alone; it is PROBE, which is judged
-- over the page tables; or it has an effect, which depends on the operands, the PSL and memory.
pub data Meaning : Type 0 where
  Sensitive Privileged : Sens → Meaning
  Probe : Intent → Meaning
  Performs : (Operands → (psl : ℕ) → Interaction Effect) → Meaning

-- an effect of the operands, the status word and memory; one that needs no memory; none
abbrev pub interacts : (Operands → (psw : ℕ) → Interaction Effect) → Meaning
interacts does = Performs (λ o psl. does o (psl % 2 ^ 8))

abbrev pub at_once : (Operands → (psw : ℕ) → Effect) → Meaning
at_once does = interacts (λ o psw. Done (does o psw))

abbrev pub refused : Refusal → Meaning
refused why = Performs (λ o psl. Refuse why)

-- the numbers that arithmetic takes: an operand, an operand of this width with its sign, or none
abbrev pub first : Operands → ℕ
first o = long_of o 0

abbrev pub second : Operands → ℕ
second o = long_of o 1

abbrev pub signed : Width → Operands → ℕ
signed x o = extended (size_of x) (low x (long_of o 0))

abbrev pub none : Operands → ℕ
none o = 0

-- where its result goes: to an operand, or to none, so that only the condition codes tell
abbrev pub to : ℕ → Operands → Dest
to i o = dest_of o i

abbrev pub to_none : Operands → Dest
to_none o = Nowhere

-- arithmetic in a width, on two numbers
abbrev pub computes : AluOp → Width → (Operands → ℕ) → (Operands → ℕ) → (Operands → Dest) → Meaning
computes op x one other dest = at_once (λ o psw.
    let result = alu_of op (one o) (other o) x psw in
    put (dest o) x result.value (record (begun o psw) { psw = result.psw; trap = result.trap }))

-- a branch to the operand, where the condition codes are so
abbrev pub branches : (Codes → Bool) → Meaning
branches test = at_once (λ o psw. went_if (test (codes_of psw)) (long_of o 0) (begun o psw))

pub record InstructionEntry : Type 0 where
  pub name : List ℕ
  pub operands : List Form
  pub meaning : Meaning

abbrev pub instruction_entry : (name : List ℕ) → List Form → Meaning → InstructionEntry
instruction_entry name operands meaning = record { name = name; operands = operands; meaning = meaning }

-- The operands by the manual's letters: read, modify, write, address, field of bits, branch
-- displacement; then the width.
abbrev pub r : Width → Form
r x = record { access = accesses.Read; width = x }

abbrev pub m : Width → Form
m x = record { access = accesses.Modify; width = x }

abbrev pub w : Width → Form
w x = record { access = accesses.Write; width = x }

abbrev pub a : Width → Form
a x = record { access = accesses.Address; width = x }

abbrev pub v : Width → Form
v x = record { access = accesses.Bits; width = x }

abbrev pub b : Width → Form
b x = record { access = accesses.Branch; width = x }

-- the letter of a width in names
abbrev pub width_letter : Width → List ℕ
width_letter Byte = codes "B"
width_letter Word = codes "W"
width_letter Long = codes "L"
width_letter Quad = codes "Q"

-- an operation of two operands: onto the second, and into a third
abbrev pub two_and_three : List ℕ → AluOp → Width → List InstructionEntry
two_and_three name op x =
    instruction_entry (name ++ width_letter x ++ codes "2") (r x ∷ m x ∷ []) (computes op x first second (to 1))
    ∷ instruction_entry (name ++ width_letter x ++ codes "3") (r x ∷ r x ∷ w x ∷ []) (computes op x first second (to 2)) ∷ []

-- byte at 80, word at A0, long at C0: the sixteen of each
abbrev pub arithmetic : Width → List InstructionEntry
arithmetic x =
    two_and_three (codes "ADD") Add x ++ two_and_three (codes "SUB") Sub x ++ two_and_three (codes "MUL") Mul x ++ two_and_three (codes "DIV") Div x
    ++ two_and_three (codes "BIS") Bis x ++ two_and_three (codes "BIC") Bic x ++ two_and_three (codes "XOR") Xor x
    ++ instruction_entry (codes "MNEG" ++ width_letter x) (r x ∷ w x ∷ []) (computes Mneg x first none (to 1))
    ∷ instruction_entry (codes "CASE" ++ width_letter x) (r x ∷ r x ∷ r x ∷ []) (interacts (cased x))
    ∷ []

-- byte at 90, word at B0, long at D0: the first eight of each
abbrev pub moves : Width → List InstructionEntry
moves x =
    instruction_entry (codes "MOV" ++ width_letter x) (r x ∷ w x ∷ []) (computes Move x first none (to 1))
    ∷ instruction_entry (codes "CMP" ++ width_letter x) (r x ∷ r x ∷ []) (computes Cmp x first second to_none)
    ∷ instruction_entry (codes "MCOM" ++ width_letter x) (r x ∷ w x ∷ []) (computes Mcom x first none (to 1))
    ∷ instruction_entry (codes "BIT" ++ width_letter x) (r x ∷ r x ∷ []) (computes Bit x first second to_none)
    ∷ instruction_entry (codes "CLR" ++ width_letter x) (w x ∷ []) (computes Move x none none (to 0))
    ∷ instruction_entry (codes "TST" ++ width_letter x) (r x ∷ []) (computes Tst x first none to_none)
    ∷ instruction_entry (codes "INC" ++ width_letter x) (m x ∷ []) (computes Add x (λ o. 1) first (to 0))
    ∷ instruction_entry (codes "DEC" ++ width_letter x) (m x ∷ []) (computes Sub x (λ o. 1) first (to 0))
    ∷ []

abbrev pub opcode_row : ℕ → (name : List ℕ) → List Form → Meaning → ℕ × InstructionEntry
opcode_row n name operands meaning = (n, instruction_entry name operands meaning)

-- the other opcodes; WAIT is FD 01
abbrev pub others : List (ℕ × InstructionEntry)
others =
    opcode_row 0x00 (codes "HALT") [] (Privileged Halt)
    ∷ opcode_row 0x01 (codes "NOP") [] (at_once begun)
    ∷ opcode_row 0x02 (codes "REI") [] (Sensitive Rei)
    ∷ opcode_row 0x03 (codes "BPT") [] (refused refusals.Breakpoint)
    ∷ opcode_row 0x04 (codes "RET") [] (interacts returned)
    ∷ opcode_row 0x05 (codes "RSB") [] (interacts left_subroutine)
    ∷ opcode_row 0x06 (codes "LDPCTX") [] (Privileged Ldpctx)
    ∷ opcode_row 0x07 (codes "SVPCTX") [] (Privileged Svpctx)
    ∷ opcode_row 0x0c (codes "PROBER") (r Byte ∷ r Word ∷ a Byte ∷ []) (Probe intents.Read)
    ∷ opcode_row 0x0d (codes "PROBEW") (r Byte ∷ r Word ∷ a Byte ∷ []) (Probe intents.Write)
    ∷ opcode_row 0x10 (codes "BSBB") (b Byte ∷ []) (interacts called_subroutine)
    ∷ opcode_row 0x30 (codes "BSBW") (b Word ∷ []) (interacts called_subroutine)
    ∷ opcode_row 0x11 (codes "BRB") (b Byte ∷ []) (branches (λ c. true))
    ∷ opcode_row 0x31 (codes "BRW") (b Word ∷ []) (branches (λ c. true))
    ∷ opcode_row 0x12 (codes "BNEQ") (b Byte ∷ []) (branches (λ c. not c.z))
    ∷ opcode_row 0x13 (codes "BEQL") (b Byte ∷ []) (branches (λ c. c.z))
    ∷ opcode_row 0x14 (codes "BGTR") (b Byte ∷ []) (branches (λ c. not (c.n || c.z)))
    ∷ opcode_row 0x15 (codes "BLEQ") (b Byte ∷ []) (branches (λ c. c.n || c.z))
    ∷ opcode_row 0x18 (codes "BGEQ") (b Byte ∷ []) (branches (λ c. not c.n))
    ∷ opcode_row 0x19 (codes "BLSS") (b Byte ∷ []) (branches (λ c. c.n))
    ∷ opcode_row 0x1a (codes "BGTRU") (b Byte ∷ []) (branches (λ c. not (c.c || c.z)))
    ∷ opcode_row 0x1b (codes "BLEQU") (b Byte ∷ []) (branches (λ c. c.c || c.z))
    ∷ opcode_row 0x1c (codes "BVC") (b Byte ∷ []) (branches (λ c. not c.v))
    ∷ opcode_row 0x1d (codes "BVS") (b Byte ∷ []) (branches (λ c. c.v))
    ∷ opcode_row 0x1e (codes "BCC") (b Byte ∷ []) (branches (λ c. not c.c))
    ∷ opcode_row 0x1f (codes "BCS") (b Byte ∷ []) (branches (λ c. c.c))
    ∷ opcode_row 0x16 (codes "JSB") (a Byte ∷ []) (interacts called_subroutine)
    ∷ opcode_row 0x17 (codes "JMP") (a Byte ∷ []) (branches (λ c. true))
    ∷ opcode_row 0x32 (codes "CVTWL") (r Word ∷ w Long ∷ []) (computes Narrow Long (signed Word) none (to 1))
    ∷ opcode_row 0x33 (codes "CVTWB") (r Word ∷ w Byte ∷ []) (computes Narrow Byte (signed Word) none (to 1))
    ∷ opcode_row 0x98 (codes "CVTBL") (r Byte ∷ w Long ∷ []) (computes Narrow Long (signed Byte) none (to 1))
    ∷ opcode_row 0x99 (codes "CVTBW") (r Byte ∷ w Word ∷ []) (computes Narrow Word (signed Byte) none (to 1))
    ∷ opcode_row 0xf6 (codes "CVTLB") (r Long ∷ w Byte ∷ []) (computes Narrow Byte (signed Long) none (to 1))
    ∷ opcode_row 0xf7 (codes "CVTLW") (r Long ∷ w Word ∷ []) (computes Narrow Word (signed Long) none (to 1))
    ∷ opcode_row 0x3c (codes "MOVZWL") (r Word ∷ w Long ∷ []) (computes Move Long first none (to 1))
    ∷ opcode_row 0x9a (codes "MOVZBL") (r Byte ∷ w Long ∷ []) (computes Move Long first none (to 1))
    ∷ opcode_row 0x9b (codes "MOVZBW") (r Byte ∷ w Word ∷ []) (computes Move Word first none (to 1))
    ∷ opcode_row 0x3d (codes "ACBW") (r Word ∷ r Word ∷ m Word ∷ b Word ∷ []) (at_once (added_and_compared Word))
    ∷ opcode_row 0x9d (codes "ACBB") (r Byte ∷ r Byte ∷ m Byte ∷ b Word ∷ []) (at_once (added_and_compared Byte))
    ∷ opcode_row 0xf1 (codes "ACBL") (r Long ∷ r Long ∷ m Long ∷ b Word ∷ []) (at_once (added_and_compared Long))
    ∷ opcode_row 0xf2 (codes "AOBLSS") (r Long ∷ m Long ∷ b Byte ∷ []) (at_once (added_one false))
    ∷ opcode_row 0xf3 (codes "AOBLEQ") (r Long ∷ m Long ∷ b Byte ∷ []) (at_once (added_one true))
    ∷ opcode_row 0xf4 (codes "SOBGEQ") (m Long ∷ b Byte ∷ []) (at_once (subtracted_one true))
    ∷ opcode_row 0xf5 (codes "SOBGTR") (m Long ∷ b Byte ∷ []) (at_once (subtracted_one false))
    ∷ opcode_row 0x9e (codes "MOVAB") (a Byte ∷ w Long ∷ []) (computes Move Long first none (to 1))
    ∷ opcode_row 0x3e (codes "MOVAW") (a Word ∷ w Long ∷ []) (computes Move Long first none (to 1))
    ∷ opcode_row 0xde (codes "MOVAL") (a Long ∷ w Long ∷ []) (computes Move Long first none (to 1))
    ∷ opcode_row 0x7e (codes "MOVAQ") (a Quad ∷ w Long ∷ []) (computes Move Long first none (to 1))
    ∷ opcode_row 0x9f (codes "PUSHAB") (a Byte ∷ []) (interacts operand_pushed)
    ∷ opcode_row 0x3f (codes "PUSHAW") (a Word ∷ []) (interacts operand_pushed)
    ∷ opcode_row 0xdf (codes "PUSHAL") (a Long ∷ []) (interacts operand_pushed)
    ∷ opcode_row 0x7f (codes "PUSHAQ") (a Quad ∷ []) (interacts operand_pushed)
    ∷ opcode_row 0x78 (codes "ASHL") (r Byte ∷ r Long ∷ w Long ∷ []) (computes Ash Long first second (to 2))
    ∷ opcode_row 0x9c (codes "ROTL") (r Byte ∷ r Long ∷ w Long ∷ []) (computes Rot Long first second (to 2))
    ∷ opcode_row 0x7c (codes "CLRQ") (w Quad ∷ []) (at_once (λ o psw. moved_quad 0 (dest_of o 0) o psw))
    ∷ opcode_row 0x7d (codes "MOVQ") (r Quad ∷ w Quad ∷ []) (at_once (λ o psw. moved_quad (quad_of o 0) (dest_of o 1) o psw))
    ∷ opcode_row 0xb8 (codes "BISPSW") (r Word ∷ []) (interacts status_set)
    ∷ opcode_row 0xb9 (codes "BICPSW") (r Word ∷ []) (interacts status_cleared)
    ∷ opcode_row 0xba (codes "POPR") (r Word ∷ []) (interacts registers_popped)
    ∷ opcode_row 0xbb (codes "PUSHR") (r Word ∷ []) (interacts registers_pushed)
    ∷ opcode_row 0xbc (codes "CHMK") (r Word ∷ []) (Sensitive (Chm Kernel))
    ∷ opcode_row 0xbd (codes "CHME") (r Word ∷ []) (Sensitive (Chm Executive))
    ∷ opcode_row 0xbe (codes "CHMS") (r Word ∷ []) (Sensitive (Chm Supervisor))
    ∷ opcode_row 0xbf (codes "CHMU") (r Word ∷ []) (Sensitive (Chm User))
    ∷ opcode_row 0xd8 (codes "ADWC") (r Long ∷ m Long ∷ []) (computes AddCarry Long first second (to 1))
    ∷ opcode_row 0xd9 (codes "SBWC") (r Long ∷ m Long ∷ []) (computes SubBorrow Long first second (to 1))
    ∷ opcode_row 0xda (codes "MTPR") (r Long ∷ r Long ∷ []) (Privileged Mtpr)
    ∷ opcode_row 0xdb (codes "MFPR") (r Long ∷ w Long ∷ []) (Privileged Mfpr)
    ∷ opcode_row 0xdc (codes "MOVPSL") (w Long ∷ []) (Performs (λ o psl. Done (put (dest_of o 0) Long psl (begun o (psl % 2 ^ 8)))))
    ∷ opcode_row 0xdd (codes "PUSHL") (r Long ∷ []) (interacts operand_pushed)
    ∷ opcode_row 0xe0 (codes "BBS") (r Long ∷ v Byte ∷ b Byte ∷ []) (interacts (branched_on_bit true None))
    ∷ opcode_row 0xe1 (codes "BBC") (r Long ∷ v Byte ∷ b Byte ∷ []) (interacts (branched_on_bit false None))
    ∷ opcode_row 0xe2 (codes "BBSS") (r Long ∷ v Byte ∷ b Byte ∷ []) (interacts (branched_on_bit true (Some true)))
    ∷ opcode_row 0xe3 (codes "BBCS") (r Long ∷ v Byte ∷ b Byte ∷ []) (interacts (branched_on_bit false (Some true)))
    ∷ opcode_row 0xe4 (codes "BBSC") (r Long ∷ v Byte ∷ b Byte ∷ []) (interacts (branched_on_bit true (Some false)))
    ∷ opcode_row 0xe5 (codes "BBCC") (r Long ∷ v Byte ∷ b Byte ∷ []) (interacts (branched_on_bit false (Some false)))
    ∷ opcode_row 0xe6 (codes "BBSSI") (r Long ∷ v Byte ∷ b Byte ∷ []) (interacts (branched_on_bit true (Some true)))
    ∷ opcode_row 0xe7 (codes "BBCCI") (r Long ∷ v Byte ∷ b Byte ∷ []) (interacts (branched_on_bit false (Some false)))
    ∷ opcode_row 0xe8 (codes "BLBS") (r Long ∷ b Byte ∷ []) (at_once (branched_on_low_bit true))
    ∷ opcode_row 0xe9 (codes "BLBC") (r Long ∷ b Byte ∷ []) (at_once (branched_on_low_bit false))
    ∷ opcode_row 0xfa (codes "CALLG") (a Byte ∷ a Byte ∷ []) (interacts called_general)
    ∷ opcode_row 0xfb (codes "CALLS") (r Long ∷ a Byte ∷ []) (interacts called_on_stack)
    ∷ opcode_row 0xfc (codes "XFC") [] (refused refusals.Customer)
    ∷ opcode_row 0xfd (codes "WAIT") [] (Privileged Wait)
    ∷ []

-- every opcode that an instruction has
abbrev pub opcode_rows : List (ℕ × InstructionEntry)
opcode_rows =
    enumerate_from 0x80 (arithmetic Byte) ++ enumerate_from 0xa0 (arithmetic Word) ++ enumerate_from 0xc0 (arithmetic Long)
    ++ enumerate_from 0x90 (moves Byte) ++ enumerate_from 0xb0 (moves Word) ++ enumerate_from 0xd0 (moves Long) ++ others

-- the instruction of an opcode, None where there is none
abbrev pub instruction_entry_of : ℕ → Option InstructionEntry
instruction_entry_of n = option_map (λ row. row.1) (find (λ row. row.0 == n) opcode_rows)

-- what it does; without one, nothing
unfoldable pub opcode_meaning : ℕ → Meaning
opcode_meaning n = unwrap_or (option_map (λ e. e.meaning) (instruction_entry_of n)) (refused refusals.Instruction)
