-- Worked examples of plain instructions, by computation. In a PSW the codes N, Z, V and C are 8, 4, 2 and 1, T is 10 hex.
use Rattle.std.specs.Prelude.{◌≡◌, refl, ℕ, ◌+◌, ◌&&◌, ◌==◌, nat_le, nat_lt, true, false, List, [], ◌∷◌, Some, None, Ok, Err, if◌then◌else◌}
use Rattle.vv_base.specs.declared.width.Width.TheVariants.{Byte, Long}
use Rattle.vax_arch.specs.declared.mode.Intent.TheVariants.{Read, Write}
use Rattle.vax_table.specs.Arithmetic.{alu_of}
use Rattle.vax_table.specs.Branches.{branched_on_bit, cased}
use Rattle.vax_table.specs.Calls.{called_on_stack, entered, frame_popped, registers_popped, registers_pushed, returned}
use Rattle.vax_table.specs.Claims.{claims}
use Rattle.vax_table.specs.Effects.{Effect, store}
use Rattle.vax_table.specs.Operand.{address_of, address_operand, base_address, bits_operand, branch_operand, modified_operand, read_operand, written_operand}
use Rattle.vax_table.specs.AllOperands.{operand_of, operands_of}
use Rattle.vax_table.specs.Operations.{operation_of, computed}
use Rattle.vax_table.specs.Plan.{performed, plan_of, probed}
use Rattle.vax_table.specs.Rows.{row_of}
use Rattle.vax_table.specs.Interaction.{Absent, At, Interaction, Refusing, Space, Test, outcome, reached}
use Rattle.vax_table.specs.ShownOperand.{instruction}
use Rattle.vax_table.specs.Spelled.{value_size}
use Rattle.vax_table.specs.Spelling.{Instruction, unindexed}
use Rattle.vax_table.specs.Stack.{named_down, named_up, pop, push}
use Rattle.vax_table.specs.Whole.{Meant, Probes, meant}
use Rattle.vax_table.specs.Acted.{acted}
use Rattle.vax_table.specs.declared.act.Dest.TheVariants.{Nowhere}
use Rattle.vax_table.specs.declared.act.Refusal.TheVariants as refusals
use Rattle.vax_table.specs.declared.evaluation.Operands.{Operands}

-- with the PSL 041F0000 and a status word
abbrev pub doing : Instruction → List ℕ → ℕ → Interaction Effect
doing d r psw = plan_of (0x041f0000 + psw) d r

-- no memory; and all of it zero
abbrev pub nothing : Space
nothing i at = Err Absent

abbrev pub zeros : Space
zeros i at = Ok 0

-- R0, R1, AP, FP, SP and PC
abbrev pub registers : ℕ → ℕ → ℕ → ℕ → ℕ → ℕ → List ℕ
registers r0 r1 ap fp sp pc = r0 ∷ r1 ∷ 0 ∷ 0 ∷ 0 ∷ 0 ∷ 0 ∷ 0 ∷ 0 ∷ 0 ∷ 0 ∷ 0 ∷ ap ∷ fp ∷ sp ∷ pc ∷ []

-- 207: CALLS #0, 20C, with the entry mask 0, SP 1000 and a PSW with T and all codes: the count, PC 20B, FP, AP, the S
-- flag and T, and the handler are pushed; PC is 20E
abbrev pub calls : Instruction
calls = instruction 0xfb (unindexed 0 0 0 ∷ unindexed 10 15 1 ∷ [])

pub calls_a_procedure : outcome zeros (doing calls (registers 0 0 0 0 0x1000 0x207) 0x1f) ≡ Ok (record {
  r = registers 0 0 0xffc 0xfe8 0xfe8 0x20e;
  psw = 0x10;
  writes = store 0xffc Long 0 ∷ store 0xff8 Long 0x20b ∷ store 0xff4 Long 0 ∷ store 0xff0 Long 0 ∷ store 0xfec Long 0x20000000 ∷ store 0xfe8 Long 0 ∷ [];
  trap = None;
})
unfolding plan_of performed operation_of row_of operands_of operand_of read_operand address_operand address_of base_address value_size called_on_stack entered named_down push
calls_a_procedure = refl

-- 20E: RET, which leaves that frame
abbrev pub framed : Space
framed i at =
    if at == 0xfef then Ok 0x20 else
    if at == 0xff8 then Ok 0x0b else
    if at == 0xff9 then Ok 0x02 else Ok 0

pub returns_from_it : outcome framed (doing (instruction 0x04 []) (registers 0 0 0xffc 0xfe8 0xfe8 0x20e) 0x10) ≡ Ok (record {
  r = registers 0 0 0 0 0x1000 0x20b;
  psw = 0;
  writes = [];
  trap = None;
})
unfolding plan_of performed operation_of row_of operands_of returned frame_popped pop named_up
returns_from_it = refl

-- DIVL2 #0,R1 of 7 keeps it and sets V, with trap 2, though IV is clear
pub divides_by_zero : outcome nothing (doing (instruction 0xc6 (unindexed 0 0 0 ∷ unindexed 5 1 0 ∷ [])) (registers 0 7 0 0 0 0x200) 0) ≡ Ok (record { r = registers 0 7 0 0 0 0x203; psw = 2; writes = []; trap = Some 2 })
unfolding plan_of performed operation_of row_of operands_of operand_of read_operand modified_operand value_size computed alu_of
divides_by_zero = refl

-- MOVL (R0)+,(R1), of which the second isn't there: the trouble is that byte's, for writing, and there is no effect
abbrev pub below_1000 : Space
below_1000 i at = if nat_lt at 0x1000 then Ok 0 else Err Absent

abbrev pub moves_up : Interaction Effect
moves_up = doing (instruction 0xd0 (unindexed 8 0 0 ∷ unindexed 6 1 0 ∷ [])) (registers 0x300 0x1000 0 0 0 0x200) 0

pub no_destination : outcome below_1000 moves_up ≡ Err (At Absent Write 0x1000)
unfolding plan_of operation_of row_of operands_of operand_of read_operand written_operand address_of base_address value_size
no_destination = refl

pub reached_so_far : reached below_1000 moves_up ≡ 0x300 ∷ 0x301 ∷ 0x302 ∷ 0x303 ∷ 0x1000 ∷ []
unfolding plan_of performed operation_of row_of operands_of operand_of read_operand written_operand address_of base_address value_size computed alu_of
reached_so_far = refl

-- P0 has 8 pages, and P1 8 from 7FFFF000 on
abbrev pub short : Space
short i at =
    if nat_lt at 0x1000 then Ok 0 else
    if nat_le 0x7ffff000 at && nat_lt at 0x80000000 then Ok 0 else Err Refusing

-- MOVL R0,(R1) and MOVL (R1),R0
abbrev pub moves_to : ℕ → Interaction Effect
moves_to r1 = doing (instruction 0xd0 (unindexed 5 0 0 ∷ unindexed 6 1 0 ∷ [])) (registers 0 r1 0 0 0 0x200) 0

abbrev pub moves_from : ℕ → Interaction Effect
moves_from r1 = doing (instruction 0xd0 (unindexed 6 1 0 ∷ unindexed 5 0 0 ∷ [])) (registers 0 r1 0 0 0 0x200) 0

pub after_p0 : outcome short (moves_to 0x1000) ≡ Err (At Refusing Write 0x1000)
unfolding plan_of operation_of row_of operands_of operand_of read_operand written_operand address_of base_address value_size
after_p0 = refl

pub after_p0_reached : reached short (moves_to 0x1000) ≡ 0x1000 ∷ []
unfolding plan_of performed operation_of row_of operands_of operand_of read_operand written_operand address_of base_address value_size computed alu_of
after_p0_reached = refl

pub in_p0 : outcome short (moves_to 0xe00) ≡ Ok (record { r = registers 0 0xe00 0 0 0 0x203; psw = 4; writes = store 0xe00 Long 0 ∷ []; trap = None })
unfolding plan_of performed operation_of row_of operands_of operand_of read_operand written_operand address_of base_address value_size computed alu_of
in_p0 = refl

pub in_p0_claimed : claims short (moves_to 0xe00) ≡ 0xe00 ∷ 0xe01 ∷ 0xe02 ∷ 0xe03 ∷ []
unfolding plan_of performed operation_of row_of operands_of operand_of read_operand written_operand address_of base_address value_size computed alu_of
in_p0_claimed = refl

-- across the last page of P0 the trouble is the third byte's
pub across_p0 : reached short (moves_to 0xffe) ≡ 0xffe ∷ 0xfff ∷ 0x1000 ∷ []
unfolding plan_of performed operation_of row_of operands_of operand_of read_operand written_operand address_of base_address value_size computed alu_of
across_p0 = refl

pub in_p1 : reached short (moves_from 0x7ffff000) ≡ 0x7ffff000 ∷ 0x7ffff001 ∷ 0x7ffff002 ∷ 0x7ffff003 ∷ []
unfolding plan_of performed operation_of row_of operands_of operand_of read_operand written_operand address_of base_address value_size computed alu_of
in_p1 = refl

pub before_p1 : outcome short (moves_from 0x7fffee00) ≡ Err (At Refusing Read 0x7fffee00)
unfolding plan_of operation_of row_of operands_of operand_of read_operand written_operand address_of base_address value_size
before_p1 = refl

pub before_p1_reached : reached short (moves_from 0x7fffee00) ≡ 0x7fffee00 ∷ []
unfolding plan_of performed operation_of row_of operands_of operand_of read_operand written_operand address_of base_address value_size computed alu_of
before_p1_reached = refl

-- PROBER #0,#4,(R1) and PROBEW #0,#4,(R1): the operands are the mode, the length and the base
abbrev pub probe : ℕ → Interaction Meant
probe opcode = acted false 0x2f (instruction opcode (unindexed 0 0 0 ∷ unindexed 0 0 4 ∷ unindexed 6 1 0 ∷ [])) (registers 0 0x1000 0 0 0 0x200)

abbrev pub probed_operands : Operands
probed_operands = record { values = 0 ∷ 4 ∷ 0x1000 ∷ 0 ∷ []; dests = Nowhere ∷ Nowhere ∷ Nowhere ∷ Nowhere ∷ []; r = registers 0 0x1000 0 0 0 0x204 }

pub probes_for_reading : outcome nothing (probe 0x0c) ≡ Ok (meant 0x0c (Probes Read probed_operands))
unfolding acted operation_of row_of operands_of operand_of read_operand address_operand address_of base_address value_size
probes_for_reading = refl

pub probes_for_writing : outcome nothing (probe 0x0d) ≡ Ok (meant 0x0d (Probes Write probed_operands))
unfolding acted operation_of row_of operands_of operand_of read_operand address_operand address_of base_address value_size
probes_for_writing = refl

-- Z says that not both bytes are accessible; N and V are cleared, C and what is above the codes stay
pub both_accessible : (probed true probed_operands 0x2f).psw ≡ 0x21
both_accessible = refl

pub not_both_accessible : (probed false probed_operands 0x2f).psw ≡ 0x25
not_both_accessible = refl

-- MOVPSL R0
pub stores_the_psl : outcome nothing (doing (instruction 0xdc (unindexed 5 0 0 ∷ [])) (registers 0 0 0 0 0 0x200) 3) ≡ Ok (record { r = registers 0x041f0003 0 0 0 0 0x202; psw = 3; writes = []; trap = None })
unfolding plan_of operation_of row_of operands_of operand_of written_operand value_size
stores_the_psl = refl

pub bpt : outcome zeros (doing (instruction 0x03 []) (registers 0 0 0 0 0 0x200) 0) ≡ Err (Test refusals.Breakpoint)
unfolding plan_of performed operation_of row_of operands_of
bpt = refl

pub xfc : outcome zeros (doing (instruction 0xfc []) (registers 0 0 0 0 0 0x200) 0) ≡ Err (Test refusals.Customer)
unfolding plan_of performed operation_of row_of operands_of
xfc = refl

-- PUSHR #^M<R0,SP>: SP first, with its value before
pub pushes_sp : outcome zeros (doing (instruction 0xbb (unindexed 8 15 0x4001 ∷ [])) (registers 5 0 0 0 0x600 0x200) 0) ≡ Ok (record {
  r = registers 5 0 0 0 0x5f8 0x204;
  psw = 0;
  writes = store 0x5fc Long 0x600 ∷ store 0x5f8 Long 5 ∷ [];
  trap = None;
})
unfolding plan_of performed operation_of row_of operands_of operand_of read_operand value_size registers_pushed named_down push
pushes_sp = refl

-- POPR #^M<R0,SP> from FF8: R0 is the longword there, and SP the next one
pub pops_sp : outcome framed (doing (instruction 0xba (unindexed 8 15 0x4001 ∷ [])) (registers 5 0 0 0 0xff8 0x200) 0) ≡ Ok (record { r = registers 0x20b 0 0 0 0 0x204; psw = 0; writes = []; trap = None })
unfolding plan_of performed operation_of row_of operands_of operand_of read_operand value_size registers_popped pop named_up
pops_sp = refl

-- BBSS R0,(R1), with R0 -9 and R1 1000: bit 7 of the byte at FFE is clear, and is set
pub sets_a_bit : outcome zeros (doing (instruction 0xe2 (unindexed 5 0 0 ∷ unindexed 6 1 0 ∷ unindexed 16 0 0x10 ∷ [])) (registers 0xfffffff7 0x1000 0 0 0 0x200) 0) ≡ Ok (record {
  r = registers 0xfffffff7 0x1000 0 0 0 0x204;
  psw = 0;
  writes = store 0xffe Byte 0x80 ∷ [];
  trap = None;
})
unfolding plan_of performed operation_of row_of operands_of operand_of read_operand bits_operand branch_operand address_of base_address value_size branched_on_bit
sets_a_bit = refl

-- CASEL R0,#1,#1 with R0 3: 2 is beyond the limit, so it goes on after two words
pub beyond_the_limit : outcome zeros (doing (instruction 0xcf (unindexed 5 0 0 ∷ unindexed 0 0 1 ∷ unindexed 0 0 1 ∷ [])) (registers 3 0 0 0 0 0x200) 0) ≡ Ok (record { r = registers 3 0 0 0 0 0x208; psw = 0; writes = []; trap = None })
unfolding plan_of performed operation_of row_of operands_of operand_of read_operand value_size cased alu_of
beyond_the_limit = refl
