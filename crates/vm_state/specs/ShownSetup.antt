-- Guests for the worked examples. Their code is at 200. With mapping off, of 64 pages: KSP is 3000, and every vector in the
-- system control block at 4400 is 1000. With mapping on, of 8 pages: system and P0 tables of 16 entries, at 0 and 80, map each
-- page to the frame of its number, open to all and modified. There KSP is 80000800, and every vector in the system control block
-- at 400 is 80000a00.
use Rattle.std.specs.Prelude.{ℕ, zero, suc, ◌+◌, ◌-◌, ◌*◌, false, true, List, [], ◌∷◌, ◌++◌, length, map, replicate, slice_index, slice_set}
use Rattle.vv_base.specs.Bytes.{long_at, long_bytes, overwritten}
use Rattle.vax_arch.specs.Walk.{Tables, granted, lookup, mapped_entry, process_entry, system_entry}
use Rattle.vax_table.specs.Arithmetic.{alu_of}
use Rattle.vax_table.specs.Computing.{status_set}
use Rattle.vax_table.specs.Fetch.{decided, fetched}
use Rattle.vax_table.specs.Operand.{address_of, address_operand, base_address, bits_operand, branch_operand, modified_operand, read_operand, written_operand}
use Rattle.vax_table.specs.AllOperands.{operand_of, operands_of, trap_operands}
use Rattle.vax_table.specs.InstructionSet.{opcode_meaning}
use Rattle.vax_table.specs.Reading.{decoded_at, indexed_at, operand_at, specifier_at, specifier_by}
use Rattle.vax_table.specs.Rows.{row_of}
use Rattle.vax_table.specs.Spelled.{value_size}
use Rattle.vax_table.specs.Whole.{instruction}
use Rattle.vm_clock.specs.Clock as clock
use Rattle.vm_clock.specs.Clock.{after_iccs_write, after_tick}
use Rattle.vm_state.specs.Contexts.{is_block_reserved, loaded, loads_context, saves_context}
use Rattle.vm_state.specs.Initiate.{attempt, initiate}
use Rattle.vm_state.specs.Interrupts.{due}
use Rattle.vm_state.specs.Packets.{accepted}
use Rattle.vm_state.specs.Probe.{probe, probed_byte}
use Rattle.vm_state.specs.Pushes.{push_walked, pushed}
use Rattle.vm_state.specs.Registers.{read, register_of, written}
use Rattle.vm_state.specs.Sensitive.{sensed}
use Rattle.vm_state.specs.Start.{started}
use Rattle.vm_state.specs.State.{Guest, State}
use Rattle.vm_state.specs.Step.{Kind, Stepped, executed, step}
use Rattle.vm_state.specs.Translation.{walk_of}

-- A step with all that it computes with: an example of steps unfolds this one name.
unfoldable pub whole_step : Guest → Stepped
unfolding
    step executed instruction fetched decided decoded_at opcode_meaning row_of operands_of operand_of
    read_operand modified_operand written_operand address_operand branch_operand bits_operand address_of base_address value_size
    status_set alu_of trap_operands operand_at specifier_at specifier_by indexed_at
    lookup mapped_entry process_entry system_entry granted walk_of
    attempt initiate due push_walked pushed after_tick sensed probe probed_byte loads_context loaded is_block_reserved
    saves_context register_of read written accepted after_iccs_write
whole_step g = step g

-- the bytes of longwords
abbrev pub bytes_of : List ℕ → List ℕ
bytes_of [] = []
bytes_of (v ∷ vs) = long_bytes v ++ bytes_of vs

-- n numbers, rising by 1
abbrev pub rising : ℕ → ℕ → List ℕ
rising zero first = []
rising (suc n) first = first ∷ rising n (first + 1)

-- R0, R1, R2, SP and PC
abbrev pub registers : ℕ → ℕ → ℕ → ℕ → ℕ → List ℕ
registers r0 r1 r2 sp pc = r0 ∷ r1 ∷ r2 ∷ replicate 11 0 ++ sp ∷ pc ∷ []

-- longwords put at places
abbrev pub with_longs : List (ℕ × ℕ) → List ℕ → List ℕ
with_longs [] memory = memory
with_longs (x ∷ xs) memory = with_longs xs (overwritten memory x.0 (long_bytes x.1))

-- with mapping off, and every vector 1000
abbrev pub memory_u : List ℕ → List ℕ
memory_u code =
    replicate 0x200 0 ++ code ++ replicate (0x4200 - length code) 0
    ++ bytes_of (replicate 80 0x1000) ++ replicate (0x8000 - 0x4540) 0

abbrev pub state_u : State
state_u = record (started 0x200 false) {
  psl = 0;
  scbb = 0x4400;
  r = registers 0 0 0 0x3000 0x200;
  stacks = 0x3000 ∷ 0 ∷ 0 ∷ 0 ∷ 0 ∷ [];
}

abbrev pub guest_u : List ℕ → Guest
guest_u code = record { memory = memory_u code; state = state_u }

-- with mapping on, 8 pages, and every vector 80000a00
abbrev pub memory_m : List ℕ → List ℕ
memory_m code =
    bytes_of (rising 16 0xa4000000) ++ replicate 0x40 0 ++ bytes_of (rising 16 0xa4000000) ++ replicate 0x140 0
    ++ code ++ replicate (0x200 - length code) 0
    ++ bytes_of (replicate 80 0x80000a00) ++ replicate (0x1000 - 0x540) 0

abbrev pub tables_m : Tables
tables_m = record { mapped = true; p0br = 0x80000080; p0lr = 16; p1br = 0; p1lr = 0x200000; sbr = 0; slr = 16 }

abbrev pub state_m : State
state_m = record state_u {
  tables = tables_m;
  scbb = 0x400;
  r = registers 0 0 0 0x80000800 0x200;
  stacks = 0x80000800 ∷ 0 ∷ 0 ∷ 0 ∷ 0 ∷ [];
}

-- with these longwords at these places
abbrev pub guest_m : List ℕ → List (ℕ × ℕ) → Guest
guest_m code longs = record { memory = with_longs longs (memory_m code); state = state_m }

-- the place of P0's entry 4, which maps 800
abbrev pub entry_4 : ℕ
entry_4 = 0x90

abbrev pub with_register : (n v : ℕ) → Guest → Guest
with_register n v g = record g { state = record g.state { r = slice_set g.state.r n v } }

abbrev pub with_psl : ℕ → Guest → Guest
with_psl psl g = record g { state = record g.state { psl = psl } }

-- what an example shows of a step: its kind, R0, R1, SP and PC, the PSL, and longwords of memory
pub record Seen : Type 0 where
  pub kind : Kind
  pub registers : List ℕ
  pub psl : ℕ
  pub longs : List ℕ

abbrev pub seen : Kind → (registers : List ℕ) → (psl : ℕ) → List ℕ → Seen
seen kind registers psl longs = record { kind = kind; registers = registers; psl = psl; longs = longs }

-- the longwords at places
abbrev pub longs_at : Guest → List ℕ → List ℕ
longs_at g places = map (λ at. long_at g.memory at) places

abbrev pub after : Stepped → List ℕ → Seen
after s places =
    let state = s.guest.state in
    let r = slice_index state.r in
    seen s.kind (r 0 ∷ r 1 ∷ r 14 ∷ r 15 ∷ []) state.psl (longs_at s.guest places)

-- the places of n longwords in front of another place
abbrev pub below : ℕ → ℕ → List ℕ
below zero top = []
below (suc n) top = (top - 4 * (n + 1)) ∷ below n top

-- the guest after n steps, and their kinds
abbrev pub after_steps : ℕ → Guest → Guest
after_steps zero g = g
after_steps (suc n) g = after_steps n (step g).guest

abbrev pub kinds : ℕ → Guest → List Kind
kinds zero g = []
kinds (suc n) g = let s = step g in s.kind ∷ kinds n s.guest

abbrev pub with_tables : Tables → Guest → Guest
with_tables t g = record g { state = record g.state { tables = t } }

abbrev pub with_clock : clock.ClockState → Guest → Guest
with_clock c g = record g { state = record g.state { clock = c } }

-- other longwords at places
abbrev pub with_memory : List (ℕ × ℕ) → Guest → Guest
with_memory longs g = record g { memory = with_longs longs g.memory }

-- ESP, SSP, USP and ISP are 0 but for the last
abbrev pub with_isp : ℕ → Guest → Guest
with_isp v g = record g { state = record g.state { stacks = slice_index g.state.stacks 0 ∷ 0 ∷ 0 ∷ 0 ∷ v ∷ [] } }
