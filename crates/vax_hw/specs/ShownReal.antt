-- Worked examples of runs, by computation. The machine has 4 pages; system and P0 tables of 8 entries, at 0 and 80, map each
-- page to the frame of its number, open to all and modified; code is at 200, in user mode. Numbers are hexadecimal.
use Rattle.std.specs.Prelude.{◌≡◌, refl, true, false, ℕ, zero, suc, ◌+◌, ◌-◌, List, [], ◌∷◌, ◌++◌, length, map, replicate, take}
use Rattle.vv_base.specs.Bytes.{long_at, long_bytes, overwritten}
use Rattle.vax_arch.specs.Walk.{granted, lookup, mapped_entry, process_entry, system_entry}
use Rattle.vax_hw.specs.Machine.{Machine, retire}
use Rattle.vax_hw.specs.Real.{machine_step, real}
use Rattle.vax_hw.specs.RealTables.{access_judged, place_in, real_look}
use Rattle.vax_hw.specs.declared.world.Exit.{Exit}
use Rattle.vax_hw.specs.declared.world.Exit.TheVariants.{Arithmetic, Budget, Denied, Emulate, Modify, NotValid, Refused}
use Rattle.vax_hw.specs.declared.world.World.{World}
use Rattle.vax_table.specs.Arithmetic.{alu_of}
use Rattle.vax_table.specs.Computing.{moved_quad}
use Rattle.vax_table.specs.Fetch.{decided, fetched}
use Rattle.vax_table.specs.Operand.{address_of, address_operand, base_address, modified_operand, read_operand, written_operand}
use Rattle.vax_table.specs.AllOperands.{operand_of, operands_of, trap_operands}
use Rattle.vax_table.specs.InstructionSet.{opcode_meaning}
use Rattle.vax_table.specs.Reading.{decoded_at, indexed_at, operand_at, specifier_at, specifier_by}
use Rattle.vax_table.specs.Rows.{row_of}
use Rattle.vax_table.specs.Spelled.{value_size}
use Rattle.vax_table.specs.Whole.{instruction}
use Rattle.vax_table.specs.declared.act.Dest.TheVariants.{Nowhere}
use Rattle.vax_table.specs.declared.act.Refusal.TheVariants as refusals
use Rattle.vax_table.specs.declared.act.Sens.TheVariants.{Halt, Prober}

-- A run with all that it computes with: the examples unfold this one name.
unfoldable pub whole_run : ℕ → Machine → Machine × Exit
unfolding
    machine_step retire place_in real_look access_judged lookup mapped_entry process_entry system_entry granted
    instruction fetched decided decoded_at opcode_meaning row_of operands_of operand_of
    read_operand modified_operand written_operand address_operand address_of base_address value_size alu_of
    trap_operands operand_at specifier_at specifier_by indexed_at moved_quad
whole_run budget m = real budget m

-- the bytes of longwords
abbrev pub bytes_of : List ℕ → List ℕ
bytes_of [] = []
bytes_of (v ∷ vs) = long_bytes v ++ bytes_of vs

-- n entries, of frames that rise by 1
abbrev pub rising : ℕ → ℕ → List ℕ
rising zero first = []
rising (suc n) first = first ∷ rising n (first + 1)

-- longwords put at places
abbrev pub with_longs : List (ℕ × ℕ) → List ℕ → List ℕ
with_longs [] memory = memory
with_longs (x ∷ xs) memory = with_longs xs (overwritten memory x.0 (long_bytes x.1))

abbrev pub memory_of : List ℕ → List ℕ
memory_of code =
    bytes_of (rising 8 0xa4000000) ++ replicate 0x60 0 ++ bytes_of (rising 8 0xa4000000) ++ replicate 0x160 0
    ++ code ++ replicate (0x600 - length code) 0

-- R0, R1 and R3
abbrev pub world_of : ℕ → ℕ → ℕ → World
world_of r0 r1 r3 = record {
  r = r0 ∷ r1 ∷ 0 ∷ r3 ∷ replicate 11 0 ++ 0x200 ∷ [];
  psl = record { 0 = 0x03c00000 };
  vmpsl = record { 0 = 0x03c00000 };
  p0br = 0x80000080;
  p0lr = 8;
  p1br = 0;
  p1lr = 0x200000;
  sbr = 0;
  slr = 8;
}

-- with this code, these longwords at these places, and no counts yet
abbrev pub machine_of : List ℕ → List (ℕ × ℕ) → World → Machine
machine_of code longs w = record { memory = with_longs longs (memory_of code); world = w; retired = 0; trail = 0; misses = 0 }

-- what is seen after a run: why it ended, R0 to R3 and PC, the longwords at some places, and the three counts
pub record Seen : Type 0 where
  pub exit : Exit
  pub r : List ℕ
  pub longs : List ℕ
  pub counts : List ℕ

abbrev pub seen : Machine → Exit → List ℕ → Seen
seen m e places = record {
  exit = e;
  r = take 4 m.world.r;
  longs = map (long_at m.memory) places;
  counts = m.retired ∷ m.trail ∷ m.misses ∷ [];
}

abbrev pub later : Machine × Exit → List ℕ → Seen
later run places = seen run.0 run.1 places

abbrev pub shows : Exit → List ℕ → List ℕ → List ℕ → Seen
shows e r longs counts = record { exit = e; r = r; longs = longs; counts = counts }

-- MOVL (R1),R3, and MOVL R0,(R1)
abbrev pub reads : List ℕ
reads = 0xd0 ∷ 0x61 ∷ 0x53 ∷ []

abbrev pub writes : List ℕ
writes = 0xd0 ∷ 0x50 ∷ 0x61 ∷ []

-- R0 7, and R1 400 or 3FE
abbrev at_400 : World
at_400 = world_of 7 0x400 0

abbrev at_3fe : World
at_3fe = world_of 7 0x3fe 0

-- what is seen after one of them, with these longwords in memory; a write shows the longword that it begins in
abbrev after_read : List (ℕ × ℕ) → World → Seen
after_read longs w = later (real 1 (machine_of reads longs w)) []

abbrev after_write : List (ℕ × ℕ) → World → Seen
after_write longs w = later (real 1 (machine_of writes longs w)) (0x400 ∷ [])

abbrev after_write_over_end : List (ℕ × ℕ) → Seen
after_write_over_end longs = later (real 1 (machine_of writes longs at_3fe)) (0x3fc ∷ [])

-- nothing is done: why, R1, the longwords and the misses
abbrev stays : Exit → ℕ → List ℕ → ℕ → Seen
stays e r1 longs misses = shows e (7 ∷ r1 ∷ 0 ∷ 0 ∷ []) longs (0 ∷ 0 ∷ misses ∷ [])

-- the outcome of a reference to 400
pub references :
    -- it is read, and the trail is 200, 3 times D0, and the registers
    (after_read ((0x400, 0x12345678) ∷ []) at_400 ≡ shows Budget (7 ∷ 0x400 ∷ 0 ∷ 0x12345678 ∷ []) [] (1 ∷ 0x12345eef ∷ 0 ∷ []))
    -- an entry that isn't valid is a miss; a code, a length and a clear modify bit are none
    × (after_read ((0x88, 0x24000002) ∷ []) at_400 ≡ stays (NotValid 0x400 false) 0x400 [] 1)
    × (after_read ((0x88, 0xac000002) ∷ []) at_400 ≡ stays (Denied 0x400 false) 0x400 [] 0)
    × (after_read [] (record at_400 { p0lr = 2 }) ≡ stays (Denied 0x400 false) 0x400 [] 0)
    × (after_write ((0x88, 0xa0000002) ∷ []) at_400 ≡ stays (Modify 0x400) 0x400 (0 ∷ []) 0)
    × (after_write [] at_400 ≡ shows Budget (7 ∷ 0x400 ∷ 0 ∷ 0 ∷ []) (7 ∷ []) (1 ∷ 0x877 ∷ 0 ∷ []))
    -- the code is asked before the valid bit
    × (after_read ((0x88, 0x2c000002) ∷ []) at_400 ≡ stays (Denied 0x400 false) 0x400 [] 0)
    -- a frame beyond the machine reads 0, and nothing is written
    × (after_read ((0x88, 0xa4000004) ∷ []) (world_of 7 0x400 5) ≡ shows Budget (7 ∷ 0x400 ∷ 0 ∷ 0 ∷ []) [] (1 ∷ 0x877 ∷ 0 ∷ []))
unfolding whole_run
references = (refl, refl, refl, refl, refl, refl, refl, refl)

-- over the end of a page: MOVL R0,(R1), with R1 3FE
pub over_an_end :
    -- of two clear modify bits the first byte's counts; a trouble in the second page comes before them
    (after_write_over_end ((0x84, 0xa0000001) ∷ (0x88, 0xa0000002) ∷ []) ≡ stays (Modify 0x3fe) 0x3fe (0 ∷ []) 0)
    × (after_write_over_end ((0x88, 0xa0000002) ∷ []) ≡ stays (Modify 0x400) 0x3fe (0 ∷ []) 0)
    × (after_write_over_end ((0x84, 0xa0000001) ∷ (0x88, 0x20000002) ∷ []) ≡ stays (NotValid 0x400 true) 0x3fe (0 ∷ []) 1)
unfolding whole_run
over_an_end = (refl, refl, refl)

-- MOVL R0,@#80000088, and MOVL (R1),R3: the entry of 400 is written, and the next reference goes by it
abbrev pub writes_a_table : List ℕ
writes_a_table = 0xd0 ∷ 0x50 ∷ 0x9f ∷ 0x88 ∷ 0x00 ∷ 0x00 ∷ 0x80 ∷ 0xd0 ∷ 0x61 ∷ 0x53 ∷ []

abbrev turns_page : Machine
turns_page = machine_of writes_a_table ((0x400, 0x11) ∷ (0x600, 0x22) ∷ []) (world_of 0xa4000003 0x400 0)

abbrev turned_page : Seen
turned_page = shows Budget (0xa4000003 ∷ 0x400 ∷ 0 ∷ 0x22 ∷ []) (0xa4000003 ∷ []) (2 ∷ 0x14800110f ∷ 0 ∷ [])

-- MOVQ R0,(R1) over the end of page 0 into that page's own next entry, by tables from 1F8 on
abbrev overwrites_own_entry : Machine
overwrites_own_entry =
    let longs = (0x1f8, 0xa4000000) ∷ (0x1fc, 0xa4000001) ∷ (0x200, 0xa4000002) ∷ (0x400, 0x61507d) ∷ [] in
    let r = 0xa4000003 ∷ 0x800001fc ∷ replicate 13 0 ++ 0x80000400 ∷ [] in
    machine_of [] longs (record (world_of 0 0 0) { r = r; sbr = 0x1f8 })

abbrev overwritten_entry : Seen
overwritten_entry =
    shows Budget (0xa4000003 ∷ 0x800001fc ∷ 0 ∷ 0 ∷ []) (0xa4000003 ∷ 0x800001fc ∷ 0 ∷ []) (1 ∷ 0x1a4000776 ∷ 0 ∷ [])

-- what the tables say is what is in memory
pub tables_in_memory :
    (later (real 2 turns_page) (0x88 ∷ []) ≡ turned_page)
    -- all bytes go to the places of before
    × (later (real 1 overwrites_own_entry) (0x1fc ∷ 0x200 ∷ 0x600 ∷ []) ≡ overwritten_entry)
unfolding whole_run
tables_in_memory = (refl, refl)

-- INCL R3 twice
abbrev pub counts_up : List ℕ
counts_up = 0xd6 ∷ 0x53 ∷ 0xd6 ∷ 0x53 ∷ []

abbrev counts_twice : Machine
counts_twice = machine_of counts_up [] at_400

-- with R3 7FFFFFFF and IV, so that it overflows and traps
abbrev overflows : Machine
overflows = machine_of counts_up [] (record (world_of 0 0 0x7fffffff) { psl = record { 0 = 0x03c00020 } })

-- PROBER #0,#4,(R1), and MOVPSL R3
abbrev pub probes : List ℕ
probes = 0x0c ∷ 0x00 ∷ 0x04 ∷ 0x61 ∷ 0xdc ∷ 0x53 ∷ []

abbrev after_probe : List (ℕ × ℕ) → World → Seen
after_probe longs w = later (real 2 (machine_of probes longs w)) []

-- of R3 and the trail
abbrev probed : (r3 trail : ℕ) → Seen
probed r3 trail = shows Budget (7 ∷ 0x400 ∷ 0 ∷ r3 ∷ []) [] (2 ∷ trail ∷ 0 ∷ [])

abbrev probe_traps : Exit
probe_traps = Emulate (record {
  op = Prober;
  a = 0;
  b = 4;
  c = 0x400;
  dest = Nowhere;
  next_pc = 0x204;
  regs = 7 ∷ 0x400 ∷ replicate 13 0;
})

-- HALT, and how it traps
abbrev after_halt : World → Seen
after_halt w = later (real 1 (machine_of (0 ∷ []) [] w)) []

abbrev halt_traps : Exit
halt_traps = Emulate (record { op = Halt; a = 0; b = 0; c = 0; dest = Nowhere; next_pc = 0x201; regs = replicate 15 0 })

-- with all registers 0
abbrev stays_at_0 : Exit → Seen
stays_at_0 e = shows e (0 ∷ 0 ∷ 0 ∷ 0 ∷ []) [] (0 ∷ 0 ∷ 0 ∷ [])

-- what ends a run, and the trail
pub ends :
    -- the trail of two instructions
    (later (real 2 counts_twice) [] ≡ shows Budget (7 ∷ 0x400 ∷ 0 ∷ 2 ∷ []) [] (2 ∷ 0x1117 ∷ 0 ∷ []))
    -- an overflow that traps: it has retired, and the run ends after it
    × (later (real 2 overflows) [] ≡ shows (Arithmetic 1) (0 ∷ 0 ∷ 0 ∷ 0x80000000 ∷ []) [] (1 ∷ 0x80000482 ∷ 0 ∷ []))
    -- PROBE is executed, and Z is 0; of user mode it isn't accessible, and Z is 1; MOVPSL shows VMPSL's mode
    × (after_probe [] at_400 ≡ probed 0x03c00000 0x03c00eca)
    × (after_probe ((0x88, 0xac000002) ∷ []) at_400 ≡ probed 0x03c00004 0x03c00ece)
    × (after_probe [] (record at_400 { psl = record { 0 = 0x01400000 } }) ≡ probed 0x03c00000 0x03c00eca)
    -- over an entry that isn't valid, or is the kernel's alone, it traps
    × (after_probe ((0x88, 0x24000002) ∷ []) at_400 ≡ stays probe_traps 0x400 [] 0)
    × (after_probe ((0x88, 0x94000002) ∷ []) at_400 ≡ stays probe_traps 0x400 [] 0)
    -- HALT is refused in user mode, and traps where VMPSL is in kernel mode
    × (after_halt (world_of 0 0 0) ≡ stays_at_0 (Refused refusals.Instruction))
    × (after_halt (record (world_of 0 0 0) { vmpsl = record { 0 = 0 } }) ≡ stays_at_0 halt_traps)
unfolding whole_run
ends = (refl, refl, refl, refl, refl, refl, refl, refl, refl)
