-- Worked examples of steps over page tables, by computation. Numbers are hexadecimal in the comments.
use Rattle.std.specs.Prelude.{ℕ, Some, List, [], codes, refl, slice_index, true, ◌∷◌, ◌≡◌}
use Rattle.vax_arch.specs.Walk.{Tables}
use Rattle.vm_clock.specs.Clock.{initial_clock}
use Rattle.vm_state.specs.ShownSetup.{Seen, after, after_steps, below, entry_4, guest_m, kinds, longs_at, seen, tables_m, whole_step, with_clock, with_isp, with_memory, with_register, with_tables}
use Rattle.vm_state.specs.State.{Guest}
use Rattle.vm_state.specs.Step.{Fault, Plain, SetModify, Stepped, step}

-- MOVL R0,(R1), and MOVL (R1),R0, with R1 and with these tables
abbrev stores : ℕ → Tables → Guest
stores r1 tables = with_tables tables (with_register 1 r1 (guest_m (0xd0 ∷ 0x50 ∷ 0x61 ∷ []) []))

abbrev reads : ℕ → Tables → Guest
reads r1 tables = with_tables tables (with_register 1 r1 (guest_m (0xd0 ∷ 0x61 ∷ 0x50 ∷ []) []))

-- MOVL (R1),R0 with R1 800, at 200 of S, so that its own page needs no P0 table, whose base this is
abbrev reads_by_s : ℕ → Guest
reads_by_s p0br = with_register 15 0x80000200 (reads 0x800 (record tables_m { p0br = p0br }))

-- with the P0 table on system page 7, which is not valid
abbrev reads_by_none : Guest
reads_by_none = with_memory ((0x1c, 0x24000007) ∷ []) (reads_by_s 0x80000e80)

-- P0 of 4 pages
abbrev p0_of_4 : Tables
p0_of_4 = record tables_m { p0lr = 4 }

-- P1 of 8 pages, all of which are frame 4, by a table at 100
abbrev p1_of_8 : Tables
p1_of_8 = record tables_m { p1lr = 0x1ffff8; p1br = 0x7f800120 }

abbrev p1_entries : List (ℕ × ℕ)
p1_entries =
    (0x100, 0xa4000004) ∷ (0x104, 0xa4000004) ∷ (0x108, 0xa4000004) ∷ (0x10c, 0xa4000004)
    ∷ (0x110, 0xa4000004) ∷ (0x114, 0xa4000004) ∷ (0x118, 0xa4000004) ∷ (0x11c, 0xa4000004) ∷ []

abbrev reads_p1 : ℕ → Guest
reads_p1 r1 = with_memory p1_entries (reads r1 p1_of_8)

-- the page at 800 is frame 8, the first beyond memory
abbrev reads_beyond : Guest
reads_beyond = with_memory ((entry_4, 0xa4000008) ∷ []) (reads 0x800 tables_m)

-- a step with the four longwords below 80000800; and a fault with R1, whose frame ends there
abbrev stack_after : Guest → Seen
stack_after g = after (step g) (below 4 0x800)

abbrev fault : ℕ → List ℕ → Seen
fault r1 frame = seen Fault (0 ∷ r1 ∷ 0x800007f0 ∷ 0x80000a00 ∷ []) 0 frame

-- the edges of the tables
pub lengths :
    -- a store to the first page after P0's last: a length violation for a write; and to the last
    (stack_after (stores 0x800 p0_of_4) ≡ fault 0x800 (5 ∷ 0x800 ∷ 0x200 ∷ 0 ∷ []))
    × (after (step (stores 0x600 p0_of_4)) [] ≡ seen (Plain 0x80001270) (0 ∷ 0x600 ∷ 0x80000800 ∷ 0x203 ∷ []) 4 [])
    -- from the first page that P1 has, whose length is its empty part; and from the page in front of it
    × (after (step (reads_p1 0x7ffff000)) [] ≡ seen (Plain 0xfffffc70) (0 ∷ 0x7ffff000 ∷ 0x80000800 ∷ 0x203 ∷ []) 4 [])
    × (stack_after (reads_p1 0x7fffee00) ≡ fault 0x7fffee00 (1 ∷ 0x7fffee00 ∷ 0x200 ∷ 0 ∷ []))
    -- from a P0 page whose entry would be on the system page of number SLR
    × (stack_after (reads_by_s 0x80002000) ≡ fault 0x800 (3 ∷ 0x800 ∷ 0x80000200 ∷ 0 ∷ []))
    -- from a P0 page whose entry is on a system page that is not valid
    × (stack_after reads_by_none ≡ fault 0x800 (2 ∷ 0x800 ∷ 0x80000200 ∷ 0 ∷ []))
    -- from a page beyond memory: the guest stops, as it is
    × (after (step reads_beyond) [] ≡ seen Fault (0 ∷ 0x800 ∷ 0x80000800 ∷ 0x200 ∷ []) 0 [])
    × ((step reads_beyond).shown ≡ codes "?10 00000200\r\n")
    -- an address of region 3
    × (after (step (reads 0xc0000000 tables_m)) (below 2 0x7f8) ≡ fault 0xc0000000 (1 ∷ 0xc0000000 ∷ []))
unfolding whole_step
lengths = (refl, refl, refl, refl, refl, refl, refl, refl, refl)

-- BISL2 #2,(R1) to the entry of its own page, whose modify bit is clear
abbrev sets_own_entry : Guest
sets_own_entry = with_register 1 0x890 (guest_m (0xc8 ∷ 0x02 ∷ 0x61 ∷ []) ((entry_4, 0xa0000000) ∷ []))

-- with 11 in frame 5 and 22 in frame 6
abbrev two_frames : List (ℕ × ℕ)
two_frames = (0xa00, 0x00000011) ∷ (0xc00, 0x00000022) ∷ []

-- MOVB (R1),R0; MOVL R2,@#80000090; MOVB (R1),R3, where the longword is the entry of the page at 800
abbrev turns_page : Guest
turns_page =
    let code = 0x90 ∷ 0x61 ∷ 0x50 ∷ 0xd0 ∷ 0x52 ∷ 0x9f ∷ 0x90 ∷ 0x00 ∷ 0x00 ∷ 0x80 ∷ 0x90 ∷ 0x61 ∷ 0x53 ∷ [] in
    with_register 1 0x800 (with_register 2 0xa4000006 (guest_m code ((entry_4, 0xa4000005) ∷ two_frames)))

-- MOVB @#A00,R4; MOVL R0,(R1); MOVB @#A00,R3, where R1 leads to the entry of the page at A00 by a P0 page that maps the P0 table
abbrev turns_page_by_p0 : Guest
turns_page_by_p0 =
    let last = 0x90 ∷ 0x9f ∷ 0x00 ∷ 0x0a ∷ 0x00 ∷ 0x00 ∷ 0x53 ∷ [] in
    let code = 0x90 ∷ 0x9f ∷ 0x00 ∷ 0x0a ∷ 0x00 ∷ 0x00 ∷ 0x54 ∷ 0xd0 ∷ 0x50 ∷ 0x61 ∷ last in
    with_register 0 0xa4000006 (with_register 1 0x894 (guest_m code ((entry_4, 0xa4000000) ∷ two_frames)))

-- MOVB @#E00,R0; BPT, with SP over the entry of the page at E00; and at A00 the handler MOVB @#E00,R1
abbrev pushes_over_entry : Guest
pushes_over_entry =
    let g = guest_m (0x90 ∷ 0x9f ∷ 0x00 ∷ 0x0e ∷ 0x00 ∷ 0x00 ∷ 0x50 ∷ 0x03 ∷ []) [] in
    with_memory ((0xa00, 0x0e009f90) ∷ (0xa04, 0x00510000) ∷ []) (with_register 14 0x800000a0 g)

-- an access violation at E00 in that handler
abbrev violation : Seen
violation = seen Fault (0 ∷ 0 ∷ 0x80000088 ∷ 0x80000a00 ∷ []) 0 (0 ∷ 0xe00 ∷ 0x80000a00 ∷ 0 ∷ [])

-- MOVL R0,(R1) twice, with R0 5, to the page at 800, whose modify bit is clear
abbrev stores_twice : Guest
stores_twice =
    let g = guest_m (0xd0 ∷ 0x50 ∷ 0x61 ∷ 0xd0 ∷ 0x50 ∷ 0x61 ∷ []) ((entry_4, 0xa0000004) ∷ []) in
    with_register 0 5 (with_register 1 0x800 g)

-- and the clock runs
abbrev stores_and_counts : Guest
stores_and_counts = with_clock (record initial_clock { run = true }) stores_twice

-- and the guest has modify faults, by a vector of their own
abbrev stores_with_faults : Guest
stores_with_faults =
    with_memory ((0x43c, 0x80000b00) ∷ []) (record stores_twice { state = record stores_twice.state { modify_faults = true } })

abbrev modify_fault : Seen
modify_fault = seen Fault (5 ∷ 0x800 ∷ 0x800007f0 ∷ 0x80000b00 ∷ []) 0 (4 ∷ 0x800 ∷ 0x200 ∷ 0 ∷ 0xa0000004 ∷ [])

-- tables that are written while they are used, and modify bits
pub own_tables :
    -- its modify bit is set first, and then the entry is written
    (longs_at (after_steps 1 sets_own_entry) (entry_4 ∷ []) ≡ 0xa4000000 ∷ [])
    × (longs_at (after_steps 2 sets_own_entry) (entry_4 ∷ []) ≡ 0xa4000002 ∷ [])
    × (kinds 2 sets_own_entry ≡ SetModify ∷ Plain 0x800014e8 ∷ [])
    -- 11 and then 22 is read
    × (slice_index (after_steps 1 turns_page).state.r 0 ≡ 0x11)
    × (slice_index (after_steps 3 turns_page).state.r 3 ≡ 0x22)
    × (slice_index (after_steps 1 turns_page_by_p0).state.r 4 ≡ 0x11)
    × (slice_index (after_steps 3 turns_page_by_p0).state.r 3 ≡ 0x22)
    -- the handler reads by the entry that BPT's push wrote
    × (after (step (after_steps 2 pushes_over_entry)) (below 4 0x98) ≡ violation)
    -- the bit is set in a step of its own; the clock counts each step
    × (kinds 3 stores_and_counts ≡ SetModify ∷ Plain 0x80001475 ∷ Plain 0x80001478 ∷ [])
    × ((after_steps 2 stores_and_counts).state.clock.icr ≡ 2)
    × (longs_at (after_steps 3 stores_and_counts) (entry_4 ∷ 0x800 ∷ []) ≡ 0xa4000004 ∷ 5 ∷ [])
    -- a guest with modify faults gets one, by vector 3C, and the bit stays clear
    × (after (step stores_with_faults) (0x7f0 ∷ 0x7f4 ∷ 0x7f8 ∷ 0x7fc ∷ entry_4 ∷ []) ≡ modify_fault)
unfolding whole_step
own_tables = (refl, refl, refl, refl, refl, refl, refl, refl, refl, refl, refl, refl)

-- BPT, with the interrupt stack at 80000E00 and these entries of system pages: that of the kernel stack is not valid
abbrev breaks : List (ℕ × ℕ) → Stepped
breaks entries = step (with_memory ((0xc, 0x24000003) ∷ entries) (with_isp 0x80000e00 (guest_m (0x03 ∷ []) [])))

-- BPT with the system control block beyond memory
abbrev breaks_beyond : Stepped
breaks_beyond = let g = guest_m (0x03 ∷ []) [] in step (record g { state = record g.state { scbb = 0x1000 } })

-- stacks and vectors that are not there
pub stacks :
    -- vector 08 on the interrupt stack, at IPL 31
    (after (breaks []) (below 2 0xe00) ≡ seen Fault (0 ∷ 0 ∷ 0x80000df8 ∷ 0x80000a00 ∷ []) 0x041f0000 (0x200 ∷ 0 ∷ []))
    -- and where the interrupt stack is not valid either, the guest stops with code 04
    × ((breaks ((0x18, 0x24000006) ∷ [])).guest.state.halt ≡ Some 4)
    × ((breaks ((0x18, 0x24000006) ∷ [])).kind ≡ Fault)
    -- a vector beyond memory: code 10
    × (breaks_beyond.guest.state.halt ≡ Some 0x10)
unfolding whole_step
stacks = (refl, refl, refl, refl)
