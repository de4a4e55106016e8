-- Worked examples of sensitive instructions and PROBE, by computation. Numbers are hexadecimal in the comments.
use Rattle.std.specs.Prelude.{ℕ, Some, List, [], refl, slice_index, ◌∷◌, ◌≡◌}
use Rattle.vm_state.specs.ShownSetup.{Seen, after, below, entry_4, guest_m, guest_u, seen, tables_m, whole_step, with_memory, with_psl, with_register, with_tables}
use Rattle.vm_state.specs.State.{Guest}
use Rattle.vm_state.specs.Step.{Fault, Plain, Sensitive, step}

abbrev pub with_pcbb : ℕ → Guest → Guest
with_pcbb v g = record g { state = record g.state { pcbb = v } }

abbrev pub with_astlvl : ℕ → Guest → Guest
with_astlvl v g = record g { state = record g.state { astlvl = v } }

abbrev pub with_stacks : List ℕ → Guest → Guest
with_stacks v g = record g { state = record g.state { stacks = v } }

-- all stack pointers but ESP are 0
abbrev pub with_esp : ℕ → Guest → Guest
with_esp v g = with_stacks (0 ∷ v ∷ 0 ∷ 0 ∷ 0 ∷ []) g

-- REI under a PSL with SP 600, where PC 400 and another PSL are; reserved operands go to 1004
abbrev pub returning : (old new : ℕ) → Guest
returning old new =
    let longs = (0x600, 0x400) ∷ (0x604, new) ∷ (0x4418, 0x1004) ∷ [] in
    with_memory longs (with_psl old (with_register 14 0x600 (guest_u (2 ∷ []))))

-- it refuses: a reserved operand
abbrev Refuses : (old new : ℕ) → Type 0
Refuses old new =
    ((step (returning old new)).kind ≡ Fault)
    × (slice_index (step (returning old new)).guest.state.r 15 ≡ 0x1004)

-- from the interrupt stack to executive mode, which ASTLVL 1 has
abbrev to_executive : Guest
to_executive = (step (with_astlvl 1 (with_esp 0x700 (returning 0x041f0000 0x01400000)))).guest

-- R14, ISP and the software levels that are requested
abbrev stacks_and_levels : Guest → List ℕ
stacks_and_levels g = slice_index g.state.r 14 ∷ slice_index g.state.stacks 4 ∷ g.state.sisr ∷ []

-- REI
pub returns :
    -- from user mode to user mode: USP is after the two longwords
    (after (step (returning 0x03c00000 0x03c00000)) [] ≡ seen Sensitive (0 ∷ 0 ∷ 0x608 ∷ 0x400 ∷ []) 0x03c00000 [])
    -- to a more privileged mode
    × Refuses 0x03c00000 0x00000000
    -- to a more privileged previous mode
    × Refuses 0x03c00000 0x03800000
    -- a bit that must be zero
    × Refuses 0x03c00000 0x83c00000
    -- to user mode at IPL 1
    × Refuses 0x00010000 0x03c10000
    -- to user mode on the interrupt stack
    × Refuses 0x041f0000 0x07c00000
    -- to the interrupt stack from another
    × Refuses 0x001f0000 0x04010000
    -- to the interrupt stack at IPL 0
    × Refuses 0x041f0000 0x04000000
    -- to a higher IPL
    × Refuses 0x00010000 0x00020000
    -- R14 is ESP, ISP is kept, and software level 2 is requested
    × (stacks_and_levels to_executive ≡ 0x700 ∷ 0x608 ∷ 4 ∷ [])
unfolding whole_step
returns =
    (refl, (refl, refl), (refl, refl), (refl, refl), (refl, refl), (refl, refl), (refl, refl), (refl, refl), (refl, refl), refl)

-- PROBER #0,#length,(R1), with R1, where the page at 800 has this entry
abbrev prober : (length r1 entry : ℕ) → Guest
prober length r1 entry = with_register 1 r1 (guest_m (0x0c ∷ 0x00 ∷ length ∷ 0x61 ∷ []) ((entry_4, entry) ∷ []))

-- in user mode, with SP 0
abbrev in_user : Guest → Guest
in_user g = with_psl 0x03c00000 (with_register 14 0 g)

-- PROBEW #0,#1,(R1) at 200 of S of the page at 800, whose entry is on a system page that is not valid
abbrev probew_by_none : Guest
probew_by_none =
    let g = with_register 1 0x800 (with_register 15 0x80000200 (guest_m (0x0d ∷ 0x00 ∷ 0x01 ∷ 0x61 ∷ []) [])) in
    with_memory ((0x1c, 0x24000007) ∷ []) (with_tables (record tables_m { p0br = 0x80000e80 }) g)

-- PROBER #0,#1,(R1) and PROBEW #3,#1,(R1), with mapping off
abbrev prober_u : ℕ → Guest
prober_u r1 = with_register 1 r1 (guest_u (0x0c ∷ 0x00 ∷ 0x01 ∷ 0x61 ∷ []))

abbrev probew_u : ℕ → Guest
probew_u r1 = with_register 1 r1 (guest_u (0x0d ∷ 0x03 ∷ 0x01 ∷ 0x61 ∷ []))

-- what a walk's fault pushes
abbrev fault : Seen
fault = seen Fault (0 ∷ 0x800 ∷ 0x800007f0 ∷ 0x80000a00 ∷ []) 0 (6 ∷ 0x800 ∷ 0x80000200 ∷ 0 ∷ [])

-- PROBER and PROBEW
pub probes :
    -- a page that is not valid: sensitive, and accessible
    (after (step (prober 1 0x800 0x20000004)) [] ≡ seen Sensitive (0 ∷ 0x800 ∷ 0x80000800 ∷ 0x204 ∷ []) 0 [])
    -- a valid one: plain
    × (after (step (prober 1 0x800 0xa0000004)) [] ≡ seen (Plain 0x80001224) (0 ∷ 0x800 ∷ 0x80000800 ∷ 0x204 ∷ []) 0 [])
    -- one that nobody may use
    × (after (step (in_user (prober 1 0x800 0x80000004))) [] ≡ seen (Plain 0x00000a24) (0 ∷ 0x800 ∷ 0 ∷ 0x204 ∷ []) 0x03c00004 [])
    -- one whose frame is beyond memory: the code decides
    × (after (step (prober 1 0x800 0xa0000008)) [] ≡ seen Sensitive (0 ∷ 0x800 ∷ 0x80000800 ∷ 0x204 ∷ []) 0 [])
    -- length 0: the base alone
    × (after (step (prober 0 0x7ff 0x80000004)) [] ≡ seen (Plain 0x80001223) (0 ∷ 0x7ff ∷ 0x80000800 ∷ 0x204 ∷ []) 0 [])
    -- two bytes over a page's end, the second of which nobody may use
    × (after (step (prober 2 0x7ff 0x80000004)) [] ≡ seen (Plain 0x80001223) (0 ∷ 0x7ff ∷ 0x80000800 ∷ 0x204 ∷ []) 4 [])
    -- an entry on a system page that is not valid: a fault
    × (after (step probew_by_none) (below 4 0x800) ≡ fault)
    -- with mapping off, beyond memory: not accessible, and sensitive
    × (after (step (prober_u 0x8000)) [] ≡ seen Sensitive (0 ∷ 0x8000 ∷ 0x3000 ∷ 0x204 ∷ []) 4 [])
    -- and the last byte of memory
    × (after (step (probew_u 0x7fff)) [] ≡ seen (Plain 0x0000b226) (0 ∷ 0x7fff ∷ 0x3000 ∷ 0x204 ∷ []) 0 [])
unfolding whole_step
probes = (refl, refl, refl, refl, refl, refl, refl, refl, refl)

-- a process control block at 800: KSP 700, ESP 222, USP 600, R0 7, R1 9, PC 1234, PSL 03C00000, P0 of 16 pages with
-- ASTLVL 3, and P1 of 16
abbrev pub block : List (ℕ × ℕ)
block =
    (0x800, 0x700) ∷ (0x804, 0x222) ∷ (0x80c, 0x600) ∷ (0x810, 7) ∷ (0x814, 9) ∷ (0x848, 0x1234) ∷ (0x84c, 0x03c00000)
    ∷ (0x850, 0x80000000) ∷ (0x854, 0x03000010) ∷ (0x858, 0x7f800000) ∷ (0x85c, 0x801ffff0) ∷ []

-- LDPCTX over that block, with other longwords, under a PSL, with R0 1, R1 2 and SP 780
abbrev pub loading : List (ℕ × ℕ) → ℕ → Guest
loading longs psl =
    let g = with_register 0 1 (with_register 1 2 (with_register 14 0x780 (guest_u (6 ∷ [])))) in
    with_pcbb 0x800 (with_memory longs (with_memory block (with_psl psl g)))

-- with another longword of the block; reserved operands go to 1004
abbrev loading_other : (place long : ℕ) → Guest
loading_other place long = loading ((place, long) ∷ (0x4418, 0x1004) ∷ []) 0

-- a reserved operand, which loads nothing
abbrev reserved : Seen
reserved = seen Fault (1 ∷ 2 ∷ 0x778 ∷ 0x1004 ∷ []) 0 (0x200 ∷ 0 ∷ [])

-- the block's PC and PSL, for REI
abbrev pushed : List ℕ
pushed = 0x1234 ∷ 0x03c00000 ∷ []

-- P0BR, P0LR, P1BR, P1LR and ASTLVL
abbrev regions_of : Guest → List ℕ
regions_of g =
    let t = g.state.tables in
    t.p0br ∷ t.p0lr ∷ t.p1br ∷ t.p1lr ∷ g.state.astlvl ∷ []

-- SVPCTX under a PSL, with R0 7, R1 9, and PC 1234 and PSL 03C00000 at SP 780
abbrev pub saving : ℕ → Guest
saving psl =
    let pointers = 0x111 ∷ 0x222 ∷ 0x333 ∷ 0x444 ∷ 0x700 ∷ [] in
    let longs = (0x780, 0x1234) ∷ (0x784, 0x03c00000) ∷ [] in
    let g = with_register 0 7 (with_register 1 9 (with_register 14 0x780 (guest_u (7 ∷ [])))) in
    with_stacks pointers (with_pcbb 0x800 (with_memory longs (with_psl psl g)))

-- the longwords of KSP, ESP, SSP, USP, R0, R1, PC and PSL in the block; and what is saved there with a KSP
abbrev places : List ℕ
places = 0x800 ∷ 0x804 ∷ 0x808 ∷ 0x80c ∷ 0x810 ∷ 0x814 ∷ 0x848 ∷ 0x84c ∷ []

abbrev saved : ℕ → List ℕ
saved ksp = ksp ∷ 0x222 ∷ 0x333 ∷ 0x444 ∷ 7 ∷ 9 ∷ 0x1234 ∷ 0x03c00000 ∷ []

-- SVPCTX and LDPCTX
pub contexts :
    -- SVPCTX: KSP is R14 after the pops, and it goes on on the interrupt stack, at IPL 1
    (after (step (saving 0)) places ≡ seen Sensitive (7 ∷ 9 ∷ 0x700 ∷ 0x201 ∷ []) 0x04010000 (saved 0x788))
    × ((step (saving 0)).guest.state.stacks ≡ 0x788 ∷ 0x222 ∷ 0x333 ∷ 0x444 ∷ 0x700 ∷ [])
    -- on the interrupt stack: KSP is its register, and R14 stays after the pops
    × (after (step (saving 0x041f0000)) places ≡ seen Sensitive (7 ∷ 9 ∷ 0x788 ∷ 0x201 ∷ []) 0x041f0000 (saved 0x111))
    -- LDPCTX: all of it is loaded, R14 is kept as ISP, and PC and PSL are pushed on the kernel stack
    × (after (step (loading [] 0x041f0000)) (below 2 0x700) ≡ seen Sensitive (7 ∷ 9 ∷ 0x6f8 ∷ 0x201 ∷ []) 0x001f0000 pushed)
    × ((step (loading [] 0x041f0000)).guest.state.stacks ≡ 0x700 ∷ 0x222 ∷ 0 ∷ 0x600 ∷ 0x780 ∷ [])
    × (regions_of (step (loading [] 0x041f0000)).guest ≡ 0x80000000 ∷ 16 ∷ 0x7f800000 ∷ 0x1ffff0 ∷ 3 ∷ [])
    -- and with the interrupt stack not in use, ISP stays
    × (after (step (loading [] 0)) (below 2 0x700) ≡ seen Sensitive (7 ∷ 9 ∷ 0x6f8 ∷ 0x201 ∷ []) 0 pushed)
    × ((step (loading [] 0)).guest.state.stacks ≡ 0x700 ∷ 0x222 ∷ 0 ∷ 0x600 ∷ 0 ∷ [])
    -- refused: P0BR that is no system address
    × (after (step (loading_other 0x850 0)) (below 2 0x780) ≡ reserved)
    -- refused: P0LR of 8193
    × (after (step (loading_other 0x854 0x03002001)) (below 2 0x780) ≡ reserved)
    -- refused: ASTLVL 5
    × (after (step (loading_other 0x854 0x05000010)) (below 2 0x780) ≡ reserved)
    -- refused: bit 27 beside P0LR
    × (after (step (loading_other 0x854 0x0b000010)) (below 2 0x780) ≡ reserved)
    -- refused: bit 22 beside P0LR
    × (after (step (loading_other 0x854 0x03400010)) (below 2 0x780) ≡ reserved)
    -- refused: P1BR that is not a multiple of 4
    × (after (step (loading_other 0x858 0x7f800002)) (below 2 0x780) ≡ reserved)
    -- refused: P1LR that is too small
    × (after (step (loading_other 0x85c 0)) (below 2 0x780) ≡ reserved)
    -- refused: bit 22 beside P1LR
    × (after (step (loading_other 0x85c 0x005ffff0)) (below 2 0x780) ≡ reserved)
    -- a push beyond memory stops the guest, which loads nothing
    × (after (step (loading ((0x800, 0x8008) ∷ []) 0)) [] ≡ seen Fault (1 ∷ 2 ∷ 0x780 ∷ 0x200 ∷ []) 0 [])
    -- a block that ends beyond memory stops the guest
    × ((step (with_pcbb 0x7fa4 (loading [] 0))).guest.state.halt ≡ Some 0x10)
    × ((step (with_pcbb 0x7fa4 (loading [] 0))).kind ≡ Fault)
unfolding whole_step
contexts = (refl, refl, refl, refl, refl, refl, refl, refl, refl, refl, refl, refl, refl, refl, refl, refl, refl, refl, refl)
