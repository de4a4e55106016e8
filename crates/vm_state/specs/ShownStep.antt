-- Worked examples of a step, by computation: faults, traps and protection. Numbers are hexadecimal in the comments.
use Rattle.std.specs.Prelude.{ℕ, [], refl, ◌∷◌, ◌≡◌}
use Rattle.vm_state.specs.ShownSetup.{Seen, after, below, entry_4, guest_m, seen, whole_step, with_psl, with_register}
use Rattle.vm_state.specs.State.{Guest}
use Rattle.vm_state.specs.Step.{Fault, Plain, step}

-- DIVL2 #0,R1 with R1 7
abbrev divides : Guest
divides = with_register 1 7 (guest_m (0xc6 ∷ 0x00 ∷ 0x51 ∷ []) [])

-- MOVL (R0)+,(R1), with R0 300, to the page at 800, which is not valid
abbrev stores : Guest
stores = with_register 0 0x300 (with_register 1 0x800 (guest_m (0xd0 ∷ 0x80 ∷ 0x61 ∷ []) ((entry_4, 0x20000004) ∷ [])))

-- MOVL (R1),R0 under a PSL, with SP 0, from the page at 800, which has this entry and holds 12345678
abbrev reads : (psl entry : ℕ) → Guest
reads psl entry =
    let g = guest_m (0xd0 ∷ 0x61 ∷ 0x50 ∷ []) ((entry_4, entry) ∷ (0x800, 0x12345678) ∷ []) in
    with_psl psl (with_register 1 0x800 (with_register 14 0 g))

-- an access violation at 800 in user mode
abbrev violation : Seen
violation = seen Fault (0 ∷ 0x800 ∷ 0x800007f0 ∷ 0x80000a00 ∷ []) 0x00c00000 (0 ∷ 0x800 ∷ 0x200 ∷ 0x03c00000 ∷ [])

-- an instruction and its first trouble
pub faults :
    -- plain, and its trap of type 2 is taken after it, though IV is clear
    (after (step divides) (below 3 0x800) ≡ seen (Plain 0x80000c59) (0 ∷ 7 ∷ 0x800007f4 ∷ 0x80000a00 ∷ []) 0 (2 ∷ 0x203 ∷ 2 ∷ []))
    -- R0 is as before, and the parameter says that the page was to be written
    × (after (step stores) (below 4 0x800) ≡ seen Fault (0x300 ∷ 0x800 ∷ 0x800007f0 ∷ 0x80000a00 ∷ []) 0 (4 ∷ 0x800 ∷ 0x200 ∷ 0 ∷ []))
    -- executive mode may read a page of KW, since kernel mode may
    × (after (step (reads 0x01400000 0x94000004)) [] ≡ seen (Plain 0x123462e8) (0x12345678 ∷ 0x800 ∷ 0 ∷ 0x203 ∷ []) 0x01400000 [])
    -- user mode may not, also where the page is not valid: an access violation
    × (after (step (reads 0x03c00000 0x14000004)) (below 4 0x800) ≡ violation)
    × (after (step (reads 0x03c00000 0x94000004)) (below 4 0x800) ≡ violation)
unfolding whole_step
faults = (refl, refl, refl, refl, refl)
