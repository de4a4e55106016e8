-- Worked examples at borders, by computation: the end of memory, pages without an entry, what PROBE asks for, and the
-- longest instruction. Numbers are hexadecimal in the comments.
use Rattle.std.specs.Prelude.{ℕ, ◌≡◌, ◌++◌, List, [], ◌∷◌, refl, true, false, None, Some}
use Rattle.vax_arch.specs.Walk.{entry_at, is_past, lookup, mapped_entry, process_entry, system_entry}
use Rattle.vax_arch.specs.declared.walk.Lookup.TheVariants.{Beyond, Direct, Fails, Found}
use Rattle.vax_table.specs.Branches.{added_and_compared}
use Rattle.vax_table.specs.Probing.{last_of}
use Rattle.vm_state.specs.ShownSetup.{after, guest_m, guest_u, seen, tables_m, whole_step, with_register}
use Rattle.vm_state.specs.State.{Guest}
use Rattle.vm_state.specs.Step.{Plain, step}

-- an entry at the end of a memory of 1000 bytes
pub ends :
    -- its last longword
    (is_past 0x1000 0xffc 4 ≡ false)
    × (is_past 0x1000 0xffd 4 ≡ true)
    × (is_past 0x1000 0x1000 4 ≡ true)
    -- the system entries of two pages that lie on its two sides
    × (lookup 0x1000 [] (record tables_m { sbr = 0xff0 }) 0x400003 ≡ Found 0xffc None)
    × (lookup 0x1000 [] (record tables_m { sbr = 0xff0 }) 0x400004 ≡ Beyond)
unfolding lookup mapped_entry process_entry system_entry
ends = (refl, refl, refl, refl, refl)

-- what stands for the entry of a page: with mapping off a valid one of its own frame, open to all and modified
pub entries :
    (entry_at (4 ∷ 0 ∷ 0 ∷ 0xa0 ∷ []) (Direct 5) ≡ Some 0xa4000005)
    × (entry_at (4 ∷ 0 ∷ 0 ∷ 0xa0 ∷ []) (Found 0 None) ≡ Some 0xa0000004)
    × (entry_at (4 ∷ 0 ∷ 0 ∷ 0xa0 ∷ []) (Fails false 1) ≡ None)
    × (entry_at (4 ∷ 0 ∷ 0 ∷ 0xa0 ∷ []) Beyond ≡ None)
entries = (refl, refl, refl, refl)

-- the place of P0's entry 3, which maps 600
abbrev entry_3 : ℕ
entry_3 = 0x8c

-- PROBER of `bytes` bytes from 800 on, where nobody may use the page before it
abbrev probing : ℕ → Guest
probing bytes = with_register 1 0x800 (guest_m (0x0c ∷ 0x00 ∷ bytes ∷ 0x61 ∷ []) ((entry_3, 0x80000003) ∷ []))

-- what PROBE asks for
pub last_bytes :
    (last_of 0x800 0 ≡ 0x800)
    × (last_of 0x800 1 ≡ 0x800)
    × (last_of 0x800 2 ≡ 0x801)
    -- of length 0 the base alone, and not the byte before it
    × (after (step (probing 0)) [] ≡ seen (Plain 0x80001224) (0 ∷ 0x800 ∷ 0x80000800 ∷ 0x204 ∷ []) 0 [])
    × (after (step (probing 1)) [] ≡ seen (Plain 0x80001224) (0 ∷ 0x800 ∷ 0x80000800 ∷ 0x204 ∷ []) 0 [])
unfolding whole_step
last_bytes = (refl, refl, refl, refl, refl)

-- ACBL, whose limit, step and index are all at 304, by three operands of six bytes, with R1 1
abbrev longest_code : List ℕ
longest_code =
    let operand = 0x41 ∷ 0xe2 ∷ 0 ∷ 3 ∷ 0 ∷ 0 ∷ [] in
    0xf1 ∷ [] ++ operand ++ operand ++ operand ++ 0 ∷ 0 ∷ []

-- the longest instruction has 21 bytes
pub longest : (step (with_register 1 1 (guest_u longest_code))).kind ≡ Plain 0x34d4
unfolding whole_step added_and_compared
longest = refl
