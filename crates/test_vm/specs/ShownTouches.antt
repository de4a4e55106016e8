-- Worked examples of the sets of present pages, by computation: what is added, what is counted, and what stays. Numbers
-- are hexadecimal in the comments.
use Rattle.std.specs.Prelude.{ℕ, ◌≡◌, List, [], ◌∷◌, refl, true, false, Result, Ok, Err, Some}
use Rattle.vax_arch.specs.declared.mode.Intent.TheVariants.{Read}
use Rattle.vax_table.specs.Interaction.{Absent, At, Test, Trouble}
use Rattle.vax_table.specs.declared.act.Refusal.TheVariants.{ReservedOperand}
use Rattle.vm_slots.specs.Held.{is_same}
use Rattle.vm_slots.specs.declared.context.Context.{Context}
use Rattle.vm_state.specs.ShownSetup.{entry_4, guest_m, guest_u, whole_step, with_register}
use Rattle.vm_state.specs.State.{Guest}
use Rattle.vm_state.specs.Step.{Touched, pages_touched, step}
use Rattle.vm_state.specs.Touches.{Present, Process, Touching, at_first, brought, emptied, lacked_all, lacked_one, no_pages, touching_steps}

-- contexts that differ in P0BR, and one with present pages
abbrev under : ℕ → Context
under p0br = record { mapped = true; p0br = p0br; p0lr = 16; p1br = 0; p1lr = 0x200000 }

abbrev with_pages : ℕ → List ℕ → Process
with_pages p0br pages = record { context = under p0br; pages = pages }

-- page 4 is present in the context in front, and so is the first system page
abbrev present_4 : Touching
present_4 = record { present = record { system = 0x400000 ∷ []; processes = with_pages 1 (4 ∷ []) ∷ [] }; count = 0 }

-- each of the five registers tells two contexts apart
pub alike :
    (is_same (under 1) (under 1) ≡ true)
    × (is_same (under 1) (record (under 1) { mapped = false }) ≡ false)
    × (is_same (under 1) (record (under 1) { p0br = 2 }) ≡ false)
    × (is_same (under 1) (record (under 1) { p0lr = 15 }) ≡ false)
    × (is_same (under 1) (record (under 1) { p1br = 4 }) ≡ false)
    × (is_same (under 1) (record (under 1) { p1lr = 0x1fffff }) ≡ false)
alike = (refl, refl, refl, refl, refl, refl)

-- the contexts of P0BRs 1 to 4, each with a page
abbrev first : Process
first = with_pages 1 (10 ∷ [])

abbrev second : Process
second = with_pages 2 (20 ∷ [])

abbrev third : Process
third = with_pages 3 (30 ∷ [])

abbrev fourth : Process
fourth = with_pages 4 (40 ∷ [])

-- the first system page, beside two of them
abbrev two_present : Present
two_present = record { system = 0x400000 ∷ []; processes = third ∷ first ∷ [] }

-- the list of contexts
pub contexts :
    -- a fifth comes to the front: the last goes, and the three others stay
    (brought (under 5) (fourth ∷ third ∷ second ∷ first ∷ []) ≡ with_pages 5 [] ∷ fourth ∷ third ∷ second ∷ [])
    -- one that is held comes to the front with its pages, and is there once
    × (brought (under 2) (third ∷ second ∷ first ∷ []) ≡ second ∷ third ∷ first ∷ [])
    -- what empties the sets leaves the contexts in their order
    × (emptied two_present ≡ record { system = []; processes = no_pages (under 3) ∷ no_pages (under 1) ∷ [] })
contexts = (refl, refl, refl)

-- what a page counts that has no byte
pub lacking :
    -- one that isn't present: 1, and it isn't present afterwards
    (lacked_one present_4 5 ≡ record present_4 { count = 1 })
    -- so that each touch counts
    × ((lacked_all (5 ∷ 5 ∷ 5 ∷ []) present_4).count ≡ 3)
    -- one that is present, as one that may be read and not written: nothing
    × (lacked_one present_4 4 ≡ present_4)
    × (lacked_one present_4 0x400000 ≡ present_4)
lacking = (refl, refl, refl, refl)

-- the pages of an instruction that asked for bytes of pages 1 and 4
abbrev pages_by : Result ℕ Trouble → Touched
pages_by outcome = pages_touched {A = ℕ} (0x200 ∷ 0x201 ∷ 0x800 ∷ []) outcome

-- which pages of an instruction are found, and which is lacking
pub troubles :
    -- with trouble at the last byte of those that it asked for: that one's page is lacking
    (pages_by (Err (At Absent Read 0x800)) ≡ record { found = 1 ∷ 1 ∷ []; lacking = 4 ∷ [] })
    -- refused by a test: each byte was found
    × (pages_by (Err (Test ReservedOperand)) ≡ record { found = 1 ∷ 1 ∷ 4 ∷ []; lacking = [] })
    × (pages_by (Ok 7) ≡ record { found = 1 ∷ 1 ∷ 4 ∷ []; lacking = [] })
troubles = (refl, refl, refl)

-- a guest with NOP at 200
abbrev nop : Guest
nop = guest_u (1 ∷ [])

-- steps that execute nothing touch no page
pub untouched :
    -- NOP: the page of its code
    ((step nop).touched ≡ record { found = 1 ∷ []; lacking = [] })
    -- the guest has stopped
    × ((step (record nop { state = record nop.state { halt = Some 6 } })).touched ≡ record { found = []; lacking = [] })
    -- it waits
    × ((step (record nop { state = record nop.state { waiting = true } })).touched ≡ record { found = []; lacking = [] })
    -- an interrupt of software level 3 is taken
    × ((step (record nop { state = record nop.state { sisr = 8 } })).touched ≡ record { found = []; lacking = [] })
unfolding whole_step
untouched = (refl, refl, refl, refl)

-- the touches of a guest's first steps
abbrev touched : ℕ → Guest → ℕ
touched n g = (touching_steps n g (record { present = at_first g; count = 0 })).count

-- with 800 in R1 and this code at 200 of P0, and P0's entry of the page at 800. At 80000A00, where each vector goes, are
-- ADDL2 #8,SP and REI.
abbrev returning : List ℕ → ℕ → Guest
returning code entry = with_register 1 0x800 (guest_m code ((entry_4, entry) ∷ (0xa00, 0x025e08c0) ∷ []))

-- of runs
pub runs :
    -- MOVL (R1),R0 of a page that isn't valid, twice, and its handler between: the code's page, twice that one, and the
    -- handler's
    (touched 4 (returning (0xd0 ∷ 0x61 ∷ 0x50 ∷ []) 0x20000004) ≡ 4)
    -- MOVL (R1),(R1) of a page that may only be read: it was found when it was read, and the write counts nothing
    × (touched 1 (returning (0xd0 ∷ 0x61 ∷ 0x61 ∷ []) 0xfc000004) ≡ 2)
unfolding whole_step
runs = (refl, refl)
