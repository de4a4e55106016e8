-- Worked examples of first touches, by computation: what leaves the sets of present pages as they are, and what empties
-- them. Numbers are hexadecimal in the comments.
use Rattle.std.specs.Prelude.{ℕ, [], refl, ◌∷◌, ◌≡◌, List}
use Rattle.vm_state.specs.ShownSetup.{guest_m, whole_step, with_register}
use Rattle.vm_state.specs.State.{Guest}
use Rattle.vm_state.specs.Touches.{Touching, at_first, touching_reset, touching_steps}

-- the touches of a guest's first steps
abbrev touched : ℕ → Guest → Touching
touched n g = touching_steps n g (record { present = at_first g; count = 0 })

-- with R0 and R2, 800 in R1, and this code at 200 of P0
abbrev in_p0 : (r0 r2 : ℕ) → List ℕ → Guest
in_p0 r0 r2 code = with_register 0 r0 (with_register 1 0x800 (with_register 2 r2 (guest_m code [])))

-- the same at 200 of S
abbrev in_s : (r0 r2 : ℕ) → List ℕ → Guest
in_s r0 r2 code = with_register 15 0x80000200 (in_p0 r0 r2 code)

-- MOVL R0,(R1) and BRB to it
abbrev stores : Guest
stores = in_p0 0 0 (0xd0 ∷ 0x50 ∷ 0x61 ∷ 0x11 ∷ 0xfb ∷ [])

-- with the touches of its first two steps, and then a reset
abbrev stores_reset : Touching
stores_reset =
    let t = touched 2 stores in
    record { present = touching_reset stores t.present; count = t.count }

-- MTPR R2,#P0LR; MOVL (R1),R4; MTPR R0,#P0LR; MOVL (R1),R4; and BRB to the first: two contexts in turn
abbrev turns_about : Guest
turns_about = in_s 16 15 (0xda ∷ 0x52 ∷ 0x09 ∷ 0xd0 ∷ 0x61 ∷ 0x54 ∷ 0xda ∷ 0x50 ∷ 0x09 ∷ 0xd0 ∷ 0x61 ∷ 0x54 ∷ 0x11 ∷ 0xf2 ∷ [])

-- PROBER #0,#4,(R1)
abbrev probes : Guest
probes = in_p0 0 0 (0x0c ∷ 0x00 ∷ 0x04 ∷ 0x61 ∷ [])

pub touches :
    -- a loop that stores to a page that holds no table: its code's page and that one, once each
    ((touched 4 stores).count ≡ 2)
    -- the same after a reset: both are touched anew
    × ((touching_steps 2 stores stores_reset).count ≡ 4)
    -- two contexts in turn, twice: the system page of the code once, and the page at 800 once in each
    × ((touched 10 turns_about).count ≡ 3)
    -- what PROBE asks for isn't touched: its code's page alone
    × ((touched 1 probes).count ≡ 1)
unfolding whole_step
touches = (refl, refl, refl, refl)
