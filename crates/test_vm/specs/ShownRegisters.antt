-- Worked examples of registers of the processor, by computation: what a write asks for, and bits that are set or clear
-- already. Numbers are hexadecimal in the comments.
use Rattle.std.specs.Prelude.{ℕ, ◌≡◌, refl, true, false}
use Rattle.vm_clock.specs.Clock.{ClockState, after_iccs_write, iccs_of, initial_clock, wraps_next}
use Rattle.vm_state.specs.Contexts.{off_interrupt_stack, on_interrupt, on_interrupt_stack}
use Rattle.vm_state.specs.Registers.{register_row, with_request}
use Rattle.vm_state.specs.Sensitive.{returned_to}
use Rattle.vm_state.specs.ShownSetup.{state_u}
use Rattle.vm_state.specs.State.{State}
use Rattle.vm_state.specs.declared.register.RegisterEffect.{RegisterEffect}
use Rattle.vm_state.specs.declared.register.RegisterEffect.TheVariants.{Done, Remap, Show}
use Rattle.vm_state.specs.declared.register.RegisterEffect.TheVariants as effects
use Rattle.vm_state.specs.declared.register.Register.{Register}
use Rattle.vm_state.specs.declared.register.Register.TheVariants.{Kcall, Mapen, P0br, P0lr, P1br, P1lr, Pcbb, Sbr, Slr, Tbia, Txdb}

abbrev effect_of : Register → ℕ → RegisterEffect
effect_of register v = (register_row register).effect v

-- which registers ask for real tables anew
pub asked_for :
    (effect_of P0br 0x80000000 ≡ Remap)
    × (effect_of P0lr 16 ≡ Remap)
    × (effect_of P1br 4 ≡ Remap)
    × (effect_of P1lr 0x200000 ≡ Remap)
    × (effect_of Sbr 4 ≡ Remap)
    × (effect_of Slr 16 ≡ Remap)
    × (effect_of Mapen 1 ≡ Remap)
    -- a block isn't loaded yet, and the translation buffer holds nothing old
    × (effect_of Pcbb 0x800 ≡ Done)
    × (effect_of Tbia 0 ≡ Done)
    -- a byte is shown, and a packet is taken
    × (effect_of Txdb 0x141 ≡ Show 0x41)
    × (effect_of Kcall 0x800 ≡ effects.Kcall 0x800)
asked_for = (refl, refl, refl, refl, refl, refl, refl, refl, refl, refl, refl)

-- a level that is requested already
pub requests :
    (with_request 3 0 ≡ 8)
    × (with_request 3 8 ≡ 8)
    × (with_request 3 0x16 ≡ 0x1e)
    × (with_request 0 0x16 ≡ 0x16)
requests = (refl, refl, refl, refl)

-- REI to kernel mode with ASTLVL 0, with such software levels requested
abbrev returned_with : ℕ → State
returned_with sisr = returned_to (record state_u { astlvl = 0; sisr = sisr }) (record { pc = 0x400; psl = 0x001f0000 })

pub returns :
    -- level 2 is requested, beside others, and once
    ((returned_with 0).sisr ≡ 4)
    × ((returned_with 8).sisr ≡ 0xc)
    × ((returned_with 4).sisr ≡ 4)
    × ((returned_with 0xc).sisr ≡ 0xc)
returns = (refl, refl, refl, refl)

-- the bit of the interrupt stack: set or clear already, all of the PSL stays
pub interrupt_stack :
    (off_interrupt_stack 0x041f0005 ≡ 0x001f0005)
    × (off_interrupt_stack 0x03c00005 ≡ 0x03c00005)
    × (on_interrupt_stack 0x001f0005 ≡ 0x041f0005)
    × (on_interrupt_stack 0x041f0005 ≡ 0x041f0005)
interrupt_stack = (refl, refl, refl, refl)

-- SVPCTX goes on at IPL 1, or at a greater one that it has
pub levels :
    ((on_interrupt (record state_u { psl = 0x00000000 })).psl ≡ 0x04010000)
    × ((on_interrupt (record state_u { psl = 0x00010000 })).psl ≡ 0x04010000)
    × ((on_interrupt (record state_u { psl = 0x00050000 })).psl ≡ 0x04050000)
levels = (refl, refl, refl)

-- a clock at such a count, with its interrupt and error bits set, after a write of ICCS that clears the error
abbrev cleared_at : ℕ → ClockState
cleared_at icr =
    after_iccs_write (record initial_clock { interrupt = true; error = true; nicr = 0xffffffff; icr = icr }) 0x80000020

-- the clock
pub clock :
    -- its error, cleared by bit 31 before the step that wraps with the interrupt bit set, is an error again
    (iccs_of (cleared_at 0xffffffff) ≡ 0x80000080)
    -- cleared, where the step doesn't wrap
    × (iccs_of (cleared_at 7) ≡ 0x80)
    -- one that is stopped doesn't wrap at the next tick, though its count is at its end
    × (wraps_next (record initial_clock { run = true; icr = 0xffffffff }) ≡ true)
    × (wraps_next (record initial_clock { run = false; icr = 0xffffffff }) ≡ false)
unfolding after_iccs_write
clock = (refl, refl, refl, refl)
