-- Worked examples of steps with mapping off, by computation. Numbers are hexadecimal in the comments.
use Rattle.std.specs.Prelude.{ℕ, Some, List, [], codes, refl, slice_index, true, ◌+◌, ◌∷◌, ◌≡◌}
use Rattle.vm_clock.specs.Clock.{initial_clock}
use Rattle.vm_state.specs.ShownSetup.{Seen, after, after_steps, below, guest_u, kinds, seen, whole_step, with_clock, with_isp, with_memory, with_psl, with_register}
use Rattle.vm_state.specs.State.{Guest}
use Rattle.vm_state.specs.Step.{Fault, Idle, Interrupt, Sensitive, Stopped, step}

-- with this longword at this offset of the system control block, and this code
abbrev by_vector : (offset vector : ℕ) → List ℕ → Guest
by_vector offset vector code = with_memory ((0x4400 + offset, vector) ∷ []) (guest_u code)

-- in user mode, with SP 600
abbrev in_user : Guest → Guest
in_user g = with_psl 0x03c00000 (with_register 14 0x600 g)

-- BPT and CHMK #5
abbrev bpt : List ℕ
bpt = 0x03 ∷ []

abbrev chmk : List ℕ
chmk = 0xbc ∷ 0x05 ∷ []

abbrev chmk_of_user : Guest
chmk_of_user = in_user (guest_u chmk)

-- CHMU #-5 in user mode
abbrev chmu : Guest
chmu = in_user (by_vector 0x4c 0x1008 (0xbf ∷ 0x8f ∷ 0xfb ∷ 0xff ∷ []))

-- CHMK (R0)+, with R0 600, on the interrupt stack
abbrev chmk_on_is : Guest
chmk_on_is = with_isp 0x2000 (with_psl 0x041f0000 (with_register 14 0x2000 (with_register 0 0x600 (guest_u (0xbc ∷ 0x80 ∷ [])))))

-- MTPR #0,#12 in user mode
abbrev mtpr_of_user : Guest
mtpr_of_user = in_user (by_vector 0x10 0x1004 (0xda ∷ 0x00 ∷ 0x12 ∷ []))

-- CHMS #5
abbrev chms : Guest
chms = by_vector 0x48 0x1004 (0xbe ∷ 0x05 ∷ [])

-- BPT with a vector that leads to the interrupt stack
abbrev bpt_to_is : Guest
bpt_to_is = with_isp 0x2000 (by_vector 0x2c 0x1001 bpt)

-- an exception by vector 1004, with PC and PSL on the stack
abbrev exception : Seen
exception = seen Fault (0 ∷ 0 ∷ 0x2ff8 ∷ 0x1004 ∷ []) 0 (0x200 ∷ 0 ∷ [])

-- exceptions with mapping off
pub unmapped :
    -- BPT
    (after (step (by_vector 0x2c 0x1004 bpt)) (below 2 0x3000) ≡ exception)
    -- CHMS in kernel mode stays there, by its own vector
    × (after (step chms) (below 3 0x3000) ≡ seen Sensitive (0 ∷ 0 ∷ 0x2ff4 ∷ 0x1004 ∷ []) 0 (5 ∷ 0x202 ∷ 0 ∷ []))
    -- CHMK in user mode: USP is kept
    × (after (step chmk_of_user) (below 3 0x3000) ≡ seen Sensitive (0 ∷ 0 ∷ 0x2ff4 ∷ 0x1000 ∷ []) 0x00c00000 (5 ∷ 0x202 ∷ 0x03c00000 ∷ []))
    × (slice_index (step chmk_of_user).guest.state.stacks 3 ≡ 0x600)
    -- CHMU in user mode stays on its stack, with its code sign-extended
    × (after (step chmu) (below 3 0x600) ≡ seen Sensitive (0 ∷ 0 ∷ 0x5f4 ∷ 0x1008 ∷ []) 0x03c00000 (0xfffffffb ∷ 0x204 ∷ 0x03c00000 ∷ []))
    -- a vector whose low bits are 2 stops the guest with code 07, and all else stays
    × (after (step (by_vector 0x2c 0x1002 bpt)) [] ≡ seen Fault (0 ∷ 0 ∷ 0x3000 ∷ 0x200 ∷ []) 0 [])
    × ((step (by_vector 0x2c 0x1002 bpt)).shown ≡ codes "?07 00000200\r\n")
    -- a vector whose low bits are 1: the interrupt stack, at IPL 31
    × (after (step bpt_to_is) (below 2 0x2000) ≡ seen Fault (0 ∷ 0 ∷ 0x1ff8 ∷ 0x1000 ∷ []) 0x041f0000 (0x200 ∷ 0 ∷ []))
    -- which CHM does not have: it stops the guest with code 07, and is of kind sensitive
    × ((step (by_vector 0x40 0x1001 chmk)).guest.state.halt ≡ Some 7)
    × ((step (by_vector 0x40 0x1001 chmk)).kind ≡ Sensitive)
    -- CHM on the interrupt stack stops the guest with code 0A, and its operand changed nothing
    × (after (step chmk_on_is) [] ≡ seen Sensitive (0x600 ∷ 0 ∷ 0x2000 ∷ 0x200 ∷ []) 0x041f0000 [])
    -- an opcode that there is not
    × (after (step (by_vector 0x10 0x1004 (0xff ∷ []))) (below 2 0x3000) ≡ exception)
    -- XFC
    × (after (step (by_vector 0x14 0x1004 (0xfc ∷ []))) (below 2 0x3000) ≡ exception)
    -- a literal that is written
    × (after (step (by_vector 0x1c 0x1004 (0xd0 ∷ 0x01 ∷ 0x01 ∷ []))) (below 2 0x3000) ≡ exception)
    -- BISPSW of a bit above 7
    × (after (step (by_vector 0x18 0x1004 (0xb8 ∷ 0x8f ∷ 0x00 ∷ 0x01 ∷ []))) (below 2 0x3000) ≡ exception)
    -- a privileged instruction
    × (after (step mtpr_of_user) (below 2 0x3000) ≡ seen Fault (0 ∷ 0 ∷ 0x2ff8 ∷ 0x1004 ∷ []) 0x00c00000 (0x200 ∷ 0x03c00000 ∷ []))
unfolding whole_step
unmapped = (refl, refl, refl, refl, refl, refl, refl, refl, refl, refl, refl, refl, refl, refl, refl, refl)

-- WAIT, with a clock that wraps at the tenth step
abbrev waits : Guest
waits =
    let running = record initial_clock { run = true; enable = true; nicr = 0xfffffff6; icr = 0xfffffff6 } in
    with_clock running (guest_u (0xfd ∷ 0x01 ∷ []))

-- MTPR #3,#SIRR
abbrev requests : Guest
requests = by_vector 0x8c 0x1004 (0xda ∷ 0x03 ∷ 0x14 ∷ [])

-- MFPR of MEMSIZE to R0; and of UPTIME after a NOP
abbrev asks_memory : Guest
asks_memory = guest_u (0xdb ∷ 0x8f ∷ 0xc9 ∷ 0x00 ∷ 0x00 ∷ 0x00 ∷ 0x50 ∷ [])

abbrev asks_time : Guest
asks_time = guest_u (0x01 ∷ 0xdb ∷ 0x8f ∷ 0xca ∷ 0x00 ∷ 0x00 ∷ 0x00 ∷ 0x50 ∷ [])

-- HALT
abbrev halts : Guest
halts = guest_u (0x00 ∷ [])

-- interrupts and processor registers
pub registers_and_interrupts :
    -- the clock's interrupt pushes the PC after WAIT
    (after (step (after_steps 9 waits)) (below 2 0x3000) ≡ seen Interrupt (0 ∷ 0 ∷ 0x2ff8 ∷ 0x1000 ∷ []) 0x00180000 (0x202 ∷ 0 ∷ []))
    × (kinds 10 waits ≡ Sensitive ∷ Idle ∷ Idle ∷ Idle ∷ Idle ∷ Idle ∷ Idle ∷ Idle ∷ Idle ∷ Interrupt ∷ [])
    -- the request, and then its interrupt
    × (after (step (after_steps 1 requests)) (below 2 0x3000) ≡ seen Interrupt (0 ∷ 0 ∷ 0x2ff8 ∷ 0x1004 ∷ []) 0x00030000 (0x203 ∷ 0 ∷ []))
    × ((after_steps 2 requests).state.sisr ≡ 0)
    × ((after_steps 1 requests).state.sisr ≡ 8)
    -- its bytes, and the steps so far
    × (slice_index (after_steps 1 asks_memory).state.r 0 ≡ 0x8000)
    × (slice_index (after_steps 2 asks_time).state.r 0 ≡ 2)
    -- MTPR of 2 to MAPEN: a reserved operand
    × (after (step (by_vector 0x18 0x1004 (0xda ∷ 0x02 ∷ 0x38 ∷ []))) (below 2 0x3000) ≡ exception)
    -- HALT stops after itself
    × (after (step halts) [] ≡ seen Sensitive (0 ∷ 0 ∷ 0x3000 ∷ 0x201 ∷ []) 0 [])
    -- and a stopped guest stays as it is
    × (kinds 2 halts ≡ Sensitive ∷ Stopped ∷ [])
    × ((after_steps 2 halts).state.steps ≡ 1)
unfolding whole_step
registers_and_interrupts = (refl, refl, refl, refl, refl, refl, refl, refl, refl, refl, refl)
