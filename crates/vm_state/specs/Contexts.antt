-- Process contexts: LDPCTX and SVPCTX over the process control block, 96 bytes at PCBB
-- (VAX Architecture Reference Manual: process structure; the corner cases are profile).
use Rattle.std.specs.Prelude.{ℕ, zero, suc, ◌+◌, ◌-◌, ◌/◌, ◌%◌, ◌^◌, ◌==◌, ◌||◌, Bool, not, if◌then◌else◌, List, [], ◌∷◌, ◌++◌, length, take, slice_index, slice_set, Result, Ok, Err}
use Rattle.vv_base.specs.Bytes.{long_at}
use Rattle.vax_arch.specs.Fields.{ipl_of, is_on_interrupt_stack}
use Rattle.vax_arch.specs.Walk.{Tables, is_past}
use Rattle.vax_arch.specs.declared.mode.Intent.TheVariants.{Read}
use Rattle.vax_arch.specs.declared.mode.Mode.TheVariants.{Kernel}
use Rattle.vax_table.specs.Operand.{plus}
use Rattle.vax_table.specs.Interaction.{Done, Interaction, Touch, Trouble, outcome}
use Rattle.vm_state.specs.Pushes.{Faulty, Homes, PastMemory, Walked, frames_pushed, pointer_after, push_walked, pushed}
use Rattle.vm_state.specs.Registers.{allows, with_ipl}
use Rattle.vm_state.specs.Sensed.{Does, Faults, LacksMemory, Sensed, troubled}
use Rattle.vm_state.specs.State.{Guest, State, pointer_of, with_pointer_kept}
use Rattle.vm_state.specs.Translation.{frame_at, long_stored, space_of}
use Rattle.vm_state.specs.declared.exception.Exc.TheVariants as excs
use Rattle.vm_state.specs.declared.register.Register.TheVariants.{Astlvl, P0br, P0lr, P1br, P1lr}

-- The block's longwords: KSP, ESP, SSP and USP at 0 to 12, R0 to R11, AP and FP at 16 to 68, PC at 72, PSL at 76. Then P0BR at
-- 80, P0LR with ASTLVL in bits 26:24 at 84, P1BR at 88, P1LR at 92.
abbrev pub block_size : ℕ
block_size = 96

abbrev pub control_block_long : Guest → ℕ → ℕ
control_block_long g k = long_at g.memory (g.state.pcbb + k)

-- `count` longwords of it from an offset on
abbrev pub longs_in_block : Guest → (count offset : ℕ) → List ℕ
longs_in_block g zero offset = []
longs_in_block g (suc n) offset = control_block_long g offset ∷ longs_in_block g n (offset + 4)

abbrev pub is_block_past : Guest → Bool
is_block_past g = is_past (length g.memory) g.state.pcbb block_size

-- its tables, on the system's table of before
abbrev pub loaded_tables : Guest → Tables
loaded_tables g = record g.state.tables { p0br = control_block_long g 80; p0lr = control_block_long g 84 % 2 ^ 22; p1br = control_block_long g 88; p1lr = control_block_long g 92 % 2 ^ 22 }

abbrev pub loaded_astlvl : Guest → ℕ
loaded_astlvl g = control_block_long g 84 / 2 ^ 24 % 8

-- a base, length or level that its register doesn't allow, or a reserved bit; bit 31 of P1LR's longword is ignored
unfoldable pub is_block_reserved : Guest → Bool
is_block_reserved g =
    let t = loaded_tables g in
    not (allows P0br t.p0br) || not (allows P0lr t.p0lr) || not (allows P1br t.p1br) || not (allows P1lr t.p1lr) || not (allows Astlvl (loaded_astlvl g))
    || not (control_block_long g 84 / 2 ^ 27 == 0) || not (control_block_long g 84 / 2 ^ 22 % 4 == 0) || not (control_block_long g 92 / 2 ^ 22 % 2 ^ 9 == 0)

-- a PSL off the interrupt stack, and on it
abbrev pub off_interrupt_stack : ℕ → ℕ
off_interrupt_stack psl = if is_on_interrupt_stack psl then psl - 2 ^ 26 else psl

abbrev pub on_interrupt_stack : ℕ → ℕ
on_interrupt_stack psl = if is_on_interrupt_stack psl then psl else psl + 2 ^ 26

-- the state that is loaded, before the push: R14 is KSP, and PC the next instruction's; ISP is kept
unfoldable pub loaded : Guest → (next_pc : ℕ) → State
loaded g next_pc = record g.state {
  r = longs_in_block g 14 16 ++ control_block_long g 0 ∷ next_pc ∷ [];
  psl = off_interrupt_stack g.state.psl;
  stacks = longs_in_block g 4 0 ++ pointer_of g.state 4 ∷ [];
  tables = loaded_tables g;
  astlvl = loaded_astlvl g;
}

-- PC and PSL of the block are pushed on the kernel stack under the new tables; trouble of the push starts vector 08
abbrev pub after_push : Guest → State → Walked → Sensed
after_push g s (Homes hs) =
    Does (record { memory = pushed hs g.memory; state = record s { r = slice_set s.r 14 (pointer_after (slice_index s.r 14) (control_block_long g 76 ∷ control_block_long g 72 ∷ [])) } }) [] (frames_pushed g.memory hs)
after_push g s (Faulty f) = Faults excs.KernelStack
after_push g s PastMemory = LacksMemory

unfoldable pub loads_context : Guest → (next_pc : ℕ) → Sensed
loads_context g next_pc =
    if is_block_past g then LacksMemory else
    if is_block_reserved g then Faults excs.ReservedOperand else
    let s = loaded g next_pc in
    after_push g s (push_walked (record g { state = s }) Kernel (slice_index s.r 14) (control_block_long g 76 ∷ control_block_long g 72 ∷ []))

-- SVPCTX: PC and PSL are popped from the stack in use

pub record Popped : Type 0 where
  pub pc : ℕ
  pub psl : ℕ

abbrev pub two_popped : ℕ → Interaction Popped
two_popped sp = Touch Read sp 4 (λ pc. Touch Read (plus sp 4) 4 (λ psl. Done (record { pc = pc; psl = psl })))

abbrev pub longs_stored : (at : ℕ) → List ℕ → List ℕ → List ℕ
longs_stored at [] memory = memory
longs_stored at (v ∷ vs) memory = longs_stored (at + 4) vs (long_stored at v memory)

abbrev pub long_frames : (at count : ℕ) → List ℕ
long_frames at zero = []
long_frames at (suc n) = frame_at at ∷ long_frames (at + 4) n

-- the stack pointers of four modes, R0 to R13, PC and PSL
abbrev pub saved_longs : State → Popped → List ℕ
saved_longs s p = pointer_of s 0 ∷ pointer_of s 1 ∷ pointer_of s 2 ∷ pointer_of s 3 ∷ take 14 s.r ++ p.pc ∷ p.psl ∷ []

-- it goes on on the interrupt stack, at IPL 1 at least; where it was on it, nothing changes
abbrev pub on_interrupt : State → State
on_interrupt s =
    if is_on_interrupt_stack s.psl then s else
    record (with_pointer_kept s) {
      r = slice_set s.r 14 (slice_index s.stacks 4);
      psl = with_ipl (on_interrupt_stack s.psl) (if ipl_of s.psl == 0 then 1 else ipl_of s.psl);
    }

-- R14 after the pops, and PC the next instruction's
abbrev pub after_pops : State → (next_pc : ℕ) → State
after_pops s next_pc = record s { r = slice_set (slice_set s.r 14 (plus (slice_index s.r 14) 8)) 15 next_pc }

abbrev pub saved : Guest → State → Popped → Sensed
saved g s p =
    if is_block_past g then LacksMemory else
    Does (record { memory = longs_stored g.state.pcbb (saved_longs s p) g.memory; state = on_interrupt s }) [] (long_frames g.state.pcbb 20)

abbrev pub after_reads : Guest → (next_pc : ℕ) → Result Popped Trouble → Sensed
after_reads g next_pc (Ok p) = saved g (after_pops g.state next_pc) p
after_reads g next_pc (Err trouble) = troubled g trouble

unfoldable pub saves_context : Guest → (next_pc : ℕ) → Sensed
saves_context g next_pc = after_reads g next_pc (outcome (space_of g) (two_popped (slice_index g.state.r 14)))
