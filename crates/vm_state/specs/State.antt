-- A guest on its private virtual VAX: its memory, and the registers of its processor
-- (VAX Architecture Reference Manual: processor registers; Hall and Robinson, Virtualizing the VAX Architecture,
-- ISCA 1991; console, clock and packets as in their own definitions).
use Rattle.std.specs.Prelude.{◌≡◌, ℕ, ◌==◌, Bool, if◌then◌else◌, List, Option, slice_index, slice_set}
use Rattle.vax_arch.specs.Fields.{current_of, is_on_interrupt_stack, mode_number}
use Rattle.vax_arch.specs.Walk.{Tables}
use Rattle.vax_arch.specs.declared.mode.Mode.{Mode}
use Rattle.vm_clock.specs.Clock.{ClockState}
use Rattle.vm_console.specs.Console.{ConsoleState}
use Rattle.vm_slots.specs.declared.context.Context.{Context}
use Rattle.vm_state.specs.declared.guest_state.GuestState.{GuestState}

-- what a guest has beside its memory
pub record State : Type 0 where
  -- R0 to R15
  pub r : List ℕ
  pub psl : ℕ
  -- KSP, ESP, SSP, USP and ISP; the one in use is R14
  pub stacks : List ℕ
  pub tables : Tables
  pub pcbb : ℕ
  pub scbb : ℕ
  pub astlvl : ℕ
  pub sisr : ℕ
  pub clock : ClockState
  pub console : ConsoleState
  -- a transfer's interrupt is requested
  pub kcall_due : Bool
  -- the physical addresses of the packets that wait
  pub queue : List ℕ
  pub waiting : Bool
  -- the code with which it stopped
  pub halt : Option ℕ
  -- its steps since it started, but those in which it was stopped
  pub steps : ℕ
  -- a clear modify bit is a fault of its own
  pub modify_faults : Bool

pub record Guest : Type 0 where
  pub memory : List ℕ
  pub state : State

-- what the code keeps, without where the guest lies in the machine and where it starts
abbrev pub tables_of : GuestState → Tables
tables_of g = record { mapped = g.mapen; p0br = g.p0br; p0lr = g.p0lr; p1br = g.p1br; p1lr = g.p1lr; sbr = g.sbr; slr = g.slr }

abbrev pub state_of : GuestState → State
state_of g = record {
  r = g.r;
  psl = g.psl.0;
  stacks = g.stacks;
  tables = tables_of g;
  pcbb = g.pcbb;
  scbb = g.scbb;
  astlvl = g.astlvl;
  sisr = g.sisr;
  clock = g.clock;
  console = g.console;
  kcall_due = g.kcall_due;
  queue = g.queue.items;
  waiting = g.waiting;
  halt = g.halt;
  steps = g.steps;
  modify_faults = g.modify_faults;
}

-- where it lies and starts
pub record HasPlace (size first from : ℕ) (g : GuestState) : Type 0 where
  pub pages : g.pages ≡ size
  pub base : g.base ≡ first
  pub start : g.start ≡ from

abbrev pub mode_of_state : State → Mode
mode_of_state s = current_of s.psl

abbrev pub pc_of : State → ℕ
pc_of s = slice_index s.r 15

-- the number of a PSL's stack: a mode's, or 4 for the interrupt stack
abbrev pub stack_in : ℕ → ℕ
stack_in psl = if is_on_interrupt_stack psl then 4 else mode_number (current_of psl)

-- the pointer of a stack: R14 where it is in use
abbrev pub pointer_of : State → ℕ → ℕ
pointer_of s stack = if stack == stack_in s.psl then slice_index s.r 14 else slice_index s.stacks stack

-- with R14 kept in the register of the stack in use
abbrev pub with_pointer_kept : State → State
with_pointer_kept s = record s { stacks = slice_set s.stacks (stack_in s.psl) (slice_index s.r 14) }

-- what process pages are translated under
abbrev pub context_of : Tables → Context
context_of t = record { mapped = t.mapped; p0br = t.p0br; p0lr = t.p0lr; p1br = t.p1br; p1lr = t.p1lr }
