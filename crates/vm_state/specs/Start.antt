-- How a guest begins, and begins again (VAX Architecture Reference Manual: processor initialization; what is in the
-- registers then is profile).
use Rattle.std.specs.Prelude.{ℕ, List, [], ◌∷◌, ◌++◌, ◌-◌, ◌+◌, length, replicate, Bool, false, Some, None}
use Rattle.vax_arch.specs.Walk.{Tables}
use Rattle.vm_clock.specs.Clock as clock
use Rattle.vm_console.specs.Console as console
use Rattle.vm_state.specs.State.{State}

-- memory of a size, zero but for an image
unfoldable pub memory_with_image : ℕ → ℕ → List ℕ → List ℕ
memory_with_image size load image = replicate load 0 ++ image ++ replicate (size - (load + length image)) 0

-- R0 to R14 are 0, and PC is the start address
abbrev pub start_registers : ℕ → List ℕ
start_registers start = replicate 15 0 ++ start ∷ []

-- mapping is off, and the tables are empty: P1's length is then 2 ^ 21
abbrev pub start_tables : Tables
start_tables = record { mapped = false; p0br = 0; p0lr = 0; p1br = 0; p1lr = 0x200000; sbr = 0; slr = 0 }

-- A guest that runs from an address: in kernel mode, on the interrupt stack, at IPL 31; nothing is pending.
abbrev pub started : ℕ → Bool → State
started start modify_faults = record {
  r = start_registers start;
  psl = 0x041f0000;
  stacks = replicate 5 0;
  tables = start_tables;
  pcbb = 0;
  scbb = 0;
  astlvl = 4;
  sisr = 0;
  clock = clock.initial_clock;
  console = console.initial_console;
  kcall_due = false;
  queue = [];
  waiting = false;
  halt = None;
  steps = 0;
  modify_faults = modify_faults;
}

-- one that was never started
abbrev pub stopped_at_first : ℕ → Bool → State
stopped_at_first start modify_faults = record (started start modify_faults) { halt = Some 0 }
