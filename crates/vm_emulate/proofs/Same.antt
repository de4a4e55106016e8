-- A guest as the code keeps it is its state and where it lies.
use Rattle.std.proofs.Common.{◌≡◌}
use Rattle.vm_state.specs.State.{HasPlace, State, state_of}
use Rattle.vm_state.specs.declared.guest_state.GuestState.{GuestState}

pub same_guest : (g h : GuestState) → state_of h ≡ state_of g → HasPlace g.pages g.base g.start h → h ≡ g
same_guest g h e p = λ i. let s : State = e i in record {
  r = s.r;
  psl = record { 0 = s.psl };
  stacks = s.stacks;
  p0br = s.tables.p0br;
  p0lr = s.tables.p0lr;
  p1br = s.tables.p1br;
  p1lr = s.tables.p1lr;
  sbr = s.tables.sbr;
  slr = s.tables.slr;
  pcbb = s.pcbb;
  scbb = s.scbb;
  astlvl = s.astlvl;
  sisr = s.sisr;
  mapen = s.tables.mapped;
  clock = s.clock;
  console = s.console;
  kcall_due = s.kcall_due;
  queue = record { items = s.queue };
  waiting = s.waiting;
  halt = s.halt;
  steps = s.steps;
  pages = p.pages i;
  base = p.base i;
  start = p.start i;
  modify_faults = s.modify_faults;
}
