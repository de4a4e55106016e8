-- LDPCTX: a process control block, and the registers that it loads.
use Rattle.std.specs.Prelude.{◌≡◌, ◌/◌, ◌%◌, ◌^◌, ◌==◌, ◌||◌, Bool, not}
use Rattle.vm_emulate.specs.declared.loads.Block.{Block}
use Rattle.vm_emulate.specs.declared.loads.Process.{Process}
use Rattle.vm_state.specs.Contexts.{control_block_long, longs_in_block}
use Rattle.vm_state.specs.Registers.{allows}
use Rattle.vm_state.specs.State.{Guest, State}
use Rattle.vm_state.specs.declared.register.Register.TheVariants.{Astlvl, P0br, P0lr, P1br, P1lr}

-- it is the guest's block
pub record IsBlock (g : Guest) (b : Block) : Type 0 where
  pub stacks : b.stacks ≡ longs_in_block g 4 0
  pub general : b.general ≡ longs_in_block g 14 16
  pub pc : b.pc ≡ control_block_long g 72
  pub psl : b.psl ≡ control_block_long g 76
  pub p0br : b.p0br ≡ control_block_long g 80
  pub p0_length : b.p0_length ≡ control_block_long g 84
  pub p1br : b.p1br ≡ control_block_long g 88
  pub p1_length : b.p1_length ≡ control_block_long g 92

-- a register refuses what it would be loaded with
abbrev pub refuses_register : Block → Bool
refuses_register b =
    not (allows P0br b.p0br) || not (allows P0lr (b.p0_length % 2 ^ 22)) || not (allows P1br b.p1br) || not (allows P1lr (b.p1_length % 2 ^ 22)) || not (allows Astlvl (b.p0_length / 2 ^ 24 % 8))

-- a bit beside a length is reserved
abbrev pub has_reserved_bit : Block → Bool
has_reserved_bit b = not (b.p0_length / 2 ^ 27 == 0) || not (b.p0_length / 2 ^ 22 % 4 == 0) || not (b.p1_length / 2 ^ 22 % 2 ^ 9 == 0)

-- with a process's registers
abbrev pub with_process : Process → State → State
with_process p s = record s {
  r = p.r;
  psl = p.psl.0;
  stacks = p.stacks;
  tables = record s.tables { p0br = p.p0br; p0lr = p.p0lr; p1br = p.p1br; p1lr = p.p1lr };
  astlvl = p.astlvl;
}
