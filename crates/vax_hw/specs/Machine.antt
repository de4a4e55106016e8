-- The real machine: its memory, what is loaded into it, and its three counts
-- (Hall and Robinson, Virtualizing the VAX Architecture, ISCA 1991).
use Rattle.std.specs.Prelude.{◌≡◌, ℕ, ◌+◌, ◌*◌, ◌/◌, ◌%◌, ◌^◌, Bool, true, List, replicate, slice_index, Result}
use Rattle.vax_arch.specs.Fields.{current_of}
use Rattle.vax_arch.specs.Walk.{Tables}
use Rattle.vax_arch.specs.declared.mode.Intent.{Intent}
use Rattle.vax_arch.specs.declared.mode.Intent.TheVariants.{Write}
use Rattle.vax_arch.specs.declared.psl.Psl.{Psl}
use Rattle.vax_hw.specs.RealTables.{byte_by, is_clear_in, place_in, place_or_end}
use Rattle.vax_hw.specs.declared.world.World.{World}
use Rattle.vax_table.specs.Interaction.{Cause, Space}
use Rattle.vax_table.specs.Trail.{term}
use Rattle.vax_table.specs.Effects.{Effect}
use Rattle.vax_table.specs.Stores.{all_stored}

pub record Machine : Type 0 where
  pub memory : List ℕ
  pub world : World
  pub retired : ℕ
  pub trail : ℕ
  pub misses : ℕ

-- the real page tables
abbrev pub machine_tables : World → Tables
machine_tables w = record { mapped = true; p0br = w.p0br; p0lr = w.p0lr; p1br = w.p1br; p1lr = w.p1lr; sbr = w.sbr; slr = w.slr }

-- the place of an address, in the real mode
abbrev pub place_for : Machine → Intent → ℕ → Result ℕ Cause
place_for m i va = place_in m.memory (machine_tables m.world) (current_of m.world.psl.0) i va

-- the machine as a space for its instructions
abbrev pub machine_space : Machine → Space
machine_space m i va = byte_by m.memory (place_for m i va)

-- where a byte that may be written lies
abbrev pub machine_write_place : Machine → ℕ → ℕ
machine_write_place m va = place_or_end m.memory (place_for m Write va)

-- whether the real modify bit of an address's page is clear
abbrev pub is_real_bit_clear : Machine → ℕ → Bool
is_real_bit_clear m va = is_clear_in m.memory (machine_tables m.world) va

-- the status word is the low byte of the PSL
abbrev pub psw_of : World → ℕ
psw_of w = w.psl.0 % 256

-- The PSL that MOVPSL stores: VMPSL's bits 31:8, and the status word of the real PSL in bits 7:0.
abbrev pub seen_psl : World → ℕ
seen_psl w = w.vmpsl.0 / 256 * 256 + psw_of w

abbrev pub ShowsTheRealStatusWord : Type 0
ShowsTheRealStatusWord = (w : World) → seen_psl w % 2 ^ 8 ≡ psw_of w

-- a PSL with another status word
abbrev pub psl_with_psw : Psl → ℕ → Psl
psl_with_psw psl psw = record { 0 = psl.0 / 256 * 256 + psw % 256 }

-- with the registers and the status word after an instruction
abbrev pub world_with_effect : World → Effect → World
world_with_effect w e = record w { r = e.r; psl = psl_with_psw w.psl e.psw }

-- the machine after an instruction that retired: its stores are made in order, at the places of before the first
unfoldable pub retire : ℕ → Effect → Machine → Machine
retire opcode e m = record m {
  memory = all_stored (machine_write_place m) e.writes m.memory;
  world = world_with_effect m.world e;
  retired = (m.retired + 1) % 2 ^ 64;
  trail = (m.trail + term (slice_index m.world.r 15) opcode e.r) % 2 ^ 64;
}

-- so much memory that was never written
unfoldable pub zeros : ℕ → List ℕ
zeros n = replicate n 0
