-- Which values a guest's registers can have: those that MTPR and LDPCTX allow, and P0BR 0 as at the start
-- (VAX Architecture Reference Manual: processor registers; the ranges are profile).
use Rattle.std.specs.Prelude.{◌≡◌, ℕ, ◌+◌, ◌%◌, ◌≤◌, ◌⊎◌, true, false, length, All}
use Rattle.vax_arch.specs.Rei.{has_must_be_zero_bit}
use Rattle.vm_state.specs.Registers.{allows}
use Rattle.vm_state.specs.State.{State}
use Rattle.vm_state.specs.declared.register.Register.{Register}
use Rattle.vm_state.specs.declared.register.Register.TheVariants.{Astlvl, P0br, P0lr, P1br, P1lr, Pcbb, Sbr, Scbb, Sisr, Slr}

abbrev pub Allows : Register → ℕ → Type 0
Allows register v = allows register v ≡ true

-- a packet's address: a multiple of 4, with 24 bytes in memory
abbrev pub IsPacket : ℕ → ℕ → Type 0
IsPacket size packet = (packet % 4 ≡ 0) × (packet + 24 ≤ size)

pub record AreAllowed (size : ℕ) (s : State) : Type 0 where
  pub p0br : (s.tables.p0br ≡ 0) ⊎ Allows P0br s.tables.p0br
  pub p0lr : Allows P0lr s.tables.p0lr
  pub p1br : Allows P1br s.tables.p1br
  pub p1lr : Allows P1lr s.tables.p1lr
  pub sbr : Allows Sbr s.tables.sbr
  pub slr : Allows Slr s.tables.slr
  pub pcbb : Allows Pcbb s.pcbb
  pub scbb : Allows Scbb s.scbb
  pub astlvl : Allows Astlvl s.astlvl
  pub sisr : Allows Sisr s.sisr
  pub psl : has_must_be_zero_bit s.psl ≡ false
  pub packets : All (IsPacket size) s.queue
  pub few : length s.queue ≤ 8
