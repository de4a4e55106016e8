-- What is asked of a guest's registers before they are set.
use Rattle.std.specs.Prelude.{◌==◌, ◌&&◌, ◌||◌, Bool, not}
use Rattle.vax_arch.specs.Rei.{has_must_be_zero_bit}
use Rattle.vax_arch.specs.Walk.{Tables}
use Rattle.vm_state.specs.Registers.{allows}
use Rattle.vm_state.specs.State.{State}
use Rattle.vm_state.specs.declared.register.Register.TheVariants.{Astlvl, P0br, P0lr, P1br, P1lr, Pcbb, Sbr, Scbb, Sisr, Slr}

-- whether each table register has a value that a guest's may have
abbrev pub allows_tables : Tables → Bool
allows_tables t = (t.p0br == 0 || allows P0br t.p0br) && (allows P0lr t.p0lr && (allows P1br t.p1br && (allows P1lr t.p1lr && (allows Sbr t.sbr && allows Slr t.slr))))

-- and the other registers, and the PSL
abbrev pub allows_rest : State → Bool
allows_rest s = allows Pcbb s.pcbb && (allows Scbb s.scbb && (allows Astlvl s.astlvl && (allows Sisr s.sisr && not (has_must_be_zero_bit s.psl))))
