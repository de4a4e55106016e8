-- What the rarer normal forms say of an instruction.
use Rattle.std.specs.Prelude.{Option, Some, None, IfSome}
use Rattle.std.specs.Coded.{Unit-prop}
use Rattle.std.proofs.Props.{props}
use Rattle.vax_table.specs.Spelling.{Instruction}
use Rattle.vax_normal.specs.QuadMove.{IsQuadMove}
use Rattle.vax_normal.specs.BitTest.{IsBitTest}
use Rattle.vax_normal.specs.Indexed.{IsIndexed}
use Rattle.vax_normal.specs.Subroutine.{IsCall, IsReturn}
use Rattle.vax_normal.specs.declared.rarer.Rarer.{Rarer}
use Rattle.vax_normal.specs.declared.rarer.Rarer.TheVariants.{Moves, MovesStatus, Probes, Calls, Returns, TestsBit, ComputesIndexed}
use Rattle.vax_normal.specs.ProbeTest.{IsProbeTest}
use Rattle.vax_normal.specs.StatusMove.{IsStatusMove}

-- it is what an instruction does
abbrev pub IsRarer : Rarer → Instruction → Type 0
IsRarer (Moves n) d = IsQuadMove n d
IsRarer (MovesStatus n) d = IsStatusMove n d
IsRarer (Probes n) d = IsProbeTest n d
IsRarer (Calls n) d = IsCall n d
IsRarer Returns d = IsReturn d
IsRarer (TestsBit n) d = IsBitTest n d
IsRarer (ComputesIndexed n) d = IsIndexed n d

-- there is one proof of it at most
pub rarer-prop : (n : Option Rarer) (d : Instruction) → IsProp (IfSome n (λ x. IsRarer x d))
rarer-prop None d = Unit-prop
rarer-prop (Some (Moves n)) d = hlevel props
rarer-prop (Some (MovesStatus n)) d = hlevel props
rarer-prop (Some (Probes n)) d = hlevel props
rarer-prop (Some (Calls n)) d = hlevel props
rarer-prop (Some Returns) d = hlevel props
rarer-prop (Some (TestsBit n)) d = hlevel props
rarer-prop (Some (ComputesIndexed n)) d = hlevel props
