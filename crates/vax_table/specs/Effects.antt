-- The outcome of a plain instruction: result registers over the operands' side effects, the processor status word, the
-- stores in order, and the arithmetic trap (VAX Architecture Reference Manual: instruction execution).
use Rattle.std.specs.Prelude.{ℕ, ◌+◌, ◌*◌, ◌/◌, ◌%◌, ◌^◌, List, [], ◌∷◌, ◌++◌, Option, None, Bool, if◌then◌else◌, slice_index, slice_index_or, slice_set, Result, Ok, Err}
use Rattle.vv_base.specs.declared.width.Width.{Width}
use Rattle.vv_base.specs.declared.width.Width.TheVariants.{Byte, Word, Long, Quad}
use Rattle.vax_table.specs.declared.act.Dest.{Dest}
use Rattle.vax_table.specs.declared.act.Dest.TheVariants.{Nowhere, Register, Memory}
use Rattle.vax_table.specs.declared.effect.Plan.{Plan}
use Rattle.vax_table.specs.declared.effect.Store.{Store}
use Rattle.vax_table.specs.declared.evaluation.Operands.{Operands}
use Rattle.vax_table.specs.declared.evaluation.Trouble.{Trouble as Told}
use Rattle.vax_table.specs.Interaction.{Trouble}
use Rattle.vax_table.specs.Troubles.{trouble_of}

pub record Effect : Type 0 where
  pub r : List ℕ
  pub psw : ℕ
  pub writes : List Store
  pub trap : Option ℕ

-- a plan without where its stores lie in memory
abbrev pub effect : Plan → Effect
effect p = record { r = p.r; psw = p.psw; writes = p.writes.items; trap = p.trap }

abbrev pub effects : Result Plan Told → Result Effect Trouble
effects (Ok p) = Ok (effect p)
effects (Err t) = Err (trouble_of t)

-- operand i as a longword, and as a quadword; and where its result goes
abbrev pub long_of : Operands → ℕ → ℕ
long_of o i = slice_index o.values i % 2 ^ 32

abbrev pub quad_of : Operands → ℕ → ℕ
quad_of o i = slice_index o.values i

abbrev pub dest_of : Operands → ℕ → Dest
dest_of o i = slice_index_or o.dests i Nowhere

-- the registers with the operands' side effects, of which R15 is the next PC, and nothing else
abbrev pub begun : Operands → ℕ → Effect
begun o psw = record { r = o.r; psw = psw; writes = []; trap = None }

-- it goes on at an address
abbrev pub went_to : ℕ → Effect → Effect
went_to pc e = record e { r = slice_set e.r 15 pc }

abbrev pub went_if : Bool → ℕ → Effect → Effect
went_if taken pc e = if taken then went_to pc e else e

abbrev pub store : ℕ → Width → ℕ → Store
store va w v = record { va = va; width = w; value = v }

-- a result's low bits in a register: a byte or a word keeps the upper bits; a quadword goes to Rn and Rn+1
abbrev pub put_in_register : Width → ℕ → ℕ → List ℕ → List ℕ
put_in_register Byte n v r = slice_set r n (slice_index r n / 2 ^ 8 * 2 ^ 8 + v % 2 ^ 8)
put_in_register Word n v r = slice_set r n (slice_index r n / 2 ^ 16 * 2 ^ 16 + v % 2 ^ 16)
put_in_register Long n v r = slice_set r n (v % 2 ^ 32)
put_in_register Quad n v r = slice_set (slice_set r n (v % 2 ^ 32)) (n + 1) (v / 2 ^ 32)

-- a result at its destination
abbrev pub put : Dest → Width → ℕ → Effect → Effect
put Nowhere w v e = e
put (Register n) w v e = record e { r = put_in_register w n v e.r }
put (Memory at) w v e = record e { writes = e.writes ++ store at w v ∷ [] }
