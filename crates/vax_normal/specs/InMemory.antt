-- What an instruction in normal form does that refers to memory: it reads one reference at most and claims one at most, and
-- stores its result where it claims.
use Rattle.std.specs.Prelude.{◌≡◌, ℕ, ◌==◌, bit_and, bit_or, if◌then◌else◌, List, [], ◌∷◌, length, Option, Some, None, IfSome, Ok, slice_index, slice_set}
use Rattle.std.specs.Coded.{Unit-prop}
use Rattle.std.proofs.Props.{props}
use Rattle.vv_base.specs.declared.width.Width.{Width}
use Rattle.vv_base.specs.Width.{size_of}
use Rattle.vax_arch.specs.declared.mode.Intent.TheVariants as intents
use Rattle.vax_table.specs.Arithmetic.{alu_of}
use Rattle.vax_table.specs.Effects.{Effect, store}
use Rattle.vax_table.specs.Interaction.{Space, number_at, outcome}
use Rattle.vax_table.specs.Operand.{plus}
use Rattle.vax_table.specs.AllOperands.{past_own_bytes}
use Rattle.vax_table.specs.Plan.{planned}
use Rattle.vax_table.specs.Spelling.{Instruction}
use Rattle.vax_table.specs.declared.effect.Store.{Store}
use Rattle.vax_normal.specs.Normal.{number_by, with_result}
use Rattle.vax_normal.specs.declared.in_memory.Found.{Found}
use Rattle.vax_normal.specs.declared.shape.InMemory.{InMemory}
use Rattle.vax_normal.specs.declared.shape.Source.{Source}
use Rattle.vax_normal.specs.declared.shape.Reach.{Reach}

-- the address of a reference
abbrev pub reach_address : Reach → List ℕ → ℕ
reach_address p r = if p.offset == 0 then slice_index r p.register else plus (slice_index r p.register) p.offset

-- its register goes on
abbrev pub reach_stepped : Reach → List ℕ → List ℕ
reach_stepped p r = if p.step == 0 then r else slice_set r p.register (plus (slice_index r p.register) p.step)

abbrev pub stepped_by : Option Reach → List ℕ → List ℕ
stepped_by None r = r
stepped_by (Some p) r = reach_stepped p r

-- the number that is read in a space, where one is
abbrev pub HasRead : Space → Option Reach → List ℕ → ℕ → Type 0
HasRead s None r v = Unit {0}
HasRead s (Some p) r v = number_at s intents.Read (size_of p.width) (reach_address p r) ≡ Ok v

-- and the number that is claimed
abbrev pub HasClaimed : Space → Option Reach → List ℕ → ℕ → Type 0
HasClaimed s None r v = Unit {0}
HasClaimed s (Some p) r v = number_at s intents.Write (size_of p.width) (reach_address p r) ≡ Ok v

-- a number by the registers, and by what is read and claimed
abbrev pub sourced_by : Source → (read claimed : ℕ) → List ℕ → ℕ
sourced_by x v u r = bit_or (bit_or (number_by x.number r) (bit_and v x.read)) (bit_and u x.claimed)

-- a result of a width stored where a reference leads, if there is one
abbrev pub stored : Option Reach → List ℕ → Width → ℕ → List Store
stored None r w v = []
stored (Some p) r w v = store (reach_address p r) w v ∷ []

-- the registers after it, where this is its result
abbrev pub finished : InMemory → ℕ → List ℕ → List ℕ
finished n v r = with_result n.register n.width v (past_own_bytes n.length (stepped_by n.writes (stepped_by n.reads r)))

-- what it does, where this is read and this is claimed
unfoldable pub done_in_memory : InMemory → (read claimed : ℕ) → List ℕ → ℕ → Effect
done_in_memory n v u r psw =
    let x = alu_of n.op (sourced_by n.first v u r) (sourced_by n.second v u r) n.width psw in
    record { r = finished n x.value r; psw = x.psw; writes = stored n.writes r n.width x.value; trap = x.trap }

-- it is what an instruction does, wherever it can read and claim so
abbrev pub IsInMemory : InMemory → Instruction → Type 0
IsInMemory n d = (s : Space) (r : List ℕ) (psw v u : ℕ) → length r ≡ 16 → HasRead s n.reads r v → HasClaimed s n.writes r u → outcome s (planned d r psw) ≡ Ok (done_in_memory n v u r psw)

-- what was found of it, as an effect
abbrev pub found_in_memory : InMemory → List ℕ → Found → Effect
found_in_memory n r x = record { r = finished n x.value r; psw = x.psw; writes = stored n.writes r n.width x.value; trap = None }

-- it is what each instruction of this form does
abbrev pub IsFoundIn : InMemory → Space → List ℕ → ℕ → Found → Type 0
IsFoundIn n s r psw x = (d : Instruction) → IsInMemory n d → outcome s (planned d r psw) ≡ Ok (found_in_memory n r x)

-- there is one proof of it at most
pub in_memory-prop : (n : Option InMemory) (d : Instruction) → IsProp (IfSome n (λ x. IsInMemory x d))
in_memory-prop None d = Unit-prop
in_memory-prop (Some n) d = hlevel props
