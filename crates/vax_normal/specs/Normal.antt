-- What an instruction in normal form does at once, from the registers and the status word alone: no memory is touched.
use Rattle.std.specs.Prelude.{◌≡◌, ℕ, ◌%◌, ◌^◌, ◌==◌, Bool, not, bit_and, nat_lt, if◌then◌else◌, List, [], length, Option, Some, None, IfSome, Ok, slice_index}
use Rattle.std.specs.Coded.{Unit-prop}
use Rattle.std.proofs.Props.{props}
use Rattle.vv_base.specs.declared.width.Width.{Width}
use Rattle.vv_base.specs.declared.width.Width.TheVariants.{Long}
use Rattle.vax_table.specs.Arithmetic.{alu_of}
use Rattle.vax_table.specs.Branches.{comes_out, is_at_most, is_less, keeping_c}
use Rattle.vax_table.specs.Operations.{holds}
use Rattle.vax_table.specs.Effects.{Effect, put_in_register}
use Rattle.vax_table.specs.Interaction.{Space, outcome}
use Rattle.vax_table.specs.Plan.{planned}
use Rattle.vax_table.specs.Spelling.{Instruction}
use Rattle.vax_table.specs.Operand.{plus}
use Rattle.vax_table.specs.AllOperands.{past_own_bytes}
use Rattle.vax_table.specs.declared.answer.AluOp.TheVariants.{Sub}
use Rattle.vax_normal.specs.declared.shape.Number.{Number}
use Rattle.vax_normal.specs.declared.shape.Computation.{Computation}
use Rattle.vax_normal.specs.declared.shape.Countdown.{Countdown}
use Rattle.vax_normal.specs.declared.shape.Normal.{Normal}
use Rattle.vax_normal.specs.declared.shape.Shape.{Shape}
use Rattle.vax_normal.specs.declared.shape.Shape.TheVariants.{Computes, Branches, BranchesOnBits, CountsDown}

-- a number by the registers
abbrev pub number_by : Number → List ℕ → ℕ
number_by x r = plus (bit_and (slice_index r x.register) x.mask) x.offset

-- a result in one of R0 to R14, or nowhere
abbrev pub with_result : ℕ → Width → ℕ → List ℕ → List ℕ
with_result n w v r = if nat_lt n 15 then put_in_register w n v r else r

-- registers and a status word, and nothing stored
abbrev pub quietly : List ℕ → ℕ → Effect
quietly r psw = record { r = r; psw = psw; writes = []; trap = None }

abbrev pub computed_at_once : Computation → ℕ → List ℕ → ℕ → Effect
computed_at_once c length r psw =
    let x = alu_of c.op (number_by c.first r) (number_by c.second r) c.width psw in
    record { r = with_result c.register c.width x.value (past_own_bytes length r); psw = x.psw; writes = []; trap = x.trap }

-- PC goes on by `jump` bytes where a branch is taken, or else by `length`
abbrev pub gone_on : Bool → (jump length : ℕ) → List ℕ → List ℕ
gone_on taken jump length r = past_own_bytes (if taken then jump else length) r

-- whether any of these bits of a number is set
abbrev pub has_bits : (bits n : ℕ) → Bool
has_bits bits n = not (bit_and n bits == 0)

-- whether a countdown branches where so much is left
abbrev pub branches_at : Bool → ℕ → Bool
branches_at at_zero left = if at_zero then is_at_most Long 0 left else is_less Long 0 left

abbrev pub counted_down : Countdown → (jump length : ℕ) → List ℕ → ℕ → Effect
counted_down c jump length r psw =
    let x = alu_of Sub 1 (slice_index r c.register % 2 ^ 32) Long psw in
    record { r = with_result c.register Long x.value (gone_on (branches_at c.at_zero x.value) jump length r); psw = keeping_c psw x.psw; writes = []; trap = x.trap }

abbrev pub done_by : Shape → ℕ → List ℕ → ℕ → Effect
done_by (Computes c) length r psw = computed_at_once c length r psw
done_by (Branches condition jump) length r psw = quietly (gone_on (holds condition psw) jump length r) psw
done_by (BranchesOnBits on x bits jump) length r psw = quietly (gone_on (comes_out on (has_bits bits (number_by x r))) jump length r) psw
done_by (CountsDown c jump) length r psw = counted_down c jump length r psw

-- what it does
unfoldable pub done_at_once : Normal → List ℕ → ℕ → Effect
done_at_once n r psw = done_by n.shape n.length r psw

-- it is what an instruction does
abbrev pub IsNormal : Normal → Instruction → Type 0
IsNormal n d = (s : Space) (r : List ℕ) (psw : ℕ) → length r ≡ 16 → outcome s (planned d r psw) ≡ Ok (done_at_once n r psw)

-- there is one proof of it at most
pub normal-prop : (n : Option Normal) (d : Instruction) → IsProp (IfSome n (λ x. IsNormal x d))
normal-prop None d = Unit-prop
normal-prop (Some n) d = hlevel props
