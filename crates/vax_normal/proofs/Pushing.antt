-- A push after an operand is what a form in memory says.
use Rattle.std.proofs.Common.{◌≡◌, ◌≢◌, ℕ, ◌%◌, ◌^◌, List, [], ◌∷◌, Option, Some, None, Result, Ok, Err, ap, ◌∙◌, sym, subst, arith, get_or-set_other, slice_index, slice_set}
use Rattle.vv_base.specs.declared.width.Width.{Width}
use Rattle.vv_base.specs.declared.width.Width.TheVariants.{Long}
use Rattle.vv_base.specs.Width.{size_of}
use Rattle.vax_arch.specs.declared.mode.Intent.TheVariants as intents
use Rattle.vax_table.specs.Arithmetic.{alu_of}
use Rattle.vax_table.specs.Computing.{operand_pushed}
use Rattle.vax_table.specs.Effects.{Effect, long_of, store}
use Rattle.vax_table.specs.Interaction.{Space, Trouble, by_result, number_at, outcome}
use Rattle.vax_table.specs.Operand.{minus, plus}
use Rattle.vax_table.specs.AllOperands.{past_own_bytes}
use Rattle.vax_table.specs.Plan.{performed}
use Rattle.vax_table.specs.Stack.{push}
use Rattle.vax_table.specs.declared.answer.AluOp.{AluOp}
use Rattle.vax_table.specs.declared.answer.AluOp.TheVariants.{Move}
use Rattle.vax_table.specs.declared.evaluation.Operands.{Operands}
use Rattle.vax_table.specs.declared.meaning.Operation.TheVariants as does
use Rattle.vax_normal.specs.InMemory.{HasClaimed, done_in_memory, reach_address, reach_stepped, sourced_by, stepped_by, stored}
use Rattle.vax_normal.specs.Normal.{with_result}
use Rattle.vax_normal.specs.declared.shape.InMemory.{InMemory}
use Rattle.vax_normal.specs.declared.shape.Reach.{Reach}
use Rattle.vax_normal.proofs.Doing.{set_apart}
use Rattle.vax_normal.proofs.Taking.{pc_alone}

-- a move's effect, by its registers, where it is stored, what, and of what the status word is
abbrev moved_to : List ℕ → (at value of psw : ℕ) → Effect
moved_to r at value of psw = record { r = r; psw = (alu_of Move of 0 Long psw).psw; writes = store at Long value ∷ []; trap = None }

form_of : (n : InMemory) (p : Reach) (v u : ℕ) (r : List ℕ) (psw : ℕ) → n.op ≡ Move → n.width ≡ Long → n.register ≡ 15 → n.writes ≡ Some p →
    done_in_memory n v u r psw ≡ moved_to (past_own_bytes n.length (reach_stepped p (stepped_by n.reads r))) (reach_address p r) (sourced_by n.first v u r % 2 ^ 32) (sourced_by n.first v u r) psw
unfolding done_in_memory alu_of
form_of n p v u r psw op wide none is =
    let b : ℕ = sourced_by n.second v u r in
    let a : ℕ = sourced_by n.first v u r in
    let q : List ℕ = stepped_by n.reads r in
    let form : AluOp → Width → ℕ → Option Reach → Effect =
    λ op w reg t. record { r = with_result reg w (alu_of op a b w psw).value (past_own_bytes n.length (stepped_by t q)); psw = (alu_of op a b w psw).psw; writes = stored t r w (alu_of op a b w psw).value; trap = (alu_of op a b w psw).trap } in
    ap (λ (z : AluOp). form z n.width n.register n.writes) op ∙ ap (λ (z : Width). form Move z n.register n.writes) wide
    ∙ ap (λ (z : ℕ). form Move Long z n.writes) none ∙ ap (λ (z : Option Reach). form Move Long 15 z) is

-- SP goes down, and PC goes on, in either order
both_gone : (q : List ℕ) (k sp : ℕ) → slice_set (past_own_bytes k q) 14 sp ≡ past_own_bytes k (slice_set q 14 sp)
both_gone q k sp =
    let apart : 15 ≢ 14 = λ g. omega (arith, g) in
    set_apart q 15 14 (plus (slice_index q 15) k) sp apart ∙ ap (λ (x : ℕ). slice_set (slice_set q 14 sp) 15 (plus x k)) (sym (get_or-set_other q 14 15 sp 0 apart))

low_twice : (x a : ℕ) → x % 2 ^ 32 ≡ a → a % 2 ^ 32 ≡ x % 2 ^ 32
low_twice x a e = omega (arith, e)

pub pushed_stored : (s : Space) (n : InMemory) (p : Reach) (v u : ℕ) (r : List ℕ) (o : Operands) (psw : ℕ) → n.op ≡ Move → n.width ≡ Long → n.register ≡ 15 → n.writes ≡ Some p →
    ((r : List ℕ) → reach_address p r ≡ minus (slice_index r 14) 4) → ((r : List ℕ) → reach_stepped p r ≡ slice_set r 14 (minus (slice_index r 14) 4)) → p.width ≡ Long →
    slice_index (stepped_by n.reads r) 14 ≡ slice_index r 14 → long_of o 0 ≡ sourced_by n.first v u r → o.r ≡ past_own_bytes n.length (stepped_by n.reads r) → HasClaimed s n.writes r u →
    outcome s (performed does.Push o psw) ≡ Ok (done_in_memory n v u r psw)
unfolding performed operand_pushed push
pushed_stored s n p v u r o psw op wide none is there goes long top has gone claimed =
    let q : List ℕ = stepped_by n.reads r in
    let k : ℕ = n.length in
    let x : ℕ = slice_index o.values 0 in
    let a : ℕ = sourced_by n.first v u r in
    let sp : ℕ = minus (slice_index r 14) 4 in
    let low : slice_index o.r 14 ≡ slice_index r 14 = ap (λ (z : List ℕ). slice_index z 14) gone ∙ pc_alone q _ 14 (omega arith) ∙ top in
    let old : number_at s intents.Write 4 sp ≡ Ok u =
    ap (λ (m : ℕ). number_at s intents.Write 4 m) (sym (there r)) ∙ ap (λ (w : Width). number_at s intents.Write (size_of w) (reach_address p r)) (sym long) ∙ subst (λ (z : Option Reach). HasClaimed s z r u) is claimed in
    let pushed : ℕ → Effect = λ m. moved_to (slice_set o.r 14 m) m (long_of o 0) (long_of o 0) psw in
    let done : outcome s (performed does.Push o psw) ≡ Ok (pushed sp) =
    ap (λ (m : ℕ). by_result (number_at s intents.Write 4 (minus m 4)) (λ b. let y : Result Effect Trouble = Ok (pushed (minus m 4)) in y) Err) low
    ∙ ap (λ (z : Result ℕ Trouble). by_result z (λ b. let y : Result Effect Trouble = Ok (pushed sp) in y) Err) old in
    let registers : past_own_bytes k (reach_stepped p q) ≡ slice_set o.r 14 sp =
    ap (past_own_bytes k) (goes q ∙ ap (λ (m : ℕ). slice_set q 14 (minus m 4)) top) ∙ sym (both_gone q k sp) ∙ ap (λ (z : List ℕ). slice_set z 14 sp) (sym gone) in
    let value : a % 2 ^ 32 ≡ x % 2 ^ 32 = low_twice x a has in
    let same : done_in_memory n v u r psw ≡ pushed sp =
    form_of n p v u r psw op wide none is ∙ ap (λ (z : List ℕ). moved_to z (reach_address p r) (a % 2 ^ 32) a psw) registers ∙ ap (λ (m : ℕ). moved_to (slice_set o.r 14 sp) m (a % 2 ^ 32) a psw) (there r)
    ∙ ap (λ (m : ℕ). moved_to (slice_set o.r 14 sp) sp m a psw) value ∙ ap (λ (m : ℕ). moved_to (slice_set o.r 14 sp) sp (x % 2 ^ 32) m psw) (sym has) in
    done ∙ ap (λ (e : Effect). Ok e) (sym same)
