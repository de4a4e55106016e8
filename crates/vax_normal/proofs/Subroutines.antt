-- BSBB, BSBW and RSB do what their normal forms say.
use Rattle.std.proofs.Common.{◌≡◌, ◌≢◌, ℕ, ◌+◌, ◌%◌, ◌^◌, ◌<◌, List, [], ◌∷◌, length, map, None, Result, Ok, Err, true, refl, ap, ◌∙◌, sym, arith, get_or-set_same, slice_index, slice_set}
use Rattle.std.proofs.lemmas.List.{set-set}
use Rattle.vax_arch.specs.declared.mode.Intent.TheVariants.{Read, Write}
use Rattle.vv_base.specs.declared.width.Width.TheVariants.{Long}
use Rattle.vax_table.specs.Branches.{called_subroutine, left_subroutine}
use Rattle.vax_table.specs.Effects.{Effect, long_of, store}
use Rattle.vax_table.specs.Interaction.{Space, Trouble, by_result, number_at, outcome}
use Rattle.vax_table.specs.Operand.{minus, plus}
use Rattle.vax_table.specs.AllOperands.{forms_in, past_own_bytes}
use Rattle.vax_table.specs.Operations.{operation_of}
use Rattle.vax_table.specs.Plan.{performed}
use Rattle.vax_table.specs.Rows.{row_of}
use Rattle.vax_table.specs.Spelling.{Instruction, IsWellFormed}
use Rattle.vax_table.specs.Stack.{push}
use Rattle.vax_table.specs.declared.evaluation.Operands.{Operands}
use Rattle.vax_table.specs.declared.meaning.Operation.{Operation}
use Rattle.vax_table.specs.declared.meaning.Operation.TheVariants as does
use Rattle.vax_operand.specs.declared.kind.Kind.{Kind}
use Rattle.vax_operand.specs.declared.kind.Kind.TheVariants.{Branch}
use Rattle.vax_operand.specs.declared.prepared.Operand.{Operand}
use Rattle.vax_normal.specs.AtHand.{is_at_hand}
use Rattle.vax_normal.specs.Normal.{quietly}
use Rattle.vax_normal.specs.Touched.{all_had, left_by, value_had}
use Rattle.vax_normal.specs.declared.touches.Touches.{Touches}
use Rattle.vax_normal.proofs.Doing.{gone_to, set_apart}
use Rattle.vax_normal.proofs.Storing.{touched_done}
use Rattle.vax_normal.proofs.Taking.{pc_alone}
use Rattle.vax_normal.proofs.Touching.{touched_hand, touched_none}
use Rattle.vax_normal.specs.Subroutine.{IsCall, IsReturn, call_finished, called, pushed_sp, return_finished}
use Rattle.vax_normal.specs.declared.subroutine.Call.{Call}

-- no reference to memory
abbrev nothing : Touches
nothing = record { reads = None; writes = None }

-- the stack pointer is no other after its own bytes
same_top : (r q : List ℕ) (k : ℕ) → q ≡ past_own_bytes k r → slice_index q 14 ≡ slice_index r 14
same_top r q k gone = ap (λ (z : List ℕ). slice_index z 14) gone ∙ pc_alone r _ 14 (omega arith)

call_done : (s : Space) (n : Call) (r : List ℕ) (d psw old : ℕ) (o : Operands) → 15 < length r → o.r ≡ past_own_bytes n.length r → long_of o 0 ≡ plus (slice_index o.r 15) d % 2 ^ 32 → n.jump ≡ (d + n.length) % 2 ^ 32 →
    number_at s Write 4 (pushed_sp r) ≡ Ok old → outcome s (performed does.CallSubroutine o psw) ≡ Ok (called n r psw)
unfolding performed called_subroutine push
call_done s n r d psw old o room gone to by claimed =
    let apart : 15 ≢ 14 = λ g. omega (arith, g) in
    let sp : ℕ = pushed_sp r in
    let top : pushed_sp o.r ≡ sp = ap (λ (m : ℕ). minus m 4) (same_top r o.r n.length gone) in
    let next : slice_index o.r 15 ≡ plus (slice_index r 15) n.length = ap (λ (z : List ℕ). slice_index z 15) gone ∙ get_or-set_same r 15 (plus (slice_index r 15) n.length) 0 room in
    let pushed : (at : ℕ) → Effect = λ at. record { r = slice_set (slice_set o.r 14 at) 15 (long_of o 0); psw = psw; writes = store at Long (slice_index o.r 15) ∷ []; trap = None } in
    let there : outcome s (performed does.CallSubroutine o psw) ≡ Ok (pushed sp) =
    ap (λ (m : ℕ). by_result (number_at s Write 4 m) (λ b. let y : Result Effect Trouble = Ok (pushed m) in y) Err) top
    ∙ ap (λ (z : Result ℕ Trouble). by_result z (λ b. let y : Result Effect Trouble = Ok (pushed sp) in y) Err) claimed in
    let registers : slice_set (slice_set o.r 14 sp) 15 (long_of o 0) ≡ call_finished n r =
    sym (set_apart o.r 15 14 (long_of o 0) sp apart) ∙ ap (λ (z : List ℕ). slice_set z 14 sp) (gone_to r o.r d n.length n.jump (long_of o 0) room gone to by) in
    there ∙ ap (λ (z : List ℕ). let e : Effect = record { r = z; psw = psw; writes = store sp Long (slice_index o.r 15) ∷ []; trap = None } in let y : Result Effect Trouble = Ok e in y) registers
    ∙ ap (λ (v : ℕ). let e : Effect = record { r = call_finished n r; psw = psw; writes = store sp Long v ∷ []; trap = None } in let y : Result Effect Trouble = Ok e in y) next

-- a call to where a branch leads
pub is_call : (n : Call) (d : Instruction) (x : Operand) (to : ℕ) → does.CallSubroutine ≡ operation_of d.opcode → map (λ x. x.form) (x ∷ []) ≡ forms_in (row_of d.opcode) → map (λ x. x.spec) (x ∷ []) ≡ d.specs →
    IsWellFormed d → x.kind ≡ Branch to → n.length ≡ d.length → n.jump ≡ (to + n.length) % 2 ^ 32 → IsCall n d
is_call n d x to is f g formed leads long by s r psw old sixteen claimed =
    let hand : is_at_hand x.kind ≡ true = ap is_at_hand leads in
    touched_done s nothing d (x ∷ []) r psw 0 0 (called n r psw) f g formed sixteen (touched_hand nothing x [] hand touched_none) tt tt (λ at q moved none gone.
    let o : Operands = all_had 0 0 at (x ∷ []) q in
    let here : List ℕ = past_own_bytes x.length q in
    let left : o.r ≡ here = ap (λ (k : Kind). left_by k x.form.width x.spec here) leads in
    let target : long_of o 0 ≡ plus (slice_index here 15) to % 2 ^ 32 = ap (λ (k : Kind). value_had 0 0 k x.form.width x.spec here % 2 ^ 32) leads in
    let there : long_of o 0 ≡ plus (slice_index o.r 15) to % 2 ^ 32 = target ∙ ap (λ (z : List ℕ). plus (slice_index z 15) to % 2 ^ 32) (sym left) in
    let past : o.r ≡ past_own_bytes n.length r = gone ∙ ap (λ (k : ℕ). past_own_bytes k r) (sym long) in
    ap (λ (op : Operation). outcome s (performed op o psw)) (sym is) ∙ call_done s n r to psw old o (omega (arith, sixteen)) past there by claimed)

return_done : (s : Space) (r : List ℕ) (k psw pc : ℕ) (o : Operands) → o.r ≡ past_own_bytes k r → number_at s Read 4 (slice_index r 14) ≡ Ok pc → outcome s (performed does.LeaveSubroutine o psw) ≡ Ok (quietly (return_finished pc r) psw)
unfolding performed left_subroutine
return_done s r k psw pc o gone read =
    let apart : 15 ≢ 14 = λ g. omega (arith, g) in
    let sp : ℕ = slice_index r 14 in
    let popped : (at to : ℕ) → Effect = λ at to. quietly (slice_set (slice_set o.r 14 (plus at 4)) 15 to) psw in
    let there : outcome s (performed does.LeaveSubroutine o psw) ≡ Ok (popped sp pc) =
    ap (λ (m : ℕ). by_result (number_at s Read 4 m) (λ b. let y : Result Effect Trouble = Ok (popped m b) in y) Err) (same_top r o.r k gone)
    ∙ ap (λ (z : Result ℕ Trouble). by_result z (λ b. let y : Result Effect Trouble = Ok (popped sp b) in y) Err) read in
    let v : ℕ = plus (slice_index r 15) k in
    let registers : slice_set (slice_set o.r 14 (plus sp 4)) 15 pc ≡ return_finished pc r =
    ap (λ (z : List ℕ). slice_set (slice_set z 14 (plus sp 4)) 15 pc) gone ∙ ap (λ (z : List ℕ). slice_set z 15 pc) (set_apart r 15 14 v (plus sp 4) apart) ∙ set-set (slice_set r 14 (plus sp 4)) 15 v pc in
    there ∙ ap (λ (z : List ℕ). let y : Result Effect Trouble = Ok (quietly z psw) in y) registers

pub is_return : (d : Instruction) → does.LeaveSubroutine ≡ operation_of d.opcode → map (λ (x : Operand). x.form) [] ≡ forms_in (row_of d.opcode) → map (λ (x : Operand). x.spec) [] ≡ d.specs → IsWellFormed d → IsReturn d
is_return d is f g formed s r psw pc sixteen read =
    touched_done s nothing d [] r psw 0 0 (quietly (return_finished pc r) psw) f g formed sixteen touched_none tt tt (λ at q moved none gone.
    let o : Operands = all_had 0 0 at [] q in
    ap (λ (op : Operation). outcome s (performed op o psw)) (sym is) ∙ return_done s r d.length psw pc o gone read)

pub none_of : (xs : List Operand) → length xs < 1 → xs ≡ []
none_of [] few = refl
none_of (x ∷ xs) few = absurd (omega arith)
