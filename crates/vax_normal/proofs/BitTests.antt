-- BBS and BBC of memory do what their normal form says.
use Rattle.std.proofs.Common.{◌≡◌, ℕ, ◌+◌, ◌%◌, ◌^◌, ◌<◌, true, List, [], ◌∷◌, length, map, Option, Some, None, Result, Ok, Err, refl, ap, ◌∙◌, sym, subst, arith, slice_index}
use Rattle.std.specs.Prelude.{IfSome}
use Rattle.vv_base.specs.Width.{size_of}
use Rattle.vv_base.specs.declared.width.Width.{Width}
use Rattle.vax_arch.specs.declared.mode.Intent.TheVariants.{Read}
use Rattle.vv_base.specs.Bits.{is_set}
use Rattle.vax_table.specs.Branches.{bit_in, branched_on_bit, byte_of_bit, comes_out}
use Rattle.vax_table.specs.Claims.{Holds}
use Rattle.vax_table.specs.Effects.{Effect, dest_of, long_of, went_if}
use Rattle.vax_table.specs.Interaction.{Done, Interaction, Space, Trouble, by_result, number_at, outcome, ◌>>=◌}
use Rattle.vax_table.specs.Operand.{evaluated, indexed_by, place, plus}
use Rattle.vax_table.specs.AllOperands.{forms_in, no_operands, operand_of, operands_of, past_own_bytes, with_operand}
use Rattle.vax_table.specs.Operations.{operation_of}
use Rattle.vax_table.specs.Plan.{performed, planned}
use Rattle.vax_table.specs.Rows.{row_of}
use Rattle.vax_table.specs.Spelling.{Instruction, IsWellFormed}
use Rattle.vax_table.specs.declared.act.Dest.{Dest}
use Rattle.vax_table.specs.declared.act.Dest.TheVariants.{Memory}
use Rattle.vax_table.specs.declared.decoded.Spec.{Spec}
use Rattle.vax_table.specs.declared.evaluation.Evaluated.{Evaluated}
use Rattle.vax_table.specs.declared.evaluation.Operands.{Operands}
use Rattle.vax_table.specs.declared.meaning.Operation.{Operation}
use Rattle.vax_table.specs.declared.meaning.Operation.TheVariants as does
use Rattle.vax_table.proofs.NextPc.{operands_go}
use Rattle.vax_operand.specs.declared.kind.Base.TheVariants.{Deferred, Displaced}
use Rattle.vax_operand.specs.declared.kind.Kind.{Kind}
use Rattle.vax_operand.specs.declared.kind.Kind.TheVariants.{Bits, Branch}
use Rattle.vax_operand.specs.declared.prepared.Operand.{Operand}
use Rattle.vax_operand.specs.Prepared.{address_by, base_by, operand_by}
use Rattle.vax_operand.proofs.Preparing.{prepared_same}
use Rattle.vax_operand.proofs.Steps.{left_from}
use Rattle.vax_normal.specs.AtHand.{AreAlikeButPc, IsMoved, is_at_hand, value_at_hand}
use Rattle.vax_normal.specs.Normal.{number_by, quietly}
use Rattle.vax_normal.specs.declared.shape.Number.{Number}
use Rattle.vax_normal.proofs.Doing.{went_on}
use Rattle.vax_normal.proofs.Taking.{after_opcode, alike_on, moved_by, moved_on, operand_taken, pc_alone, taken_operand}
use Rattle.vax_normal.specs.BitTest.{IsBitBase, IsBitTest, IsNumberOf, bit_address, bit_tested_in}
use Rattle.vax_normal.specs.declared.bit_test.BitTest.{BitTest}

same_sum : (b m k : ℕ) → b % 2 ^ 32 ≡ m → plus b k ≡ plus m k
same_sum b m k e = omega (arith, e)

-- what follows operands of which the second has its bits at an address, and the third is where it leads
tested : (s : Space) (n : BitTest) (r : List ℕ) (b to psw byte : ℕ) (o : Operands) → 15 < length r → dest_of o 1 ≡ Memory b → b % 2 ^ 32 ≡ number_by n.base r → long_of o 0 ≡ number_by n.position r →
    long_of o 2 ≡ plus (slice_index o.r 15) to % 2 ^ 32 → n.jump ≡ (to + n.length) % 2 ^ 32 → o.r ≡ past_own_bytes n.length r → number_at s Read 1 (bit_address n r) ≡ Ok byte →
    outcome s (performed (does.BranchOnBit n.on None) o psw) ≡ Ok (quietly (bit_tested_in n byte r) psw)
unfolding performed branched_on_bit
tested s n r b to psw byte o room there base position leads by gone read =
    let p : ℕ = number_by n.position r in
    let after : (p byte : ℕ) → Effect = λ p byte. went_if (comes_out n.on (is_set byte (p % 8))) (long_of o 2) (quietly o.r psw) in
    let found : (at p : ℕ) → Result Effect Trouble = λ at p. by_result (number_at s Read 1 at) (λ v. let y : Result Effect Trouble = Ok (after p v) in y) Err in
    let first : outcome s (performed (does.BranchOnBit n.on None) o psw) ≡ found (byte_of_bit b (long_of o 0)) (long_of o 0) =
    ap (λ (z : Dest). outcome s (bit_in n.on None z (long_of o 0) (long_of o 2) (quietly o.r psw))) there in
    first ∙ ap (λ (m : ℕ). found (byte_of_bit b m) m) position ∙ ap (λ (m : ℕ). found m p) (same_sum b (number_by n.base r) _ base)
    ∙ ap (λ (z : Result ℕ Trouble). by_result z (λ v. let y : Result Effect Trouble = Ok (after p v) in y) Err) read
    ∙ ap (λ (e : Effect). let y : Result Effect Trouble = Ok e in y) (went_on (comes_out n.on (is_set byte (p % 8))) r o.r to n.length n.jump (long_of o 2) psw room gone leads by)

operands_are : (d : Instruction) (xs : List Operand) (r : List ℕ) (o : Operands) → map (λ x. x.form) xs ≡ forms_in (row_of d.opcode) → map (λ x. x.spec) xs ≡ d.specs → left_from 0 xs (no_operands (after_opcode d r)) ≡ Done o → operands_of d r ≡ Done o
unfolding operands_of
operands_are d xs r o f g h = rw (sym f, sym g) h

-- an operand whose bits are at an address
bits_taken : (y : Operand) (b : ℕ) (r : List ℕ) → operand_by y.kind y.form.width y.spec (past_own_bytes y.length r) ≡ Done (evaluated 0 (Memory b) (past_own_bytes y.length r)) → operand_of y.form y.spec r ≡ Done (evaluated 0 (Memory b) (past_own_bytes y.length r))
bits_taken y b r gives = sym (prepared_same y.form y.spec y.kind y.length r y.prepared y.bytes) ∙ gives

pub is_bit_test : (n : BitTest) (d : Instruction) (x y z : Operand) (to : ℕ) → does.BranchOnBit n.on None ≡ operation_of d.opcode → map (λ x. x.form) (x ∷ (y ∷ (z ∷ []))) ≡ forms_in (row_of d.opcode) → map (λ x. x.spec) (x ∷ (y ∷ (z ∷ []))) ≡ d.specs →
    IsWellFormed d → is_at_hand x.kind ≡ true → IsNumberOf n.position x → IsBitBase n.base y → z.kind ≡ Branch to → n.length ≡ d.length → n.jump ≡ (to + n.length) % 2 ^ 32 → IsBitTest n d
unfolding planned
is_bit_test n d x y z to is f g formed hand has based leads long by s r psw byte sixteen read =
    let room : 15 < length r = omega (arith, sixteen) in
    let q : List ℕ = after_opcode d r in
    let qx : List ℕ = past_own_bytes x.length q in
    let qy : List ℕ = past_own_bytes y.length qx in
    let qz : List ℕ = past_own_bytes z.length qy in
    let alike : AreAlikeButPc r qx = alike_on r q x.length (pc_alone r _) in
    let base = based r qy (alike_on r qx y.length alike) in
    let b : ℕ = base.0 in
    let o1 : Operands = with_operand 0 (no_operands q) (taken_operand x q) in
    let o2 : Operands = with_operand 1 o1 (evaluated 0 (Memory b) qy) in
    let o : Operands = with_operand 2 o2 (taken_operand z qy) in
    let branch : is_at_hand z.kind ≡ true = ap is_at_hand leads in
    let all : left_from 0 (x ∷ (y ∷ (z ∷ []))) (no_operands q) ≡ Done o =
    ap (λ (m : Interaction Evaluated). m >>= λ e. left_from 1 (y ∷ (z ∷ [])) (with_operand 0 (no_operands q) e)) (operand_taken x q hand)
    ∙ ap (λ (m : Interaction Evaluated). m >>= λ e. left_from 2 (z ∷ []) (with_operand 1 o1 e)) (bits_taken y b qx base.1)
    ∙ ap (λ (m : Interaction Evaluated). m >>= λ e. left_from 3 [] (with_operand 2 o2 e)) (operand_taken z qy branch) in
    let taken : operands_of d r ≡ Done o = operands_are d (x ∷ (y ∷ (z ∷ []))) r o f g all in
    let goes : Holds (λ cs o. slice_index o.r 15 ≡ plus (slice_index r 15) d.length) [] (Done o) = subst (Holds (λ cs o. slice_index o.r 15 ≡ plus (slice_index r 15) d.length) []) taken (operands_go d r formed room) in
    let moved : IsMoved r qz = moved_on r qy z.length (moved_on r qx y.length (moved_on r q x.length (_, refl))) in
    let gone : qz ≡ past_own_bytes n.length r = moved_by r qz (plus (slice_index r 15) d.length) room moved goes ∙ ap (λ (k : ℕ). past_own_bytes k r) (sym long) in
    let target : long_of o 2 ≡ plus (slice_index qz 15) to % 2 ^ 32 = ap (λ (k : Kind). value_at_hand k z.form.width z.spec qz % 2 ^ 32) leads in
    ap (λ (m : Interaction Operands). outcome s (m >>= λ p. performed (operation_of d.opcode) p psw)) taken
    ∙ ap (λ (op : Operation). outcome s (performed op o psw)) (sym is)
    ∙ tested s n r b to psw byte o room refl base.2 (has r qx alike) target by gone read

-- ---- the address from which bits are counted

-- the bits of an address with an index
abbrev bits_from : Width → Option ℕ → ℕ → List ℕ → Interaction Evaluated
bits_from w i at q = let p = indexed_by (size_of w) i (place at q) in Done (evaluated 0 (Memory p.at) p.r)

bits_deferred : (w : Width) (s : Spec) (q : List ℕ) → operand_by (Bits Deferred) w s q ≡ bits_from w s.index (slice_index q s.reg) q
unfolding operand_by address_by base_by
bits_deferred w s q = refl

bits_displaced : (w : Width) (s : Spec) (d : ℕ) (q : List ℕ) → operand_by (Bits (Displaced d)) w s q ≡ bits_from w s.index (plus (slice_index q s.reg) d) q
unfolding operand_by address_by base_by
bits_displaced w s d q = refl

-- a register and an offset
abbrev IsOffsetFrom : ℕ → ℕ → Number → Type 0
IsOffsetFrom reg d n = (r q : List ℕ) → AreAlikeButPc r q → (slice_index q reg + d) % 2 ^ 32 ≡ number_by n r

no_more : (x m : ℕ) → (x + 0) % 2 ^ 32 ≡ m → x % 2 ^ 32 ≡ m
no_more x m e = omega (arith, e)

twice : (x d m : ℕ) → (x + d) % 2 ^ 32 ≡ m → plus x d % 2 ^ 32 ≡ m
twice x d m e = omega (arith, e)

pub deferred_base : (o : Option Number) (x : Operand) → x.kind ≡ Bits Deferred → x.spec.index ≡ None → IfSome o (IsOffsetFrom x.spec.reg 0) → IfSome o (λ n. IsBitBase n x)
deferred_base None x is none has = tt
deferred_base (Some n) x is none has = λ r q alike.
    let at : ℕ = slice_index q x.spec.reg in
    let w = x.form.width in
    let gives : operand_by x.kind w x.spec q ≡ Done (evaluated 0 (Memory at) q) =
    ap (λ (k : Kind). operand_by k w x.spec q) is ∙ bits_deferred w x.spec q ∙ ap (λ (i : Option ℕ). bits_from w i at q) none in
    (at, gives, no_more at (number_by n r) (has r q alike))

pub displaced_base : (o : Option Number) (x : Operand) (d : ℕ) → x.kind ≡ Bits (Displaced d) → x.spec.index ≡ None → IfSome o (IsOffsetFrom x.spec.reg d) → IfSome o (λ n. IsBitBase n x)
displaced_base None x d is none has = tt
displaced_base (Some n) x d is none has = λ r q alike.
    let at : ℕ = plus (slice_index q x.spec.reg) d in
    let w = x.form.width in
    let gives : operand_by x.kind w x.spec q ≡ Done (evaluated 0 (Memory at) q) =
    ap (λ (k : Kind). operand_by k w x.spec q) is ∙ bits_displaced w x.spec d q ∙ ap (λ (i : Option ℕ). bits_from w i at q) none in
    (at, gives, twice (slice_index q x.spec.reg) d (number_by n r) (has r q alike))
