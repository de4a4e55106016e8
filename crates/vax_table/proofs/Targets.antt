-- What an operation stores through is the one operand that its row has as modified or written, in the same width.
use Rattle.std.specs.Prelude.{map, replicate, find, not, ◌==◌, option_map, unwrap_or}
use Rattle.std.specs.List.{range_with_len}
use Rattle.std.proofs.Common.{◌≡◌, ℕ, zero, suc, ◌+◌, ◌<◌, ◌≤◌, ◌&&◌, Bool, true, false, eqb, ltb, List, [], ◌∷◌, ◌++◌, length, None, append-nil, get_or, refl, ap, ◌∙◌, sym, arith, slice_index_or, Option}
use Rattle.std.proofs.lemmas.Bool.Decides.{nat_tests}
use Rattle.std.proofs.lemmas.List.{get_or-replicate, get_or_past}
use Rattle.std.proofs.lemmas.List.FromFn.{get_or-map-range_with_len}
use Rattle.vv_base.specs.declared.width.Width.{Width}
use Rattle.vv_base.specs.declared.width.Width.TheVariants.{Long, Quad}
use Rattle.vv_base.specs.Width.{size_of}
use Rattle.vax_table.specs.declared.act.Dest.{Dest}
use Rattle.vax_table.specs.declared.act.Dest.TheVariants.{Nowhere, Register, Memory}
use Rattle.vax_table.specs.declared.evaluation.Operands.{Operands}
use Rattle.vax_table.specs.declared.forms.Access.{Access}
use Rattle.vax_table.specs.declared.forms.Access.TheVariants.{Read, Modify, Write, Address, Bits, Branch}
use Rattle.vax_table.specs.declared.forms.Form.{Form}
use Rattle.vax_table.specs.declared.meaning.Operation.{Operation}
use Rattle.vax_table.specs.declared.meaning.Operation.TheVariants as does
use Rattle.vax_table.specs.declared.meaning.Target.TheVariants as targets
use Rattle.vax_table.specs.Claims.{addresses, claims_by, destination_addresses, operand_claims}
use Rattle.vax_table.specs.Effects.{dest_of}
use Rattle.vax_table.specs.AllOperands.{forms_in}
use Rattle.vax_table.specs.Acted.{meaning_by}
use Rattle.vax_table.specs.InstructionSet.{InstructionEntry, instruction_entry_of, opcode_meaning, opcode_rows, refused}
use Rattle.vax_table.specs.Plan.{performed}
use Rattle.vax_table.specs.declared.act.Refusal.TheVariants as refusals
use Rattle.vax_table.specs.declared.meanings.TheConstants.{OPERATIONS}
use Rattle.vax_table.specs.Operations.{operation_of}
use Rattle.vax_table.specs.Rows.{row_of}
use Rattle.vax_table.proofs.OperandClaims.{AreClaimed, are_few}
use Rattle.vax_table.proofs.TableRows.{meaning_below}
use Rattle.vax_table.proofs.Tests.{eq_of, if_both, le_of}

and_both : (a b : Bool) → (a && b) ≡ true → (a ≡ true) × (b ≡ true)
and_both true b e = (refl, e)
and_both false b e = cc

-- modified or written
pub is_kept : Access → Bool
is_kept Read = false
is_kept Modify = true
is_kept Write = true
is_kept Address = false
is_kept Bits = false
is_kept Branch = false

-- none of these operands is kept
pub keeps_none : List Form → Bool
keeps_none [] = true
keeps_none (f ∷ fs) = not (is_kept f.access) && keeps_none fs

-- operand k alone is kept, in a width
pub keeps_only : List Form → ℕ → Width → Bool
keeps_only [] k w = false
keeps_only (f ∷ fs) zero w = (is_kept f.access && eqb (size_of f.width) (size_of w)) && keeps_none fs
keeps_only (f ∷ fs) (suc k) w = not (is_kept f.access) && keeps_only fs k w

pub gets : List Form → ℕ → Width → Bool
gets fs k w = are_few fs && keeps_only fs k w

pub gets_none : List Form → Bool
gets_none fs = are_few fs && keeps_none fs

-- Where an operation stores through an operand, that one alone is kept, in the operation's width; where it stores
-- through none, none is.
unfoldable pub is_fit : Operation → List Form → Bool
is_fit (does.Compute op w i targets.CodesOnly) fs = gets_none fs
is_fit (does.Compute op w i targets.First) fs = gets fs 0 w
is_fit (does.Compute op w i targets.Second) fs = gets fs 1 w
is_fit (does.Compute op w i targets.Third) fs = gets fs 2 w
is_fit does.ClearQuad fs = gets fs 0 Quad
is_fit does.MoveQuad fs = gets fs 1 Quad
is_fit (does.AddAndCompare w) fs = gets fs 2 w
is_fit (does.AddOne b) fs = gets fs 1 Long
is_fit (does.SubtractOne b) fs = gets fs 0 Long
is_fit does.MoveStatus fs = gets fs 0 Long
is_fit does.Other fs = true
is_fit (does.Sensitive op) fs = true
is_fit (does.Probe intent) fs = gets_none fs
is_fit does.Breakpoint fs = true
is_fit does.Customer fs = true
is_fit operation fs = gets_none fs

-- all 256 at once, by computation
all_fit : map (λ n. is_fit (operation_of n) (forms_in (row_of n))) (range_with_len 0 256) ≡ replicate 256 true
unfolding operation_of row_of is_fit gets gets_none keeps_only keeps_none is_kept are_few
all_fit = refl

fit_below : (n : ℕ) → n < 256 → is_fit (operation_of n) (forms_in (row_of n)) ≡ true
fit_below n below =
    sym (get_or-map-range_with_len (λ k. is_fit (operation_of k) (forms_in (row_of k))) 0 256 n n true below (omega arith))
    ∙ ap (λ (xs : List Bool). get_or xs n true) all_fit
    ∙ get_or-replicate 256 n true true below

-- beyond the bytes there is no instruction
operations_length : length OPERATIONS ≡ 256
operations_length = refl

pub beyond_all : (n : ℕ) → 256 ≤ n → operation_of n ≡ does.Other
unfolding operation_of
beyond_all n h = get_or_past OPERATIONS n does.Other (omega (arith, operations_length))

are_bytes : List (ℕ × InstructionEntry) → Bool
are_bytes [] = true
are_bytes (l ∷ ls) = ltb l.0 256 && are_bytes ls

beyond_rows : (n : ℕ) (ls : List (ℕ × InstructionEntry)) → 256 ≤ n → are_bytes ls ≡ true → find (λ row. row.0 == n) ls ≡ None
unfolding are_bytes
beyond_rows n [] h e = refl
beyond_rows n (l ∷ ls) h e =
    let both = and_both (ltb l.0 256) (are_bytes ls) e in
    if_both (λ (o : Option (ℕ × InstructionEntry)). o ≡ None) (eqb l.0 n) _ _ (λ t. absurd (grind (arith, nat_tests, both.0))) (λ t. beyond_rows n ls h both.1)

no_entry : (n : ℕ) → 256 ≤ n → instruction_entry_of n ≡ None
unfolding are_bytes
no_entry n h = ap (λ (o : Option (ℕ × InstructionEntry)). option_map (λ row. row.1) o) (beyond_rows n opcode_rows h refl)

-- a test that the operation of each of the 256 passes, and no operation at all
pub of_each_opcode : (passes : Operation → Bool) → map (λ n. passes (operation_of n)) (range_with_len 0 256) ≡ replicate 256 true → passes does.Other ≡ true → (n : ℕ) → passes (operation_of n) ≡ true
of_each_opcode passes all other n = by (ltb n 256) refl
  where
    by : (b : Bool) → ltb n 256 ≡ b → passes (operation_of n) ≡ true
    by true e =
        let below : n < 256 = grind (arith, nat_tests) in
        sym (get_or-map-range_with_len (λ k. passes (operation_of k)) 0 256 n n true below (omega arith))
        ∙ ap (λ (xs : List Bool). get_or xs n true) all
        ∙ get_or-replicate 256 n true true below
    by false e = rw (beyond_all n (le_of n 256 e)) other

fit_by : (n : ℕ) (b : Bool) → ltb n 256 ≡ b → is_fit (operation_of n) (forms_in (row_of n)) ≡ true
unfolding is_fit
fit_by n true e = fit_below n (grind (arith, nat_tests))
fit_by n false e = rw (beyond_all n (le_of n 256 e)) refl

-- the code's operation is what the instruction set says of the opcode
meaning_beyond : (n : ℕ) → 256 ≤ n → meaning_by (operation_of n) ≡ opcode_meaning n
unfolding opcode_meaning performed
meaning_beyond n h = ap meaning_by (beyond_all n h) ∙ sym (ap (λ (o : Option InstructionEntry). unwrap_or (option_map (λ e. e.meaning) o) (refused refusals.Instruction)) (no_entry n h))

meaning_on : (n : ℕ) (b : Bool) → ltb n 256 ≡ b → meaning_by (operation_of n) ≡ opcode_meaning n
meaning_on n true e = meaning_below n (grind (arith, nat_tests))
meaning_on n false e = meaning_beyond n (le_of n 256 e)

pub meaning_is : (n : ℕ) → meaning_by (operation_of n) ≡ opcode_meaning n
meaning_is n = meaning_on n (ltb n 256) refl

pub operations_fit : (n : ℕ) → is_fit (operation_of n) (forms_in (row_of n)) ≡ true
operations_fit n = fit_by n (ltb n 256) refl

no_yes : false ≡ true → ⊥
no_yes e = cc

unkept : (a : Access) (w : Width) (dest : Dest) → not (is_kept a) ≡ true → claims_by a w dest ≡ []
unfolding is_kept
unkept Read w dest e = refl
unkept Modify w dest e = absurd (no_yes e)
unkept Write w dest e = absurd (no_yes e)
unkept Address w dest e = refl
unkept Bits w dest e = refl
unkept Branch w dest e = refl

bytes_same : (v w : Width) (dest : Dest) → size_of v ≡ size_of w → destination_addresses v dest ≡ destination_addresses w dest
bytes_same v w Nowhere e = refl
bytes_same v w (Register n) e = refl
bytes_same v w (Memory at) e = ap (λ (z : ℕ). addresses z at) e

kept : (a : Access) (v w : Width) (dest : Dest) → is_kept a ≡ true → size_of v ≡ size_of w → claims_by a v dest ≡ destination_addresses w dest
unfolding is_kept
kept Read v w dest k e = absurd (no_yes k)
kept Modify v w dest k e = bytes_same v w dest e
kept Write v w dest k e = bytes_same v w dest e
kept Address v w dest k e = absurd (no_yes k)
kept Bits v w dest k e = absurd (no_yes k)
kept Branch v w dest k e = absurd (no_yes k)

none_kept : (fs : List Form) (dests : List Dest) → keeps_none fs ≡ true → operand_claims fs dests ≡ []
unfolding keeps_none
none_kept [] dests e = refl
none_kept (f ∷ fs) [] e = refl
none_kept (f ∷ fs) (d ∷ ds) e =
    let both = and_both (not (is_kept f.access)) (keeps_none fs) e in
    ap (λ (zs : List ℕ). zs ++ operand_claims fs ds) (unkept f.access f.width d both.0) ∙ none_kept fs ds both.1

only_kept : (fs : List Form) (k : ℕ) (w : Width) (dests : List Dest) → keeps_only fs k w ≡ true → operand_claims fs dests ≡ destination_addresses w (slice_index_or dests k Nowhere)
unfolding keeps_only
only_kept [] k w dests e = absurd (no_yes e)
only_kept (f ∷ fs) k w [] e = refl
only_kept (f ∷ fs) zero w (d ∷ ds) e =
    let both = and_both (is_kept f.access && eqb (size_of f.width) (size_of w)) (keeps_none fs) e in
    let here = and_both (is_kept f.access) (eqb (size_of f.width) (size_of w)) both.0 in
    ap (λ (zs : List ℕ). claims_by f.access f.width d ++ zs) (none_kept fs ds both.1)
    ∙ append-nil (claims_by f.access f.width d)
    ∙ kept f.access f.width w d here.0 (eq_of (size_of f.width) (size_of w) here.1)
only_kept (f ∷ fs) (suc k) w (d ∷ ds) e =
    let both = and_both (not (is_kept f.access)) (keeps_only fs k w) e in
    ap (λ (zs : List ℕ). zs ++ operand_claims fs ds) (unkept f.access f.width d both.0) ∙ only_kept fs k w ds both.1

-- what was claimed are the bytes of the operand that gets a result
pub target_claimed : (fs : List Form) (cs : List ℕ) (o : Operands) (k : ℕ) (w : Width) → (are_few fs ≡ true → AreClaimed fs cs o) → gets fs k w ≡ true → cs ≡ destination_addresses w (dest_of o k)
unfolding gets
target_claimed fs cs o k w h e =
    let both = and_both (are_few fs) (keeps_only fs k w) e in
    h both.0 ∙ only_kept fs k w o.dests both.1

-- or nothing
pub none_claimed : (fs : List Form) (cs : List ℕ) (o : Operands) → (are_few fs ≡ true → AreClaimed fs cs o) → gets_none fs ≡ true → cs ≡ []
unfolding gets_none
none_claimed fs cs o h e =
    let both = and_both (are_few fs) (keeps_none fs) e in
    h both.0 ∙ none_kept fs o.dests both.1
