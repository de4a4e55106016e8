-- Bytes after others, piece by piece.
use Rattle.std.specs.Prelude.{map, IsSome, if◌then◌else◌}
use Rattle.std.proofs.Common.{◌≡◌, ℕ, zero, suc, ◌+◌, ◌-◌, ◌/◌, ◌%◌, ◌<◌, ◌≤◌, Bool, true, false, List, [], ◌∷◌, ◌++◌, length, get_or, take, drop, Option, Some, None, Result, Ok, Err, refl, sym, ap, subst, ◌∙◌, append_assoc, arith}
use Rattle.std.proofs.lemmas.List.{take_rest}
use Rattle.vax_table.specs.declared.forms.Form.{Form}
use Rattle.vax_table.specs.declared.decoded.Spec.{Spec}
use Rattle.vax_table.specs.Spelling.{bytes_of}
use Rattle.vax_table.specs.Spelled.{spelled}
use Rattle.vax_table.specs.Reading.{is_branch}
use Rattle.vax_decode.specs.Encoding.{IsInRange}
use Rattle.vasm_text.specs.Operands.{SourceOperand}
use Rattle.vasm_text.specs.Asm.{◌>>=◌, operand_size, is_in_field, difference, field_size, named_target, with_displacement, resolved, operands_bytes, at_line}
use Rattle.vasm_text.specs.declared.fault.AsmError.{AsmError}
use Rattle.vasm_text.specs.declared.fault.AsmError.TheVariants.{Fault, NoMemory}
use Rattle.vasm_text.specs.declared.fault.AsmFault.{AsmFault}
use Rattle.vasm_text.specs.declared.fault.AsmKind.{AsmKind}
use Rattle.vasm_text.specs.declared.fault.AsmKind.TheVariants.{OutOfReach}
use Rattle.vasm.specs.declared.parse_operand.Operand.{Operand as Kept}
use Rattle.vasm.specs.Views.{operand_view}
use Rattle.vasm.specs.Fits.{IsFit, AreFit}
use Rattle.vasm.specs.Puts.{appended_to, AppendsOrRefuses}

pub number_step : (old want : List ℕ) (left rest : ℕ) → 0 < left → old ++ bytes_of left rest ≡ want → (old ++ rest % 256 ∷ []) ++ bytes_of (left - 1) (rest / 256) ≡ want
number_step old want zero rest some is = absurd (omega arith)
number_step old want (suc k) rest some is =
    let e : suc k - 1 ≡ k = omega arith in
    ap (λ (n : ℕ). (old ++ rest % 256 ∷ []) ++ bytes_of n (rest / 256)) e ∙ append_assoc old (rest % 256 ∷ []) (bytes_of k (rest / 256)) ∙ is

-- ---- the first operand of some

pub first_fit : (fs : List Form) (os : List Kept) (f : Form) (o : Kept) → 1 ≤ length fs → 1 ≤ length os → AreFit fs (map operand_view os) → IsFit (get_or fs 0 f) (operand_view (get_or os 0 o))
first_fit [] os f o some more fit = absurd (omega arith)
first_fit (g ∷ fs) [] f o some more fit = absurd (omega arith)
first_fit (g ∷ fs) (p ∷ os) f o some more fit = fit.0

with_value_in_range : (form : Form) (s : Spec) (value : ℕ) → IsInRange form s → (is_branch form.access ≡ false → s.mode ≡ 0 → value < 64) → IsInRange form (record s { value = value })
with_value_in_range form s value r literal = record { mode = r.mode; reg = r.reg; literal = literal; index = r.index }

reached_in_range : (form : Form) (s t : Spec) (size target appended_to : ℕ) (within : Bool) → IsInRange form s → (is_branch form.access ≡ false → s.mode ≡ 0 → ⊥)
    → (let r : Result Spec AsmKind = if within then Ok (record s { value = difference size target appended_to }) else Err OutOfReach in r ≡ Ok t) → IsInRange form t
reached_in_range form s t size target appended_to true r named is =
    let same : record s { value = difference size target appended_to } ≡ t = cc in
    subst (IsInRange form) same (with_value_in_range form s (difference size target appended_to) r (λ no zero_mode. absurd (named no zero_mode)))
reached_in_range form s t size target appended_to false r named is = cc

resolved_by : (names : List ℕ → Option ℕ) (appended_to : ℕ) (form : Form) (s t : Spec) (name : Option (List ℕ)) → IsInRange form s → (is_branch form.access ≡ false → IsSome name → s.mode ≡ 0 → ⊥)
    → (let r : Result Spec AsmKind = elim name [ None ↦ Ok s | Some n ↦ with_displacement (field_size form s) s (named_target names n) appended_to ] in r ≡ Ok t) → IsInRange form t
resolved_by names appended_to form s t None r named is = let same : s ≡ t = cc in subst (IsInRange form) same r
resolved_by names appended_to form s t (Some n) r named is = reached_in_range form s t (field_size form s) (named_target names n) appended_to (is_in_field (field_size form s) (named_target names n) appended_to) r (λ no. named no refl) is

pub resolved_in_range : (names : List ℕ → Option ℕ) (appended_to : ℕ) (form : Form) (o : SourceOperand) (s : Spec) → IsFit form o → resolved names appended_to form o ≡ Ok s → IsInRange form s
unfolding resolved
resolved_in_range names appended_to form o s fit is = resolved_by names appended_to form o.spec s o.name fit.range fit.named is

pub other_fit : (fs : List Form) (os : List Kept) → 1 ≤ length fs → 1 ≤ length os → AreFit fs (map operand_view os) → AreFit (drop 1 fs) (map operand_view (drop 1 os))
other_fit [] os some more fit = absurd (omega arith)
other_fit (g ∷ fs) [] some more fit = absurd (omega arith)
other_fit (g ∷ fs) (p ∷ os) some more fit = fit.1

pub first_bytes : (names : List ℕ → Option ℕ) (at : ℕ) (fs : List Form) (os : List Kept) (f : Form) (o : Kept) (s : Spec) → 1 ≤ length fs → 1 ≤ length os
    → resolved names (at + operand_size (get_or fs 0 f) (operand_view (get_or os 0 o))) (get_or fs 0 f) (operand_view (get_or os 0 o)) ≡ Ok s
    → operands_bytes names at fs (map operand_view os) ≡ (operands_bytes names (at + operand_size (get_or fs 0 f) (operand_view (get_or os 0 o))) (drop 1 fs) (map operand_view (drop 1 os)) >>= λ bytes. Ok (spelled (get_or fs 0 f) s ++ bytes))
first_bytes names at [] os f o s some more is = absurd (omega arith)
first_bytes names at (g ∷ fs) [] f o s some more is = absurd (omega arith)
first_bytes names at (g ∷ fs) (p ∷ os) f o s some more is = rw is

-- ---- bytes after others

after_front : {E : Type 0} (old front : List ℕ) (wanted : Result (List ℕ) E) → appended_to old (wanted >>= λ bytes. Ok (front ++ bytes)) ≡ appended_to (old ++ front) wanted
after_front old front (Ok bytes) = ap (λ (xs : List ℕ). Ok xs) (sym (append_assoc old front bytes))
after_front old front (Err e) = refl

refused_front : (number : ℕ) (front : List ℕ) (wanted : Result (List ℕ) AsmKind) (f : AsmFault) → at_line number wanted ≡ Err f → at_line number (wanted >>= λ bytes. Ok (front ++ bytes)) ≡ Err f
refused_front number front (Ok bytes) f is = cc
refused_front number front (Err kind) f is = is

pub puts_front : {U : Type 0} (number : ℕ) (old front new : List ℕ) (wanted : Result (List ℕ) AsmKind) (r : Result U AsmError) → AppendsOrRefuses number (old ++ front) new wanted r → AppendsOrRefuses number old new (wanted >>= λ bytes. Ok (front ++ bytes)) r
puts_front number old front new wanted (Ok u) is = after_front old front wanted ∙ is
puts_front number old front new wanted (Err (Fault f)) is = refused_front number front wanted f is
puts_front number old front new wanted (Err NoMemory) is = tt

pub operand_put : {U : Type 0} (names : List ℕ → Option ℕ) (number at size : ℕ) (fs : List Form) (os : List Kept) (f : Form) (o : Kept) (s : Spec) (old mid new : List ℕ) (r : Result U AsmError) → 1 ≤ length fs → 1 ≤ length os
    → size ≡ operand_size (get_or fs 0 f) (operand_view (get_or os 0 o)) → Ok s ≡ resolved names (at + size) (get_or fs 0 f) (operand_view (get_or os 0 o)) → mid ≡ old ++ spelled (get_or fs 0 f) s
    → AppendsOrRefuses number mid new (operands_bytes names (at + size) (take (length fs - 1) (drop 1 fs)) (map operand_view (take (length os - 1) (drop 1 os)))) r
    → AppendsOrRefuses number old new (operands_bytes names at fs (map operand_view os)) r
operand_put names number at size fs os f o s old mid new r some more sized is front put =
    let first : Form = get_or fs 0 f in
    let operand : SourceOperand = operand_view (get_or os 0 o) in
    let found : resolved names (at + operand_size first operand) first operand ≡ Ok s = ap (λ (n : ℕ). resolved names (at + n) first operand) (sym sized) ∙ sym is in
    let others : Result (List ℕ) AsmKind = operands_bytes names (at + operand_size first operand) (drop 1 fs) (map operand_view (drop 1 os)) in
    let same : operands_bytes names (at + size) (take (length fs - 1) (drop 1 fs)) (map operand_view (take (length os - 1) (drop 1 os))) ≡ others =
    rw (take_rest fs 1, take_rest os 1) (ap (λ (n : ℕ). operands_bytes names (at + n) (drop 1 fs) (map operand_view (drop 1 os))) sized) in
    let after_old : AppendsOrRefuses number (old ++ spelled first s) new others r = subst (λ (m : List ℕ). AppendsOrRefuses number m new others r) front (subst (λ w. AppendsOrRefuses number mid new w r) same put) in
    subst (λ w. AppendsOrRefuses number old new w r) (sym (first_bytes names at fs os f o s some more found)) (puts_front number old (spelled first s) new others r after_old)
