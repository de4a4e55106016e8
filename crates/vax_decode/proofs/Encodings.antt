-- What encoding needs of a well-formed instruction.
use Rattle.std.proofs.Common.{Bool, ◌≡◌, ◌≢◌, ℕ, suc, ◌+◌, ◌<◌, ◌≤◌, true, false, eqb, List, [], ◌∷◌, ◌++◌, length, drop, get_or, min, Some, IfSome, refl, sym, ap, ◌∙◌, subst, arith, drop-cons, length-append, length-drop, ltb}
use Rattle.std.proofs.lemmas.Bool.{ne_eqb, ltb-true}
use Rattle.std.proofs.lemmas.List.{nil_from_length}
use Rattle.vax_table.specs.declared.forms.Form.{Form}
use Rattle.vax_table.specs.declared.decoded.Spec.{Spec}
use Rattle.vax_table.specs.Rows.{OpcodeEntry, row_of}
use Rattle.vax_table.specs.Spelling.{unindexed, Displaces, byte, byte_deferred, word, word_deferred, long, long_deferred, Specifier, literal, register, register_deferred, autodecrement, autoincrement, immediate, autoincrement_deferred, absolute, displacement, SpellsOperand, specifier, indexed, branch, Operands, Instruction, Spells, wait, of_row, IsWellFormed}
use Rattle.vax_table.specs.Reading.{is_branch}
use Rattle.vax_table.specs.Spelled.{value_size, spelled_specifier, spelled, spelled_all}
use Rattle.vax_table.proofs.Tests.{if_both, le_of}
use Rattle.vax_table.proofs.Bytes.{length-bytes_of}
use Rattle.vax_table.proofs.Lengths.{spellings_short}
use Rattle.vax_table.proofs.OneSpelling.{operands_spelled}
use Rattle.vax_decode.specs.Encoding.{IsInRange, AllInRange}

-- ---- lengths of what is appended

pub length-spelled_specifier : (f : Form) (s : Spec) → s.mode ≢ 0 → length (spelled_specifier f s) ≡ 1 + value_size f s
unfolding spelled_specifier
length-spelled_specifier f s n = let e : eqb s.mode 0 ≡ false = ne_eqb s.mode 0 n in rw e (omega (arith, length-bytes_of (value_size f s) s.value))

-- ---- the operands one by one

-- what is left to spell at a place begins with the operand there
spelled_next : (fs : List Form) (ss : List Spec) (i : ℕ) (f : Form) (s : Spec) → i < length fs → i < length ss → f ≡ get_or fs i f → s ≡ get_or ss i s →
    spelled_all (drop i fs) (drop i ss) ≡ spelled f s ++ spelled_all (drop (suc i) fs) (drop (suc i) ss)
spelled_next fs ss i f s below_f below_s e g = rw (drop-cons fs i f below_f, drop-cons ss i s below_s, ← e, ← g)

pub room_next : (fs : List Form) (ss : List Spec) (i : ℕ) (f : Form) (s : Spec) (text start : List ℕ) → i < length fs → i < length ss → f ≡ get_or fs i f → s ≡ get_or ss i s →
    text ++ spelled_all (drop i fs) (drop i ss) ≡ start ++ spelled_all fs ss → length start + length (spelled_all fs ss) ≤ 24 → length text + length (spelled f s) ≤ 24
room_next fs ss i f s text start below_f below_s e g same room =
    let next = spelled_next fs ss i f s below_f below_s e g in
    omega (arith, length-append {A = ℕ}, ap (length {A = ℕ}) same, ap (length {A = ℕ}) next)

spelled_none : (fs : List Form) → spelled_all fs [] ≡ []
spelled_none [] = refl
spelled_none (f ∷ fs) = refl

-- where one of both lists ends nothing is left to spell
pub spelled_end : (fs : List Form) (ss : List Spec) (i : ℕ) → i ≡ min (length fs) (length ss) → spelled_all (drop i fs) (drop i ss) ≡ []
spelled_end fs ss i e =
    if_both (λ (_ : ℕ). spelled_all (drop i fs) (drop i ss) ≡ []) (ltb (length fs) (length ss)) 0 0
    (λ t.
    let less : length fs < length ss = ltb-true _ _ t in
    let none : drop i fs ≡ [] = nil_from_length _ (omega (arith, length-drop {A = Form})) in
    rw none)
    (λ t.
    let more : length ss ≤ length fs = le_of _ _ t in
    let none : drop i ss ≡ [] = nil_from_length _ (omega (arith, length-drop {A = Spec})) in
    rw none (spelled_none (drop i fs)))

both : (b : Bool) → b ≡ true → b ≡ false → ⊥
both b t f = cc

-- ---- well-formed operands are in range

displaces_half : (m k : ℕ) → Displaces m k → (m < 16) × (m ≢ 0)
displaces_half m k byte = (omega arith, omega arith)
displaces_half m k byte_deferred = (omega arith, omega arith)
displaces_half m k word = (omega arith, omega arith)
displaces_half m k word_deferred = (omega arith, omega arith)
displaces_half m k long = (omega arith, omega arith)
displaces_half m k long_deferred = (omega arith, omega arith)

-- the fields of an operand without index
in_range : (f : Form) (s : Spec) (mode reg value : ℕ) → s ≡ unindexed mode reg value → mode < 16 → reg < 16 → (mode ≡ 0 → value < 64) → IsInRange f s
in_range f s mode reg value e m r l = subst (IsInRange f) (sym e) (record { mode = λ _. m; reg = λ _. r; literal = λ _. l; index = tt })

specifier_in_range : (f : Form) (bytes : List ℕ) (s : Spec) → Specifier f bytes s → IsInRange f s
specifier_in_range f bytes s (literal n h a e g) = in_range f s 0 0 n g (omega arith) (omega arith) (λ z. h)
specifier_in_range f bytes s (register n h a p e g) = in_range f s 5 n 0 g (omega arith) (omega arith) (λ z. omega arith)
specifier_in_range f bytes s (register_deferred n h e g) = in_range f s 6 n 0 g (omega arith) (omega arith) (λ z. omega arith)
specifier_in_range f bytes s (autodecrement n h e g) = in_range f s 7 n 0 g (omega arith) (omega arith) (λ z. omega arith)
specifier_in_range f bytes s (autoincrement n h e g) = in_range f s 8 n 0 g (omega arith) (omega arith) (λ z. omega arith)
specifier_in_range f bytes s (immediate v h e g) = in_range f s 8 15 v g (omega arith) (omega arith) (λ z. absurd (omega arith))
specifier_in_range f bytes s (autoincrement_deferred n h e g) = in_range f s 9 n 0 g (omega arith) (omega arith) (λ z. omega arith)
specifier_in_range f bytes s (absolute v h e g) = in_range f s 9 15 v g (omega arith) (omega arith) (λ z. absurd (omega arith))
specifier_in_range f bytes s (displacement mode k n v d h l e g) = let m = displaces_half mode k d in in_range f s mode n v g m.0 h (λ z. absurd (m.1 z))

operand_in_range : (f : Form) (bytes : List ℕ) (s : Spec) → SpellsOperand f bytes s → IsInRange f s
operand_in_range f bytes s (specifier n b) = specifier_in_range f bytes s b
operand_in_range f bytes s (indexed n x h b r t l i m e g) =
    let base : IsInRange f t = specifier_in_range f (b ∷ r) t m in
    subst (IsInRange f) (sym g) (record { mode = base.mode; reg = base.reg; literal = base.literal; index = h })
operand_in_range f bytes s (branch a v h e g) =
    let t : is_branch f.access ≡ true = ap is_branch a in
    record { mode = λ z. absurd (both _ t z); reg = λ z. absurd (both _ t z); literal = λ z. absurd (both _ t z); index = subst (λ (y : Spec). IfSome y.index (λ x. x < 15)) (sym g) tt }

operands_in_range : (fs : List Form) (bytes : List ℕ) (ss : List Spec) → Operands fs bytes ss → AllInRange fs ss
operands_in_range [] bytes [] h = tt
operands_in_range [] bytes (s ∷ ss) h = absurd h
operands_in_range (f ∷ fs) bytes [] h = absurd h
operands_in_range (f ∷ fs) bytes (s ∷ ss) h = (operand_in_range f h.0 s h.3, operands_in_range fs h.1 ss h.4)

-- ---- what encode writes spells the instruction

-- what encode needs of the row that it finds
pub record IsReady (d : Instruction) (e : OpcodeEntry) : Type 0 where
  pub range : AllInRange e.operands d.specs
  pub room : 1 + length (spelled_all e.operands d.specs) ≤ 24
  pub spelled : Spells (d.opcode ∷ spelled_all e.operands d.specs) d

ready_by : (d : Instruction) (bytes : List ℕ) (x : OpcodeEntry) (opcode : ℕ) (rest : List ℕ) → Spells bytes d → row_of opcode ≡ Some x → Operands x.operands rest d.specs → bytes ≡ opcode ∷ rest → d.opcode ≡ opcode → IsReady d x
ready_by d bytes x opcode rest p q m e o =
    let same : rest ≡ spelled_all x.operands d.specs = operands_spelled x.operands rest d.specs m in
    let whole : bytes ≡ d.opcode ∷ spelled_all x.operands d.specs = e ∙ (ap (λ ys. opcode ∷ ys) same ∙ ap (λ c. c ∷ spelled_all x.operands d.specs) (sym o)) in
    let short : length bytes ≤ 21 = spellings_short bytes d p in
    let size : length bytes ≡ length (d.opcode ∷ spelled_all x.operands d.specs) = ap length whole in
    record { range = operands_in_range x.operands rest d.specs m; room = omega arith; spelled = subst (λ ys. Spells ys d) whole p }

pub ready : (d : Instruction) → IsWellFormed d → d.wait ≡ false → (x : OpcodeEntry) → row_of d.opcode ≡ Some x → IsReady d x
ready d (bytes, wait e g) w x found = absurd (both _ (ap (λ (i : Instruction). i.wait) g) w)
ready d (bytes, of_row y o r s l n q m e g) w x found =
    let op : d.opcode ≡ o = ap (λ (i : Instruction). i.opcode) g in
    let sp : d.specs ≡ s = ap (λ (i : Instruction). i.specs) g in
    let rows : Some x ≡ Some y = sym found ∙ (ap row_of op ∙ q) in
    let same : x ≡ y = cc in
    subst (IsReady d) (sym same) (ready_by d bytes y o r (of_row y o r s l n q m e g) q (subst (Operands y.operands r) (sym sp) m) e op)
