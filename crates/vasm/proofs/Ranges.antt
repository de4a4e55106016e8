-- What is read can be spelled.
use Rattle.std.specs.Option.{option_or}
use Rattle.std.specs.Prelude.{codes, bytes_eq, nat_le, nat_lt, ◌&&◌, ◌||◌, if◌then◌else◌, IfSome, IsSome}
use Rattle.std.proofs.Common.{◌≡◌, ◌≢◌, ◌==◌, ℕ, ◌+◌, ◌<◌, ◌≤◌, Bool, true, false, List, [], ◌∷◌, take, drop, Option, Some, None, refl, subst, arith}
use Rattle.std.proofs.lemmas.Bool.Decides.{nat_tests}
use Rattle.vv_base.specs.Digits.{decimal_from, is_decimal, decimal_of}
use Rattle.vv_base.specs.Names.{is_object_name, tested}
use Rattle.vv_base.specs.Width.{size_of}
use Rattle.vax_table.specs.declared.forms.Form.{Form}
use Rattle.vax_table.specs.Reading.{is_branch, is_read, is_address, is_quad}
use Rattle.vax_table.proofs.Tests.{if_both}
use Rattle.vasm_text.specs.Cutting.{◌>>=◌, Cut, cut, cut_at, is_blank, trimmed, before_mark}
use Rattle.vasm_text.specs.Mnemonics.{opcode_of}
use Rattle.vasm_text.specs.Numbers.{number_in, field_in, if_below, not_pc, register_in}
use Rattle.vasm_text.specs.Operands.{SourceOperand, unnamed_operand, with_name, operand_of_value, named_in, closed_in, enclosed, literal_in, valued_in, allowed, register_operand_in, based, displaced_in, displacement_in, deferred_in, opened_in, direct_in, specifier_in, indexed, indexed_in, value_in, operand_in, text_after_comma, operands_in}
use Rattle.vasm_text.specs.Statements.{Statement, Field, Instruct, SourceLine, forms_of, number_field_in, long_field_in, instruction_in, words_in, statement_in, saying, after_label, unlabelled, content_in, source_line_in}
use Rattle.vasm.specs.Fits.{IsFit, AreFit, IsStatementFit, IsSourceLineFit}

-- ---- what holds of an option

bound : {A B : Type 0} (P : Option B → Type 0) → P None → (x : Option A) (f : A → Option B) → ((a : A) → x ≡ Some a → P (f a)) → P (x >>= f)
bound P none None f each = none
bound P none (Some a) f each = each a refl

either : {A : Type 0} (P : Option A → Type 0) (x y : Option A) → P x → P y → P (option_or x y)
either P None y px py = py
either P (Some a) y px py = px

below_by : (m limit n : ℕ) (t : Bool) → nat_lt m limit ≡ t → (if t then Some m else None) ≡ Some n → n < limit
below_by m limit n true is e = let same : m ≡ n = cc in grind (arith, nat_tests)
below_by m limit n false is e = cc

below : (x : Option ℕ) (limit n : ℕ) → (x >>= if_below limit) ≡ Some n → n < limit
below None limit n is = cc
below (Some m) limit n is = below_by m limit n (nat_lt m limit) refl is

-- ---- registers

abbrev Small : Option ℕ → Type 0
Small None = Unit {0}
Small (Some n) = n < 16

decimal_by : (n : ℕ) (t u : Bool) → nat_le n 15 ≡ u → Small (if t && u then Some n else None)
decimal_by n true true is = grind (arith, nat_tests)
decimal_by n true false is = tt
decimal_by n false u is = tt

decimal_small : (text : List ℕ) → Small (decimal_of text 15)
decimal_small text = decimal_by (decimal_from 0 text) (is_decimal text) (nat_le (decimal_from 0 text) 15) refl

register_small : (text : List ℕ) → Small (register_in text)
unfolding register_in
register_small text =
    if_both Small (bytes_eq text (codes "AP")) (Some 12) _ (λ _. omega arith) (λ _.
    if_both Small (bytes_eq text (codes "FP")) (Some 13) _ (λ _. omega arith) (λ _.
    if_both Small (bytes_eq text (codes "SP")) (Some 14) _ (λ _. omega arith) (λ _.
    if_both Small (bytes_eq text (codes "PC")) (Some 15) _ (λ _. omega arith) (λ _.
    if_both Small (bytes_eq (take 1 text) (codes "R")) (decimal_of (drop 1 text) 15) None (λ _. decimal_small (drop 1 text)) (λ _. tt)))))

closed_small : (mark : ℕ) (ending text : List ℕ) → Small (closed_in mark ending text)
unfolding closed_in
closed_small mark ending text = bound Small tt (cut_at mark text) (λ c. if bytes_eq c.later ending then register_in c.before else None) (λ c is. if_both Small (bytes_eq c.later ending) (register_in c.before) None (λ _. register_small c.before) (λ _. tt))

-- ---- specifiers

record IsSpecifier (o : SourceOperand) : Type 0 where
  mode : o.spec.mode < 16
  reg : o.spec.reg < 16
  literal : o.spec.mode ≡ 0 → o.spec.value < 64
  index : IfSome o.spec.index (λ x. x < 15)
  named : IsSome o.name → o.spec.mode ≢ 0

abbrev Found : Option SourceOperand → Type 0
Found None = Unit {0}
Found (Some o) = IsSpecifier o

plain_found : (mode reg value : ℕ) → mode < 16 → reg < 16 → (mode ≡ 0 → value < 64) → IsSpecifier (unnamed_operand mode reg value)
plain_found mode reg value m r l = record { mode = m; reg = r; literal = l; index = tt; named = λ some. cc }

-- another mode than a literal's
other_found : (mode reg value : ℕ) → 0 < mode → mode < 16 → reg < 16 → IsSpecifier (unnamed_operand mode reg value)
other_found mode reg value some m r = plain_found mode reg value m r (λ e. absurd (omega arith))

enclosed_found : (mode : ℕ) (ending text : List ℕ) → 0 < mode → mode < 16 → Found (enclosed mode ending text)
enclosed_found mode ending text some m = bound Found tt (not_pc (closed_in 41 ending text)) (λ n. operand_of_value mode n 0) (λ n is. let low : n < 15 = below (closed_in 41 ending text) 15 n is in other_found mode n 0 some m (omega arith))

literal_found : (form : Form) (text : List ℕ) → Found (literal_in form text)
unfolding literal_in
literal_found form text =
    if_both Found (is_read form.access) (number_in text >>= if_below 64 >>= operand_of_value 0 0) None
    (λ _. bound Found tt (number_in text >>= if_below 64) (operand_of_value 0 0) (λ n is. plain_found 0 0 n (omega arith) (omega arith) (λ _. below (number_in text) 64 n is)))
    (λ _. tt)

valued_found : (size mode reg : ℕ) (text : List ℕ) → 0 < mode → mode < 16 → reg < 16 → Found (valued_in size mode reg text)
valued_found size mode reg text some m r = bound Found tt (field_in size text) (operand_of_value mode reg) (λ n is. other_found mode reg n some m r)

named_found : (mode reg : ℕ) (text : List ℕ) → 0 < mode → mode < 16 → reg < 16 → Found (named_in mode reg text)
named_found mode reg text some m r =
    bound Found tt (tested is_object_name text) (λ name. Some (with_name mode reg name)) (λ name is. record { mode = m; reg = r; literal = λ e. absurd (omega arith); index = tt; named = λ _ e. omega arith })

register_operand_found : (form : Form) (text : List ℕ) → Found (register_operand_in form text)
register_operand_found form text =
    bound Found tt (not_pc (register_in text)) (allowed form) (λ n is.
    if_both Found (is_address form.access || (is_quad form.width && n == 14)) None (operand_of_value 5 n 0) (λ _. tt) (λ _. let low : n < 15 = below (register_in text) 15 n is in other_found 5 n 0 (omega arith) (omega arith) (omega arith)))

based_found : (mode size : ℕ) (c : Cut) → 0 < mode → mode < 16 → Found (based mode size c)
based_found mode size c some m =
    bound Found tt (field_in size c.before) (λ value. closed_in 41 [] c.later >>= λ reg. operand_of_value mode reg value) (λ value _.
    bound Found tt (closed_in 41 [] c.later) (λ reg. operand_of_value mode reg value) (λ reg is. other_found mode reg value some m (subst Small is (closed_small 41 [] c.later))))

displaced_by : (mode size : ℕ) (text : List ℕ) → 0 < mode → mode < 16 → (o : Option Cut) → Found (elim o [ None ↦ named_in mode 15 text | Some c ↦ based mode size c ])
displaced_by mode size text some m None = named_found mode 15 text some m (omega arith)
displaced_by mode size text some m (Some c) = based_found mode size c some m

displaced_found : (mode size : ℕ) (text : List ℕ) → 0 < mode → mode < 16 → Found (displaced_in mode size text)
unfolding displaced_in
displaced_found mode size text some m = displaced_by mode size text some m (cut_at 40 text)

displacement_found : (deferred : ℕ) (text : List ℕ) → deferred ≤ 1 → Found (displacement_in deferred text)
unfolding displacement_in
displacement_found deferred text few =
    if_both Found (bytes_eq (take 2 text) (codes "B^")) (displaced_in (0xa + deferred) 1 (drop 2 text)) _ (λ _. displaced_found (0xa + deferred) 1 (drop 2 text) (omega arith) (omega arith)) (λ _.
    if_both Found (bytes_eq (take 2 text) (codes "W^")) (displaced_in (0xc + deferred) 2 (drop 2 text)) _ (λ _. displaced_found (0xc + deferred) 2 (drop 2 text) (omega arith) (omega arith)) (λ _.
    if_both Found (bytes_eq (take 2 text) (codes "L^")) (displaced_in (0xe + deferred) 4 (drop 2 text)) None (λ _. displaced_found (0xe + deferred) 4 (drop 2 text) (omega arith) (omega arith)) (λ _. tt)))

deferred_found : (text : List ℕ) → Found (deferred_in text)
unfolding deferred_in
deferred_found text =
    if_both Found (bytes_eq (take 1 text) (codes "#")) (valued_in 4 9 15 (drop 1 text)) _ (λ _. valued_found 4 9 15 (drop 1 text) (omega arith) (omega arith) (omega arith)) (λ _.
    if_both Found (bytes_eq (take 1 text) (codes "(")) (enclosed 9 (codes "+") (drop 1 text)) (displacement_in 1 text) (λ _. enclosed_found 9 (codes "+") (drop 1 text) (omega arith) (omega arith)) (λ _. displacement_found 1 text (omega arith)))

opened_found : (text : List ℕ) → Found (opened_in text)
opened_found text = either Found (enclosed 6 [] text) (enclosed 8 (codes "+") text) (enclosed_found 6 [] text (omega arith) (omega arith)) (enclosed_found 8 (codes "+") text (omega arith) (omega arith))

direct_found : (form : Form) (text : List ℕ) → Found (direct_in form text)
unfolding direct_in
direct_found form text =
    if_both Found (bytes_eq (take 3 text) (codes "S^#")) (literal_in form (drop 3 text)) _ (λ _. literal_found form (drop 3 text)) (λ _.
    if_both Found (bytes_eq (take 3 text) (codes "I^#")) (valued_in (size_of form.width) 8 15 (drop 3 text)) _ (λ _. valued_found (size_of form.width) 8 15 (drop 3 text) (omega arith) (omega arith) (omega arith)) (λ _.
    if_both Found (bytes_eq (take 2 text) (codes "-(")) (enclosed 7 [] (drop 2 text)) _ (λ _. enclosed_found 7 [] (drop 2 text) (omega arith) (omega arith)) (λ _.
    if_both Found (bytes_eq (take 1 text) (codes "(")) (opened_in (drop 1 text)) (option_or (displacement_in 0 text) (register_operand_in form text)) (λ _. opened_found (drop 1 text)) (λ _.
    either Found (displacement_in 0 text) (register_operand_in form text) (displacement_found 0 text (omega arith)) (register_operand_found form text)))))

specifier_found : (form : Form) (text : List ℕ) → Found (specifier_in form text)
unfolding specifier_in
specifier_found form text = if_both Found (bytes_eq (take 1 text) (codes "@")) (deferred_in (drop 1 text)) (direct_in form text) (λ _. deferred_found (drop 1 text)) (λ _. direct_found form text)

indexed_found : (o : SourceOperand) (x : ℕ) → IsSpecifier o → x < 15 → Found (indexed o x)
indexed_found o x s low =
    if_both Found (nat_lt o.spec.mode 6 || (o.spec.mode == 8 && o.spec.reg == 15)) None (Some (record o { spec = record (o.spec) { index = Some x } })) (λ _. tt)
    (λ _. record { mode = s.mode; reg = s.reg; literal = s.literal; index = low; named = s.named })

indexed_in_found : (form : Form) (c : Cut) → Found (indexed_in form c)
indexed_in_found form c =
    bound Found tt (specifier_in form c.before) (λ o. not_pc (closed_in 93 [] c.later) >>= indexed o) (λ o is.
    bound Found tt (not_pc (closed_in 93 [] c.later)) (indexed o) (λ x low. indexed_found o x (subst Found is (specifier_found form c.before)) (below (closed_in 93 [] c.later) 15 x low)))

-- ---- operands

abbrev FoundFit : Form → Option SourceOperand → Type 0
FoundFit form None = Unit {0}
FoundFit form (Some o) = IsFit form o

branch_fit : (form : Form) (o : SourceOperand) → is_branch form.access ≡ true → IfSome o.spec.index (λ x. x < 15) → IsFit form o
branch_fit form o is index = record { range = record { mode = λ no. cc; reg = λ no. cc; literal = λ no. cc; index = index }; named = λ no. cc }

value_fit : (form : Form) (size : ℕ) (text : List ℕ) → is_branch form.access ≡ true → FoundFit form (value_in size text)
unfolding value_in
value_fit form size text is =
    either (FoundFit form) (valued_in size 16 0 text) (named_in 16 0 text)
    (bound (FoundFit form) tt (field_in size text) (operand_of_value 16 0) (λ n _. branch_fit form (unnamed_operand 16 0 n) is tt))
    (bound (FoundFit form) tt (tested is_object_name text) (λ name. Some (with_name 16 0 name)) (λ name _. branch_fit form (with_name 16 0 name) is tt))

specifier_fit : (form : Form) (o : Option SourceOperand) → Found o → FoundFit form o
specifier_fit form None s = tt
specifier_fit form (Some o) s = record { range = record { mode = λ _. s.mode; reg = λ _. s.reg; literal = λ _. s.literal; index = s.index }; named = λ _. s.named }

by_bracket : (form : Form) (text : List ℕ) (o : Option Cut) → FoundFit form (elim o [ None ↦ specifier_in form text | Some c ↦ indexed_in form c ])
by_bracket form text None = specifier_fit form (specifier_in form text) (specifier_found form text)
by_bracket form text (Some c) = specifier_fit form (indexed_in form c) (indexed_in_found form c)

operand_fit : (form : Form) (text : List ℕ) → FoundFit form (operand_in form text)
unfolding operand_in
operand_fit form text = if_both (FoundFit form) (is_branch form.access) (value_in (size_of form.width) text) _ (λ is. value_fit form (size_of form.width) text is) (λ _. by_bracket form text (cut_at 91 text))

abbrev FoundAll : List Form → Option (List SourceOperand) → Type 0
FoundAll forms None = Unit {0}
FoundAll forms (Some os) = AreFit forms os

operands_fit : (forms : List Form) (text : Option (List ℕ)) → FoundAll forms (operands_in forms text)
operands_fit [] None = tt
operands_fit [] (Some text) = tt
operands_fit (f ∷ fs) None = tt
operands_fit (f ∷ fs) (Some text) =
    bound (FoundAll (f ∷ fs)) tt (operand_in f (before_mark 44 text)) (λ o. operands_in fs (text_after_comma text) >>= λ os. Some (o ∷ os)) (λ o is.
    bound (FoundAll (f ∷ fs)) tt (operands_in fs (text_after_comma text)) (λ os. Some (o ∷ os)) (λ os others. (subst (FoundFit f) is (operand_fit f (before_mark 44 text)), subst (FoundAll fs) others (operands_fit fs (text_after_comma text)))))

-- ---- statements and lines

abbrev FoundStatement : Option Statement → Type 0
FoundStatement None = Unit {0}
FoundStatement (Some s) = IsStatementFit s

number_fit : (size : ℕ) (text : List ℕ) → FoundStatement (number_field_in size text)
number_fit size text = bound FoundStatement tt (field_in size text) (λ n. Some (Field size (unnamed_operand 16 0 n))) (λ n _. tt)

long_fit : (text : List ℕ) → FoundStatement (long_field_in text)
long_fit text = bound FoundStatement tt (value_in 4 text) (λ o. Some (Field 4 o)) (λ o _. tt)

instruction_fit : (word : List ℕ) (text : Option (List ℕ)) → FoundStatement (instruction_in word text)
instruction_fit word text =
    bound FoundStatement tt (opcode_of word) (λ opcode. operands_in (forms_of opcode) text >>= λ os. Some (Instruct opcode os)) (λ opcode _.
    bound FoundStatement tt (operands_in (forms_of opcode) text) (λ os. Some (Instruct opcode os)) (λ os is. subst (FoundAll (forms_of opcode)) is (operands_fit (forms_of opcode) text)))

words_fit : (word : List ℕ) (text : Option (List ℕ)) → FoundStatement (words_in word text)
unfolding words_in
words_fit word text =
    if_both FoundStatement (bytes_eq word (codes ".byte")) (text >>= number_field_in 1) _ (λ _. bound FoundStatement tt text (number_field_in 1) (λ t _. number_fit 1 t)) (λ _.
    if_both FoundStatement (bytes_eq word (codes ".word")) (text >>= number_field_in 2) _ (λ _. bound FoundStatement tt text (number_field_in 2) (λ t _. number_fit 2 t)) (λ _.
    if_both FoundStatement (bytes_eq word (codes ".long")) (text >>= long_field_in) (instruction_in word text) (λ _. bound FoundStatement tt text long_field_in (λ t _. long_fit t)) (λ _. instruction_fit word text)))

by_blank : (text : List ℕ) (o : Option Cut) → FoundStatement (elim o [ None ↦ words_in text None | Some c ↦ words_in c.before (Some (c.later)) ])
by_blank text None = words_fit text None
by_blank text (Some c) = words_fit c.before (Some (c.later))

statement_fit : (text : List ℕ) → FoundStatement (statement_in text)
unfolding statement_in
statement_fit text = by_blank text (cut is_blank text)

abbrev FoundLine : Option SourceLine → Type 0
FoundLine None = Unit {0}
FoundLine (Some l) = IsSourceLineFit l

saying_fit : (label : Option (List ℕ)) (text : List ℕ) → FoundLine (saying label text)
saying_fit label text = bound FoundLine tt (statement_in text) (λ s. Some (record { label = label; statement = Some s })) (λ s is. subst FoundStatement is (statement_fit text))

unlabelled_fit : (text : List ℕ) → FoundLine (unlabelled text)
unlabelled_fit [] = tt
unlabelled_fit (b ∷ text) = saying_fit None (b ∷ text)

label_fit : (name text : List ℕ) → FoundLine (after_label name text)
label_fit name [] = tt
label_fit name (b ∷ text) = if_both FoundLine (is_blank b) (saying (Some name) text) None (λ _. saying_fit (Some name) text) (λ _. tt)

by_colon : (text : List ℕ) (o : Option Cut) → FoundLine (elim o [ None ↦ unlabelled text | Some c ↦ if is_object_name c.before then after_label c.before c.later else None ])
by_colon text None = unlabelled_fit text
by_colon text (Some c) = if_both FoundLine (is_object_name c.before) (after_label c.before c.later) None (λ _. label_fit c.before c.later) (λ _. tt)

content_fit : (text : List ℕ) → FoundLine (content_in text)
unfolding content_in
content_fit text = by_colon text (cut_at 58 text)

found_line : (text : List ℕ) → FoundLine (source_line_in text)
unfolding source_line_in
found_line text = content_fit (trimmed (before_mark 59 text))

pub line_fit : (text : List ℕ) (l : SourceLine) → source_line_in text ≡ Some l → IsSourceLineFit l
line_fit text l is = subst FoundLine is (found_line text)
