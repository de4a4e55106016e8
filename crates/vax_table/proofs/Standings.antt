-- The operands of a well-formed instruction are sound.
use Rattle.std.proofs.Common.{◌≡◌, ◌≢◌, ℕ, zero, suc, ◌+◌, ◌<◌, ◌≤◌, ◌^◌, ◌⊎◌, inl, inr, List, [], ◌∷◌, length, get_or, Option, Some, None, refl, ap, sym, subst, arith, lit<}
use Rattle.vv_base.specs.declared.width.Width.{Width}
use Rattle.vv_base.specs.Width.{size_of}
use Rattle.vax_table.specs.declared.decoded.Spec.{Spec}
use Rattle.vax_table.specs.declared.forms.Access.{Access}
use Rattle.vax_table.specs.declared.forms.Access.TheVariants.{Read, Modify, Write, Address, Bits, Branch}
use Rattle.vax_table.specs.declared.forms.Form.{Form}
use Rattle.vax_table.specs.Reading.{displacement_size}
use Rattle.vax_table.specs.Rows.{OpcodeEntry, row_of}
use Rattle.vax_table.specs.Spelling.{unindexed, Displaces, byte, byte_deferred, word, word_deferred, long, long_deferred, Specifier, literal, register, register_deferred, autodecrement, autoincrement, immediate, autoincrement_deferred, absolute, displacement, SpellsOperand, specifier, indexed, branch, Operands, Instruction, wait, of_row, IsWellFormed}
use Rattle.vax_table.specs.AllOperands.{forms_in}
use Rattle.vax_table.specs.LegalOperands.{IsFormed, IsLegalOperand, AreLegalOperands}

-- a specifier, without its form: neither literal nor index, or a literal that is read
pub record IsSpecified (f : Form) (s : Spec) : Type 0 where
  pub formed : IsFormed s
  pub mode : (s.mode ≡ 0) ⊎ (4 < s.mode)
  pub literal : s.mode ≡ 0 → (f.access ≡ Read) × (s.value < 64)
  pub register : s.mode ≡ 5 → f.access ≢ Address
  pub immediate : s.mode ≡ 8 → s.reg ≡ 15 → s.value < 256 ^ size_of f.width

displaces_mode : (m k : ℕ) → Displaces m k → (9 < m) × (displacement_size m ≡ k)
displaces_mode m k byte = (omega arith, refl)
displaces_mode m k byte_deferred = (omega arith, refl)
displaces_mode m k word = (omega arith, refl)
displaces_mode m k word_deferred = (omega arith, refl)
displaces_mode m k long = (omega arith, refl)
displaces_mode m k long_deferred = (omega arith, refl)

-- of the modes 6 to 9, without a value
plainly : (f : Form) (mode n : ℕ) → 5 < mode → mode < 10 → n < 15 → IsSpecified f (unindexed mode n 0)
plainly f mode n low high h = record {
  formed = record { register = omega arith; named = λ e. h; index = tt; address = λ e. lit< tt; displacement = λ e. absurd (omega arith) };
  mode = inr (omega arith);
  literal = λ e. absurd (omega arith);
  register = λ e. absurd (omega arith);
  immediate = λ e g. absurd (omega arith);
}

displaced : (f : Form) (mode k n v : ℕ) → 9 < mode → displacement_size mode ≡ k → n < 16 → v < 256 ^ k → IsSpecified f (unindexed mode n v)
displaced f mode k n v low size h less = record {
  formed = record { register = h; named = λ e. absurd (omega arith); index = tt; address = λ e. absurd (omega arith); displacement = λ e. subst (λ (j : ℕ). v < 256 ^ j) (sym size) less };
  mode = inr (omega arith);
  literal = λ e. absurd (omega arith);
  register = λ e. absurd (omega arith);
  immediate = λ e g. absurd (omega arith);
}

specified : (f : Form) (bytes : List ℕ) (s : Spec) → Specifier f bytes s → IsSpecified f s
specified f bytes s (literal n h a e g) = subst (IsSpecified f) (sym g) (record {
  formed = record { register = lit< tt; named = λ i. lit< tt; index = tt; address = λ i. absurd (omega arith); displacement = λ i. absurd (omega arith) };
  mode = inl refl;
  literal = λ i. (a, h);
  register = λ i. absurd (omega arith);
  immediate = λ i j. absurd (omega arith);
})
specified f bytes s (register n h a p e g) = subst (IsSpecified f) (sym g) (record {
  formed = record { register = omega arith; named = λ i. h; index = tt; address = λ i. absurd (omega arith); displacement = λ i. absurd (omega arith) };
  mode = inr (lit< tt);
  literal = λ i. absurd (omega arith);
  register = λ i. a;
  immediate = λ i j. absurd (omega arith);
})
specified f bytes s (register_deferred n h e g) = subst (IsSpecified f) (sym g) (plainly f 6 n (lit< tt) (lit< tt) h)
specified f bytes s (autodecrement n h e g) = subst (IsSpecified f) (sym g) (plainly f 7 n (lit< tt) (lit< tt) h)
specified f bytes s (autoincrement n h e g) = subst (IsSpecified f) (sym g) (plainly f 8 n (lit< tt) (lit< tt) h)
specified f bytes s (immediate v h e g) = subst (IsSpecified f) (sym g) (record {
  formed = record { register = lit< tt; named = λ i. absurd (omega arith); index = tt; address = λ i. absurd (omega arith); displacement = λ i. absurd (omega arith) };
  mode = inr (lit< tt);
  literal = λ i. absurd (omega arith);
  register = λ i. absurd (omega arith);
  immediate = λ i j. h;
})
specified f bytes s (autoincrement_deferred n h e g) = subst (IsSpecified f) (sym g) (plainly f 9 n (lit< tt) (lit< tt) h)
specified f bytes s (absolute v h e g) = subst (IsSpecified f) (sym g) (record {
  formed = record { register = lit< tt; named = λ i. absurd (omega arith); index = tt; address = λ i. h; displacement = λ i. absurd (omega arith) };
  mode = inr (lit< tt);
  literal = λ i. absurd (omega arith);
  register = λ i. absurd (omega arith);
  immediate = λ i j. absurd (omega arith);
})
specified f bytes s (displacement mode k n v d h l e g) = subst (IsSpecified f) (sym g) (let m : (9 < mode) × (displacement_size mode ≡ k) = displaces_mode mode k d in displaced f mode k n v m.0 m.1 h l)

head_of : (a b : ℕ) (xs ys : List ℕ) → a ∷ xs ≡ b ∷ ys → a ≡ b
head_of a b xs ys e = cc

mode_of : (s : Spec) (mode reg value : ℕ) → s ≡ unindexed mode reg value → s.mode ≡ mode
mode_of s mode reg value e = ap (λ (t : Spec). t.mode) e

-- a specifier whose first byte is 60 or more is of memory
of_memory : (f : Form) (b : ℕ) (rest : List ℕ) (s : Spec) → 0x60 ≤ b → Specifier f (b ∷ rest) s → 5 < s.mode
of_memory f b rest s low (literal n h a e g) = let same : b ≡ n = head_of b n rest [] e in absurd (omega arith)
of_memory f b rest s low (register n h a p e g) = let same : b ≡ 0x50 + n = head_of b (0x50 + n) rest [] e in absurd (omega arith)
of_memory f b rest s low (register_deferred n h e g) = let m = mode_of s 6 n 0 g in omega arith
of_memory f b rest s low (autodecrement n h e g) = let m = mode_of s 7 n 0 g in omega arith
of_memory f b rest s low (autoincrement n h e g) = let m = mode_of s 8 n 0 g in omega arith
of_memory f b rest s low (immediate v h e g) = let m = mode_of s 8 15 v g in omega arith
of_memory f b rest s low (autoincrement_deferred n h e g) = let m = mode_of s 9 n 0 g in omega arith
of_memory f b rest s low (absolute v h e g) = let m = mode_of s 9 15 v g in omega arith
of_memory f b rest s low (displacement mode k n v d h l e g) = let m = mode_of s mode n v g in let high : 9 < mode = (displaces_mode mode k d).0 in omega arith

-- the same after an index
with_index : (f : Form) (t : Spec) (x : ℕ) → x < 15 → 5 < t.mode → IsSpecified f t → IsSpecified f (record t { index = Some x })
with_index f t x h m p = record {
  formed = record { register = p.formed.register; named = p.formed.named; index = h; address = p.formed.address; displacement = p.formed.displacement };
  mode = inr (omega arith);
  literal = λ e. absurd (omega arith);
  register = λ e. absurd (omega arith);
  immediate = p.immediate;
}

not_literal : (a : Access) (s : Spec) → a ≢ Read → (s.mode ≡ 0 → (a ≡ Read) × (s.value < 64)) → (s.mode ≡ 0) ⊎ (4 < s.mode) → 4 < s.mode
not_literal a s n l (inl e) = absurd (n (l e).0)
not_literal a s n l (inr h) = h

stands_by : (a : Access) (w : Width) (s : Spec) → a ≢ Branch → IsSpecified (record { access = a; width = w }) s → IsLegalOperand a w s
stands_by Read w s n p = record { formed = p.formed; mode = p.mode; literal = λ e. (p.literal e).1; immediate = p.immediate }
stands_by Modify w s n p = (p.formed, not_literal Modify s (λ e. cc) p.literal p.mode)
stands_by Write w s n p = (p.formed, not_literal Write s (λ e. cc) p.literal p.mode)
stands_by Address w s n p =
    let low : 4 < s.mode = not_literal Address s (λ e. cc) p.literal p.mode in
    let other : s.mode ≢ 5 = λ e. p.register e refl in
    (p.formed, omega arith)
stands_by Bits w s n p = (p.formed, not_literal Bits s (λ e. cc) p.literal p.mode)
stands_by Branch w s n p = absurd (n refl)

branch_stands : (a : Access) (w : Width) (s : Spec) (v : ℕ) → a ≡ Branch → v < 256 ^ size_of w → s ≡ unindexed 16 0 v → IsLegalOperand a w s
branch_stands a w s v e h g = subst (λ (b : Access). IsLegalOperand b w s) (sym e) (subst (λ (t : Spec). t.value < 256 ^ size_of w) (sym g) h)

operand_stands : (f : Form) (bytes : List ℕ) (s : Spec) → SpellsOperand f bytes s → IsLegalOperand f.access f.width s
operand_stands f bytes s (specifier n p) = stands_by f.access f.width s n (specified f bytes s p)
operand_stands f bytes s (indexed n x h b rest t low i p e g) =
    subst (IsLegalOperand f.access f.width) (sym g) (stands_by f.access f.width (record t { index = Some x }) n (with_index f t x h (of_memory f b rest t low p) (specified f (b ∷ rest) t p)))
operand_stands f bytes s (branch a v h e g) = branch_stands f.access f.width s v a h g

operands_stand : (fs : List Form) (bytes : List ℕ) (ss : List Spec) → Operands fs bytes ss → AreLegalOperands fs ss
operands_stand [] bytes [] h = tt
operands_stand [] bytes (s ∷ ss) h = absurd h
operands_stand (f ∷ fs) bytes [] h = absurd h
operands_stand (f ∷ fs) bytes (s ∷ ss) h = (operand_stands f h.0 s h.3, operands_stand fs h.1 ss h.4)

row_stands : (d : Instruction) (o : Option OpcodeEntry) (e : OpcodeEntry) (specs : List Spec) → o ≡ Some e → AreLegalOperands e.operands specs → AreLegalOperands (forms_in o) specs
row_stands d None e specs r h = cc
row_stands d (Some g) e specs r h = let same : e ≡ g = cc in subst (λ (x : OpcodeEntry). AreLegalOperands x.operands specs) same h

-- the operands of a well-formed instruction are sound, one for each form of its opcode's row
pub well_formed : (d : Instruction) → IsWellFormed d → AreLegalOperands (forms_in (row_of d.opcode)) d.specs
unfolding row_of
well_formed d h = elim h.1 [
  | wait e g ↦ subst (λ (x : Instruction). AreLegalOperands (forms_in (row_of x.opcode)) x.specs) (sym g) tt
  | of_row e opcode rest specs b n r o f g ↦ subst (λ (x : Instruction). AreLegalOperands (forms_in (row_of x.opcode)) x.specs) (sym g) (row_stands d (row_of opcode) e specs r (operands_stand e.operands rest specs o))
]

pub stand_length : (fs : List Form) (ss : List Spec) → AreLegalOperands fs ss → length ss ≡ length fs
stand_length [] [] h = refl
stand_length [] (s ∷ ss) h = absurd h
stand_length (f ∷ fs) [] h = absurd h
stand_length (f ∷ fs) (s ∷ ss) h = ap suc (stand_length fs ss h.1)

pub stand_at : (fs : List Form) (ss : List Spec) (k : ℕ) (f : Form) (s : Spec) → AreLegalOperands fs ss → k < length fs → IsLegalOperand (get_or fs k f).access (get_or fs k f).width (get_or ss k s)
stand_at [] ss k f s h i = absurd (omega arith)
stand_at (g ∷ fs) [] k f s h i = absurd h
stand_at (g ∷ fs) (t ∷ ss) zero f s h i = h.0
stand_at (g ∷ fs) (t ∷ ss) (suc k) f s h i = stand_at fs ss k f s h.1 (omega arith)
