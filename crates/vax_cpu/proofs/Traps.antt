-- An instruction that traps has the operands that it has otherwise, but for MFPR to memory.
use Rattle.std.proofs.Common.{◌≡◌, ℕ, ◌==◌, true, false, cond, if◌then◌else◌, List, [], ◌∷◌, length, slice_index_or, refl, ap, ◌∙◌, sym, arith}
use Rattle.std.proofs.Math.Path.{fun_ext}
use Rattle.std.proofs.lemmas.Bool.{eq-eqb}
use Rattle.vv_base.specs.declared.width.Width.TheVariants.{Long}
use Rattle.vax_arch.specs.declared.mode.Intent.TheVariants as intents
use Rattle.vax_table.specs.Interaction.{Interaction, Done, Touch, ◌>>=◌}
use Rattle.vax_table.specs.Operand.{address_of, bits_operand, evaluated, written_operand}
use Rattle.vax_table.specs.AllOperands.{forms_in, no_operands, operand_length, operand_of, operands_by, operands_from, operands_of, past_own_bytes, trap_forms, trap_operands, with_operand}
use Rattle.vax_table.specs.Rows.{row_of}
use Rattle.vax_table.specs.Spelled.{value_size}
use Rattle.vax_table.specs.Spelling.{Instruction}
use Rattle.vax_table.specs.declared.act.Dest.TheVariants.{Memory, Register}
use Rattle.vax_table.specs.declared.decoded.Spec.{Spec}
use Rattle.vax_table.specs.declared.evaluation.Evaluated.{Evaluated}
use Rattle.vax_table.specs.declared.evaluation.Operands.{Operands}
use Rattle.vax_table.specs.declared.forms.Access.TheVariants.{Bits, Read, Write}

-- one that isn't MFPR
pub traps_alike : (d : Instruction) (r : List ℕ) → (d.opcode == 0xdb) ≡ false → trap_operands d r ≡ operands_of d r
unfolding trap_operands operands_of
traps_alike d r other = ap (λ b. operands_by (cond b (record { access = Read; width = Long } ∷ record { access = Bits; width = Long } ∷ []) (forms_in (row_of d.opcode))) d r) other

-- a register is located as it is written
bits_at : (s : Spec) (r : List ℕ) → (s.mode == 5) ≡ true → bits_operand Long s r ≡ Done (evaluated 0 (Register s.reg) r)
unfolding bits_operand
bits_at s r register = ap (λ b. cond b (Done (evaluated 0 (Register s.reg) r)) (address_of 4 s r >>= λ p. Done (evaluated 0 (Memory p.at) p.r))) register

written_at : (s : Spec) (r : List ℕ) → (s.mode == 5) ≡ true → written_operand Long s r ≡ Done (evaluated 0 (Register s.reg) r)
unfolding written_operand
written_at s r register = ap (λ b. cond b (Done (evaluated 0 (Register s.reg) r)) (address_of 4 s r >>= λ p. Touch intents.Write p.at 4 (λ v. Done (evaluated 0 (Memory p.at) p.r)))) register

located : (s : Spec) (r : List ℕ) → (s.mode == 5) ≡ true → operand_of (record { access = Bits; width = Long }) s r ≡ operand_of (record { access = Write; width = Long }) s r
unfolding operand_of value_size
located s r register = bits_at s (past_own_bytes (operand_length (record { access = Bits; width = Long }) s) r) register ∙ sym (written_at s (past_own_bytes (operand_length (record { access = Write; width = Long }) s) r) register)

mfpr_forms : forms_in (row_of 0xdb) ≡ record { access = Read; width = Long } ∷ record { access = Write; width = Long } ∷ []
unfolding row_of
mfpr_forms = refl

by_register : (s0 s1 : Spec) (o : Operands) → (s1.mode == 5) ≡ true →
    operands_from 0 (record { access = Read; width = Long } ∷ record { access = Bits; width = Long } ∷ []) (s0 ∷ s1 ∷ []) o
    ≡ operands_from 0 (record { access = Read; width = Long } ∷ record { access = Write; width = Long } ∷ []) (s0 ∷ s1 ∷ []) o
by_register s0 s1 o register =
    let each : (e : Evaluated) → operands_from 1 (record { access = Bits; width = Long } ∷ []) (s1 ∷ []) (with_operand 0 o e) ≡ operands_from 1 (record { access = Write; width = Long } ∷ []) (s1 ∷ []) (with_operand 0 o e)
    = λ e. ap (λ (x : Interaction Evaluated). x >>= λ e'. Done (with_operand 1 (with_operand 0 o e) e')) (located s1 e.r register) in
    ap (λ (k : Evaluated → Interaction Operands). operand_of (record { access = Read; width = Long }) s0 o.r >>= k) (fun_ext each)

by_specs : (ss : List Spec) (z : Spec) (o : Operands) → length ss ≡ 2 → (slice_index_or ss 1 z).mode ≡ 5 →
    operands_from 0 (record { access = Read; width = Long } ∷ record { access = Bits; width = Long } ∷ []) ss o
    ≡ operands_from 0 (record { access = Read; width = Long } ∷ record { access = Write; width = Long } ∷ []) ss o
by_specs [] z o two register = absurd (omega arith)
by_specs (s0 ∷ []) z o two register = absurd (omega arith)
by_specs (s0 ∷ s1 ∷ []) z o two register = by_register s0 s1 o (eq-eqb s1.mode 5 register)
by_specs (s0 ∷ s1 ∷ s2 ∷ ss) z o two register = absurd (omega arith)

-- MFPR to a register
pub traps_to_register : (d : Instruction) (z : Spec) (r : List ℕ) → d.opcode ≡ 0xdb → length d.specs ≡ 2 → (slice_index_or d.specs 1 z).mode ≡ 5 → trap_operands d r ≡ operands_of d r
unfolding trap_operands operands_of
traps_to_register d z r mfpr two register =
    let o = no_operands (past_own_bytes (if d.wait then 2 else 1) r) in
    (λ i. operands_from 0 (trap_forms (mfpr i)) d.specs o) ∙ by_specs d.specs z o two register ∙ (λ i. operands_from 0 (sym mfpr_forms i) d.specs o) ∙ (λ i. operands_from 0 (forms_in (row_of (sym mfpr i))) d.specs o)
