-- What parts of a step keep: that registers have allowed values, the count of steps, and whether there are modify faults.
use Rattle.std.proofs.Common.{◌≡◌, ℕ, ◌+◌, ◌-◌, ◌*◌, ◌/◌, ◌%◌, ◌^◌, ◌<◌, false, refl, ◌∙◌, arith}
use Rattle.std.proofs.lemmas.Bool.{cond_both}
use Rattle.std.proofs.lemmas.Bool.Decides.{nat_tests}
use Rattle.vax_arch.specs.Fields.{is_on_interrupt_stack}
use Rattle.vax_arch.specs.Rei.{has_must_be_zero_bit}
use Rattle.vm_state.specs.Allowed.{AreAllowed}
use Rattle.vm_state.specs.Contexts.{off_interrupt_stack, on_interrupt_stack}
use Rattle.vm_state.specs.Registers.{with_ipl}
use Rattle.vm_state.specs.State.{State}

pub record Keeps (size : ℕ) (s t : State) : Type 0 where
  pub faults : t.modify_faults ≡ s.modify_faults
  pub steps : t.steps ≡ s.steps
  pub allowed : AreAllowed size s → AreAllowed size t

pub same : (size : ℕ) (s : State) → Keeps size s s
same size s = record { faults = refl; steps = refl; allowed = λ h. h }

pub chained : (size : ℕ) (s t u : State) → Keeps size s t → Keeps size t u → Keeps size s u
chained size s t u a b = record { faults = b.faults ∙ a.faults; steps = b.steps ∙ a.steps; allowed = λ h. b.allowed (a.allowed h) }

-- a state that differs in registers that may have any value, and in its PSL
pub moved : (size : ℕ) (s t : State) → t.modify_faults ≡ s.modify_faults → t.steps ≡ s.steps → t.tables ≡ s.tables → t.pcbb ≡ s.pcbb → t.scbb ≡ s.scbb → t.astlvl ≡ s.astlvl → t.sisr ≡ s.sisr → t.queue ≡ s.queue →
    (has_must_be_zero_bit s.psl ≡ false → has_must_be_zero_bit t.psl ≡ false) → Keeps size s t
moved size s t faults steps tables pcbb scbb astlvl sisr queue psl = record {
  faults = faults;
  steps = steps;
  allowed = λ h. record {
    p0br = rw tables h.p0br;
    p0lr = rw tables h.p0lr;
    p1br = rw tables h.p1br;
    p1lr = rw tables h.p1lr;
    sbr = rw tables h.sbr;
    slr = rw tables h.slr;
    pcbb = rw pcbb h.pcbb;
    scbb = rw scbb h.scbb;
    astlvl = rw astlvl h.astlvl;
    sisr = rw sisr h.sisr;
    psl = psl h.psl;
    packets = rw queue h.packets;
    few = rw queue h.few;
  };
}

-- The must-be-zero bits of a PSL.

bits_by : (x y : ℕ) → x / 2 ^ 27 % 32 ≡ y / 2 ^ 27 % 32 → x / 2 ^ 21 % 2 ≡ y / 2 ^ 21 % 2 → x / 2 ^ 8 % 256 ≡ y / 2 ^ 8 % 256 → has_must_be_zero_bit x ≡ has_must_be_zero_bit y
bits_by x y a b c = rw (a, b, c) refl

pub low_changed : (psl low : ℕ) → low < 2 ^ 8 → has_must_be_zero_bit psl ≡ false → has_must_be_zero_bit (psl / 2 ^ 8 * 2 ^ 8 + low) ≡ false
low_changed psl low h e = bits_by (psl / 2 ^ 8 * 2 ^ 8 + low) psl (grind arith) (grind arith) (grind arith) ∙ e

pub ipl_changed : (psl level : ℕ) → level < 32 → has_must_be_zero_bit psl ≡ false → has_must_be_zero_bit (with_ipl psl level) ≡ false
ipl_changed psl level h e = bits_by (with_ipl psl level) psl (grind arith) (grind arith) (grind arith) ∙ e

pub built : (is mode previous level : ℕ) → is < 2 → mode < 4 → previous < 4 → level < 32 → has_must_be_zero_bit (2 ^ 26 * is + 2 ^ 24 * mode + 2 ^ 22 * previous + 2 ^ 16 * level) ≡ false
built is mode previous level h i j k = bits_by (2 ^ 26 * is + 2 ^ 24 * mode + 2 ^ 22 * previous + 2 ^ 16 * level) 0 (grind arith) (grind arith) (grind arith)

set_clear : (psl : ℕ) → psl / 2 ^ 26 % 2 ≡ 0 → has_must_be_zero_bit psl ≡ false → has_must_be_zero_bit (psl + 2 ^ 26) ≡ false
set_clear psl z e = bits_by (psl + 2 ^ 26) psl (grind arith) (grind arith) (grind arith) ∙ e

clear_set : (psl : ℕ) → psl / 2 ^ 26 % 2 ≡ 1 → has_must_be_zero_bit psl ≡ false → has_must_be_zero_bit (psl - 2 ^ 26) ≡ false
clear_set psl z e = bits_by (psl - 2 ^ 26) psl (grind arith) (grind arith) (grind arith) ∙ e

pub on_stack : (psl : ℕ) → has_must_be_zero_bit psl ≡ false → has_must_be_zero_bit (on_interrupt_stack psl) ≡ false
on_stack psl e = cond_both (is_on_interrupt_stack psl) psl (psl + 2 ^ 26) (λ x. has_must_be_zero_bit x ≡ false) (λ t. e) (λ t. set_clear psl (grind (arith, nat_tests)) e)

pub off_stack : (psl : ℕ) → has_must_be_zero_bit psl ≡ false → has_must_be_zero_bit (off_interrupt_stack psl) ≡ false
off_stack psl e = cond_both (is_on_interrupt_stack psl) (psl - 2 ^ 26) psl (λ x. has_must_be_zero_bit x ≡ false) (λ t. clear_set psl (grind (arith, nat_tests)) e) (λ t. e)
