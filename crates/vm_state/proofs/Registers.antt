-- What writes and reads of processor registers keep, and what packets do.
use Rattle.std.proofs.Common.{◌≡◌, ◌≢◌, ℕ, ◌+◌, ◌-◌, ◌/◌, ◌%◌, ◌^◌, ◌<◌, ◌≤◌, ◌⊎◌, zero, suc, inr, Bool, true, false, ◌&&◌, eqb, ltb, Option, Some, None, Result, Ok, Err, refl, ap, ◌∙◌, arith}
use Rattle.std.proofs.lemmas.Bool.{cond_both}
use Rattle.std.proofs.lemmas.Bool.Decides.{nat_tests}
use Rattle.vax_arch.specs.Rei.{has_must_be_zero_bit}
use Rattle.vax_arch.specs.Walk.{Tables}
use Rattle.vm_state.specs.Allowed.{Allows, AreAllowed}
use Rattle.vm_state.specs.Registers.{Value, Written, after_read, allows, read, read_or_refused, read_to, register_of, register_row, with_pointer, with_request, write_by, written}
use Rattle.vm_state.specs.State.{State, stack_in}
use Rattle.vm_state.specs.declared.register.Register.{Register}
use Rattle.vm_state.specs.declared.register.Register.TheVariants.{Ksp, Esp, Ssp, Usp, Isp, P0br, P0lr, P1br, P1lr, Sbr, Slr, Pcbb, Scbb, Ipl, Astlvl, Sirr, Sisr, Iccs, Nicr, Rxcs, Rxdb, Txcs, Txdb, Mapen}
use Rattle.vm_state.specs.declared.register.ReservedOperand.{ReservedOperand}
use Rattle.vm_state.proofs.Keeps.{Keeps, ipl_changed, moved, same}

-- registers that may have any value
loose : (size : ℕ) (s t : State) → t.modify_faults ≡ s.modify_faults → t.steps ≡ s.steps → t.tables ≡ s.tables → t.pcbb ≡ s.pcbb → t.scbb ≡ s.scbb → t.astlvl ≡ s.astlvl → t.sisr ≡ s.sisr → t.queue ≡ s.queue → t.psl ≡ s.psl → Keeps size s t
loose size s t a b c d e f g h psl = moved size s t a b c d e f g h (λ k. ap has_must_be_zero_bit psl ∙ k)

pointer_keeps : (size stack v : ℕ) (s : State) → Keeps size s (with_pointer stack v s)
pointer_keeps size stack v s = cond_both (eqb stack (stack_in s.psl)) _ _ (Keeps size s) (λ t. loose size s _ refl refl refl refl refl refl refl refl refl) (λ t. loose size s _ refl refl refl refl refl refl refl refl refl)

-- other tables, all of which are allowed
pub remapped : (size : ℕ) (s : State) (t : Tables) → (AreAllowed size s → (t.p0br ≡ 0) ⊎ Allows P0br t.p0br) → (AreAllowed size s → Allows P0lr t.p0lr) → (AreAllowed size s → Allows P1br t.p1br) → (AreAllowed size s → Allows P1lr t.p1lr) →
    (AreAllowed size s → Allows Sbr t.sbr) → (AreAllowed size s → Allows Slr t.slr) → Keeps size s (record s { tables = t })
remapped size s t a b c d e f = record {
  faults = refl;
  steps = refl;
  allowed = λ h. record { p0br = a h; p0lr = b h; p1br = c h; p1lr = d h; sbr = e h; slr = f h; pcbb = h.pcbb; scbb = h.scbb; astlvl = h.astlvl; sisr = h.sisr; psl = h.psl; packets = h.packets; few = h.few };
}

-- a software level's request
no_bit : (sisr k : ℕ) → sisr / 2 ^ k % 2 ≢ 1 → sisr / 2 ^ k % 2 ≡ 0
no_bit sisr k e = grind arith

both : (a b : Bool) → a ≡ true → b ≡ true → (a && b) ≡ true
both true true e g = refl
both true false e g = cc
both false b e g = cc

first : (a b : Bool) → (a && b) ≡ true → a ≡ true
first true b e = refl
first false b e = cc

second : (a b : Bool) → (a && b) ≡ true → b ≡ true
second true b e = e
second false b e = cc

sisr_is : (v : ℕ) → v % 2 ≡ 0 → v < 2 ^ 16 → Allows Sisr v
sisr_is v e h = both (eqb (v % 2) 0) (ltb v (2 ^ 16)) (grind (arith, nat_tests)) (grind (arith, nat_tests))

pub even_of : (v : ℕ) → Allows Sisr v → v % 2 ≡ 0
even_of v e = let h : eqb (v % 2) 0 ≡ true = first (eqb (v % 2) 0) (ltb v (2 ^ 16)) e in grind (arith, nat_tests)

pub small_of : (v : ℕ) → Allows Sisr v → v < 2 ^ 16
small_of v e = let h : ltb v (2 ^ 16) ≡ true = second (eqb (v % 2) 0) (ltb v (2 ^ 16)) e in grind (arith, nat_tests)

-- with a bit of 1 to 15 set that is clear, and with one cleared that is set
pub set_at : (k sisr : ℕ) → 1 ≤ k → k < 16 → sisr % 2 ≡ 0 → sisr < 2 ^ 16 → sisr / 2 ^ k % 2 ≢ 1 → Allows Sisr (sisr + 2 ^ k)
set_at zero sisr a b e h n = absurd (omega arith)
set_at (suc zero) sisr a b e h n = sisr_is (sisr + 2 ^ 1) (grind arith) (grind arith)
set_at (suc (suc zero)) sisr a b e h n = sisr_is (sisr + 2 ^ 2) (grind arith) (grind arith)
set_at (suc (suc (suc zero))) sisr a b e h n = sisr_is (sisr + 2 ^ 3) (grind arith) (grind arith)
set_at (suc (suc (suc (suc zero)))) sisr a b e h n = sisr_is (sisr + 2 ^ 4) (grind arith) (grind arith)
set_at (suc (suc (suc (suc (suc zero))))) sisr a b e h n = sisr_is (sisr + 2 ^ 5) (grind arith) (grind arith)
set_at (suc (suc (suc (suc (suc (suc zero)))))) sisr a b e h n = sisr_is (sisr + 2 ^ 6) (grind arith) (grind arith)
set_at (suc (suc (suc (suc (suc (suc (suc zero))))))) sisr a b e h n = sisr_is (sisr + 2 ^ 7) (grind arith) (grind arith)
set_at (suc (suc (suc (suc (suc (suc (suc (suc zero)))))))) sisr a b e h n = sisr_is (sisr + 2 ^ 8) (grind arith) (grind arith)
set_at (suc (suc (suc (suc (suc (suc (suc (suc (suc zero))))))))) sisr a b e h n = sisr_is (sisr + 2 ^ 9) (grind arith) (grind arith)
set_at (suc (suc (suc (suc (suc (suc (suc (suc (suc (suc zero)))))))))) sisr a b e h n = sisr_is (sisr + 2 ^ 10) (grind arith) (grind arith)
set_at (suc (suc (suc (suc (suc (suc (suc (suc (suc (suc (suc zero))))))))))) sisr a b e h n = sisr_is (sisr + 2 ^ 11) (grind arith) (grind arith)
set_at (suc (suc (suc (suc (suc (suc (suc (suc (suc (suc (suc (suc zero)))))))))))) sisr a b e h n = sisr_is (sisr + 2 ^ 12) (grind arith) (grind arith)
set_at (suc (suc (suc (suc (suc (suc (suc (suc (suc (suc (suc (suc (suc zero))))))))))))) sisr a b e h n = sisr_is (sisr + 2 ^ 13) (grind arith) (grind arith)
set_at (suc (suc (suc (suc (suc (suc (suc (suc (suc (suc (suc (suc (suc (suc zero)))))))))))))) sisr a b e h n = sisr_is (sisr + 2 ^ 14) (grind arith) (grind arith)
set_at (suc (suc (suc (suc (suc (suc (suc (suc (suc (suc (suc (suc (suc (suc (suc zero))))))))))))))) sisr a b e h n = sisr_is (sisr + 2 ^ 15) (grind arith) (grind arith)
set_at (suc (suc (suc (suc (suc (suc (suc (suc (suc (suc (suc (suc (suc (suc (suc (suc k)))))))))))))))) sisr a b e h n = absurd (omega arith)

pub clear_at : (k sisr : ℕ) → 1 ≤ k → k < 16 → sisr % 2 ≡ 0 → sisr < 2 ^ 16 → sisr / 2 ^ k % 2 ≡ 1 → Allows Sisr (sisr - 2 ^ k)
clear_at zero sisr a b e h n = absurd (omega arith)
clear_at (suc zero) sisr a b e h n = sisr_is (sisr - 2 ^ 1) (grind arith) (omega arith)
clear_at (suc (suc zero)) sisr a b e h n = sisr_is (sisr - 2 ^ 2) (grind arith) (omega arith)
clear_at (suc (suc (suc zero))) sisr a b e h n = sisr_is (sisr - 2 ^ 3) (grind arith) (omega arith)
clear_at (suc (suc (suc (suc zero)))) sisr a b e h n = sisr_is (sisr - 2 ^ 4) (grind arith) (omega arith)
clear_at (suc (suc (suc (suc (suc zero))))) sisr a b e h n = sisr_is (sisr - 2 ^ 5) (grind arith) (omega arith)
clear_at (suc (suc (suc (suc (suc (suc zero)))))) sisr a b e h n = sisr_is (sisr - 2 ^ 6) (grind arith) (omega arith)
clear_at (suc (suc (suc (suc (suc (suc (suc zero))))))) sisr a b e h n = sisr_is (sisr - 2 ^ 7) (grind arith) (omega arith)
clear_at (suc (suc (suc (suc (suc (suc (suc (suc zero)))))))) sisr a b e h n = sisr_is (sisr - 2 ^ 8) (grind arith) (omega arith)
clear_at (suc (suc (suc (suc (suc (suc (suc (suc (suc zero))))))))) sisr a b e h n = sisr_is (sisr - 2 ^ 9) (grind arith) (omega arith)
clear_at (suc (suc (suc (suc (suc (suc (suc (suc (suc (suc zero)))))))))) sisr a b e h n = sisr_is (sisr - 2 ^ 10) (grind arith) (omega arith)
clear_at (suc (suc (suc (suc (suc (suc (suc (suc (suc (suc (suc zero))))))))))) sisr a b e h n = sisr_is (sisr - 2 ^ 11) (grind arith) (omega arith)
clear_at (suc (suc (suc (suc (suc (suc (suc (suc (suc (suc (suc (suc zero)))))))))))) sisr a b e h n = sisr_is (sisr - 2 ^ 12) (grind arith) (omega arith)
clear_at (suc (suc (suc (suc (suc (suc (suc (suc (suc (suc (suc (suc (suc zero))))))))))))) sisr a b e h n = sisr_is (sisr - 2 ^ 13) (grind arith) (omega arith)
clear_at (suc (suc (suc (suc (suc (suc (suc (suc (suc (suc (suc (suc (suc (suc zero)))))))))))))) sisr a b e h n = sisr_is (sisr - 2 ^ 14) (grind arith) (omega arith)
clear_at (suc (suc (suc (suc (suc (suc (suc (suc (suc (suc (suc (suc (suc (suc (suc zero))))))))))))))) sisr a b e h n = sisr_is (sisr - 2 ^ 15) (grind arith) (omega arith)
clear_at (suc (suc (suc (suc (suc (suc (suc (suc (suc (suc (suc (suc (suc (suc (suc (suc k)))))))))))))))) sisr a b e h n = absurd (omega arith)

request_is : (level sisr : ℕ) → Allows Sirr level → Allows Sisr sisr → Allows Sisr (with_request level sisr)
request_is level sisr small h =
    cond_both (eqb level 0) sisr _ (Allows Sisr) (λ t. h) (λ t.
    cond_both (eqb (sisr / 2 ^ level % 2) 1) sisr (sisr + 2 ^ level) (Allows Sisr) (λ g. h)
    (λ g. set_at level sisr (grind (arith, nat_tests)) (grind (arith, nat_tests)) (even_of sisr h) (small_of sisr h) (grind (arith, nat_tests))))

pub with_sisr : (size : ℕ) (s : State) (v : ℕ) → (AreAllowed size s → Allows Sisr v) → Keeps size s (record s { sisr = v })
with_sisr size s v f = record {
  faults = refl;
  steps = refl;
  allowed = λ h. record { p0br = h.p0br; p0lr = h.p0lr; p1br = h.p1br; p1lr = h.p1lr; sbr = h.sbr; slr = h.slr; pcbb = h.pcbb; scbb = h.scbb; astlvl = h.astlvl; sisr = f h; psl = h.psl; packets = h.packets; few = h.few };
}

-- three registers of a value that is allowed
with_blocks : (size : ℕ) (s : State) (pcbb scbb astlvl : ℕ) → (AreAllowed size s → Allows Pcbb pcbb) → (AreAllowed size s → Allows Scbb scbb) → (AreAllowed size s → Allows Astlvl astlvl) → Keeps size s (record s { pcbb = pcbb; scbb = scbb; astlvl = astlvl })
with_blocks size s pcbb scbb astlvl p q r = record {
  faults = refl;
  steps = refl;
  allowed = λ h. record { p0br = h.p0br; p0lr = h.p0lr; p1br = h.p1br; p1lr = h.p1lr; sbr = h.sbr; slr = h.slr; pcbb = p h; scbb = q h; astlvl = r h; sisr = h.sisr; psl = h.psl; packets = h.packets; few = h.few };
}

level_small : (v : ℕ) → v % 32 < 32
level_small v = grind arith

pub write_keeps : (size : ℕ) (r : Register) (v : ℕ) (s : State) → allows r v ≡ true → Keeps size s ((register_row r).after_write v s)
write_keeps size Ksp v s e = pointer_keeps size 0 v s
write_keeps size Esp v s e = pointer_keeps size 1 v s
write_keeps size Ssp v s e = pointer_keeps size 2 v s
write_keeps size Usp v s e = pointer_keeps size 3 v s
write_keeps size Isp v s e = pointer_keeps size 4 v s
write_keeps size P0br v s e = remapped size s _ (λ h. inr e) (λ h. h.p0lr) (λ h. h.p1br) (λ h. h.p1lr) (λ h. h.sbr) (λ h. h.slr)
write_keeps size P0lr v s e = remapped size s _ (λ h. h.p0br) (λ h. e) (λ h. h.p1br) (λ h. h.p1lr) (λ h. h.sbr) (λ h. h.slr)
write_keeps size P1br v s e = remapped size s _ (λ h. h.p0br) (λ h. h.p0lr) (λ h. e) (λ h. h.p1lr) (λ h. h.sbr) (λ h. h.slr)
write_keeps size P1lr v s e = remapped size s _ (λ h. h.p0br) (λ h. h.p0lr) (λ h. h.p1br) (λ h. e) (λ h. h.sbr) (λ h. h.slr)
write_keeps size Sbr v s e = remapped size s _ (λ h. h.p0br) (λ h. h.p0lr) (λ h. h.p1br) (λ h. h.p1lr) (λ h. e) (λ h. h.slr)
write_keeps size Slr v s e = remapped size s _ (λ h. h.p0br) (λ h. h.p0lr) (λ h. h.p1br) (λ h. h.p1lr) (λ h. h.sbr) (λ h. e)
write_keeps size Mapen v s e = remapped size s _ (λ h. h.p0br) (λ h. h.p0lr) (λ h. h.p1br) (λ h. h.p1lr) (λ h. h.sbr) (λ h. h.slr)
write_keeps size Pcbb v s e = with_blocks size s v s.scbb s.astlvl (λ h. e) (λ h. h.scbb) (λ h. h.astlvl)
write_keeps size Scbb v s e = with_blocks size s s.pcbb v s.astlvl (λ h. h.pcbb) (λ h. e) (λ h. h.astlvl)
write_keeps size Astlvl v s e = with_blocks size s s.pcbb s.scbb v (λ h. h.pcbb) (λ h. h.scbb) (λ h. e)
write_keeps size Ipl v s e = moved size s _ refl refl refl refl refl refl refl refl (λ h. ipl_changed s.psl (v % 32) (level_small v) h)
write_keeps size Sirr v s e = with_sisr size s _ (λ h. request_is v s.sisr e h.sisr)
write_keeps size Sisr v s e = with_sisr size s v (λ h. e)
write_keeps size Iccs v s e = loose size s _ refl refl refl refl refl refl refl refl refl
write_keeps size Nicr v s e = loose size s _ refl refl refl refl refl refl refl refl refl
write_keeps size Rxcs v s e = loose size s _ refl refl refl refl refl refl refl refl refl
write_keeps size Txcs v s e = loose size s _ refl refl refl refl refl refl refl refl refl
write_keeps size Txdb v s e = loose size s _ refl refl refl refl refl refl refl refl refl
write_keeps size r v s e = same size s

pub read_keeps : (size : ℕ) (r : Register) (s : State) → Keeps size s (after_read r s)
read_keeps size Rxdb s = loose size s _ refl refl refl refl refl refl refl refl refl
read_keeps size r s = same size s

-- the outcomes of MTPR's write and MFPR's read
abbrev pub WritesKept : ℕ → State → Result Written ReservedOperand → Type 0
WritesKept size s (Ok w) = Keeps size s w.state
WritesKept size s (Err refused) = Unit {0}

write_to : (size : ℕ) (s : State) (v : ℕ) (r : Option Register) → WritesKept size s (write_by s v r)
write_to size s v None = tt
write_to size s v (Some r) = cond_both (allows r v) _ _ (WritesKept size s) (λ e. write_keeps size r v s e) (λ e. tt)

pub written_keeps : (size : ℕ) (s : State) (number v : ℕ) → WritesKept size s (written s number v)
unfolding written
written_keeps size s number v = write_to size s v (register_of number)

abbrev pub ReadsKept : ℕ → State → Result Value ReservedOperand → Type 0
ReadsKept size s (Ok v) = Keeps size s v.state
ReadsKept size s (Err refused) = Unit {0}

read_one : (size : ℕ) (s : State) (r : Register) (v : Option ℕ) → ReadsKept size s (read_to s r v)
read_one size s r None = tt
read_one size s r (Some v) = read_keeps size r s

read_any : (size bytes : ℕ) (s : State) (r : Option Register) → ReadsKept size s (read_or_refused bytes s r)
read_any size bytes s None = tt
read_any size bytes s (Some r) = read_one size s r ((register_row r).value bytes s)

pub reads_keep : (size bytes : ℕ) (s : State) (number : ℕ) → ReadsKept size s (read bytes s number)
unfolding read
reads_keep size bytes s number = read_any size bytes s (register_of number)
