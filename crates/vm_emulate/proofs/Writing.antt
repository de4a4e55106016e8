-- MTPR.
use Rattle.std.proofs.Common.{◌≡◌, ℕ, ◌+◌, ◌%◌, ◌≤◌, not, ◌||◌, eqb, leb, List, [], ◌∷◌, ◌++◌, length, slice_set, Option, Some, None, Result, Ok, Err, refl, ap, ◌∙◌, sym, subst, arith}
use Rattle.std.proofs.lemmas.Bool.{cond_both}
use Rattle.std.proofs.lemmas.Bool.Decides.{nat_tests}
use Rattle.vax_arch.specs.Walk.{is_past}
use Rattle.vax_table.specs.declared.act.Trapped.{Trapped}
use Rattle.vm_emulate.specs.Moved.{MovesToRegister}
use Rattle.vm_ipr.specs.Outcomes.{WritesRegister}
use Rattle.vm_state.specs.Packets.{accepted}
use Rattle.vm_state.specs.Registers.{Written, allows, register_of, register_row, with_pointer, write_by, written}
use Rattle.vm_state.specs.Sensitive.{with_codes}
use Rattle.vm_state.specs.State.{State, stack_in, state_of}
use Rattle.vm_state.specs.declared.guest_state.GuestState.{GuestState}
use Rattle.vm_state.specs.declared.register.RegisterEffect.{RegisterEffect}
use Rattle.vm_state.specs.declared.register.RegisterEffect.TheVariants as effects
use Rattle.vm_state.specs.declared.register.Register.{Register}
use Rattle.vm_state.specs.declared.register.Register.TheVariants.{Ksp, Esp, Ssp, Usp, Isp, P0br, P0lr, P1br, P1lr, Sbr, Slr, Mapen}
use Rattle.vm_state.specs.declared.register.ReservedOperand.{ReservedOperand}
use Rattle.vm_state.specs.declared.transfer.Accept.{Accept}
use Rattle.vm_state.specs.declared.transfer.Accept.TheVariants.{BadPacket, Busy, Queued}

pub is_written : (g g2 g3 : GuestState) (t : Trapped) (r : List ℕ) (x : Result RegisterEffect ReservedOperand) (effect : RegisterEffect) → r ≡ t.regs ++ t.next_pc ∷ [] → x ≡ Ok effect → WritesRegister (record g { r = r }) g2 t.b t.a x → state_of g3 ≡ with_codes t.a (state_of g2) → MovesToRegister g t (Ok effect) g3
is_written g g2 g3 t r x effect is e w codes =
    (state_of g2, ap (λ (y : List ℕ). written (record (state_of g) { r = y }) t.b t.a) (sym is) ∙ subst (WritesRegister (record g { r = r }) g2 t.b t.a) e w, codes)

-- what a write leaves, by what it asks for
abbrev pub Leaves : RegisterEffect → State → State → Type 0
Leaves effects.Done s u = u.tables ≡ s.tables
Leaves (effects.Show byte) s u = u.tables ≡ s.tables
Leaves effects.Remap s u = Unit {0}
Leaves (effects.Kcall packet) s u = u ≡ s

pointer_leaves : (stack v : ℕ) (s : State) → (with_pointer stack v s).tables ≡ s.tables
pointer_leaves stack v s = cond_both (eqb stack (stack_in s.psl)) (record s { r = slice_set s.r 14 v }) (record s { stacks = slice_set s.stacks stack v }) (λ (x : State). x.tables ≡ s.tables) (λ e. refl) (λ e. refl)

write_leaves : (r : Register) (v : ℕ) (s : State) → Leaves ((register_row r).effect v) s ((register_row r).after_write v s)
write_leaves Ksp v s = pointer_leaves 0 v s
write_leaves Esp v s = pointer_leaves 1 v s
write_leaves Ssp v s = pointer_leaves 2 v s
write_leaves Usp v s = pointer_leaves 3 v s
write_leaves Isp v s = pointer_leaves 4 v s
write_leaves P0br v s = tt
write_leaves P0lr v s = tt
write_leaves P1br v s = tt
write_leaves P1lr v s = tt
write_leaves Sbr v s = tt
write_leaves Slr v s = tt
write_leaves Mapen v s = tt
write_leaves r v s = refl

abbrev WrittenLeaves : State → Result Written ReservedOperand → Type 0
WrittenLeaves s (Ok w) = Leaves w.effect s w.state
WrittenLeaves s (Err refused) = Unit {0}

by_register : (s : State) (v : ℕ) (r : Option Register) → WrittenLeaves s (write_by s v r)
by_register s v None = tt
by_register s v (Some r) = cond_both (allows r v) _ _ (WrittenLeaves s) (λ e. write_leaves r v s) (λ e. tt)

pub leaves : (s u : State) (number v : ℕ) (effect : RegisterEffect) → written s number v ≡ Ok (record { state = u; effect = effect }) → Leaves effect s u
unfolding written
leaves s u number v effect e = subst (WrittenLeaves s) e (by_register s v (register_of number))

-- what is queued, or finds the queue full, is a packet
abbrev pub IsProperPacket : ℕ → ℕ → Accept → Type 0
IsProperPacket size packet BadPacket = Unit {0}
IsProperPacket size packet Busy = (packet % 4 ≡ 0) × (packet + 24 ≤ size)
IsProperPacket size packet Queued = (packet % 4 ≡ 0) × (packet + 24 ≤ size)

pub proper_packet : (size : ℕ) (s : State) (packet : ℕ) → IsProperPacket size packet (accepted size s packet)
unfolding accepted
proper_packet size s packet =
    let P = IsProperPacket size packet in
    cond_both (not (eqb (packet % 4) 0) || is_past size packet 24) BadPacket _ P (λ e. tt) (λ e.
    let proper : (packet % 4 ≡ 0) × (packet + 24 ≤ size) = (grind (arith, nat_tests, e), grind (arith, nat_tests, e)) in
    cond_both (leb 8 (length s.queue)) Busy Queued P (λ k. proper) (λ k. proper))
