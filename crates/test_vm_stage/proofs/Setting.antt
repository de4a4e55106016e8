-- Registers that pass the tests are allowed.
use Rattle.std.proofs.Common.{◌≡◌, ℕ, ◌≤◌, ◌==◌, ◌&&◌, ◌||◌, ◌⊎◌, inl, inr, Bool, true, false, not, length, All, refl}
use Rattle.std.proofs.lemmas.Bool.{eqb-true}
use Rattle.vm_state.specs.Allowed.{AreAllowed, IsPacket}
use Rattle.vm_state.specs.State.{State}
use Rattle.test_vm_stage.specs.Allowed.{allows_rest, allows_tables}

both : (a b : Bool) → (a && b) ≡ true → (a ≡ true) × (b ≡ true)
both true true e = (refl, refl)
both true false e = cc
both false b e = cc

either : (v : ℕ) (b : Bool) → ((v == 0) || b) ≡ true → (v ≡ 0) ⊎ (b ≡ true)
either v b e = by (v == 0) refl e
  where
    by : (t : Bool) → (v == 0) ≡ t → (t || b) ≡ true → (v ≡ 0) ⊎ (b ≡ true)
    by true z e = inl (eqb-true v 0 z)
    by false z e = inr e

is_false : (b : Bool) → not b ≡ true → b ≡ false
is_false true e = cc
is_false false e = refl

pub all_allowed : (size : ℕ) (s : State) → allows_tables s.tables ≡ true → allows_rest s ≡ true → All (IsPacket size) s.queue → length s.queue ≤ 8 → AreAllowed size s
all_allowed size s t r q n =
    let b0 = both _ _ t in let b1 = both _ _ b0.1 in let b2 = both _ _ b1.1 in let b3 = both _ _ b2.1 in let b4 = both _ _ b3.1 in
    let c0 = both _ _ r in let c1 = both _ _ c0.1 in let c2 = both _ _ c1.1 in let c3 = both _ _ c2.1 in
    record {
      p0br = either s.tables.p0br _ b0.0;
      p0lr = b1.0;
      p1br = b2.0;
      p1lr = b3.0;
      sbr = b4.0;
      slr = b4.1;
      pcbb = c0.0;
      scbb = c1.0;
      astlvl = c2.0;
      sisr = c3.0;
      psl = is_false _ c3.1;
      packets = q;
      few = n;
    }
