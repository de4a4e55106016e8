-- A context moves to the front of those that stay.
use Rattle.std.proofs.Common.{◌≡◌, ℕ, ◌<◌, Bool, true, false, [], ◌∷◌, length, All, IfSome, IsTrue, ◌↔◌, sym, subst, arith}
use Rattle.std.proofs.lemmas.List.Elements.{All-head}
use Rattle.std.specs.Bool.{OnTrue}
use Rattle.vm_slots.specs.Held.{AreSlots, Held, LastGoes, brought_forward, contexts_of, others_held, slot_of, without}
use Rattle.vm_slots.specs.declared.context.Context.{Context}
use Rattle.vm_shadow.specs.StandsFor.{TakesSlot, staying}

none_held : AreSlots []
none_held = record { few = omega arith; contexts = λ i j d below within. absurd (omega arith); slots = λ i j d below within. absurd (omega arith); small = λ k d within. absurd (omega arith) }

pub are_staying : (remapped : Bool) (held : Held) → AreSlots held → AreSlots (staying remapped held)
are_staying true held a = none_held
are_staying false held a = a

on_true : (b : Bool) (P : Type 0) → OnTrue b P → b ≡ true → P
on_true true P h e = h
on_true false P h e = cc

pub slot_first : (c : Context) (slot : ℕ) (rest held : Held) → held ≡ (c, slot) ∷ rest → AreSlots held → slot < 4
slot_first c slot rest held e a = All-head (λ h. h.1 < 4) (c, slot) rest (subst (All (λ h. h.1 < 4)) e a.small)

pub takes : (c : Context) (held mid held' : Held) (remapped evicted : Bool) (slot : ℕ) → AreSlots held → mid ≡ staying remapped held → held' ≡ (c, slot) ∷ others_held c mid → IfSome (slot_of c mid) (λ own. slot ≡ own) → (IsTrue evicted ↔ (length (without c mid) ≡ 4)) → OnTrue evicted (LastGoes mid (others_held c mid) slot) → AreSlots held' → contexts_of held' ≡ brought_forward c (contexts_of mid) → TakesSlot c (staying remapped held) held' slot
takes c held mid held' remapped evicted slot a is front kept when gone facts contexts = subst (λ x. TakesSlot c x held' slot) is (record {
  front = front;
  kept = kept;
  gone = λ four. on_true evicted _ gone (when.1 four);
  before = subst AreSlots (sym is) (are_staying remapped held a);
  after = facts;
  contexts = contexts;
})
