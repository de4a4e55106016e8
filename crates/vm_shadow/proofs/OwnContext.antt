-- A switch to the registers of the last one: nothing changes.
use Rattle.std.proofs.Common.{◌≡◌, ◌≢◌, ℕ, suc, ◌<◌, ◌≤◌, Bool, true, false, cond, not, List, [], ◌∷◌, length, filter, find, take, get_or, All, AllPairs, IfSome, Some, option_map, eqb, refl, ap, ◌∙◌, sym, subst, arith}
use Rattle.std.proofs.lemmas.Bool.{eq-eqb, false_from_ne_true, ne_eqb}
use Rattle.std.proofs.lemmas.List.{take_all}
use Rattle.std.specs.Bool.{beq}
use Rattle.vax_arch.specs.Walk.{Tables}
use Rattle.vm_shadow.specs.Calls.{unless_dropped}
use Rattle.vm_shadow.specs.Shadowed.{Fits, IsFirst, Shadowed, read_at}
use Rattle.vm_shadow.specs.StandsFor.{Retells, TakesSlot, goes, is_full_for, staying}
use Rattle.vm_slots.specs.Held.{AreSlots, Held, contexts_of, is_same, others_held, without}
use Rattle.vm_slots.specs.declared.context.Context.{Context}
use Rattle.vm_slots.proofs.HeldLaws.{forward_law, is_same-true}
use Rattle.vm_state.specs.State.{context_of}
use Rattle.vm_state.specs.Touches.{is_remapped}

beq_self : (b : Bool) → beq b b ≡ true
beq_self true = refl
beq_self false = refl

not_remapped : (t : Tables) → is_remapped t t ≡ false
not_remapped t = rw (eq-eqb t.sbr t.sbr refl, eq-eqb t.slr t.slr refl, beq_self t.mapped) refl

is_same_self : (c : Context) → is_same c c ≡ true
is_same_self c = rw (beq_self c.mapped, eq-eqb c.p0br c.p0br refl, eq-eqb c.p0lr c.p0lr refl, eq-eqb c.p1br c.p1br refl, eq-eqb c.p1lr c.p1lr refl) refl

others : (c : Context) (slot : ℕ) (rest : Held) → AllPairs (λ h k. h.0 ≢ k.0) ((c, slot) ∷ rest) → (k : ℕ) (d : Context × ℕ) → k < length rest → not (is_same c (get_or rest k d).0) ≡ true
others c slot rest p k d h = ap not (false_from_ne_true (is_same c (get_or rest k d).0) (λ e. p 0 (suc k) d (omega arith) (omega arith) (is_same-true c (get_or rest k d).0 e)))

all_stay : (p : Context × ℕ → Bool) (xs : Held) → All (λ x. p x ≡ true) xs → filter p xs ≡ xs
all_stay p [] h = refl
all_stay p (x ∷ xs) h = rw (h 0 x (omega arith)) (ap (λ (ys : Held). x ∷ ys) (all_stay p xs (λ k d l. h (suc k) d (omega arith))))

-- the context in front is brought to the front
record IsOwn (c : Context) (slot : ℕ) (held : Held) : Type 0 where
  takes : TakesSlot c held held slot
  full : is_full_for c held ≡ false

own_slot : (d : Context) (n : ℕ) (rest : Held) (b : Bool) → b ≡ true → IfSome (option_map (λ (y : Context × ℕ). y.1) (cond b (Some (d, n)) (find (λ y. is_same d y.0) rest))) (λ own. n ≡ own)
own_slot d n rest true e = refl
own_slot d n rest false e = cc

own_front : (c : Context) (slot : ℕ) (held : Held) → IsFirst c slot held → AreSlots held → IsOwn c slot held
own_front c slot [] first a = absurd first
own_front c slot ((d, n) ∷ rest) first a = subst (λ x. IsOwn x slot ((d, n) ∷ rest)) first.0 (subst (λ x. IsOwn d x ((d, n) ∷ rest)) first.1 mine)
  where
    few : length rest ≤ 3
    few = omega (arith, a.few)

    stay : without d ((d, n) ∷ rest) ≡ rest
    stay = rw (is_same_self d) (all_stay (λ h. not (is_same d h.0)) rest (λ k e l. others d n rest a.contexts k e l))

    same : (d, n) ∷ others_held d ((d, n) ∷ rest) ≡ (d, n) ∷ rest
    same = ap (λ (x : Held). (d, n) ∷ take 3 x) stay ∙ ap (λ (x : Held). (d, n) ∷ x) (take_all 3 rest few)

    size : length (without d ((d, n) ∷ rest)) ≡ length rest
    size = ap (λ (x : Held). length x) stay

    mine : IsOwn d n ((d, n) ∷ rest)
    mine = record {
      takes = record {
        front = sym same;
        kept = own_slot d n rest (is_same d d) (is_same_self d);
        gone = λ four. absurd (omega (arith, four, size, few));
        before = a;
        after = a;
        contexts = sym (ap (λ (x : Held). contexts_of x) same) ∙ forward_law d n ((d, n) ∷ rest);
      };
      full = ap (λ (x : Held). eqb (length x) 4) stay ∙ ne_eqb (length rest) 4 (λ e. omega arith);
    }

kept_by : (slot n : ℕ) (remapped full : Bool) → remapped ≡ false → full ≡ false → goes remapped full slot n ≡ false
kept_by slot n remapped full e f = rw (e, f) refl

-- a switch to the own context would change nothing
pub told_again : (memory : List ℕ) (s : Shadowed) → Fits memory s → Retells s.told s s
told_again memory s f =
    let own = own_front (context_of s.told) s.slot s.held f.first f.slots in
    let e = not_remapped s.told in
    record {
      takes = subst (λ b. TakesSlot (context_of s.told) (staying b s.held) s.held s.slot) (sym e) own.takes;
      each = λ n. ap (λ b. unless_dropped b (read_at s n)) (sym (kept_by s.slot n _ _ e own.full));
    }
