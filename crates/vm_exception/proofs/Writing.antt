-- Writes of the kernel, one after another.
use Rattle.std.proofs.Common.{◌≡◌, ℕ, ◌/◌, ◌⊎◌, inl, inr, Bool, true, false, List, [], ◌∷◌, Option, None, refl, ap, ◌∙◌, subst, arith}
use Rattle.std.proofs.lemmas.Bool.{or_left}
use Rattle.vax_hw.specs.Machine.{Machine}
use Rattle.vm_exception.specs.Wrote.{DropsAmong, Wrote}
use Rattle.vm_shadow.specs.Calls.{unless_dropped}
use Rattle.vm_shadow.specs.Shadowed.{Shadowed, is_pending, is_read_from, own, read_at}
use Rattle.vm_shadow.specs.StandsFor.{OnlyGuest, Stores}
use Rattle.vm_shadow.specs.declared.source.Source.{Source}

split : {A B C : Type 0} → A ⊎ B → (A → C) → (B → C) → C
split (inl a) f g = f a
split (inr b) f g = g b

pub wrote_none : (frames : List ℕ) (m : Machine) (s : Shadowed) → Wrote frames (own m.memory s) m s m s
wrote_none frames m s = record {
  keeps = λ k. k;
  own = refl;
  drops = record { each = λ n. inl refl; rest = refl };
  only = record { rest = refl; size = refl; other = λ p h k. refl };
}

-- the frames of a write that are among others
abbrev pub Among : List ℕ → List ℕ → Type 0
Among gs fs = (x : Option Source) → is_pending gs x ≡ true → is_pending fs x ≡ true

among_then : (fs gs : List ℕ) (s s1 s2 : Shadowed) → Among gs fs → DropsAmong fs s s1 → DropsAmong gs s1 s2 → DropsAmong fs s s2
among_then fs gs s s1 s2 among a b = record {
  each = λ n. split (b.each n)
      (λ same. split (a.each n) (λ e. inl (same ∙ e)) (λ e. inr (same ∙ e.0, e.1)))
      (λ gone. split (a.each n)
      (λ e. inr (gone.0, among (read_at s n) (subst (λ x. is_pending gs x ≡ true) e gone.1)))
      (λ e. inr (gone.0, e.1)));
  rest = b.rest ∙ ap (λ (x : Shadowed). record x { reads = s2.reads; consulted = s2.consulted }) a.rest;
}

pub only_then : (m m1 m2 : Machine) (s s1 : Shadowed) → s1 ≡ record s { reads = s1.reads; consulted = s1.consulted } → OnlyGuest s m m1 → OnlyGuest s1 m1 m2 → OnlyGuest s m m2
only_then m m1 m2 s s1 e a b =
    let base : s1.base ≡ s.base = ap (λ (x : Shadowed). x.base) e in
    let pages : s1.pages ≡ s.pages = ap (λ (x : Shadowed). x.pages) e in
    let at : s1.at ≡ s.at = ap (λ (x : Shadowed). x.at) e in
    record {
      rest = b.rest ∙ ap (λ (x : Machine). record x { memory = m2.memory }) a.rest;
      size = b.size ∙ a.size;
      other = λ p h k. b.other p (split h (λ x. inl (omega arith)) (λ x. inr (omega arith))) (split k (λ x. inl (omega arith)) (λ x. inr (omega arith))) ∙ a.other p h k;
    }

pub wrote_then : (fs gs before after : List ℕ) (m m1 m2 : Machine) (s s1 s2 : Shadowed) → Among gs fs → Wrote fs before m s m1 s1 → Wrote gs after m1 s1 m2 s2 → Wrote fs after m s m2 s2
wrote_then fs gs before after m m1 m2 s s1 s2 among a b = record {
  keeps = λ k. b.keeps (a.keeps k);
  own = b.own;
  drops = among_then fs gs s s1 s2 among a.drops b.drops;
  only = only_then m m1 m2 s s1 a.drops.rest a.only b.only;
}

-- one store
dropped_by : (frame : ℕ) (x : Option Source) (b : Bool) → is_read_from frame x ≡ b → (unless_dropped b x ≡ x) ⊎ ((unless_dropped b x ≡ None) × (is_pending (frame ∷ []) x ≡ true))
dropped_by frame x true e = inr (refl, or_left _ _ e)
dropped_by frame x false e = inl refl

pub wrote_one : (pa : ℕ) (memory : List ℕ) (m m' : Machine) (s s' : Shadowed) → Stores pa memory m s m' s' → Wrote (pa / 512 ∷ []) memory m s m' s'
wrote_one pa memory m m' s s' st = record {
  keeps = λ k. st.keeps [] [] k;
  own = st.own;
  drops = record {
    each = λ n. split (dropped_by (pa / 512) (read_at s n) (is_read_from (pa / 512) (read_at s n)) refl)
        (λ same. inl (st.drops.each n ∙ same))
        (λ gone. inr (st.drops.each n ∙ gone.0, gone.1));
    rest = st.drops.rest;
  };
  only = st.only;
}

pub wrote_as : (fs before after : List ℕ) (m m' : Machine) (s s' : Shadowed) → before ≡ after → Wrote fs before m s m' s' → Wrote fs after m s m' s'
wrote_as fs before after m m' s s' e w = subst (λ x. Wrote fs x m s m' s') e w
