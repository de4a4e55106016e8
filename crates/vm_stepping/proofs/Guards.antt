-- A page is made writable, and closed again.
use Rattle.std.proofs.Common.{◌≡◌, ℕ, ◌*◌, Bool, true, false, List, Option, Some, None, refl, ap, ◌∙◌, sym, subst}
use Rattle.vax_arch.specs.Walk.{page_of}
use Rattle.vax_hw.specs.Machine.{Machine}
use Rattle.vm_stepping.specs.Guarded.{CanClose, ClosesAfter, ClosesOne, GrantsOrOpens}
use Rattle.vm_shadow.specs.Calls.{OnlyTables}
use Rattle.vm_shadow.specs.Shadowed.{Fits, Shadowed, mapped_frame, real_at}
use Rattle.vm_shadow.specs.StandsFor.{ClosesPage, GrantsOrLeaves, Notes, OpensPage, own_number}
use Rattle.vm_state.specs.Partition.{IsApart}

-- one change of the tables after another
apart_then : (at n : ℕ) (a b c : List ℕ) → IsApart at n a b → IsApart at n b c → IsApart at n a c
apart_then at n a b c p q = record { front = q.front ∙ p.front; back = q.back ∙ p.back; size = q.size ∙ p.size }

pub tables_then : (at : ℕ) (a b c : Machine) → OnlyTables at a b → OnlyTables at b c → OnlyTables at a c
tables_then at a b c p q = record { rest = q.rest ∙ ap (λ (x : Machine). record x { memory = c.memory }) p.rest; tables = apart_then (512 * at) (512 * 580) a.memory b.memory c.memory p.tables q.tables }

module _ (va : ℕ) (m : Machine) (s : Shadowed) where
  abbrev pub entry_of : ℕ
  entry_of = own_number s (page_of va)

  pub is_granted : (b : Bool) (m' : Machine) (s' : Shadowed) → b ≡ true → GrantsOrLeaves b entry_of m s m' s' → GrantsOrOpens va m s None m' s'
  is_granted true m' s' e k = record { keeps = k.keeps; told = tt; entry = k.entry; others = k.others; rest = k.rest; only = k.only }
  is_granted false m' s' e k = cc

  pub not_granted : (b : Bool) (m' : Machine) (s' : Shadowed) → b ≡ false → GrantsOrLeaves b entry_of m s m' s' → (m' ≡ m) × (s' ≡ s)
  not_granted true m' s' e k = cc
  not_granted false m' s' e k = k

  pub is_opened : (b : Bool) (m1 m' : Machine) (s1 s' : Shadowed) (frame : ℕ) → b ≡ false → GrantsOrLeaves b entry_of m s m1 s1 → frame ≡ mapped_frame s1 (real_at m1.memory s1 (own_number s1 (page_of va))) → OpensPage (own_number s1 (page_of va)) m1 s1 m' s' → GrantsOrOpens va m s (Some frame) m' s'
  is_opened b m1 m' s1 s' frame e granted at opens =
      let same = not_granted b m1 s1 e granted in
      let k : OpensPage entry_of m s m' s' = (subst (λ x. OpensPage (own_number x (page_of va)) m x m' s') same.1 (subst (λ x. OpensPage (own_number s1 (page_of va)) x s1 m' s') same.0 opens)) in
      record { keeps = k.keeps; told = at ∙ (λ i. mapped_frame (same.1 i) (real_at (same.0 i).memory (same.1 i) (own_number (same.1 i) (page_of va)))); entry = k.entry; others = k.others; rest = k.rest; only = k.only }

-- after an instruction
pub fits_noted : (frame : ℕ) (m m1 : Machine) (s s1 : Shadowed) → CanClose (Some frame) true m s → Notes frame m s m1 s1 → Fits m1.memory s1
fits_noted frame m m1 s s1 can k = (k.keeps can.pending can.opened can.keeps).fits

pub closes_noted : (n frame : ℕ) (m m1 m2 : Machine) (s s1 : Shadowed) → Notes frame m s m1 s1 → ClosesPage n m1 s1 m2 → s1.at ≡ s.at → ClosesOne n frame true m s m2 s1
closes_noted n frame m m1 m2 s s1 k c at = record {
  keeps = λ pending opened h. c.keeps pending opened (k.keeps pending opened h);
  drops = k.drops;
  only = tables_then s.at m m1 m2 k.only (subst (λ x. OnlyTables x m1 m2) at c.only);
}

pub closes_plain : (n frame : ℕ) (m m2 : Machine) (s : Shadowed) → ClosesPage n m s m2 → ClosesOne n frame false m s m2 s
closes_plain n frame m m2 s c = record { keeps = c.keeps; drops = refl; only = c.only }

module _ (va : ℕ) (frame : Option ℕ) (f : ℕ) (retired : Bool) (m : Machine) (s : Shadowed) (is : frame ≡ Some f) where
  closes_as : (r : Bool) (m' : Machine) (s' : Shadowed) → retired ≡ r → ClosesOne (own_number s (page_of va)) f r m s m' s' → ClosesAfter (own_number s (page_of va)) frame retired (m, s) (m', s')
  closes_as r m' s' e k = subst (λ (x : Option ℕ). ClosesAfter (own_number s (page_of va)) x retired (m, s) (m', s')) (sym is) (subst (λ x. ClosesOne (own_number s (page_of va)) f x m s m' s') (sym e) k)

  pub unretired : (m' : Machine) → retired ≡ false → ClosesPage (own_number s (page_of va)) m s m' → ClosesAfter (own_number s (page_of va)) frame retired (m, s) (m', s)
  unretired m' e c = closes_as false m' s e (closes_plain (own_number s (page_of va)) f m m' s c)

  pub noted_fits : (m1 : Machine) (s1 : Shadowed) → retired ≡ true → CanClose frame retired m s → Notes f m s m1 s1 → Fits m1.memory s1
  noted_fits m1 s1 e can k = fits_noted f m m1 s s1 (subst (λ (x : Option ℕ). CanClose x true m s) is (subst (λ x. CanClose frame x m s) e can)) k

  pub retired_too : (m1 m' : Machine) (s1 : Shadowed) → retired ≡ true → Notes f m s m1 s1 → ClosesPage (own_number s1 (page_of va)) m1 s1 m' → ClosesAfter (own_number s (page_of va)) frame retired (m, s) (m', s1)
  retired_too m1 m' s1 e k c =
      let slot : s1.slot ≡ s.slot = ap (λ (x : Shadowed). x.slot) k.drops.rest in
      let at : s1.at ≡ s.at = ap (λ (x : Shadowed). x.at) k.drops.rest in
      closes_as true m' s1 e (closes_noted (own_number s (page_of va)) f m m1 m' s s1 k (subst (λ x. ClosesPage (Rattle.vm_shadow.specs.Layout.entry_number x (page_of va)) m1 s1 m') slot c) at)
