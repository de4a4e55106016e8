-- Stores of the machine, each at the guest's own place.
use Rattle.std.proofs.Common.{◌≡◌, ℕ, zero, suc, ◌+◌, ◌*◌, ◌/◌, ◌%◌, ◌^◌, ◌<◌, ◌≤◌, ◌⊎◌, inl, inr, Bool, true, false, ◌||◌, ◌==◌, List, [], ◌∷◌, length, slice_set, Option, refl, ◌∙◌, sym, subst, arith, slice_index}
use Rattle.std.proofs.lemmas.Bool.{eqb-true}
use Rattle.std.proofs.lemmas.List.{get_or-set_other, length-set}
use Rattle.vv_base.specs.Width.{size_of}
use Rattle.vax_table.specs.Claims.{addresses}
use Rattle.vax_table.specs.PlanLaws.{StoresAreClaimed}
use Rattle.vax_table.specs.Interaction.{IsIn}
use Rattle.vax_table.specs.Stores.{all_stored, bytes_stored}
use Rattle.vax_table.specs.declared.effect.Store.{Store}
use Rattle.vm_shadow.specs.Layout.{all_entries}
use Rattle.vm_shadow.specs.Shadowed.{Keeps, Shadowed, is_opened, is_pending, is_read_from, mapped_frame, own, read_at, real_at}
use Rattle.vm_shadow.specs.declared.source.Source.{Source}
use Rattle.vm_shadow.proofs.Stored.{more_pending, stored}
use Rattle.vm_shadow.proofs.Storing.{part_set}
use Rattle.vm_simulation_laws.specs.Loaded.{frames_opened}

-- a byte that may be stored: its place in the machine and the guest's own, in a frame from which no entry was read that
-- isn't pending
pub record IsTarget (pending : List ℕ) (s : Shadowed) (place mine : ℕ → ℕ) (va : ℕ) : Type 0 where
  pub there : place va ≡ 512 * s.base + mine va
  pub inside : mine va < 512 * s.pages
  pub unread : (n : ℕ) → n < all_entries → is_pending pending (read_at s n) ≡ false → is_read_from (mine va / 512) (read_at s n) ≡ false

-- what stores leave
pub record AreStored (pending opened : List ℕ) (s : Shadowed) (memory after mine : List ℕ) : Type 0 where
  pub keeps : Keeps pending opened after s
  pub own : own after s ≡ mine
  pub size : length after ≡ length memory
  pub other : (p : ℕ) → (p < 512 * s.base) ⊎ (512 * (s.base + s.pages) ≤ p) → slice_index after p ≡ slice_index memory p

module _ (pending opened : List ℕ) (s : Shadowed) (place mine : ℕ → ℕ) where
  one_stored : (va b : ℕ) (memory : List ℕ) → IsTarget pending s place mine va → Keeps pending opened memory s → AreStored pending opened s memory (slice_set memory (place va) b) (slice_set (own memory s) (mine va) b)
  one_stored va b memory t k =
      let q = mine va in
      let after = slice_set memory (512 * s.base + q) b in
      let inside = t.inside in
      let other : (p : ℕ) → (p ≡ 512 * s.base + q → ⊥) → slice_index after p ≡ slice_index memory p = λ p n. get_or-set_other memory (512 * s.base + q) p b 0 n in
      subst (λ (x : ℕ). AreStored pending opened s memory (slice_set memory x b) (slice_set (own memory s) q b)) (sym t.there) (record {
        keeps = stored pending opened memory after s (q / 512) k (omega (arith, inside)) (record { size = length-set memory (512 * s.base + q) b; other = λ p h. other p (λ e. beside p h e) }) t.unread;
        own = part_set memory (512 * s.base) (512 * s.pages) q b (omega (arith, k.fits.partition)) inside;
        size = length-set memory (512 * s.base + q) b;
        other = λ p h. other p (λ e. beyond p h e);
      })
    where
      beside : (p : ℕ) → (p < 512 * (s.base + mine va / 512)) ⊎ (512 * (s.base + mine va / 512) + 512 ≤ p) → p ≡ 512 * s.base + mine va → ⊥
      beside p (inl h) e = omega arith
      beside p (inr h) e = omega arith

      beyond : (p : ℕ) → (p < 512 * s.base) ⊎ (512 * (s.base + s.pages) ≤ p) → p ≡ 512 * s.base + mine va → ⊥
      beyond p (inl h) e = omega arith
      beyond p (inr h) e = omega (arith, t.inside)

  none_stored : (memory : List ℕ) → Keeps pending opened memory s → AreStored pending opened s memory memory (own memory s)
  none_stored memory k = record { keeps = k; own = refl; size = refl; other = λ p h. refl }

  then_stored : (memory between after own_between own_after : List ℕ) → AreStored pending opened s memory between own_between → AreStored pending opened s between after own_after → AreStored pending opened s memory after own_after
  then_stored memory between after own_between own_after a b = record { keeps = b.keeps; own = b.own; size = b.size ∙ a.size; other = λ p h. b.other p h ∙ a.other p h }

  bytes_are : (k a v : ℕ) (memory : List ℕ) → ((x : ℕ) → IsIn x (addresses k a) → IsTarget pending s place mine x) → Keeps pending opened memory s → AreStored pending opened s memory (bytes_stored place k a v memory) (bytes_stored mine k a v (own memory s))
  bytes_are zero a v memory t keeps = none_stored memory keeps
  bytes_are (suc k) a v memory t keeps =
      let va = a % 2 ^ 32 in
      let next = slice_set memory (place va) (v % 256) in
      let one = one_stored va (v % 256) memory (t va (inl refl)) keeps in
      let rest = bytes_are k (a + 1) (v / 256) next (λ x h. t x (inr h)) one.keeps in
      then_stored memory next (bytes_stored place k (a + 1) (v / 256) next) (slice_set (own memory s) (mine va) (v % 256)) (bytes_stored mine k (a + 1) (v / 256) (slice_set (own memory s) (mine va) (v % 256)))
      one (subst (λ (x : List ℕ). AreStored pending opened s next (bytes_stored place k (a + 1) (v / 256) next) (bytes_stored mine k (a + 1) (v / 256) x)) one.own rest)

  pub all_are : (claimed : List ℕ) → ((x : ℕ) → IsIn x claimed → IsTarget pending s place mine x) → (xs : List Store) (memory : List ℕ) → StoresAreClaimed claimed xs → Keeps pending opened memory s → AreStored pending opened s memory (all_stored place xs memory) (all_stored mine xs (own memory s))
  all_are claimed t [] memory c keeps = none_stored memory keeps
  all_are claimed t (x ∷ xs) memory c keeps =
      let next = bytes_stored place (size_of x.width) x.va x.value memory in
      let mine_next = bytes_stored mine (size_of x.width) x.va x.value (own memory s) in
      let one = bytes_are (size_of x.width) x.va x.value memory (λ y h. t y (c.0 y h)) keeps in
      let rest = all_are claimed t xs next c.1 one.keeps in
      then_stored memory next (all_stored place xs next) mine_next (all_stored mine xs mine_next)
      one (subst (λ (y : List ℕ). AreStored pending opened s next (all_stored place xs next) (all_stored mine xs y)) one.own rest)

both_false : (a b : Bool) → (a || b) ≡ false → (a ≡ false) × (b ≡ false)
both_false false b e = (refl, e)
both_false true b e = cc

opened_by : (memory : List ℕ) (s : Shadowed) (n k : ℕ) (rest : Bool) (x : Option Source) (t : Bool) → k == n ≡ t → (t || rest) ≡ true → is_read_from (mapped_frame s (real_at memory s k)) x ≡ false → (rest ≡ true → is_read_from (mapped_frame s (real_at memory s n)) x ≡ false) → is_read_from (mapped_frame s (real_at memory s n)) x ≡ false
opened_by memory s n k rest x true e o h more = subst (λ j. is_read_from (mapped_frame s (real_at memory s j)) x ≡ false) (eqb-true k n e) h
opened_by memory s n k rest x false e o h more = more o

-- what was read from a frame that an opened entry maps is pending
pub opened_pending : (memory : List ℕ) (s : Shadowed) (n : ℕ) (opened : List ℕ) (x : Option Source) → is_opened n opened ≡ true → is_pending (frames_opened memory s opened) x ≡ false → is_read_from (mapped_frame s (real_at memory s n)) x ≡ false
opened_pending memory s n [] x o p = cc
opened_pending memory s n (k ∷ ks) x o p =
    let f = both_false (is_read_from (mapped_frame s (real_at memory s k)) x) (is_pending (frames_opened memory s ks) x) p in
    opened_by memory s n k (is_opened n ks) x (k == n) refl o f.0 (λ e. opened_pending memory s n ks x e f.1)

pub pend : (opened : List ℕ) (memory : List ℕ) (s : Shadowed) (frames : List ℕ) → Keeps [] opened memory s → Keeps frames opened memory s
pend opened memory s [] k = k
pend opened memory s (f ∷ fs) k = more_pending f fs opened memory s (pend opened memory s fs k)
