-- What a base says, as a reference.
use Rattle.std.proofs.Common.{◌≡◌, ◌≢◌, ℕ, ◌-◌, ◌^◌, ◌≤◌, false, List, Option, None, refl, ap, ◌∙◌, sym, arith, slice_index, slice_set}
use Rattle.std.specs.Prelude.{◌==◌, if◌then◌else◌}
use Rattle.std.proofs.lemmas.Bool.{ne_eqb}
use Rattle.vax_table.specs.declared.decoded.Spec.{Spec}
use Rattle.vax_table.specs.declared.evaluation.Place.{Place}
use Rattle.vax_table.specs.Interaction.{Done, Interaction, ◌>>=◌}
use Rattle.vax_table.specs.Operand.{indexed_by, minus, place, plus}
use Rattle.vax_operand.specs.declared.kind.Base.{Base}
use Rattle.vax_operand.specs.declared.kind.Base.TheVariants.{Deferred, Decrement, Increment, Displaced}
use Rattle.vax_operand.specs.Prepared.{address_by, base_by}
use Rattle.vax_normal.specs.Touched.{base_left}

unindexed : (b : Base) (size : ℕ) (s : Spec) (x : ℕ) (r q : List ℕ) → s.index ≡ None → base_by b size s.reg r ≡ Done (place x q) → address_by b size s r ≡ Done (place x q)
unfolding address_by
unindexed b size s x r q none is =
    ap (λ (m : Interaction Place). m >>= λ p. Done (indexed_by size s.index p)) is ∙ ap (λ (i : Option ℕ). let y : Interaction Place = Done (indexed_by size i (place x q)) in y) none

-- a number that isn't 0 is added
added_to : (x k : ℕ) → k ≢ 0 → plus x k ≡ (if k == 0 then x else plus x k)
added_to x k h = let no : (k == 0) ≡ false = ne_eqb k 0 h in rw no refl

set_on : (r : List ℕ) (n v k : ℕ) → k ≢ 0 → slice_set r n v ≡ (if k == 0 then r else slice_set r n v)
set_on r n v k h = let no : (k == 0) ≡ false = ne_eqb k 0 h in rw no refl

pub deferred_reach : (b : Base) (size : ℕ) (s : Spec) (r : List ℕ) → b ≡ Deferred → s.index ≡ None → (address_by b size s r ≡ Done (place (slice_index r s.reg) r)) × (base_left b size s.reg r ≡ r)
unfolding base_by
deferred_reach b size s r is none = (unindexed b size s (slice_index r s.reg) r r none (ap (λ (z : Base). base_by z size s.reg r) is), ap (λ (z : Base). base_left z size s.reg r) is)

pub displaced_reach : (b : Base) (size : ℕ) (s : Spec) (r : List ℕ) (k : ℕ) → b ≡ Displaced k → s.index ≡ None → k ≢ 0 →
    (address_by b size s r ≡ Done (place (if k == 0 then slice_index r s.reg else plus (slice_index r s.reg) k) r)) × (base_left b size s.reg r ≡ r)
unfolding base_by
displaced_reach b size s r k is none h =
    let x : ℕ = slice_index r s.reg in
    (unindexed b size s (plus x k) r r none (ap (λ (z : Base). base_by z size s.reg r) is) ∙ ap (λ (a : ℕ). let y : Interaction Place = Done (place a r) in y) (added_to x k h), ap (λ (z : Base). base_left z size s.reg r) is)

pub increment_reach : (b : Base) (size : ℕ) (s : Spec) (r : List ℕ) (k : ℕ) → b ≡ Increment → s.index ≡ None → k ≡ size → 1 ≤ size →
    (address_by b size s r ≡ Done (place (slice_index r s.reg) (if k == 0 then r else slice_set r s.reg (plus (slice_index r s.reg) k))))
    × (base_left b size s.reg r ≡ (if k == 0 then r else slice_set r s.reg (plus (slice_index r s.reg) k)))
unfolding base_by
increment_reach b size s r k is none e some =
    let x : ℕ = slice_index r s.reg in
    let h : k ≢ 0 = λ g. omega (arith, e, g, some) in
    let same : slice_set r s.reg (plus x size) ≡ (if k == 0 then r else slice_set r s.reg (plus x k)) =
    ap (λ (m : ℕ). slice_set r s.reg (plus x m)) (sym e) ∙ set_on r s.reg (plus x k) k h in (
      unindexed b size s x r (slice_set r s.reg (plus x size)) none (ap (λ (z : Base). base_by z size s.reg r) is) ∙ ap (λ (q : List ℕ). let y : Interaction Place = Done (place x q) in y) same,
      ap (λ (z : Base). base_left z size s.reg r) is ∙ same,
    )

pub decrement_reach : (b : Base) (size : ℕ) (s : Spec) (r : List ℕ) (k : ℕ) → b ≡ Decrement → s.index ≡ None → k ≡ 2 ^ 32 - size → size ≤ 8 →
    (address_by b size s r ≡ Done (place (if k == 0 then slice_index r s.reg else plus (slice_index r s.reg) k) (if k == 0 then r else slice_set r s.reg (plus (slice_index r s.reg) k))))
    × (base_left b size s.reg r ≡ (if k == 0 then r else slice_set r s.reg (plus (slice_index r s.reg) k)))
unfolding base_by
decrement_reach b size s r k is none e most =
    let x : ℕ = slice_index r s.reg in
    let h : k ≢ 0 = λ g. omega (arith, e, g, most) in
    let lower : minus x size ≡ plus x k = ap (λ (m : ℕ). plus x m) (sym e) in
    let same : slice_set r s.reg (minus x size) ≡ (if k == 0 then r else slice_set r s.reg (plus x k)) =
    ap (λ (v : ℕ). slice_set r s.reg v) lower ∙ set_on r s.reg (plus x k) k h in
    let there : minus x size ≡ (if k == 0 then x else plus x k) = lower ∙ added_to x k h in (
      unindexed b size s (minus x size) r (slice_set r s.reg (minus x size)) none (ap (λ (z : Base). base_by z size s.reg r) is)
          ∙ ap (λ (a : ℕ). let y : Interaction Place = Done (place a (slice_set r s.reg (minus x size))) in y) there
          ∙ ap (λ (q : List ℕ). let y : Interaction Place = Done (place (if k == 0 then x else plus x k) q) in y) same,
      ap (λ (z : Base). base_left z size s.reg r) is ∙ same,
    )
