-- Numbers that are had at once, or read, or claimed.
use Rattle.std.proofs.Common.{◌≡◌, ◌≢◌, ℕ, ◌%◌, ◌^◌, ◌<◌, ◌⊎◌, inl, inr, Bool, true, false, List, [], ◌∷◌, Option, Some, None, refl, ap, ◌∙◌, sym, subst, bit_and, bit_or, eq-eqb, eqb-true, get_or-set_other, slice_index}
use Rattle.std.specs.Prelude.{◌==◌, ◌&&◌, ◌||◌, not}
use Rattle.std.proofs.lemmas.Nat.{and_mask}
use lib.Bits.{and_zero_r, or_zero_l, or_zero_r}
use Rattle.vv_base.specs.declared.width.Width.{Width}
use Rattle.vv_base.specs.Width.{size_of}
use Rattle.vax_table.specs.declared.act.Dest.{Dest}
use Rattle.vax_table.specs.declared.act.Dest.TheVariants.{Nowhere, Register, Memory}
use Rattle.vax_table.specs.declared.decoded.Spec.{Spec}
use Rattle.vax_table.specs.Effects.{Effect, store}
use Rattle.vax_table.specs.Operand.{plus}
use Rattle.vax_operand.specs.declared.kind.Base.{Base}
use Rattle.vax_operand.specs.declared.kind.Base.TheVariants.{Deferred, Decrement, Increment, IncrementDeferred, Absolute, Displaced, DisplacedDeferred}
use Rattle.vax_operand.specs.declared.kind.Kind.{Kind}
use Rattle.vax_operand.specs.declared.kind.Kind.TheVariants.{Constant, ReadRegister, ModifyRegister, WriteRegister, BitsRegister, Branch, Read, Modify, Write, Address, Bits}
use Rattle.vax_operand.specs.declared.prepared.Operand.{Operand}
use Rattle.vax_normal.specs.AtHand.{is_at_hand, value_at_hand}
use Rattle.vax_normal.specs.InMemory.{reach_address, sourced_by}
use Rattle.vax_normal.specs.Normal.{number_by}
use Rattle.vax_normal.specs.Touched.{IsClaimedAt, IsPutIn, base_left, dest_had, is_kept_over_all, is_kept_over, left_by, value_had}
use Rattle.vax_normal.specs.declared.shape.Number.{Number}
use Rattle.vax_normal.specs.declared.shape.Reach.{Reach}
use Rattle.vax_normal.specs.declared.shape.Source.{Source}
use Rattle.vax_normal.proofs.Doing.{result_low}
use Rattle.vax_normal.proofs.Touching.{StaysOver}

pub hand_sourced : (n : Number) (v u : ℕ) (r : List ℕ) → bit_or (bit_or (number_by n r) (bit_and v 0)) (bit_and u 0) ≡ number_by n r
hand_sourced n v u r =
    ap (λ (m : ℕ). bit_or (bit_or (number_by n r) m) (bit_and u 0)) (and_zero_r v) ∙ ap (λ (m : ℕ). bit_or (bit_or (number_by n r) 0) m) (and_zero_r u) ∙ or_zero_r (bit_or (number_by n r) 0) ∙ or_zero_r (number_by n r)

whole_low : (v : ℕ) → bit_and v 0xffffffff ≡ v % 2 ^ 32
whole_low v = and_mask v 32

pub read_sourced : (n : Number) (v u : ℕ) (r : List ℕ) → number_by n r ≡ 0 → bit_or (bit_or (number_by n r) (bit_and v 0xffffffff)) (bit_and u 0) ≡ v % 2 ^ 32
read_sourced n v u r e =
    ap (λ (m : ℕ). bit_or (bit_or m (bit_and v 0xffffffff)) (bit_and u 0)) e ∙ ap (λ (m : ℕ). bit_or (bit_or 0 (bit_and v 0xffffffff)) m) (and_zero_r u) ∙ or_zero_r (bit_or 0 (bit_and v 0xffffffff)) ∙ or_zero_l (bit_and v 0xffffffff) ∙ whole_low v

pub claimed_sourced : (n : Number) (v u : ℕ) (r : List ℕ) → number_by n r ≡ 0 → bit_or (bit_or (number_by n r) (bit_and v 0)) (bit_and u 0xffffffff) ≡ u % 2 ^ 32
claimed_sourced n v u r e =
    ap (λ (m : ℕ). bit_or (bit_or m (bit_and v 0)) (bit_and u 0xffffffff)) e ∙ ap (λ (m : ℕ). bit_or (bit_or 0 m) (bit_and u 0xffffffff)) (and_zero_r v) ∙ ap (λ (m : ℕ). bit_or m (bit_and u 0xffffffff)) (or_zero_r 0)
    ∙ or_zero_l (bit_and u 0xffffffff) ∙ whole_low u

pub other_value : (k : Kind) (w : Width) (s : Spec) (v u : ℕ) (r : List ℕ) → ((b : Base) → k ≢ Read b) → ((b : Base) → k ≢ Modify b) → value_had v u k w s r ≡ value_at_hand k w s r
other_value Constant w s v u r g h = refl
other_value ReadRegister w s v u r g h = refl
other_value ModifyRegister w s v u r g h = refl
other_value WriteRegister w s v u r g h = refl
other_value BitsRegister w s v u r g h = refl
other_value (Branch d) w s v u r g h = refl
other_value (Read b) w s v u r g h = absurd (g b refl)
other_value (Modify b) w s v u r g h = absurd (h b refl)
other_value (Write b) w s v u r g h = refl
other_value (Address b) w s v u r g h = refl
other_value (Bits b) w s v u r g h = refl

pub source_same : (n : Source) (v u : ℕ) (r q : List ℕ) → number_by n.number q ≡ number_by n.number r → sourced_by n v u q ≡ sourced_by n v u r
source_same n v u r q e = ap (λ (m : ℕ). bit_or (bit_or m (bit_and v n.read)) (bit_and u n.claimed)) e

-- ---- numbers that stay

left_hand : (k : Kind) (w : Width) (s : Spec) (r : List ℕ) → is_at_hand k ≡ true → left_by k w s r ≡ r
left_hand Constant w s r h = refl
left_hand ReadRegister w s r h = refl
left_hand ModifyRegister w s r h = refl
left_hand WriteRegister w s r h = refl
left_hand BitsRegister w s r h = refl
left_hand (Branch d) w s r h = refl
left_hand (Read b) w s r h = cc
left_hand (Modify b) w s r h = cc
left_hand (Write b) w s r h = cc
left_hand (Address b) w s r h = refl
left_hand (Bits b) w s r h = refl

base_other : (b : Base) (size n m : ℕ) (r : List ℕ) → m ≢ n → slice_index (base_left b size n r) m ≡ slice_index r m
base_other Deferred size n m r h = refl
base_other Decrement size n m r h = get_or-set_other r n m _ 0 h
base_other Increment size n m r h = get_or-set_other r n m _ 0 h
base_other IncrementDeferred size n m r h = refl
base_other (Absolute a) size n m r h = refl
base_other (Displaced d) size n m r h = refl
base_other (DisplacedDeferred d) size n m r h = refl

left_other : (k : Kind) (w : Width) (s : Spec) (m : ℕ) (r : List ℕ) → m ≢ s.reg → slice_index (left_by k w s r) m ≡ slice_index r m
left_other Constant w s m r h = refl
left_other ReadRegister w s m r h = refl
left_other ModifyRegister w s m r h = refl
left_other WriteRegister w s m r h = refl
left_other BitsRegister w s m r h = refl
left_other (Branch d) w s m r h = refl
left_other (Read b) w s m r h = base_other b (size_of w) s.reg m r h
left_other (Modify b) w s m r h = base_other b (size_of w) s.reg m r h
left_other (Write b) w s m r h = base_other b (size_of w) s.reg m r h
left_other (Address b) w s m r h = refl
left_other (Bits b) w s m r h = refl

either : (a b : Bool) → (a || b) ≡ true → (a ≡ true) ⊎ (b ≡ true)
either true b h = inl refl
either false b h = inr h

both : (a b : Bool) → (a && b) ≡ true → (a ≡ true) × (b ≡ true)
both true b h = (refl, h)
both false b h = cc

differs : (m n : ℕ) → not (m == n) ≡ true → m ≢ n
differs m n h e = let same : (m == n) ≡ true = eq-eqb m n e in cc

masked_away : (x y k c : ℕ) → k ≡ 0 → plus (bit_and x k) c ≡ plus (bit_and y k) c
masked_away x y k c e = ap (λ (m : ℕ). plus (bit_and x m) c) e ∙ ap (λ (m : ℕ). plus m c) (and_zero_r x ∙ sym (and_zero_r y)) ∙ ap (λ (m : ℕ). plus (bit_and y m) c) (sym e)

-- by another register, or by none
stays_apart : (n : Number) (q r : List ℕ) → (n.mask == 0) ≡ true ⊎ (slice_index q n.register ≡ slice_index r n.register) → number_by n q ≡ number_by n r
stays_apart n q r (inl e) = masked_away (slice_index q n.register) (slice_index r n.register) n.mask n.offset (eqb-true n.mask 0 e)
stays_apart n q r (inr e) = ap (λ (m : ℕ). plus (bit_and m n.mask) n.offset) e

apart_from : (n : Number) (x : Operand) (r : List ℕ) → (n.mask == 0) ≡ true ⊎ (not (n.register == x.spec.reg) ≡ true) → (n.mask == 0) ≡ true ⊎ (slice_index (left_by x.kind x.form.width x.spec r) n.register ≡ slice_index r n.register)
apart_from n x r (inl e) = inl e
apart_from n x r (inr e) = inr (left_other x.kind x.form.width x.spec n.register r (differs n.register x.spec.reg e))

stays_by : (n : Number) (x : Operand) (r : List ℕ) → (is_at_hand x.kind ≡ true) ⊎ ((n.mask == 0 || not (n.register == x.spec.reg)) ≡ true) → number_by n (left_by x.kind x.form.width x.spec r) ≡ number_by n r
stays_by n x r (inl e) = ap (number_by n) (left_hand x.kind x.form.width x.spec r e)
stays_by n x r (inr e) = stays_apart n (left_by x.kind x.form.width x.spec r) r (apart_from n x r (either (n.mask == 0) (not (n.register == x.spec.reg)) e))

pub stays_over : (n : Number) (xs : List Operand) → is_kept_over_all n xs ≡ true → StaysOver n xs
stays_over n [] h = tt
stays_over n (x ∷ xs) h =
    let parts = both (is_kept_over n x) (is_kept_over_all n xs) h in
    (λ r. stays_by n x r (either (is_at_hand x.kind) (n.mask == 0 || not (n.register == x.spec.reg)) parts.0), stays_over n xs parts.1)

-- ---- where a result goes

memory_put : (p : Reach) (r : List ℕ) (at : ℕ) → at ≡ reach_address p r → IsPutIn 15 (Some p) (Memory at) r
memory_put p r at e w v psw q trap = ap (λ (a : ℕ). let z : Effect = record { r = q; psw = psw; writes = store a w v ∷ []; trap = trap } in z) e

register_put : (n : ℕ) (r : List ℕ) → n < 15 → IsPutIn n None (Register n) r
register_put n r low w v psw q trap = ap (λ (xs : List ℕ). let z : Effect = record { r = xs; psw = psw; writes = []; trap = trap } in z) (sym (result_low n w v q low))

pub claimed_put : (k : Kind) (reg at : ℕ) (p : Reach) (w : Option Reach) (r : List ℕ) → w ≡ Some p → IsClaimedAt w r at → dest_had at k reg ≡ Memory at → IsPutIn 15 w (dest_had at k reg) r
claimed_put k reg at p w r is claimed goes =
    subst (λ (d : Dest). IsPutIn 15 w d r) (sym goes) (subst (λ (z : Option Reach). IsPutIn 15 z (Memory at) r) (sym is) (memory_put p r at (subst (λ (z : Option Reach). IsClaimedAt z r at) is claimed)))

pub hand_put : (k : Kind) (n at : ℕ) (w : Option Reach) (r : List ℕ) → w ≡ None → n < 15 → dest_had at k n ≡ Register n → IsPutIn n w (dest_had at k n) r
hand_put k n at w r is low goes = subst (λ (d : Dest). IsPutIn n w d r) (sym goes) (subst (λ (z : Option Reach). IsPutIn n z (Register n) r) (sym is) (register_put n r low))

pub nowhere_put : (w : Option Reach) (r : List ℕ) → w ≡ None → IsPutIn 15 w Nowhere r
nowhere_put w r is = subst (λ (z : Option Reach). IsPutIn 15 z Nowhere r) (sym is) (λ width v psw q trap. refl)
