-- The outcome of every plan: what is stored is what was claimed, there are few stores, and as many registers as before.
use Rattle.std.proofs.Common.{◌≡◌, ℕ, zero, suc, ◌+◌, ◌/◌, ◌%◌, ◌^◌, ◌≤◌, Bool, true, false, eqb, ltb, leb, List, [], ◌∷◌, ◌++◌, length, length-append, append_assoc, append-nil, Option, Some, None, Ok, refl, ap, ◌∙◌, sym, subst, arith, slice_set}
use Rattle.std.specs.Prelude.{slice_index}
use Rattle.std.proofs.lemmas.List.{length-map}
use Rattle.std.proofs.Math.Path.{fun_ext}
use Rattle.vv_base.specs.declared.width.Width.{Width}
use Rattle.vv_base.specs.declared.width.Width.TheVariants.{Byte, Word, Long, Quad}
use Rattle.vv_base.specs.Bits.{is_set}
use Rattle.vv_base.specs.Width.{size_of}
use Rattle.vax_table.specs.Arithmetic.{alu_of}
use Rattle.vax_table.specs.Branches.{added_and_compared, added_one, bit_in, bit_intent, bit_made, branched_on_bit, branched_on_low_bit, byte_of_bit, called_subroutine, cased, comes_out, left_subroutine, looped, subtracted_one}
use Rattle.vax_table.specs.Calls.{aligned, called_general, called_on_stack, entered, entry_mask, frame_end, frame_left, frame_popped, list_dropped, registers_popped, registers_pushed, returned, values_of}
use Rattle.vax_table.specs.Claims.{addresses, destination_addresses, Holds, claims, if_write}
use Rattle.vax_table.specs.Computing.{moved_quad, operand_pushed, status_cleared, status_set}
use Rattle.vax_table.specs.Effects.{Effect, begun, dest_of, long_of, put, put_in_register, quad_of, store, went_if}
use Rattle.vax_table.specs.Operand.{minus, place, plus}
use Rattle.vax_table.specs.AllOperands.{forms_in, operands_of}
use Rattle.vax_table.specs.Operations.{operation_of, computed, branched, holds}
use Rattle.vax_table.specs.Plan.{is_planned, performed, performed_with, plan_of, planned}
use Rattle.vax_table.specs.PlanLaws.{bytes_of_stores}
use Rattle.vax_table.specs.Rows.{row_of}
use Rattle.vax_table.specs.Interaction.{Interaction, Done, Refuse, Touch, ◌>>=◌, Space, outcome}
use Rattle.vax_table.specs.Spelling.{Instruction}
use Rattle.vax_table.specs.Stack.{named_down, named_up, pop, pop_all, push, push_all}
use Rattle.vax_table.specs.declared.act.Dest.{Dest}
use Rattle.vax_table.specs.declared.act.Dest.TheVariants.{Nowhere, Register, Memory}
use Rattle.vax_table.specs.declared.effect.Store.{Store}
use Rattle.vax_table.specs.declared.evaluation.Operands.{Operands}
use Rattle.vax_table.specs.declared.evaluation.Place.{Place}
use Rattle.vax_table.specs.declared.forms.Form.{Form}
use Rattle.vax_table.specs.declared.meaning.Condition.{Condition}
use Rattle.vax_table.specs.declared.meaning.Inputs.{Inputs}
use Rattle.vax_table.specs.declared.answer.Alu.{Alu}
use Rattle.vax_table.specs.declared.answer.AluOp.{AluOp}
use Rattle.vax_table.specs.declared.answer.AluOp.TheVariants.{Sub}
use Rattle.vax_table.specs.declared.meaning.Operation.{Operation}
use Rattle.vax_table.specs.declared.meaning.Operation.TheVariants as does
use Rattle.vax_table.specs.declared.meaning.Target.{Target}
use Rattle.vax_table.specs.declared.meaning.Target.TheVariants as targets
use Rattle.vax_table.proofs.Claims.{holds-bind, holds_made, holds_then}
use Rattle.vax_table.proofs.OperandClaims.{AreClaimed, are_few, operands_claimed}
use Rattle.vax_table.proofs.Targets.{is_fit, none_claimed, operations_fit, target_claimed}
use Rattle.vax_table.proofs.Tests.{if_both}
use Rattle.vax_table.proofs.Widths.{OperandsAreWide, PlaceIsWide, operands_wide, set_wide}

-- at most n stores, just what was claimed, and m registers
pub record IsSound (n m : ℕ) (cs : List ℕ) (writes : List Store) (r : List ℕ) : Type 0 where
  pub claimed : cs ≡ bytes_of_stores writes
  pub few : length writes ≤ n
  pub wide : length r ≡ m

abbrev pub Sound : ℕ → ℕ → List ℕ → Effect → Type 0
Sound n m cs e = IsSound n m cs e.writes e.r

one_more : (xs : List Store) (x : Store) → bytes_of_stores (xs ++ x ∷ []) ≡ bytes_of_stores xs ++ addresses (size_of x.width) x.va
one_more [] x = append-nil (addresses (size_of x.width) x.va)
one_more (y ∷ ys) x =
    ap (λ (zs : List ℕ). addresses (size_of y.width) y.va ++ zs) (one_more ys x)
    ∙ sym (append_assoc (addresses (size_of y.width) y.va) (bytes_of_stores ys) (addresses (size_of x.width) x.va))

-- nothing claimed and nothing stored
none_stored : (n m : ℕ) (cs r : List ℕ) → cs ≡ [] → length r ≡ m → IsSound n m cs [] r
none_stored n m cs r e h = record { claimed = e; few = omega arith; wide = h }

fewer : (n k m : ℕ) (cs : List ℕ) (xs : List Store) (r : List ℕ) → n ≤ k → IsSound n m cs xs r → IsSound k m cs xs r
fewer n k m cs xs r h s = record { claimed = s.claimed; few = omega arith; wide = s.wide }

-- other registers
changed : (n m : ℕ) (cs : List ℕ) (xs : List Store) (r q : List ℕ) → length q ≡ m → IsSound n m cs xs r → IsSound n m cs xs q
changed n m cs xs r q h s = record { claimed = s.claimed; few = s.few; wide = h }

set : (n m : ℕ) (cs : List ℕ) (xs : List Store) (r : List ℕ) (k v : ℕ) → IsSound n m cs xs r → IsSound n m cs xs (slice_set r k v)
set n m cs xs r k v s = changed n m cs xs r (slice_set r k v) (set_wide m r k v s.wide) s

stored : (n m : ℕ) (cs : List ℕ) (xs : List Store) (r : List ℕ) (x : Store) → IsSound n m cs xs r → IsSound (suc n) m (cs ++ addresses (size_of x.width) x.va) (xs ++ x ∷ []) r
stored n m cs xs r x s = record {
  claimed = ap (λ (zs : List ℕ). zs ++ addresses (size_of x.width) x.va) s.claimed ∙ sym (one_more xs x);
  few = let few : length xs ≤ n = s.few in omega (arith, length-append xs (x ∷ []));
  wide = s.wide;
}

in_register : (n m : ℕ) (cs : List ℕ) (xs : List Store) (r : List ℕ) (w : Width) (k v : ℕ) → IsSound n m cs xs r → IsSound n m cs xs (put_in_register w k v r)
in_register n m cs xs r Byte k v s = set n m cs xs r k _ s
in_register n m cs xs r Word k v s = set n m cs xs r k _ s
in_register n m cs xs r Long k v s = set n m cs xs r k _ s
in_register n m cs xs r Quad k v s = set n m cs xs (slice_set r k (v % 2 ^ 32)) (k + 1) _ (set n m cs xs r k _ s)

-- a destination whose bytes are claimed gets the one result
put_alone : (m : ℕ) (dest : Dest) (w : Width) (v : ℕ) (e : Effect) → Sound 0 m [] e → Sound 1 m (destination_addresses w dest) (put dest w v e)
put_alone m Nowhere w v e s = fewer 0 1 m [] e.writes e.r (omega arith) s
put_alone m (Register k) w v e s = fewer 0 1 m [] e.writes (put_in_register w k v e.r) (omega arith) (in_register 0 m [] e.writes e.r w k v s)
put_alone m (Memory at) w v e s = stored 0 m [] e.writes e.r (store at w v) s

put_sound : (m : ℕ) (cs : List ℕ) (dest : Dest) (w : Width) (v : ℕ) (e : Effect) → cs ≡ destination_addresses w dest → Sound 0 m [] e → Sound 1 m cs (put dest w v e)
put_sound m cs dest w v e c s = subst (λ (zs : List ℕ). Sound 1 m zs (put dest w v e)) (sym c) (put_alone m dest w v e s)

went_sound : (n m : ℕ) (cs : List ℕ) (taken : Bool) (pc : ℕ) (e : Effect) → Sound n m cs e → Sound n m cs (went_if taken pc e)
went_sound n m cs true pc e s = set n m cs e.writes e.r 15 pc s
went_sound n m cs false pc e s = s

push_sound : (n m : ℕ) (cs : List ℕ) (v : ℕ) (e : Effect) → Sound n m cs e → Holds (Sound (suc n) m) cs (push v e)
unfolding push
push_sound n m cs v e s = λ old.
    let sp = minus (slice_index e.r 14) 4 in
    stored n m cs e.writes (slice_set e.r 14 sp) (store sp Long v) (set n m cs e.writes e.r 14 sp s)

push_all_sound : (n k m : ℕ) (cs vs : List ℕ) (e : Effect) → length vs + n ≤ k → Sound n m cs e → Holds (Sound k m) cs (push_all vs e)
push_all_sound n k m cs [] e h s = fewer n k m cs e.writes e.r (omega arith) s
push_all_sound n k m cs (v ∷ vs) e h s = holds-bind (Sound (suc n) m) (Sound k m) cs (push v e) _ (push_sound n m cs v e s) (λ ds f g. push_all_sound (suc n) k m ds vs f (omega arith) g)

-- where nothing was claimed before
at_none : {A : Type 0} (P : List ℕ → A → Type 0) (cs : List ℕ) (script : Interaction A) → cs ≡ [] → Holds P [] script → Holds P cs script
at_none P cs script e h = subst (λ (zs : List ℕ). Holds P zs script) (sym e) h

abbrev ClaimsNone : List ℕ → ℕ → Type 0
ClaimsNone cs v = cs ≡ []

-- pops claim nothing
abbrev Pops : ℕ → List ℕ → Place → Type 0
Pops m cs p = (cs ≡ []) × PlaceIsWide m cs p

pop_wide : (m n : ℕ) (p : Place) → length p.r ≡ m → Holds (Pops m) [] (pop n p)
unfolding pop
pop_wide m n p h = λ v. (refl, set_wide m p.r n v h)

pop_all_wide : (m : ℕ) (ns : List ℕ) (p : Place) → length p.r ≡ m → Holds (Pops m) [] (pop_all ns p)
pop_all_wide m [] p h = (refl, h)
pop_all_wide m (n ∷ ns) p h = holds-bind (Pops m) (Pops m) [] (pop n p) _ (pop_wide m n p h) (λ ds next g. at_none (Pops m) ds (pop_all ns next) g.0 (pop_all_wide m ns next g.1))

named_length : (n mask : ℕ) → length (named_down n mask) ≤ n
unfolding named_down
named_length zero mask = omega arith
named_length (suc n) mask =
    let rest : length (named_down n mask) ≤ n = named_length n mask in
    if_both (λ (xs : List ℕ). length xs ≤ suc n) (is_set mask n) _ _ (λ t. omega arith) (λ t. omega arith)

values_length : (r : List ℕ) (n mask : ℕ) → length (values_of r (named_down n mask)) ≤ n
values_length r n mask = let named : length (named_down n mask) ≤ n = named_length n mask in rw length-map named

computed_sound : (fs : List Form) (m : ℕ) (cs : List ℕ) (op : AluOp) (w : Width) (inputs : Inputs) (target : Target) (o : Operands) (psw : ℕ) → is_fit (does.Compute op w inputs target) fs ≡ true → (are_few fs ≡ true → AreClaimed fs cs o) → length o.r ≡ m → Sound 1 m cs (computed op w inputs target o psw)
unfolding computed is_fit
computed_sound fs m cs op w inputs targets.CodesOnly o psw f c h = none_stored 1 m cs o.r (none_claimed fs cs o c f) h
computed_sound fs m cs op w inputs targets.First o psw f c h = put_sound m cs (dest_of o 0) w _ _ (target_claimed fs cs o 0 w c f) (none_stored 0 m [] o.r refl h)
computed_sound fs m cs op w inputs targets.Second o psw f c h = put_sound m cs (dest_of o 1) w _ _ (target_claimed fs cs o 1 w c f) (none_stored 0 m [] o.r refl h)
computed_sound fs m cs op w inputs targets.Third o psw f c h = put_sound m cs (dest_of o 2) w _ _ (target_claimed fs cs o 2 w c f) (none_stored 0 m [] o.r refl h)

quad_sound : (m : ℕ) (cs : List ℕ) (v : ℕ) (dest : Dest) (o : Operands) (psw : ℕ) → cs ≡ destination_addresses Quad dest → length o.r ≡ m → Sound 1 m cs (moved_quad v dest o psw)
unfolding moved_quad
quad_sound m cs v dest o psw c h = put_sound m cs dest Quad v _ c (none_stored 0 m [] o.r refl h)

pushed_sound : (m : ℕ) (o : Operands) (psw : ℕ) → length o.r ≡ m → Holds (Sound 1 m) [] (operand_pushed o psw)
unfolding operand_pushed
pushed_sound m o psw h = push_sound 0 m [] (long_of o 0) _ (none_stored 0 m [] o.r refl h)

status_set_sound : (m : ℕ) (o : Operands) (psw : ℕ) → length o.r ≡ m → Holds (Sound 0 m) [] (status_set o psw)
unfolding status_set
status_set_sound m o psw h = if_both (Holds (Sound 0 m) []) (eqb (long_of o 0 / 2 ^ 8) 0) _ _ (λ t. none_stored 0 m [] o.r refl h) (λ t. tt)

status_cleared_sound : (m : ℕ) (o : Operands) (psw : ℕ) → length o.r ≡ m → Holds (Sound 0 m) [] (status_cleared o psw)
unfolding status_cleared
status_cleared_sound m o psw h = if_both (Holds (Sound 0 m) []) (eqb (long_of o 0 / 2 ^ 8) 0) _ _ (λ t. none_stored 0 m [] o.r refl h) (λ t. tt)

branched_sound : (m : ℕ) (condition : Condition) (o : Operands) (psw : ℕ) → length o.r ≡ m → Sound 0 m [] (branched condition o psw)
unfolding branched
branched_sound m condition o psw h = went_sound 0 m [] (holds condition psw) (long_of o 0) (begun o psw) (none_stored 0 m [] o.r refl h)

called_sound : (m : ℕ) (o : Operands) (psw : ℕ) → length o.r ≡ m → Holds (Sound 1 m) [] (called_subroutine o psw)
unfolding called_subroutine
called_sound m o psw h = holds-bind (Sound 1 m) (Sound 1 m) [] (push (slice_index o.r 15) (begun o psw)) _ (push_sound 0 m [] (slice_index o.r 15) (begun o psw) (none_stored 0 m [] o.r refl h)) (λ ds e s. set 1 m ds e.writes e.r 15 _ s)

left_sound : (m : ℕ) (o : Operands) (psw : ℕ) → length o.r ≡ m → Holds (Sound 0 m) [] (left_subroutine o psw)
unfolding left_subroutine
left_sound m o psw h = λ pc. none_stored 0 m [] _ refl (set_wide m (slice_set o.r 14 _) 15 pc (set_wide m o.r 14 _ h))

looped_sound : (m : ℕ) (cs : List ℕ) (w : Width) (dest : Dest) (x : Alu) (taken : Bool) (to : ℕ) (o : Operands) (psw : ℕ) → cs ≡ destination_addresses w dest → length o.r ≡ m → Sound 1 m cs (went_if taken to (looped w dest x o psw))
looped_sound m cs w dest x taken to o psw c h = went_sound 1 m cs taken to _ (put_sound m cs dest w x.value _ c (none_stored 0 m [] o.r refl h))

acb_sound : (m : ℕ) (cs : List ℕ) (w : Width) (o : Operands) (psw : ℕ) → cs ≡ destination_addresses w (dest_of o 2) → length o.r ≡ m → Sound 1 m cs (added_and_compared w o psw)
unfolding added_and_compared
acb_sound m cs w o psw c h = looped_sound m cs w (dest_of o 2) _ _ _ o psw c h

aob_sound : (m : ℕ) (cs : List ℕ) (at_limit : Bool) (o : Operands) (psw : ℕ) → cs ≡ destination_addresses Long (dest_of o 1) → length o.r ≡ m → Sound 1 m cs (added_one at_limit o psw)
unfolding added_one
aob_sound m cs at_limit o psw c h = looped_sound m cs Long (dest_of o 1) _ _ _ o psw c h

sob_sound : (m : ℕ) (cs : List ℕ) (at_zero : Bool) (o : Operands) (psw : ℕ) → cs ≡ destination_addresses Long (dest_of o 0) → length o.r ≡ m → Sound 1 m cs (subtracted_one at_zero o psw)
unfolding subtracted_one
sob_sound m cs at_zero o psw c h = looped_sound m cs Long (dest_of o 0) _ _ _ o psw c h

cased_sound : (m : ℕ) (w : Width) (o : Operands) (psw : ℕ) → length o.r ≡ m → Holds (Sound 0 m) [] (cased w o psw)
unfolding cased
cased_sound m w o psw h =
    if_both (Holds (Sound 0 m) []) (leb (alu_of Sub (long_of o 1) (long_of o 0) w psw).value (long_of o 2)) _ _
    (λ t d. none_stored 0 m [] _ refl (set_wide m o.r 15 _ h)) (λ t. none_stored 0 m [] _ refl (set_wide m o.r 15 _ h))

low_bit_sound : (m : ℕ) (on : Bool) (o : Operands) (psw : ℕ) → length o.r ≡ m → Sound 0 m [] (branched_on_low_bit on o psw)
unfolding branched_on_low_bit
low_bit_sound m on o psw h = went_sound 0 m [] (comes_out on (is_set (long_of o 0) 0)) (long_of o 1) (begun o psw) (none_stored 0 m [] o.r refl h)

-- the byte or register of a bit is claimed where the bit is made something
bit_made_sound : (m : ℕ) (becomes : Option Bool) (dest : Dest) (w : Width) (k n : ℕ) (e : Effect) → Sound 0 m [] e → Sound 1 m (if_write (bit_intent becomes) (destination_addresses w dest)) (bit_made becomes dest w k n e)
bit_made_sound m None dest w k n e s = fewer 0 1 m [] e.writes e.r (omega arith) s
bit_made_sound m (Some b) dest w k n e s = put_alone m dest w _ e s

no_write : (becomes : Option Bool) → if_write (bit_intent becomes) [] ≡ []
no_write None = refl
no_write (Some b) = refl

bit_in_sound : (m : ℕ) (on : Bool) (becomes : Option Bool) (dest : Dest) (position to : ℕ) (e : Effect) → Sound 0 m [] e → Holds (Sound 1 m) [] (bit_in on becomes dest position to e)
bit_in_sound m on becomes Nowhere position to e s = fewer 0 1 m [] e.writes e.r (omega arith) s
bit_in_sound m on becomes (Register n) position to e s =
    if_both (Holds (Sound 1 m) []) (ltb position 32) _ _
    (λ t. went_sound 1 m [] (comes_out on (is_set (slice_index e.r n) position)) to _
    (subst (λ (zs : List ℕ). Sound 1 m zs (bit_made becomes (Register n) Long position (slice_index e.r n) e)) (no_write becomes) (bit_made_sound m becomes (Register n) Long position (slice_index e.r n) e s)))
    (λ t. tt)
bit_in_sound m on becomes (Memory base) position to e s = λ n.
    let at = byte_of_bit base position in
    went_sound 1 m (if_write (bit_intent becomes) (addresses 1 at)) (comes_out on (is_set n (position % 8))) to _ (bit_made_sound m becomes (Memory at) Byte (position % 8) n e s)

bit_sound : (m : ℕ) (on : Bool) (becomes : Option Bool) (o : Operands) (psw : ℕ) → length o.r ≡ m → Holds (Sound 1 m) [] (branched_on_bit on becomes o psw)
unfolding branched_on_bit
bit_sound m on becomes o psw h = bit_in_sound m on becomes (dest_of o 1) (long_of o 0) (long_of o 2) (begun o psw) (none_stored 0 m [] o.r refl h)

registers_pushed_sound : (m : ℕ) (o : Operands) (psw : ℕ) → length o.r ≡ m → Holds (Sound 15 m) [] (registers_pushed o psw)
unfolding registers_pushed
registers_pushed_sound m o psw h =
    let few : length (values_of o.r (named_down 15 (long_of o 0))) ≤ 15 = values_length o.r 15 (long_of o 0) in
    push_all_sound 0 15 m [] (values_of o.r (named_down 15 (long_of o 0))) (begun o psw) (omega arith) (none_stored 0 m [] o.r refl h)

registers_popped_sound : (m : ℕ) (o : Operands) (psw : ℕ) → length o.r ≡ m → Holds (Sound 0 m) [] (registers_popped o psw)
unfolding registers_popped
registers_popped_sound m o psw h =
    holds-bind (Pops m) (Sound 0 m) [] (pop_all (named_up 15 0 (long_of o 0)) (place (slice_index o.r 14) o.r)) _
    (pop_all_wide m (named_up 15 0 (long_of o 0)) (place (slice_index o.r 14) o.r) h)
    (λ ds p e. none_stored 0 m ds _ e.0 (if_both (λ (r : List ℕ). length r ≡ m) (is_set (long_of o 0) 14) _ _ (λ t. e.1) (λ t. set_wide m p.r 14 p.at e.1)))

entered_sound : (n k m : ℕ) (cs : List ℕ) (is_on_stack : Bool) (procedure mask list : ℕ) (e : Effect) → 17 + n ≤ k → Sound n m cs e → Holds (Sound k m) cs (entered is_on_stack procedure mask list e)
unfolding entered
entered_sound n k m cs is_on_stack procedure mask list e h s =
    let few : length (values_of e.r (named_down 12 mask)) ≤ 12 = values_length e.r 12 mask in
    holds-bind (Sound (12 + n) m) (Sound k m) cs (push_all (values_of e.r (named_down 12 mask)) (aligned e)) _
    (push_all_sound n (12 + n) m cs (values_of e.r (named_down 12 mask)) (aligned e) (omega arith) (set n m cs e.writes e.r 14 _ s))
    (λ ds f g. holds-bind (Sound k m) (Sound k m) ds (push_all (frame_end is_on_stack mask e) f) _
    (push_all_sound (12 + n) k m ds (frame_end is_on_stack mask e) f (omega arith) g)
    (λ xs l t. set k m xs l.writes _ 15 _ (set k m xs l.writes _ 13 _ (set k m xs l.writes l.r 12 list t))))

mask_holds : (at : ℕ) → Holds ClaimsNone [] (entry_mask at)
mask_holds at = λ mask. if_both (Holds ClaimsNone []) (eqb (mask / 2 ^ 12 % 4) 0) _ _ (λ t. refl) (λ t. tt)

general_sound : (m : ℕ) (o : Operands) (psw : ℕ) → length o.r ≡ m → Holds (Sound 18 m) [] (called_general o psw)
unfolding called_general
general_sound m o psw h =
    holds-bind ClaimsNone (Sound 18 m) [] (entry_mask (long_of o 1)) _ (mask_holds (long_of o 1))
    (λ ds mask e. entered_sound 0 18 m ds false (long_of o 1) mask (long_of o 0) (begun o psw) (omega arith) (none_stored 0 m ds o.r e h))

on_stack_sound : (m : ℕ) (o : Operands) (psw : ℕ) → length o.r ≡ m → Holds (Sound 18 m) [] (called_on_stack o psw)
unfolding called_on_stack
on_stack_sound m o psw h =
    holds-bind ClaimsNone (Sound 18 m) [] (entry_mask (long_of o 1)) _ (mask_holds (long_of o 1)) (λ ds mask none.
    holds-bind (Sound 1 m) (Sound 18 m) ds (push (long_of o 0) (begun o psw)) _ (push_sound 0 m ds (long_of o 0) (begun o psw) (none_stored 0 m ds o.r none h))
    (λ xs e s. entered_sound 1 18 m xs true (long_of o 1) mask (slice_index e.r 14) e (omega arith) s))

list_holds : (is_on_stack : Bool) (sp : ℕ) → Holds ClaimsNone [] (list_dropped is_on_stack sp)
list_holds true sp = λ count. refl
list_holds false sp = refl

frame_wide : (m mask : ℕ) (p : Place) → length p.r ≡ m → Holds (Pops m) [] (frame_popped mask p)
unfolding frame_popped
frame_wide m mask p h = pop_all_wide m (12 ∷ 13 ∷ 15 ∷ named_up 12 0 mask) p h

frame_left_sound : (m fp word : ℕ) (o : Operands) (psw : ℕ) → length o.r ≡ m → Holds (Sound 0 m) [] (frame_left fp word o psw)
frame_left_sound m fp word o psw h =
    holds-bind (Pops m) (Sound 0 m) [] (frame_popped (word / 2 ^ 16) (place (plus fp 8) o.r)) _
    (frame_wide m (word / 2 ^ 16) (place (plus fp 8) o.r) h) (λ ds p e.
    let dropped = list_dropped (is_set word 29) (plus p.at (word / 2 ^ 30)) in
    holds-bind ClaimsNone (Sound 0 m) ds dropped _ (at_none ClaimsNone ds dropped e.0 (list_holds (is_set word 29) (plus p.at (word / 2 ^ 30))))
    (λ xs sp none. none_stored 0 m xs _ none (set_wide m p.r 14 sp e.1)))

returned_sound : (m : ℕ) (o : Operands) (psw : ℕ) → length o.r ≡ m → Holds (Sound 0 m) [] (returned o psw)
unfolding returned
returned_sound m o psw h = λ handler word.
    if_both (Holds (Sound 0 m) []) (eqb (word / 2 ^ 8 % 2 ^ 8) 0) _ _ (λ t. frame_left_sound m (slice_index o.r 13) word o psw h) (λ t. tt)

at_most : (n m : ℕ) (cs : List ℕ) (script : Interaction Effect) → n ≤ 20 → Holds (Sound n m) cs script → Holds (Sound 20 m) cs script
at_most n m cs script h s = holds_then (Sound n m) (Sound 20 m) cs script s (λ ds e t. fewer n 20 m ds e.writes e.r h t)

quietly : (n m : ℕ) (cs : List ℕ) (script : Interaction Effect) → n ≤ 20 → cs ≡ [] → Holds (Sound n m) [] script → Holds (Sound 20 m) cs script
quietly n m cs script h e s = at_most n m cs script h (at_none (Sound n m) cs script e s)

performed_sound : (psl : ℕ) (fs : List Form) (m : ℕ) (cs : List ℕ) (operation : Operation) (o : Operands) → is_fit operation fs ≡ true → (are_few fs ≡ true → AreClaimed fs cs o) → length o.r ≡ m → Holds (Sound 20 m) cs (performed_with psl operation o)
unfolding performed is_fit
performed_sound psl fs m cs does.Other o f c h = tt
performed_sound psl fs m cs (does.Sensitive op) o f c h = tt
performed_sound psl fs m cs (does.Probe intent) o f c h = tt
performed_sound psl fs m cs does.Breakpoint o f c h = tt
performed_sound psl fs m cs does.Customer o f c h = tt
performed_sound psl fs m cs does.Nothing o f c h = none_stored 20 m cs o.r (none_claimed fs cs o c f) h
performed_sound psl fs m cs (does.Compute op w inputs target) o f c h = at_most 1 m cs (Done (computed op w inputs target o (psl % 2 ^ 8))) (omega arith) (computed_sound fs m cs op w inputs target o (psl % 2 ^ 8) f c h)
performed_sound psl fs m cs does.ClearQuad o f c h = at_most 1 m cs (Done (moved_quad 0 (dest_of o 0) o (psl % 2 ^ 8))) (omega arith) (quad_sound m cs 0 (dest_of o 0) o (psl % 2 ^ 8) (target_claimed fs cs o 0 Quad c f) h)
performed_sound psl fs m cs does.MoveQuad o f c h = at_most 1 m cs (Done (moved_quad (quad_of o 0) (dest_of o 1) o (psl % 2 ^ 8))) (omega arith) (quad_sound m cs (quad_of o 0) (dest_of o 1) o (psl % 2 ^ 8) (target_claimed fs cs o 1 Quad c f) h)
performed_sound psl fs m cs does.Push o f c h = quietly 1 m cs (operand_pushed o (psl % 2 ^ 8)) (omega arith) (none_claimed fs cs o c f) (pushed_sound m o (psl % 2 ^ 8) h)
performed_sound psl fs m cs does.SetStatus o f c h = quietly 0 m cs (status_set o (psl % 2 ^ 8)) (omega arith) (none_claimed fs cs o c f) (status_set_sound m o (psl % 2 ^ 8) h)
performed_sound psl fs m cs does.ClearStatus o f c h = quietly 0 m cs (status_cleared o (psl % 2 ^ 8)) (omega arith) (none_claimed fs cs o c f) (status_cleared_sound m o (psl % 2 ^ 8) h)
performed_sound psl fs m cs (does.Branch condition) o f c h = quietly 0 m cs (Done (branched condition o (psl % 2 ^ 8))) (omega arith) (none_claimed fs cs o c f) (branched_sound m condition o (psl % 2 ^ 8) h)
performed_sound psl fs m cs does.CallSubroutine o f c h = quietly 1 m cs (called_subroutine o (psl % 2 ^ 8)) (omega arith) (none_claimed fs cs o c f) (called_sound m o (psl % 2 ^ 8) h)
performed_sound psl fs m cs does.LeaveSubroutine o f c h = quietly 0 m cs (left_subroutine o (psl % 2 ^ 8)) (omega arith) (none_claimed fs cs o c f) (left_sound m o (psl % 2 ^ 8) h)
performed_sound psl fs m cs (does.AddAndCompare w) o f c h = at_most 1 m cs (Done (added_and_compared w o (psl % 2 ^ 8))) (omega arith) (acb_sound m cs w o (psl % 2 ^ 8) (target_claimed fs cs o 2 w c f) h)
performed_sound psl fs m cs (does.AddOne b) o f c h = at_most 1 m cs (Done (added_one b o (psl % 2 ^ 8))) (omega arith) (aob_sound m cs b o (psl % 2 ^ 8) (target_claimed fs cs o 1 Long c f) h)
performed_sound psl fs m cs (does.SubtractOne b) o f c h = at_most 1 m cs (Done (subtracted_one b o (psl % 2 ^ 8))) (omega arith) (sob_sound m cs b o (psl % 2 ^ 8) (target_claimed fs cs o 0 Long c f) h)
performed_sound psl fs m cs (does.BranchOnLowBit on) o f c h = quietly 0 m cs (Done (branched_on_low_bit on o (psl % 2 ^ 8))) (omega arith) (none_claimed fs cs o c f) (low_bit_sound m on o (psl % 2 ^ 8) h)
performed_sound psl fs m cs (does.BranchOnBit on becomes) o f c h = quietly 1 m cs (branched_on_bit on becomes o (psl % 2 ^ 8)) (omega arith) (none_claimed fs cs o c f) (bit_sound m on becomes o (psl % 2 ^ 8) h)
performed_sound psl fs m cs (does.Case w) o f c h = quietly 0 m cs (cased w o (psl % 2 ^ 8)) (omega arith) (none_claimed fs cs o c f) (cased_sound m w o (psl % 2 ^ 8) h)
performed_sound psl fs m cs does.PushRegisters o f c h = quietly 15 m cs (registers_pushed o (psl % 2 ^ 8)) (omega arith) (none_claimed fs cs o c f) (registers_pushed_sound m o (psl % 2 ^ 8) h)
performed_sound psl fs m cs does.PopRegisters o f c h = quietly 0 m cs (registers_popped o (psl % 2 ^ 8)) (omega arith) (none_claimed fs cs o c f) (registers_popped_sound m o (psl % 2 ^ 8) h)
performed_sound psl fs m cs does.CallGeneral o f c h = quietly 18 m cs (called_general o (psl % 2 ^ 8)) (omega arith) (none_claimed fs cs o c f) (general_sound m o (psl % 2 ^ 8) h)
performed_sound psl fs m cs does.CallOnStack o f c h = quietly 18 m cs (called_on_stack o (psl % 2 ^ 8)) (omega arith) (none_claimed fs cs o c f) (on_stack_sound m o (psl % 2 ^ 8) h)
performed_sound psl fs m cs does.Return o f c h = quietly 0 m cs (returned o (psl % 2 ^ 8)) (omega arith) (none_claimed fs cs o c f) (returned_sound m o (psl % 2 ^ 8) h)
performed_sound psl fs m cs does.MoveStatus o f c h = at_most 1 m cs (Done (put (dest_of o 0) Long psl (begun o (psl % 2 ^ 8)))) (omega arith) (put_sound m cs (dest_of o 0) Long psl (begun o (psl % 2 ^ 8)) (target_claimed fs cs o 0 Long c f) (none_stored 0 m [] o.r refl h))

holds_both : {A : Type 0} (P Q : List ℕ → A → Type 0) (cs : List ℕ) (script : Interaction A) → Holds P cs script → Holds Q cs script → Holds (λ ds a. P ds a × Q ds a) cs script
holds_both P Q cs (Done a) h g = (h, g)
holds_both P Q cs (Refuse t) h g = tt
holds_both P Q cs (Touch i a k f) h g = λ v. holds_both P Q (cs ++ if_write i (addresses k a)) (f v) (h v) (g v)

-- at each end of a plan, whatever the space answered
pub plans_sound : (psl : ℕ) (d : Instruction) (r : List ℕ) → Holds (Sound 20 (length r)) [] (plan_of psl d r)
unfolding plan_of
plans_sound psl d r =
    let fs = forms_in (row_of d.opcode) in
    let P : List ℕ → Operands → Type 0 = λ cs o. are_few fs ≡ true → AreClaimed fs cs o in
    let Q = OperandsAreWide (length r) in
    holds-bind (λ cs o. P cs o × Q cs o) (Sound 20 (length r)) [] (operands_of d r) _ (holds_both P Q [] (operands_of d r) (operands_claimed d r) (operands_wide d r []))
    (λ cs o h. performed_sound psl fs (length r) cs (operation_of d.opcode) o (operations_fit d.opcode) h.0 h.1)

-- and so of each outcome
pub outcome_sound : (psl : ℕ) (d : Instruction) (r : List ℕ) (s : Space) (e : Effect) → outcome s (plan_of psl d r) ≡ Ok e → Sound 20 (length r) (claims s (plan_of psl d r)) e
outcome_sound psl d r s e h = holds_made (Sound 20 (length r)) s [] (plan_of psl d r) e (plans_sound psl d r) h

no_yes : false ≡ true → ⊥
no_yes e = cc

-- an operation of those that depend on nothing else is performed alone
pub performed_alone : (psl : ℕ) (operation : Operation) (o : Operands) → is_planned operation ≡ true → performed_with psl operation o ≡ performed operation o (psl % 2 ^ 8)
performed_alone psl does.MoveStatus o e = absurd (no_yes e)
performed_alone psl operation o e = refl

pub same_after : {A B : Type 0} (m : Interaction A) (f g : A → Interaction B) → ((a : A) → f a ≡ g a) → m >>= f ≡ m >>= g
same_after {A = A} {B = B} m f g h = ap (λ (k : A → Interaction B). m >>= k) (fun_ext h)

pub plans_planned : (psl : ℕ) (d : Instruction) (r : List ℕ) → is_planned (operation_of d.opcode) ≡ true → plan_of psl d r ≡ planned d r (psl % 2 ^ 8)
unfolding plan_of planned
plans_planned psl d r e = same_after (operands_of d r) _ _ (λ o. performed_alone psl (operation_of d.opcode) o e)
