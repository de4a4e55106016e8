-- Operands that touch memory give what is had there.
use Rattle.std.proofs.Common.{◌≡◌, ◌≢◌, ℕ, zero, suc, ◌+◌, ◌-◌, ◌<◌, Bool, true, false, List, [], ◌∷◌, length, drop, take, Option, Some, None, Result, Ok, Err, refl, ap, ◌∙◌, sym, subst, arith, bit_and, get_or, get_or-set_other, slice_index, slice_index_or, slice_set}
use Rattle.std.specs.Prelude.{◌==◌, if◌then◌else◌, IfSome}
use Rattle.std.proofs.Math.ListN.{length-set}
use Rattle.vv_base.specs.declared.width.Width.{Width}
use Rattle.vv_base.specs.Width.{size_of}
use Rattle.vax_arch.specs.declared.mode.Intent.TheVariants as intents
use Rattle.vax_table.specs.declared.act.Dest.TheVariants.{Nowhere, Memory}
use Rattle.vax_table.specs.declared.decoded.Spec.{Spec}
use Rattle.vax_table.specs.declared.evaluation.Evaluated.{Evaluated}
use Rattle.vax_table.specs.declared.evaluation.Operands.{Operands}
use Rattle.vax_table.specs.declared.evaluation.Place.{Place}
use Rattle.vax_table.specs.Interaction.{Done, Interaction, Space, Touch, Trouble, by_result, number_at, outcome, ◌>>=◌}
use Rattle.vax_table.specs.Operand.{evaluated, plus}
use Rattle.vax_table.specs.AllOperands.{no_operands, operand_of, past_own_bytes, with_operand}
use Rattle.vax_table.proofs.Scripts.{outcome-bind}
use Rattle.vax_operand.specs.declared.kind.Base.{Base}
use Rattle.vax_operand.specs.declared.kind.Kind.{Kind}
use Rattle.vax_operand.specs.declared.kind.Kind.TheVariants.{Constant, ReadRegister, ModifyRegister, WriteRegister, BitsRegister, Branch, Read, Modify, Write, Address, Bits}
use Rattle.vax_operand.specs.declared.prepared.Operand.{Operand}
use Rattle.vax_operand.specs.Prepared.{operand_by}
use Rattle.vax_operand.proofs.Preparing.{prepared_same}
use Rattle.vax_operand.proofs.Steps.{left_from}
use Rattle.vax_normal.specs.AtHand.{IsMoved, dest_at_hand, is_at_hand, value_at_hand}
use Rattle.vax_normal.specs.InMemory.{HasClaimed, reach_address, reach_stepped}
use Rattle.vax_normal.specs.Normal.{number_by}
use Rattle.vax_normal.specs.Touched.{AreTouched, IsClaimedAt, IsReachOf, all_had, base_left, dest_had, from_had, left_by, operand_had, value_had}
use Rattle.vax_normal.specs.declared.shape.Reach.{Reach}
use Rattle.vax_normal.specs.declared.shape.Number.{Number}
use Rattle.vax_normal.specs.declared.touches.Touches.{Touches}
use Rattle.vax_normal.proofs.Doing.{set_apart}
use Rattle.vax_normal.proofs.Taking.{moved_on, operand_taken, pc_alone, set_at, taken_operand}

pub found_on : {A B : Type 0} (s : Space) (m : Interaction A) (f : A → Interaction B) (x : A) (y : B) → outcome s m ≡ Ok x → outcome s (f x) ≡ Ok y → outcome s (m >>= f) ≡ Ok y
found_on s m f x y first next = outcome-bind s m f ∙ ap (λ (z : Result _ Trouble). by_result z (λ v. outcome s (f v)) Err) first ∙ next

pub touched_none : AreTouched (record { reads = None; writes = None }) []
touched_none s i v u at r o moved a b c = (refl, moved)

-- ---- an operand that is had at once

pub kind_had : (k : Kind) (w : Width) (s : Spec) (v u at : ℕ) (q : List ℕ) → is_at_hand k ≡ true → evaluated (value_had v u k w s q) (dest_had at k s.reg) (left_by k w s q) ≡ evaluated (value_at_hand k w s q) (dest_at_hand k s.reg) q
kind_had Constant w s v u at q h = refl
kind_had ReadRegister w s v u at q h = refl
kind_had ModifyRegister w s v u at q h = refl
kind_had WriteRegister w s v u at q h = refl
kind_had BitsRegister w s v u at q h = refl
kind_had (Branch d) w s v u at q h = refl
kind_had (Read b) w s v u at q h = cc
kind_had (Modify b) w s v u at q h = cc
kind_had (Write b) w s v u at q h = cc
kind_had (Address b) w s v u at q h = refl
kind_had (Bits b) w s v u at q h = cc

pub touched_hand : (t : Touches) (x : Operand) (xs : List Operand) → is_at_hand x.kind ≡ true → AreTouched t xs → AreTouched t (x ∷ xs)
touched_hand t x xs h rest s i v u at r o moved a b c =
    let e : Evaluated = taken_operand x o.r in
    let same : operand_had v u at x o.r ≡ e = kind_had x.kind x.form.width x.spec v u at (past_own_bytes x.length o.r) h in
    let first : outcome s (operand_of x.form x.spec o.r) ≡ Ok (operand_had v u at x o.r) = ap (outcome s) (operand_taken x o.r h) ∙ ap (λ (z : Evaluated). Ok z) (sym same) in
    let after : IsMoved r (operand_had v u at x o.r).r = subst (λ (z : Evaluated). IsMoved r z.r) (sym same) (moved_on r o.r x.length moved) in
    let next = rest s (i + 1) v u at r (with_operand i o (operand_had v u at x o.r)) after a b c in
    (found_on s (operand_of x.form x.spec o.r) (λ z. left_from (i + 1) xs (with_operand i o z)) (operand_had v u at x o.r) _ first next.0, next.1)

-- ---- references

address_same : (p : Reach) (r q : List ℕ) → slice_index q p.register ≡ slice_index r p.register → reach_address p q ≡ reach_address p r
address_same p r q same = ap (λ (x : ℕ). if p.offset == 0 then x else plus x p.offset) same

pub moved_same : (r q : List ℕ) (n : ℕ) → n < 15 → IsMoved r q → slice_index q n ≡ slice_index r n
moved_same r q n low (w, e) = ap (λ (xs : List ℕ). slice_index xs n) e ∙ pc_alone r w n low

step_if : (b : Bool) (r q : List ℕ) (n k : ℕ) → n < 15 → IsMoved r q → IsMoved (if b then r else slice_set r n (plus (slice_index r n) k)) (if b then q else slice_set q n (plus (slice_index q n) k))
step_if true r q n k low moved = moved
step_if false r q n k low (w, e) =
    let same : slice_index q n ≡ slice_index r n = moved_same r q n low (w, e) in
    let apart : 15 ≢ n = λ g. omega (arith, g) in
    (w, ap (λ (xs : List ℕ). slice_set xs n (plus (slice_index q n) k)) e ∙ set_apart r 15 n w (plus (slice_index q n) k) apart ∙ ap (λ (x : ℕ). slice_set (slice_set r n (plus x k)) 15 w) same)

step_moved : (p : Reach) (r q : List ℕ) → IsMoved r q → IsMoved (reach_stepped p r) (reach_stepped p q)
step_moved p r q moved = step_if (p.step == 0) r q p.register p.step p.there moved

-- a reference that a step leaves as it is
abbrev pub IsLeft : Reach → Option Reach → Type 0
IsLeft p q = IfSome q (λ z. (r : List ℕ) → slice_index (reach_stepped p r) z.register ≡ slice_index r z.register)

claimed_on : (s : Space) (p : Reach) (q : Option Reach) (r : List ℕ) (u : ℕ) → IsLeft p q → HasClaimed s q r u → HasClaimed s q (reach_stepped p r) u
claimed_on s p None r u apart h = tt
claimed_on s p (Some z) r u apart h = ap (λ (a : ℕ). number_at s intents.Write (size_of z.width) a) (address_same z r (reach_stepped p r) (apart r)) ∙ h

claimed_at_on : (p : Reach) (q : Option Reach) (r : List ℕ) (at : ℕ) → IsLeft p q → IsClaimedAt q r at → IsClaimedAt q (reach_stepped p r) at
claimed_at_on p None r at apart h = tt
claimed_at_on p (Some z) r at apart h = h ∙ sym (address_same z r (reach_stepped p r) (apart r))

by_read : (s : Space) (p : Reach) (b : Base) (w : Width) (sp : Spec) (q : List ℕ) (v : ℕ) → IsReachOf p b w sp → number_at s intents.Read (size_of w) (reach_address p q) ≡ Ok v →
    outcome s (operand_by (Read b) w sp q) ≡ Ok (evaluated v Nowhere (base_left b (size_of w) sp.reg q))
unfolding operand_by
by_read s p b w sp q v reach had =
    let parts = reach.1 q in
    ap (λ (m : Interaction Place). outcome s (m >>= λ z. Touch intents.Read z.at (size_of w) (λ n. Done (evaluated n Nowhere z.r)))) parts.0
    ∙ ap (λ (z : Result ℕ Trouble). by_result z (λ n. Ok (evaluated n Nowhere (reach_stepped p q))) Err) had ∙ ap (λ (xs : List ℕ). Ok (evaluated v Nowhere xs)) (sym parts.1)

by_modify : (s : Space) (p : Reach) (b : Base) (w : Width) (sp : Spec) (q : List ℕ) (u : ℕ) → IsReachOf p b w sp → number_at s intents.Write (size_of w) (reach_address p q) ≡ Ok u →
    outcome s (operand_by (Modify b) w sp q) ≡ Ok (evaluated u (Memory (reach_address p q)) (base_left b (size_of w) sp.reg q))
unfolding operand_by
by_modify s p b w sp q u reach had =
    let parts = reach.1 q in
    ap (λ (m : Interaction Place). outcome s (m >>= λ z. Touch intents.Write z.at (size_of w) (λ n. Done (evaluated n (Memory z.at) z.r)))) parts.0
    ∙ ap (λ (z : Result ℕ Trouble). by_result z (λ n. Ok (evaluated n (Memory (reach_address p q)) (reach_stepped p q))) Err) had ∙ ap (λ (xs : List ℕ). Ok (evaluated u (Memory (reach_address p q)) xs)) (sym parts.1)

by_write : (s : Space) (p : Reach) (b : Base) (w : Width) (sp : Spec) (q : List ℕ) (u : ℕ) → IsReachOf p b w sp → number_at s intents.Write (size_of w) (reach_address p q) ≡ Ok u →
    outcome s (operand_by (Write b) w sp q) ≡ Ok (evaluated 0 (Memory (reach_address p q)) (base_left b (size_of w) sp.reg q))
unfolding operand_by
by_write s p b w sp q u reach had =
    let parts = reach.1 q in
    ap (λ (m : Interaction Place). outcome s (m >>= λ z. Touch intents.Write z.at (size_of w) (λ n. Done (evaluated 0 (Memory z.at) z.r)))) parts.0
    ∙ ap (λ (z : Result ℕ Trouble). by_result z (λ n. Ok (evaluated 0 (Memory (reach_address p q)) (reach_stepped p q))) Err) had ∙ ap (λ (xs : List ℕ). Ok (evaluated 0 (Memory (reach_address p q)) xs)) (sym parts.1)

-- an operand by its kind, with what is had of it
kind_gives : (s : Space) (x : Operand) (k : Kind) (v u at : ℕ) (r : List ℕ) → x.kind ≡ k →
    (let q = past_own_bytes x.length r in outcome s (operand_by k x.form.width x.spec q) ≡ Ok (evaluated (value_had v u k x.form.width x.spec q) (dest_had at k x.spec.reg) (left_by k x.form.width x.spec q))) →
    outcome s (operand_of x.form x.spec r) ≡ Ok (operand_had v u at x r)
kind_gives s x k v u at r is gives =
    let q = past_own_bytes x.length r in
    ap (outcome s) (sym (prepared_same x.form x.spec x.kind x.length r x.prepared x.bytes))
    ∙ subst (λ (z : Kind). outcome s (operand_by z x.form.width x.spec q) ≡ Ok (evaluated (value_had v u z x.form.width x.spec q) (dest_had at z x.spec.reg) (left_by z x.form.width x.spec q))) (sym is) gives

-- where it leaves the registers
kind_leaves : (p : Reach) (b : Base) (x : Operand) (k : Kind) (v u at : ℕ) (r q : List ℕ) → x.kind ≡ k → IsReachOf p b x.form.width x.spec → ((w : Width) (sp : Spec) (ys : List ℕ) → left_by k w sp ys ≡ base_left b (size_of w) sp.reg ys) →
    IsMoved r q → IsMoved (reach_stepped p r) (operand_had v u at x q).r
kind_leaves p b x k v u at r q is reach by moved =
    let here = past_own_bytes x.length q in
    let left : left_by x.kind x.form.width x.spec here ≡ reach_stepped p here =
    ap (λ (z : Kind). left_by z x.form.width x.spec here) is ∙ by x.form.width x.spec here ∙ (reach.1 here).1 in
    subst (IsMoved (reach_stepped p r)) (sym left) (step_moved p r here (moved_on r q x.length moved))

-- its number at the place of its own
number_here : (s : Space) (p : Reach) (b : Base) (x : Operand) (i : _) (r q : List ℕ) (v : ℕ) → IsReachOf p b x.form.width x.spec → IsMoved r q → number_at s i (size_of p.width) (reach_address p r) ≡ Ok v →
    number_at s i (size_of x.form.width) (reach_address p (past_own_bytes x.length q)) ≡ Ok v
number_here s p b x i r q v reach moved had =
    let here = past_own_bytes x.length q in
    let same : reach_address p here ≡ reach_address p r = address_same p r here (moved_same r here p.register p.there (moved_on r q x.length moved)) in
    ap (λ (a : ℕ). number_at s i (size_of x.form.width) a) same ∙ ap (λ (w : Width). number_at s i (size_of w) (reach_address p r)) (sym reach.0) ∙ had

pub touched_read : (p : Reach) (q : Option Reach) (b : Base) (x : Operand) (xs : List Operand) → x.kind ≡ Read b → IsReachOf p b x.form.width x.spec → IsLeft p q →
    AreTouched (record { reads = None; writes = q }) xs → AreTouched (record { reads = Some p; writes = q }) (x ∷ xs)
touched_read p q b x xs is reach apart rest s i v u at r o moved a h c =
    let e = operand_had v u at x o.r in
    let here = past_own_bytes x.length o.r in
    let first : outcome s (operand_of x.form x.spec o.r) ≡ Ok e = kind_gives s x (Read b) v u at o.r is (by_read s p b x.form.width x.spec here v reach (number_here s p b x intents.Read r o.r v reach moved a)) in
    let after : IsMoved (reach_stepped p r) e.r = kind_leaves p b x (Read b) v u at r o.r is reach (λ w sp ys. refl) moved in
    let next = rest s (i + 1) v u at (reach_stepped p r) (with_operand i o e) after tt (claimed_on s p q r u apart h) (claimed_at_on p q r at apart c) in
    (found_on s (operand_of x.form x.spec o.r) (λ z. left_from (i + 1) xs (with_operand i o z)) e _ first next.0, next.1)

-- the address that is claimed, at its place
here_at : (p : Reach) (x : Operand) (r q : List ℕ) (at : ℕ) → IsMoved r q → at ≡ reach_address p r → at ≡ reach_address p (past_own_bytes x.length q)
here_at p x r q at moved c = c ∙ sym (address_same p r (past_own_bytes x.length q) (moved_same r (past_own_bytes x.length q) p.register p.there (moved_on r q x.length moved)))

pub touched_modified : (p : Reach) (b : Base) (x : Operand) (xs : List Operand) → x.kind ≡ Modify b → IsReachOf p b x.form.width x.spec →
    AreTouched (record { reads = None; writes = None }) xs → AreTouched (record { reads = None; writes = Some p }) (x ∷ xs)
touched_modified p b x xs is reach rest s i v u at r o moved a h c =
    let e = operand_had v u at x o.r in
    let here = past_own_bytes x.length o.r in
    let gives = by_modify s p b x.form.width x.spec here u reach (number_here s p b x intents.Write r o.r u reach moved h) ∙ ap (λ (z : ℕ). Ok (evaluated u (Memory z) (base_left b (size_of x.form.width) x.spec.reg here))) (sym (here_at p x r o.r at moved c)) in
    let first : outcome s (operand_of x.form x.spec o.r) ≡ Ok e = kind_gives s x (Modify b) v u at o.r is gives in
    let after : IsMoved (reach_stepped p r) e.r = kind_leaves p b x (Modify b) v u at r o.r is reach (λ w sp ys. refl) moved in
    let next = rest s (i + 1) v u at (reach_stepped p r) (with_operand i o e) after tt tt tt in
    (found_on s (operand_of x.form x.spec o.r) (λ z. left_from (i + 1) xs (with_operand i o z)) e _ first next.0, next.1)

pub touched_written : (p : Reach) (b : Base) (x : Operand) (xs : List Operand) → x.kind ≡ Write b → IsReachOf p b x.form.width x.spec →
    AreTouched (record { reads = None; writes = None }) xs → AreTouched (record { reads = None; writes = Some p }) (x ∷ xs)
touched_written p b x xs is reach rest s i v u at r o moved a h c =
    let e = operand_had v u at x o.r in
    let here = past_own_bytes x.length o.r in
    let gives = by_write s p b x.form.width x.spec here u reach (number_here s p b x intents.Write r o.r u reach moved h) ∙ ap (λ (z : ℕ). Ok (evaluated 0 (Memory z) (base_left b (size_of x.form.width) x.spec.reg here))) (sym (here_at p x r o.r at moved c)) in
    let first : outcome s (operand_of x.form x.spec o.r) ≡ Ok e = kind_gives s x (Write b) v u at o.r is gives in
    let after : IsMoved (reach_stepped p r) e.r = kind_leaves p b x (Write b) v u at r o.r is reach (λ w sp ys. refl) moved in
    let next = rest s (i + 1) v u at (reach_stepped p r) (with_operand i o e) after tt tt tt in
    (found_on s (operand_of x.form x.spec o.r) (λ z. left_from (i + 1) xs (with_operand i o z)) e _ first next.0, next.1)

-- operands after the first
abbrev pub after_first : List Operand → List Operand
after_first xs = take (length xs - 1) (drop 1 xs)

take_all : (xs : List Operand) → take (length xs) xs ≡ xs
take_all [] = refl
take_all (x ∷ xs) = ap (λ (ys : List Operand). x ∷ ys) (take_all xs)

pub rest_of : (xs : List Operand) (x : Operand) → 0 < length xs → x ≡ get_or xs 0 x → xs ≡ x ∷ after_first xs
rest_of [] x some is = absurd (omega arith)
rest_of (y ∷ ys) x some is =
    let count : length (y ∷ ys) - 1 ≡ length ys = omega arith in
    ap (λ (z : Operand). z ∷ ys) (sym is) ∙ ap (λ (zs : List Operand). x ∷ zs) (sym (ap (λ (n : ℕ). take n ys) count ∙ take_all ys))

pub some_touched : (o : Option Touches) (t : Touches) (x : Operand) (ys xs : List Operand) → xs ≡ x ∷ ys → AreTouched t ys → IfSome o (λ z. (zs : List Operand) → AreTouched t zs → AreTouched z (x ∷ zs)) → IfSome o (λ z. AreTouched z xs)
some_touched None t x ys xs is rest h = tt
some_touched (Some z) t x ys xs is rest h = subst (AreTouched z) (sym is) (h ys rest)

pub none_touched : (t : Touches) (xs : List Operand) → t.reads ≡ None → t.writes ≡ None → AreTouched t xs → AreTouched (record { reads = None; writes = None }) xs
none_touched t xs e f h = subst (λ (z : Option Reach). AreTouched (record { reads = z; writes = None }) xs) e (subst (λ (z : Option Reach). AreTouched (record { reads = t.reads; writes = z }) xs) f h)

-- ---- the operand of a number

-- a number stays over each of some operands
abbrev pub StaysOver : Number → List Operand → Type 0
StaysOver n [] = Unit {0}
StaysOver n (x ∷ xs) = ((r : List ℕ) → number_by n (left_by x.kind x.form.width x.spec r) ≡ number_by n r) × StaysOver n xs

pub had_values_kept : (v u at k i : ℕ) (xs : List Operand) (o : Operands) → k < i → slice_index (from_had v u at i xs o).values k ≡ slice_index o.values k
had_values_kept v u at k i [] o low = refl
had_values_kept v u at k i (x ∷ xs) o low =
    had_values_kept v u at k (i + 1) xs (with_operand i o (operand_had v u at x o.r)) (omega arith) ∙ get_or-set_other o.values i k (operand_had v u at x o.r).value 0 (omega arith)

had_dests_kept : (v u at k i : ℕ) (xs : List Operand) (o : Operands) → k < i → slice_index_or (from_had v u at i xs o).dests k Nowhere ≡ slice_index_or o.dests k Nowhere
had_dests_kept v u at k i [] o low = refl
had_dests_kept v u at k i (x ∷ xs) o low =
    had_dests_kept v u at k (i + 1) xs (with_operand i o (operand_had v u at x o.r)) (omega arith) ∙ get_or-set_other o.dests i k (operand_had v u at x o.r).dest Nowhere (omega arith)

pub number_moved : (n : Number) (r q : List ℕ) → n.register < 15 → IsMoved r q → number_by n q ≡ number_by n r
number_moved n r q low moved = ap (λ (x : ℕ). plus (bit_and x n.mask) n.offset) (moved_same r q n.register low moved)

-- a value that an operand has where a number is still the same
abbrev pub HasHad : Number → List ℕ → (read claimed : ℕ) → Operand → ℕ → Type 0
HasHad n r v u x y = (q : List ℕ) × (number_by n q ≡ number_by n r) × (y ≡ value_had v u x.kind x.form.width x.spec q)

past_same : (n : Number) (k : ℕ) (q : List ℕ) → n.register < 15 → number_by n (past_own_bytes k q) ≡ number_by n q
past_same n k q low = number_moved n q (past_own_bytes k q) low (_, refl)

from_had_value : (n : Number) (r : List ℕ) (v u at i j k : ℕ) (xs : List Operand) (o : Operands) (x : Operand) → n.register < 15 → number_by n o.r ≡ number_by n r → StaysOver n xs → i < length xs → x ≡ get_or xs i x → k ≡ j + i → k < length o.values →
    HasHad n r v u x (slice_index (from_had v u at j xs o).values k)
from_had_value n r v u at i j k [] o x low same stays there is e room = absurd (omega arith)
from_had_value n r v u at zero j k (y ∷ ys) o x low same stays there is e room =
    let z = operand_had v u at y o.r in
    let here = past_own_bytes y.length o.r in
    let kept : slice_index (from_had v u at (j + 1) ys (with_operand j o z)).values k ≡ slice_index (slice_set o.values j z.value) k = had_values_kept v u at k (j + 1) ys (with_operand j o z) (omega (arith, e)) in
    let put : slice_index (slice_set o.values j z.value) k ≡ z.value = set_at o.values j k z.value 0 (omega (arith, e)) room in
    (here, past_same n y.length o.r low ∙ same, kept ∙ put ∙ ap (λ (w : Operand). value_had v u w.kind w.form.width w.spec here) (sym is))
from_had_value n r v u at (suc i) j k (y ∷ ys) o x low same stays there is e room =
    let z = operand_had v u at y o.r in
    from_had_value n r v u at i (j + 1) k ys (with_operand j o z) x low (stays.0 (past_own_bytes y.length o.r) ∙ past_same n y.length o.r low ∙ same) stays.1 (omega arith) is (omega (arith, e)) (omega (arith, room, length-set o.values j z.value))

pub had_value : (n : Number) (r q : List ℕ) (v u at i : ℕ) (xs : List Operand) (x : Operand) → n.register < 15 → IsMoved r q → StaysOver n xs → i < length xs → i < 4 → x ≡ get_or xs i x → HasHad n r v u x (slice_index (all_had v u at xs q).values i)
had_value n r q v u at i xs x named moved stays low few is = from_had_value n r v u at i 0 i xs (no_operands q) x named (number_moved n r q named moved) stays low is (omega arith) few

from_had_dest : (v u at i j k : ℕ) (xs : List Operand) (o : Operands) (x : Operand) → i < length xs → x ≡ get_or xs i x → k ≡ j + i → k < length o.dests →
    slice_index_or (from_had v u at j xs o).dests k Nowhere ≡ dest_had at x.kind x.spec.reg
from_had_dest v u at i j k [] o x low is e room = absurd (omega arith)
from_had_dest v u at zero j k (y ∷ ys) o x low is e room =
    let z = operand_had v u at y o.r in
    had_dests_kept v u at k (j + 1) ys (with_operand j o z) (omega (arith, e)) ∙ set_at o.dests j k z.dest Nowhere (omega (arith, e)) room ∙ ap (λ (w : Operand). dest_had at w.kind w.spec.reg) (sym is)
from_had_dest v u at (suc i) j k (y ∷ ys) o x low is e room =
    from_had_dest v u at i (j + 1) k ys (with_operand j o (operand_had v u at y o.r)) x (omega arith) is (omega (arith, e)) (omega (arith, room, length-set o.dests j (operand_had v u at y o.r).dest))

pub had_dest : (q : List ℕ) (v u at i : ℕ) (xs : List Operand) (x : Operand) → i < length xs → i < 4 → x ≡ get_or xs i x → slice_index_or (all_had v u at xs q).dests i Nowhere ≡ dest_had at x.kind x.spec.reg
had_dest q v u at i xs x low few is = from_had_dest v u at i 0 i xs (no_operands q) x low is (omega arith) few
