-- An address by PC, from the instruction's own: an operand sees PC after its own bytes, and before those of the rest.
use Rattle.std.proofs.Common.{◌≡◌, ℕ, ◌+◌, ◌-◌, ◌%◌, ◌^◌, ◌<◌, true, bit_and, List, [], ◌∷◌, length, Option, Some, None, IfSome, refl, ap, ◌∙◌, sym, subst, arith, get_or-set_same, slice_index}
use Rattle.std.proofs.Math.ListN.{length-set}
use Rattle.std.proofs.lemmas.Nat.{and_mask}
use Rattle.vv_base.specs.declared.width.Width.{Width}
use Rattle.vv_base.specs.Width.{size_of}
use Rattle.vax_table.specs.Effects.{long_of}
use Rattle.vax_table.specs.Operand.{plus}
use Rattle.vax_table.specs.AllOperands.{no_operands, past_own_bytes, with_operand}
use Rattle.vax_table.specs.declared.decoded.Spec.{Spec}
use Rattle.vax_table.specs.declared.evaluation.Evaluated.{Evaluated}
use Rattle.vax_table.specs.declared.evaluation.Operands.{Operands}
use Rattle.vax_operand.specs.declared.kind.Base.{Base}
use Rattle.vax_operand.specs.declared.kind.Base.TheVariants.{Deferred, Decrement, Increment, IncrementDeferred, Absolute, Displaced, DisplacedDeferred}
use Rattle.vax_operand.specs.declared.kind.Kind.{Kind}
use Rattle.vax_operand.specs.declared.kind.Kind.TheVariants.{Constant, ReadRegister, ModifyRegister, WriteRegister, BitsRegister, Branch, Read, Modify, Write, Address, Bits}
use Rattle.vax_operand.specs.declared.prepared.Operand.{Operand}
use Rattle.vax_normal.specs.AtHand.{AreAlikeButPc, AreBefore, all_at_hand, from_at_hand, is_at_hand, operands_length, value_at_hand}
use Rattle.vax_normal.specs.InMemory.{stepped_by}
use Rattle.vax_normal.specs.Normal.{number_by}
use Rattle.vax_normal.specs.Touched.{AreBeforeTouches, all_had, base_left, from_had, is_kept_over_all, left_by, operand_had, value_had}
use Rattle.vax_normal.specs.declared.shape.Number.{Number}
use Rattle.vax_normal.specs.declared.touches.Touches.{Touches}
use Rattle.vax_normal.proofs.Sources.{stays_over}
use Rattle.vax_normal.proofs.Storing.{pc_stepped}
use Rattle.vax_normal.proofs.Taking.{alike_on, taken_operand, values_kept}
use Rattle.vax_normal.proofs.Touching.{StaysOver, had_values_kept, kind_had}

-- ---- operands at hand

room_kept : (i : ℕ) (xs : List Operand) (o : Operands) → length (from_at_hand i xs o).r ≡ length o.r
room_kept i [] o = refl
room_kept i (x ∷ xs) o = room_kept (i + 1) xs (with_operand i o (taken_operand x o.r)) ∙ length-set o.r 15 (plus (slice_index o.r 15) x.length)

pc_after : (i : ℕ) (xs : List Operand) (o : Operands) → 15 < length o.r → slice_index (from_at_hand i xs o).r 15 % 2 ^ 32 ≡ plus (slice_index o.r 15) (operands_length xs)
pc_after i [] o room = omega arith
pc_after i (x ∷ xs) o room =
    let pc : ℕ = plus (slice_index o.r 15) x.length in
    let at : slice_index (past_own_bytes x.length o.r) 15 ≡ pc = get_or-set_same o.r 15 pc 0 room in
    let there : 15 < length (past_own_bytes x.length o.r) = omega (arith, room, length-set o.r 15 pc) in
    let rest = pc_after (i + 1) xs (with_operand i o (taken_operand x o.r)) there in
    omega (arith, at, rest)

pc_here : (x : Operand) (ys : List Operand) (k : ℕ) (r q : List ℕ) → AreBefore k (x ∷ ys) r q → plus (slice_index (past_own_bytes x.length q) 15) (operands_length ys) ≡ plus (slice_index r 15) k
pc_here x ys k r q before =
    let o : Operands = all_at_hand (x ∷ ys) q in
    let whole : length o.r ≡ length r = ap (λ (zs : List ℕ). length zs) before.2 ∙ length-set r 15 (plus (slice_index r 15) k) in
    let room : 15 < length q = omega (arith, before.0, whole, room_kept 0 (x ∷ ys) (no_operands q)) in
    let there : 15 < length (past_own_bytes x.length q) = omega (arith, room, length-set q 15 (plus (slice_index q 15) x.length)) in
    let after = pc_after 1 ys (with_operand 0 (no_operands q) (taken_operand x q)) there in
    let end : slice_index o.r 15 ≡ plus (slice_index r 15) k = ap (λ (zs : List ℕ). slice_index zs 15) before.2 ∙ get_or-set_same r 15 (plus (slice_index r 15) k) 0 before.0 in
    omega (arith, after, end)

-- the first operand's value is that after its own bytes
first_value : (x : Operand) (ys : List Operand) (q : List ℕ) → long_of (all_at_hand (x ∷ ys) q) 0 ≡ value_at_hand x.kind x.form.width x.spec (past_own_bytes x.length q) % 2 ^ 32
first_value x ys q = ap (λ (m : ℕ). m % 2 ^ 32) (values_kept 0 1 ys (with_operand 0 (no_operands q) (taken_operand x q)) (omega arith))

-- the first operand is a number by the registers before its instruction
abbrev pub IsFirst : Number → ℕ → List Operand → Type 0
IsFirst n k xs = (r q : List ℕ) → AreBefore k xs r q → long_of (all_at_hand xs q) 0 ≡ number_by n r

pub first_at_hand : (n : Number) (x : Operand) (ys xs : List Operand) (k : ℕ) → xs ≡ x ∷ ys →
    ((r q : List ℕ) → AreAlikeButPc r q → value_at_hand x.kind x.form.width x.spec q % 2 ^ 32 ≡ number_by n r) → IsFirst n k xs
first_at_hand n x ys xs k is h = subst (IsFirst n k) (sym is) (λ r q before. first_value x ys q ∙ h r (past_own_bytes x.length q) (alike_on r q x.length before.1))

pub first_relative : (o : Option Number) (x : Operand) (ys xs : List Operand) (k : ℕ) → xs ≡ x ∷ ys →
    IfSome o (λ n. (r q : List ℕ) → plus (slice_index q 15) (operands_length ys) ≡ plus (slice_index r 15) k → value_at_hand x.kind x.form.width x.spec q % 2 ^ 32 ≡ number_by n r) → IfSome o (λ n. IsFirst n k xs)
first_relative None x ys xs k is h = tt
first_relative (Some n) x ys xs k is h = subst (IsFirst n k) (sym is) (λ r q before. first_value x ys q ∙ h r (past_own_bytes x.length q) (pc_here x ys k r q before))

-- ---- operands that touch memory

base_room : (b : Base) (size n : ℕ) (r : List ℕ) → length (base_left b size n r) ≡ length r
base_room Deferred size n r = refl
base_room Decrement size n r = length-set r n _
base_room Increment size n r = length-set r n _
base_room IncrementDeferred size n r = refl
base_room (Absolute a) size n r = refl
base_room (Displaced d) size n r = refl
base_room (DisplacedDeferred d) size n r = refl

left_room : (k : Kind) (w : Width) (s : Spec) (r : List ℕ) → length (left_by k w s r) ≡ length r
left_room Constant w s r = refl
left_room ReadRegister w s r = refl
left_room ModifyRegister w s r = refl
left_room WriteRegister w s r = refl
left_room BitsRegister w s r = refl
left_room (Branch d) w s r = refl
left_room (Read b) w s r = base_room b (size_of w) s.reg r
left_room (Modify b) w s r = base_room b (size_of w) s.reg r
left_room (Write b) w s r = base_room b (size_of w) s.reg r
left_room (Address b) w s r = refl
left_room (Bits b) w s r = refl

room_had : (v u at i : ℕ) (xs : List Operand) (o : Operands) → length (from_had v u at i xs o).r ≡ length o.r
room_had v u at i [] o = refl
room_had v u at i (x ∷ xs) o =
    room_had v u at (i + 1) xs (with_operand i o (operand_had v u at x o.r)) ∙ left_room x.kind x.form.width x.spec (past_own_bytes x.length o.r) ∙ length-set o.r 15 (plus (slice_index o.r 15) x.length)

-- the number that PC is, and an offset
abbrev pub IsByPc : Number → Type 0
IsByPc n = (n.register ≡ 15) × (n.mask ≡ 2 ^ 32 - 1)

pub by_pc : (n : Number) (r : List ℕ) → IsByPc n → number_by n r ≡ plus (slice_index r 15 % 2 ^ 32) n.offset
by_pc n r is =
    ap (λ (m : ℕ). plus (bit_and (slice_index r m) n.mask) n.offset) is.0 ∙ ap (λ (m : ℕ). plus (bit_and (slice_index r 15) m) n.offset) is.1 ∙ ap (λ (m : ℕ). plus m n.offset) (and_mask (slice_index r 15) 32)

pc_stays : (n : Number) (r q : List ℕ) → IsByPc n → number_by n q ≡ number_by n r → slice_index q 15 % 2 ^ 32 ≡ slice_index r 15 % 2 ^ 32
pc_stays n r q is same = omega (arith, by_pc n q is, by_pc n r is, same)

pc_had : (n : Number) (v u at i : ℕ) (xs : List Operand) (o : Operands) → IsByPc n → StaysOver n xs → 15 < length o.r → slice_index (from_had v u at i xs o).r 15 % 2 ^ 32 ≡ plus (slice_index o.r 15) (operands_length xs)
pc_had n v u at i [] o is stays room = omega arith
pc_had n v u at i (x ∷ xs) o is stays room =
    let here : List ℕ = past_own_bytes x.length o.r in
    let e : Evaluated = operand_had v u at x o.r in
    let pc : ℕ = plus (slice_index o.r 15) x.length in
    let past : slice_index here 15 ≡ pc = get_or-set_same o.r 15 pc 0 room in
    let kept : slice_index e.r 15 % 2 ^ 32 ≡ slice_index here 15 % 2 ^ 32 = pc_stays n here e.r is (stays.0 here) in
    let there : 15 < length e.r = omega (arith, room, length-set o.r 15 pc, left_room x.kind x.form.width x.spec here) in
    let rest = pc_had n v u at (i + 1) xs (with_operand i o e) is stays.1 there in
    omega (arith, past, kept, rest)

pc_touched : (n : Number) (t : Touches) (x : Operand) (ys : List Operand) (k v u at : ℕ) (r q : List ℕ) → IsByPc n → StaysOver n (x ∷ ys) → AreBeforeTouches t k (all_had v u at (x ∷ ys) q) r q →
    plus (slice_index (past_own_bytes x.length q) 15) (operands_length ys) ≡ plus (slice_index r 15) k
pc_touched n t x ys k v u at r q is stays before =
    let o : Operands = all_had v u at (x ∷ ys) q in
    let mid : List ℕ = stepped_by t.reads r in
    let last : List ℕ = stepped_by t.writes mid in
    let first = pc_stepped t.reads r in
    let second = pc_stepped t.writes mid in
    let pc : ℕ = plus (slice_index last 15) k in
    let whole : length o.r ≡ length last = ap (λ (zs : List ℕ). length zs) before.2 ∙ length-set last 15 pc in
    let there : 15 < length last = omega (arith, before.0, first.1, second.1) in
    let room : 15 < length q = omega (arith, there, whole, room_had v u at 0 (x ∷ ys) (no_operands q)) in
    let after = pc_had n v u at 0 (x ∷ ys) (no_operands q) is stays room in
    let end : slice_index o.r 15 ≡ pc = ap (λ (zs : List ℕ). slice_index zs 15) before.2 ∙ get_or-set_same last 15 pc 0 there in
    let same : slice_index last 15 ≡ slice_index r 15 = second.0 ∙ first.0 in
    let here : slice_index (past_own_bytes x.length q) 15 ≡ plus (slice_index q 15) x.length = get_or-set_same q 15 (plus (slice_index q 15) x.length) 0 room in
    omega (arith, after, end, same, here)

-- the same, where operands touch memory
abbrev pub IsFirstHad : Number → ℕ → List Operand → Type 0
IsFirstHad n k xs = (t : Touches) (v u at : ℕ) (r q : List ℕ) → AreBeforeTouches t k (all_had v u at xs q) r q → long_of (all_had v u at xs q) 0 ≡ number_by n r

pub relative_had : (n : Number) (x : Operand) (ys xs : List Operand) (k : ℕ) → xs ≡ x ∷ ys → is_at_hand x.kind ≡ true → (n.register ≡ 15) × (n.mask ≡ 2 ^ 32 - 1) → is_kept_over_all n xs ≡ true →
    ((r q : List ℕ) → plus (slice_index q 15) (operands_length ys) ≡ plus (slice_index r 15) k → value_at_hand x.kind x.form.width x.spec q % 2 ^ 32 ≡ number_by n r) → IsFirstHad n k xs
relative_had n x ys xs k all hand is kept h =
    let stays : StaysOver n (x ∷ ys) = subst (StaysOver n) all (stays_over n xs kept) in
    subst (IsFirstHad n k) (sym all) (λ t v u at r q before.
    let here : List ℕ = past_own_bytes x.length q in
    let had : long_of (all_had v u at (x ∷ ys) q) 0 ≡ value_had v u x.kind x.form.width x.spec here % 2 ^ 32 =
    ap (λ (m : ℕ). m % 2 ^ 32) (had_values_kept v u at 0 1 ys (with_operand 0 (no_operands q) (operand_had v u at x q)) (omega arith)) in
    let value : value_had v u x.kind x.form.width x.spec here ≡ value_at_hand x.kind x.form.width x.spec here = ap (λ (e : Evaluated). e.value) (kind_had x.kind x.form.width x.spec v u at here hand) in
    had ∙ ap (λ (m : ℕ). m % 2 ^ 32) value ∙ h r here (pc_touched n t x ys k v u at r q is stays before))
