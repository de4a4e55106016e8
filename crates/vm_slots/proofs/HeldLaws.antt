-- Facts on the list of the contexts that are held.
use Rattle.std.proofs.Common.{◌≡◌, ◌≢◌, ℕ, zero, suc, ◌<◌, ◌≤◌, Bool, true, false, cond, not, ◌↔◌, ◌⊎◌, inl, inr, List, [], ◌∷◌, ◌++◌, length, filter, find, take, get_or, Option, Some, None, option_map, MatchOption, All, Any, AllPairs, Contains, refl, sym, ap, ◌∙◌, subst, arith, length-take, get_or-take}
use Rattle.std.proofs.lemmas.Bool.{eq-eqb, eqb-true, and_from, and_parts, false_from_ne_true, true≢false, false≢true}
use Rattle.std.proofs.lemmas.List.{take-map, get_or_default}
use Rattle.std.proofs.lemmas.List.Elements.{All-nil, All-cons, All-head, All-tail, All-take, All-filter, All-weaker, filter_passes}
use Rattle.std.proofs.lemmas.List.Kept.{AllPairs-cons, AllPairs-filter}
use Rattle.std.proofs.lemmas.Option.{none-some, same_Some}
use Rattle.std.specs.Bool.{beq}
use Rattle.vm_slots.specs.declared.context.Context.{Context}
use Rattle.vm_slots.specs.Held.{Held, is_same, AreSlots, slot_of, without, others_held, IsLeastFree, LastGoes, contexts_of, brought_forward}

beq_self : (b : Bool) → beq b b ≡ true
beq_self true = refl
beq_self false = refl

is_same_self : (c : Context) → is_same c c ≡ true
is_same_self c =
    and_from _ _ (and_from _ _ (and_from _ _ (and_from _ _ (beq_self c.mapped) (eq-eqb c.p0br c.p0br refl)) (eq-eqb c.p0lr c.p0lr refl)) (eq-eqb c.p1br c.p1br refl)) (eq-eqb c.p1lr c.p1lr refl)

same_bool : (a b : Bool) → beq a b ≡ true → a ≡ b
same_bool true true e = refl
same_bool true false e = absurd (false≢true e)
same_bool false true e = absurd (false≢true e)
same_bool false false e = refl

-- contexts that pass the test are one
pub is_same-true : (c d : Context) → is_same c d ≡ true → c ≡ d
is_same-true c d e =
    let four = and_parts _ _ e in
    let three = and_parts _ _ four.0 in
    let two = and_parts _ _ three.0 in
    let one = and_parts _ _ two.0 in
    let mapped = same_bool c.mapped d.mapped one.0 in
    let p0br = eqb-true c.p0br d.p0br one.1 in
    let p0lr = eqb-true c.p0lr d.p0lr two.1 in
    let p1br = eqb-true c.p1br d.p1br three.1 in
    let p1lr = eqb-true c.p1lr d.p1lr four.1 in
    λ i. record { mapped = mapped i; p0br = p0br i; p0lr = p0lr i; p1br = p1br i; p1lr = p1lr i }

AllPairs-take : {X : Type 0} (R : X → X → Type 0) (n : ℕ) (xs : List X) → AllPairs R xs → AllPairs R (take n xs)
AllPairs-take R n xs h = λ i j d below within.
    let long : length (take n xs) ≤ n = omega (arith, length-take n xs) in
    let far : length (take n xs) ≤ length xs = omega (arith, length-take n xs) in
    let at_i : get_or (take n xs) i d ≡ get_or xs i d = get_or-take n xs i d (omega arith) in
    let at_j : get_or (take n xs) j d ≡ get_or xs j d = get_or-take n xs j d (omega arith) in
    rw (at_i, at_j) (h i j d below (omega arith))

AllPairs-head : {X : Type 0} (R : X → X → Type 0) (x : X) (xs : List X) → AllPairs R (x ∷ xs) → All (R x) xs
AllPairs-head R x xs h = λ k d within. h 0 (suc k) d (omega arith) (omega arith)

AllPairs-tail : {X : Type 0} (R : X → X → Type 0) (x : X) (xs : List X) → AllPairs R (x ∷ xs) → AllPairs R xs
AllPairs-tail R x xs h = λ i j d below within. h (suc i) (suc j) d (omega arith) (omega arith)

-- the first of a list has the slot, or one after it
slot_at : (t : Bool) (h : Context × ℕ) (o : Option (Context × ℕ)) (slot : ℕ) → option_map (λ k. k.1) (cond t (Some h) o) ≡ Some slot
    → ((t ≡ true) × (h.1 ≡ slot)) ⊎ ((t ≡ false) × (option_map (λ k. k.1) o ≡ Some slot))
slot_at true h o slot e = inl (refl, same_Some h.1 slot e)
slot_at false h o slot e = inr (refl, e)

at_found : (P : ℕ → Type 0) (c : Context) (held : Held) (slot : ℕ) → All (λ h. P h.1) held → slot_of c held ≡ Some slot → P slot
at_found P c [] slot all e = absurd (none-some slot e)
at_found P c (h ∷ held) slot all e =
    elim (slot_at (is_same c h.0) h (find (λ k. is_same c k.0) held) slot e) [
      | inl here ↦ subst P here.1 (All-head (λ k. P k.1) h held all)
      | inr later ↦ at_found P c held slot (All-tail (λ k. P k.1) h held all) later.1
    ]

-- a context that has a slot is in the list with it
pub stands : (c : Context) (held : Held) (slot : ℕ) → slot_of c held ≡ Some slot → Contains held (c, slot)
stands c [] slot e = absurd (none-some slot e)
stands c (h ∷ held) slot e =
    elim (slot_at (is_same c h.0) h (find (λ k. is_same c k.0) held) slot e) [
      | inl here ↦ (0, omega arith, (let same = sym (is_same-true c h.0 here.0) in λ i. (same i, here.1 i)))
      | inr later ↦ (let rest = stands c held slot later.1 in (suc rest.0, omega (arith, rest.1), rest.2))
    ]

-- and one that is in the list with a slot has it
pub its_slot : (c : Context) (held : Held) (slot : ℕ) → AllPairs (λ h k. h.0 ≢ k.0) held → Contains held (c, slot) → slot_of c held ≡ Some slot
its_slot c [] slot pairs (k, within, at) = absurd (omega arith)
its_slot c (h ∷ held) slot pairs (zero, within, at) =
    let same : is_same c h.0 ≡ true = subst (λ d. is_same c d ≡ true) (sym (ap (λ k. k.0) at)) (is_same_self c) in
    found_here (is_same c h.0) same
  where
    found_here : (t : Bool) → t ≡ true → option_map (λ k. k.1) (cond t (Some h) (find (λ k. is_same c k.0) held)) ≡ Some slot
    found_here true e = ap (λ (k : Context × ℕ). Some k.1) at
    found_here false e = absurd (false≢true e)
its_slot c (h ∷ held) slot pairs (suc k, within, at) =
    let apart : h.0 ≢ (get_or held k (c, slot)).0 = pairs 0 (suc k) (c, slot) (omega arith) within in
    let other : is_same c h.0 ≡ false = false_from_ne_true (is_same c h.0) (λ yes. apart (sym (is_same-true c h.0 yes) ∙ sym (ap (λ j. j.0) at))) in
    found_later (is_same c h.0) other (its_slot c held slot (AllPairs-tail (λ h k. h.0 ≢ k.0) h held pairs) (k, omega arith, at))
  where
    found_later : (t : Bool) → t ≡ false → slot_of c held ≡ Some slot → option_map (λ j. j.1) (cond t (Some h) (find (λ j. is_same c j.0) held)) ≡ Some slot
    found_later true e rest = absurd (true≢false e)
    found_later false e rest = rest

All-unless : {X : Type 0} (P : X → Type 0) (t : Bool) (x : X) (xs : List X) → All P xs → (t ≡ false → P x) → All P (cond (not t) (x ∷ xs) xs)
All-unless P true x xs rest first = rest
All-unless P false x xs rest first = All-cons P x xs (first refl) rest

-- no other context has the slot of one that is held
apart : (c : Context) (held : Held) (slot : ℕ) → AllPairs (λ h k. h.1 ≢ k.1) held → slot_of c held ≡ Some slot → All (λ h. slot ≢ h.1) (without c held)
apart c [] slot pairs e = All-nil (λ h. slot ≢ h.1)
apart c (h ∷ held) slot pairs e =
    let P : Context × ℕ → Type 0 = λ k. slot ≢ k.1 in
    let others : All (λ k. h.1 ≢ k.1) held = AllPairs-head (λ h k. h.1 ≢ k.1) h held pairs in
    elim (slot_at (is_same c h.0) h (find (λ k. is_same c k.0) held) slot e) [
      | inl here ↦
          let all : All P held = All-weaker (λ k. h.1 ≢ k.1) P (λ k ne same. ne (here.1 ∙ same)) held others in
          All-unless P (is_same c h.0) h (without c held) (All-filter (λ k. not (is_same c k.0)) P held all) (λ no. absurd (true≢false (sym here.0 ∙ no)))
      | inr later ↦
          let first : slot ≢ h.1 = λ same. at_found (λ s. h.1 ≢ s) c held slot others later.1 (sym same) in
          All-unless P (is_same c h.0) h (without c held) (apart c held slot (AllPairs-tail (λ h k. h.1 ≢ k.1) h held pairs) later.1) (λ no. first)
    ]

-- what is put in front of the others keeps the facts
fronted : (c : Context) (slot : ℕ) (held : Held) → AreSlots held → slot < 4 → All (λ h. slot ≢ h.1) (others_held c held) → AreSlots ((c, slot) ∷ others_held c held)
fronted c slot held are small free =
    let others : Held = without c held in
    let passed : All (λ h. not (is_same c h.0) ≡ true) others = filter_passes (λ h. not (is_same c h.0)) held in
    let new : All (λ h. c ≢ h.0) others = All-weaker (λ h. not (is_same c h.0) ≡ true) (λ h. c ≢ h.0) (λ h other same. false≢true (sym (ap not (subst (λ d. is_same c d ≡ true) same (is_same_self c))) ∙ other)) others passed in
    record {
      few = omega (arith, length-take 3 others);
      contexts = AllPairs-cons (λ h k. h.0 ≢ k.0) (c, slot) (others_held c held) (All-take (λ h. c ≢ h.0) 3 others new)
          (AllPairs-take (λ h k. h.0 ≢ k.0) 3 others (AllPairs-filter (λ h k. h.0 ≢ k.0) (λ h. not (is_same c h.0)) held are.contexts));
      slots = AllPairs-cons (λ h k. h.1 ≢ k.1) (c, slot) (others_held c held) free
          (AllPairs-take (λ h k. h.1 ≢ k.1) 3 others (AllPairs-filter (λ h k. h.1 ≢ k.1) (λ h. not (is_same c h.0)) held are.slots));
      small = All-cons (λ h. h.1 < 4) (c, slot) (others_held c held) small (All-take (λ h. h.1 < 4) 3 others (All-filter (λ h. not (is_same c h.0)) (λ h. h.1 < 4) held are.small));
    }

-- the slot of a context that moves to the front: its own, or else the least that is free
abbrev pub IsSlotFor : Context → Held → ℕ → Type 0
IsSlotFor c held slot = MatchOption (slot_of c held) (IsLeastFree slot (others_held c held)) (λ own. slot ≡ own)

-- such a slot is none of the others'
its_own : (c : Context) (slot : ℕ) (held : Held) → AreSlots held → IsSlotFor c held slot → (slot < 4) × All (λ h. slot ≢ h.1) (others_held c held)
its_own c slot held are is = by_case (slot_of c held) refl is
  where
    by_case : (o : Option ℕ) → slot_of c held ≡ o → MatchOption o (IsLeastFree slot (others_held c held)) (λ own. slot ≡ own) → (slot < 4) × All (λ h. slot ≢ h.1) (others_held c held)
    by_case None found least = (least.small, All-weaker (λ h. h.1 ≢ slot) (λ h. slot ≢ h.1) (λ h ne same. ne (sym same)) (others_held c held) least.free)
    by_case (Some own) found same =
        let here : slot_of c held ≡ Some slot = found ∙ ap (λ (n : ℕ). Some n) (sym same) in
        (at_found (λ s. s < 4) c held slot are.small here, All-take (λ h. slot ≢ h.1) 3 (without c held) (apart c held slot are.slots here))

pub front_law : (c : Context) (slot : ℕ) (held : Held) → AreSlots held → IsSlotFor c held slot → AreSlots ((c, slot) ∷ others_held c held)
front_law c slot held are is = let own = its_own c slot held are is in fronted c slot held are own.0 own.1

-- the contexts of the others are the other contexts
map-without : (c : Context) (held : Held) → contexts_of (without c held) ≡ filter (λ d. not (is_same c d)) (contexts_of held)
map-without c [] = refl
map-without c (h ∷ held) = map_cond (not (is_same c h.0)) h (without c held) _ (map-without c held)
  where
    map_cond : (t : Bool) (h : Context × ℕ) (held : Held) (rest : List Context) → contexts_of held ≡ rest → contexts_of (cond t (h ∷ held) held) ≡ cond t (h.0 ∷ rest) rest
    map_cond true h held rest e = ap (λ xs. h.0 ∷ xs) e
    map_cond false h held rest e = e

pub forward_law : (c : Context) (slot : ℕ) (held : Held) → contexts_of ((c, slot) ∷ others_held c held) ≡ brought_forward c (contexts_of held)
forward_law c slot held =
    ap (λ (xs : List Context). c ∷ xs) (sym (take-map (λ h. h.0) 3 (without c held)) ∙ ap (take 3) (map-without c held))

filter-le : {X : Type 0} (p : X → Bool) (xs : List X) → length (filter p xs) ≤ length xs
filter-le p [] = omega arith
filter-le p (x ∷ xs) = step (p x) x (filter p xs) (length xs) (filter-le p xs)
  where
    step : {X : Type 0} (t : Bool) (x : X) (xs : List X) (n : ℕ) → length xs ≤ n → length (cond t (x ∷ xs) xs) ≤ suc n
    step true x xs n h = omega arith
    step false x xs n h = omega arith

-- a filter that drops nothing leaves the list
filter_whole : {X : Type 0} (p : X → Bool) (xs : List X) → length xs ≤ length (filter p xs) → filter p xs ≡ xs
filter_whole p [] h = refl
filter_whole p (x ∷ xs) h = step (p x) x (filter p xs) xs (filter-le p xs) (filter_whole p xs) h
  where
    step : {X : Type 0} (t : Bool) (x : X) (ys xs : List X) → length ys ≤ length xs → (length xs ≤ length ys → ys ≡ xs) → suc (length xs) ≤ length (cond t (x ∷ ys) ys) → cond t (x ∷ ys) ys ≡ x ∷ xs
    step true x ys xs le more h = ap (λ zs. x ∷ zs) (more (omega arith))
    step false x ys xs le more h = absurd (omega arith)

-- a slot that three others of four don't have is the last one's
last_of_four : (held stay : Held) (slot : ℕ) → AreSlots held → length held ≡ 4 → stay ≡ take 3 held → slot < 4 → All (λ h. slot ≢ h.1) stay → LastGoes held stay slot
last_of_four [] stay slot are four is small free = absurd (omega arith)
last_of_four (a ∷ []) stay slot are four is small free = absurd (omega arith)
last_of_four (a ∷ b ∷ []) stay slot are four is small free = absurd (omega arith)
last_of_four (a ∷ b ∷ d ∷ []) stay slot are four is small free = absurd (omega arith)
last_of_four (a ∷ b ∷ d ∷ l ∷ []) stay slot are four is small free =
    let others : All (λ h. slot ≢ h.1) (a ∷ b ∷ d ∷ []) = subst (All (λ h. slot ≢ h.1)) is free in
    let not_a : slot ≢ a.1 = others 0 a (omega arith) in
    let not_b : slot ≢ b.1 = others 1 a (omega arith) in
    let not_d : slot ≢ d.1 = others 2 a (omega arith) in
    let a_b : a.1 ≢ b.1 = are.slots 0 1 a (omega arith) (omega arith) in
    let a_d : a.1 ≢ d.1 = are.slots 0 2 a (omega arith) (omega arith) in
    let a_l : a.1 ≢ l.1 = are.slots 0 3 a (omega arith) (omega arith) in
    let b_d : b.1 ≢ d.1 = are.slots 1 2 a (omega arith) (omega arith) in
    let b_l : b.1 ≢ l.1 = are.slots 1 3 a (omega arith) (omega arith) in
    let d_l : d.1 ≢ l.1 = are.slots 2 3 a (omega arith) (omega arith) in
    let small_a : a.1 < 4 = are.small 0 a (omega arith) in
    let small_b : b.1 < 4 = are.small 1 a (omega arith) in
    let small_d : d.1 < 4 = are.small 2 a (omega arith) in
    let small_l : l.1 < 4 = are.small 3 a (omega arith) in
    let its : l.1 ≡ slot = omega arith in
    (l.0, ap (λ (s : ℕ). a ∷ b ∷ d ∷ (l.0, s) ∷ []) its ∙ ap (λ (xs : Held). xs ++ (l.0, slot) ∷ []) (sym is))
last_of_four (a ∷ b ∷ d ∷ l ∷ m ∷ held) stay slot are four is small free = absurd (omega arith)

-- three places don't have four values
four_places : (f : ℕ → ℕ) (n k x y z : ℕ) → n ≤ 3 → k < n → x < n → y < n → z < n → f x ≡ 0 → f y ≡ 1 → f z ≡ 2 → f k ≡ 3 → ⊥
four_places f n k x y z few in_k in_x in_y in_z at_x at_y at_z at_k =
    let x_y : x ≢ y = λ e. (let s : f x ≡ f y = ap f e in omega arith) in
    let x_z : x ≢ z = λ e. (let s : f x ≡ f z = ap f e in omega arith) in
    let y_z : y ≢ z = λ e. (let s : f y ≡ f z = ap f e in omega arith) in
    let k_x : k ≢ x = λ e. (let s : f k ≡ f x = ap f e in omega arith) in
    let k_y : k ≢ y = λ e. (let s : f k ≡ f y = ap f e in omega arith) in
    let k_z : k ≢ z = λ e. (let s : f k ≡ f z = ap f e in omega arith) in
    omega arith

-- at most three contexts that have the slots 0 to 2 leave 3 free
pub last_is_free : (held : Held) → length held ≤ 3 → ((s : ℕ) → s < 3 → Any (λ h. h.1 ≡ s) held) → IsLeastFree 3 held
last_is_free held few taken =
    let none : All (λ h. h.1 ≢ 3) held = λ k d within same.
    let x = taken 0 (omega arith) in
    let y = taken 1 (omega arith) in
    let z = taken 2 (omega arith) in
    let at_x : get_or held x.0 d ≡ x.1 = get_or_default held x.0 d x.1 x.2 ∙ x.3 in
    let at_y : get_or held y.0 d ≡ y.1 = get_or_default held y.0 d y.1 y.2 ∙ y.3 in
    let at_z : get_or held z.0 d ≡ z.1 = get_or_default held z.0 d z.1 z.2 ∙ z.3 in
    four_places (λ n. (get_or held n d).1) (length held) k x.0 y.0 z.0 few within x.2 y.2 z.2 (ap (λ h. h.1) at_x ∙ x.4) (ap (λ h. h.1) at_y ∙ y.4) (ap (λ h. h.1) at_z ∙ z.4) same in
    record { small = omega arith; free = none; least = taken }

pub gone_law : (c : Context) (slot : ℕ) (held : Held) → AreSlots held → IsSlotFor c held slot → length (without c held) ≡ 4 → LastGoes held (others_held c held) slot
gone_law c slot held are is four =
    let own = its_own c slot held are is in
    let whole : without c held ≡ held = filter_whole (λ h. not (is_same c h.0)) held (omega (arith, are.few)) in
    last_of_four held (others_held c held) slot are (ap length (sym whole) ∙ four) (ap (take 3) whole) own.0 own.1

pub slot_is : (c : Context) (held stay : Held) (found : Option ℕ) (slot : ℕ) → found ≡ slot_of c held → stay ≡ others_held c held → MatchOption found (IsLeastFree slot stay) (λ own. slot ≡ own) → IsSlotFor c held slot
slot_is c held stay found slot is others chosen =
    let P : Held → Type 0 = λ hs. MatchOption found (IsLeastFree slot hs) (λ own. slot ≡ own) in
    let Q : Option ℕ → Type 0 = λ o. MatchOption o (IsLeastFree slot (others_held c held)) (λ own. slot ≡ own) in
    subst Q is (subst P others chosen)

-- what a look-up says of each slot
pub found_law : (c : Context) (held : Held) (found : Option ℕ) → AreSlots held → found ≡ slot_of c held → (slot : ℕ) → (found ≡ Some slot) ↔ Contains held (c, slot)
found_law c held found are is slot = (λ e. stands c held slot (sym is ∙ e), λ h. is ∙ its_slot c held slot are.contexts h)
