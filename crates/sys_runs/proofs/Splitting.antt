-- The events of a round, among events whose rounds never fall.
use Rattle.std.proofs.Common.{ℕ, suc, ◌≡◌, ◌<◌, ◌≤◌, ◌+◌, ◌==◌, nat_le, List, [], ◌∷◌, length, drop, take, refl, sym, ◌∙◌, ap, subst, arith, Bool, true, false}
use Rattle.std.proofs.lemmas.Bool.{eq-eqb, eqb-true, leb-false, leb-true, ne_eqb}
use Rattle.std.proofs.lemmas.List.Elements.{All-cons}
use Rattle.std.proofs.lemmas.List.Folds.{length-prefix_len}
use Rattle.std.proofs.lemmas.List.Sums.{take_while-cons}
use Rattle.std.specs.List.{prefix_len, take_while}
use Rattle.sys_script.specs.Events.{AreEvents, NeverFalls}
use Rattle.sys_script.specs.declared.event.Event.{Event}
use Rattle.sys_state.proofs.Places.{both}
use Rattle.sys_state.specs.Run.{events_of}
use Rattle.sys_system.specs.Calls.{AreOf}

abbrev pub is_past : ℕ → Event → Bool
is_past r e = nat_le e.round r

-- how many of the first events are of rounds up to this one
abbrev pub count_up_to : ℕ → List Event → ℕ
count_up_to r es = length (take_while (is_past r) es)

-- The events of the first rounds are gone from these; those of each later round are there still.
pub record Spent (made : ℕ) (es rest : List Event) : Type 0 where
  pub order : NeverFalls (made + 1) rest
  pub same : (r : ℕ) → made < r → events_of r rest ≡ events_of r es

lower : (a b : ℕ) (es : List Event) → a ≤ b → NeverFalls b es → NeverFalls a es
lower a b [] h order = tt
lower a b (e ∷ es) h order = (omega (arith, h, order.0), order.1)

-- no event is of a round before all of theirs
none_of : (r : ℕ) (es : List Event) → NeverFalls (r + 1) es → events_of r es ≡ []
none_of r [] order = refl
none_of r (e ∷ es) order =
    let later : (e.round == r) ≡ false = ne_eqb e.round r (λ same. omega (arith, order.0, same)) in
    rw later (none_of r es (lower (r + 1) e.round es order.0 order.1))

-- the first ones are all of that round
front_of : (r : ℕ) (es : List Event) → NeverFalls r es → take_while (is_past r) es ≡ events_of r es
front_of r [] order = refl
front_of r (e ∷ es) order = take_while-cons (is_past r) e es ∙ both (nat_le e.round r)
    (λ is.
    let same : e.round ≡ r = omega (arith, order.0, leb-true e.round r is) in
    let here : (e.round == r) ≡ true = eq-eqb e.round r same in
    rw is (rw here (ap (λ xs. e ∷ xs) (front_of r es (subst (λ n. NeverFalls n es) same order.1)))))
    (λ other.
    let above : r + 1 ≤ e.round = omega (arith, leb-false e.round r other) in
    let later : (e.round == r) ≡ false = ne_eqb e.round r (λ same. omega (arith, above, same)) in
    rw other (rw later (sym (none_of r es (lower (r + 1) e.round es above order.1)))))

-- those after them are of later rounds
after_of : (r first : ℕ) (es : List Event) → NeverFalls first es → NeverFalls (r + 1) (drop (prefix_len (is_past r) es) es)
after_of r first [] order = tt
after_of r first (e ∷ es) order = both (nat_le e.round r)
    (λ is.
    let one : 1 + prefix_len (is_past r) es ≡ suc (prefix_len (is_past r) es) = omega arith in
    rw is (rw one (after_of r e.round es order.1)))
    (λ other.
    let above : r + 1 ≤ e.round = omega (arith, leb-false e.round r other) in
    rw other (above, order.1))

-- and none of a later round is lost
still_of : (r later : ℕ) (es : List Event) → r < later → events_of later (drop (prefix_len (is_past r) es) es) ≡ events_of later es
still_of r later [] h = refl
still_of r later (e ∷ es) h = both (nat_le e.round r)
    (λ is.
    let low : e.round ≤ r = leb-true e.round r is in
    let one : 1 + prefix_len (is_past r) es ≡ suc (prefix_len (is_past r) es) = omega arith in
    let other : (e.round == later) ≡ false = ne_eqb e.round later (λ same. omega (arith, low, same, h)) in
    rw is (rw one (rw other (still_of r later es h))))
    (λ other. rw other refl)

-- every event of a filter passes
all_of_round : (r : ℕ) (es : List Event) → AreOf r (events_of r es)
all_of_round r [] = λ k d h. absurd (omega (arith, h))
all_of_round r (e ∷ es) = both (e.round == r)
    (λ is. rw is (All-cons (λ (x : Event). x.round ≡ r) e (events_of r es) (eqb-true e.round r is) (all_of_round r es)))
    (λ other. rw other (all_of_round r es))

-- those up to a round are passed over
passed : (r n first : ℕ) (es later : List Event) → NeverFalls first es → n ≡ count_up_to r es → later ≡ drop n es → Spent r es later
passed r n first es later order counts back =
    let counted : n ≡ prefix_len (is_past r) es = counts ∙ length-prefix_len (is_past r) es in
    let left : later ≡ drop (prefix_len (is_past r) es) es = back ∙ ap (λ k. drop k es) counted in
    record {
      order = subst (λ xs. NeverFalls (r + 1) xs) (sym left) (after_of r first es order);
      same = λ k h. ap (events_of k) left ∙ still_of r k es h;
    }

pub spent_up_to : (made : ℕ) (es later : List Event) → AreEvents es → later ≡ drop (count_up_to made es) es → Spent made es later
spent_up_to made es later are back = passed made (count_up_to made es) 0 es later are.order refl back

module _ (made n : ℕ) (es rest these later : List Event) (s : Spent made es rest) (counts : n ≡ count_up_to (made + 1) rest) (front : these ≡ take n rest) (back : later ≡ drop n rest) where
  -- the next round's events are split off
  pub these_are : these ≡ events_of (made + 1) es
  these_are = front ∙ ap (λ k. take k rest) (counts ∙ length-prefix_len (is_past (made + 1)) rest) ∙ front_of (made + 1) rest s.order ∙ s.same (made + 1) (omega arith)

  pub these_of : AreOf (made + 1) these
  these_of = subst (λ xs. AreOf (made + 1) xs) (sym these_are) (all_of_round (made + 1) es)

  pub spent_next : Spent (made + 1) es later
  spent_next =
      let split : Spent (made + 1) rest later = passed (made + 1) n (made + 1) rest later s.order counts back in
      record { order = split.order; same = λ r h. split.same r h ∙ s.same r (omega (arith, h)) }
