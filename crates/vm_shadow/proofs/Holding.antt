-- The contexts that have slots, when one of them moves to the front.
use Rattle.std.proofs.Common.{◌≡◌, ◌≢◌, ℕ, zero, suc, ◌⊎◌, inl, inr, Bool, true, false, cond, not, ◌==◌, List, [], ◌∷◌, length, filter, find, get_or, AllPairs, Contains, IfSome, Option, Some, None, option_map, refl, ap, ◌∙◌, sym, subst, arith}
use Rattle.std.proofs.lemmas.Bool.{cases_Bool, cases_lt, eq-eqb, eqb-true, false≢true, ne_eqb, true≢false}
use Rattle.std.proofs.lemmas.List.{take_all}
use Rattle.std.proofs.lemmas.List.Elements.{Contains-push_cases}
use Rattle.std.proofs.lemmas.List.Filters.{length-filter_both}
use Rattle.std.proofs.lemmas.Option.{none-some, same_Some}
use Rattle.vm_slots.specs.Held.{Held, is_same, others_held, slot_of, without}
use Rattle.vm_slots.specs.declared.context.Context.{Context}
use Rattle.vm_slots.proofs.HeldLaws.{is_same-true, its_slot}
use Rattle.vm_shadow.specs.Shadowed.{context_in}
use Rattle.vm_shadow.specs.StandsFor.{TakesSlot}
use Rattle.vm_shadow.proofs.Places.{split}

-- the context that has a slot is in the list with it
here_or_later : (t : Bool) (h : Context × ℕ) (o : Option (Context × ℕ)) (d : Context) → option_map (λ k. k.0) (cond t (Some h) o) ≡ Some d → ((t ≡ true) × (h.0 ≡ d)) ⊎ ((t ≡ false) × (option_map (λ k. k.0) o ≡ Some d))
here_or_later true h o d e = inl (refl, same_Some h.0 d e)
here_or_later false h o d e = inr (refl, e)

pub in_held : (d : Context) (slot : ℕ) (held : Held) → context_in slot held ≡ Some d → Contains held (d, slot)
in_held d slot [] e = cc
in_held d slot (h ∷ hs) e = split (here_or_later (h.1 == slot) h (find (λ k. k.1 == slot) hs) d e)
    (λ here. (0, omega arith, (let same = eqb-true h.1 slot here.0 in λ i. (here.1 i, same i))))
    (λ later. let rest = in_held d slot hs later.1 in (suc rest.0, omega (arith, rest.1), rest.2))

tail_pairs : (h : Context × ℕ) (hs : Held) → AllPairs (λ x y. x.1 ≢ y.1) (h ∷ hs) → AllPairs (λ x y. x.1 ≢ y.1) hs
tail_pairs h hs pairs = λ i j d below within. pairs (suc i) (suc j) d (omega arith) (omega arith)

pub its_context : (d : Context) (slot : ℕ) (held : Held) → AllPairs (λ h k. h.1 ≢ k.1) held → Contains held (d, slot) → context_in slot held ≡ Some d
its_context d slot [] pairs (k, within, at) = absurd (omega arith)
its_context d slot (h ∷ hs) pairs (zero, within, at) = found_here (h.1 == slot) (eq-eqb h.1 slot (ap (λ k. k.1) at))
  where
    found_here : (t : Bool) → t ≡ true → option_map (λ k. k.0) (cond t (Some h) (find (λ k. k.1 == slot) hs)) ≡ Some d
    found_here true e = ap (λ (k : Context × ℕ). Some k.0) at
    found_here false e = absurd (false≢true e)
its_context d slot (h ∷ hs) pairs (suc k, within, at) =
    let apart : h.1 ≢ (get_or hs k (d, slot)).1 = pairs 0 (suc k) (d, slot) (omega arith) within in
    let other : (h.1 == slot) ≡ false = ne_eqb h.1 slot (λ same. apart (same ∙ sym (ap (λ j. j.1) at))) in
    found_later (h.1 == slot) other (its_context d slot hs (tail_pairs h hs pairs) (k, omega arith, at))
  where
    found_later : (t : Bool) → t ≡ false → context_in slot hs ≡ Some d → option_map (λ j. j.0) (cond t (Some h) (find (λ j. j.1 == slot) hs)) ≡ Some d
    found_later true e rest = absurd (true≢false e)
    found_later false e rest = rest

-- what passes a filter stays
stays : {X : Type 0} (p : X → Bool) (xs : List X) (x : X) → Contains xs x → p x ≡ true → Contains (filter p xs) x
stays p [] x (k, within, at) e = absurd (omega arith)
stays p (y ∷ ys) x (zero, within, at) e = front (p y) (ap p at ∙ e)
  where
    front : (t : Bool) → t ≡ true → Contains (cond t (y ∷ filter p ys) (filter p ys)) x
    front true u = (0, omega arith, at)
    front false u = absurd (false≢true u)
stays p (y ∷ ys) x (suc k, within, at) e = later (p y) (stays p ys x (k, omega arith, at) e)
  where
    later : (t : Bool) → Contains (filter p ys) x → Contains (cond t (y ∷ filter p ys) (filter p ys)) x
    later true c = (suc c.0, omega (arith, c.1), c.2)
    later false c = c

if_some : (P : ℕ → Type 0) (o : Option ℕ) (n : ℕ) → o ≡ Some n → IfSome o P → P n
if_some P None n e h = absurd (none-some n e)
if_some P (Some m) n e h = subst P (same_Some m n e) h

-- A context keeps its slot, unless it is the last and another takes that.
pub still_has : (c d : Context) (held held' : Held) (slot own : ℕ) → TakesSlot c held held' slot → (length (without c held) ≡ 4 → own ≢ slot) → context_in own held ≡ Some d → context_in own held' ≡ Some d
still_has c d held held' slot own t apart e = its_context d own held' t.after.slots (subst (λ x. Contains x (d, own)) (sym t.front) (split (cases_Bool (is_same c d)) (λ same. front same) (λ other. later other)))
  where
    in_old : Contains held (d, own)
    in_old = in_held d own held e

    push : Contains (others_held c held) (d, own) → Contains ((c, slot) ∷ others_held c held) (d, own)
    push x = (suc x.0, omega (arith, x.1), x.2)

    front : is_same c d ≡ true → Contains ((c, slot) ∷ others_held c held) (d, own)
    front same =
        let one : c ≡ d = is_same-true c d same in
        let has : slot_of c held ≡ Some own = its_slot c held own t.before.contexts (subst (λ x. Contains held (x, own)) (sym one) in_old) in
        let is : slot ≡ own = if_some (λ n. slot ≡ n) (slot_of c held) own has t.kept in
        (0, omega arith, λ i. (one i, is i))

    last : length (without c held) ≡ 4 → Contains ((c, slot) ∷ others_held c held) (d, own)
    last four =
        let g = t.gone four in
        split (Contains-push_cases (others_held c held) (g.0, slot) (d, own) (subst (λ x. Contains x (d, own)) g.1 in_old))
        (λ x. push x)
        (λ same. absurd (apart four (sym (ap (λ j. j.1) same))))

    later : is_same c d ≡ false → Contains ((c, slot) ∷ others_held c held) (d, own)
    later other = split (cases_lt (length (without c held)) 4)
        (λ few. push (subst (λ x. Contains x (d, own)) (sym (take_all 3 (without c held) (omega arith))) (stays (λ h. not (is_same c h.0)) held (d, own) in_old (ap not other))))
        (λ many. last (omega (arith, t.before.few, length-filter_both (λ h. not (is_same c h.0)) (λ h. not (not (is_same c h.0))) (λ h. refl) held)))
