-- The next slice of a round.
use Rattle.std.proofs.Common.{ℕ, ◌≡◌, ◌<◌, ◌≤◌, ◌+◌, ◌-◌, List, length, drop, slice_index, min, refl, sym, ◌∙◌, ap, arith, Bool, true, false, true≢false, if◌then◌else◌, Option, Some, None, option_map}
use Rattle.std.proofs.lemmas.Bool.{ltb-false, ltb-true}
use Rattle.std.proofs.lemmas.List.{get_or-drop, get_or_past, length-drop}
use Rattle.std.proofs.lemmas.List.Quantifiers.{position-Some}
use Rattle.std.proofs.lemmas.List.Sums.{fails_before_first}
use Rattle.std.specs.List.{position_or_len}
use Rattle.std.specs.Prelude.{position, nat_lt}
use Rattle.sys_system.specs.Calls.{CanTake}
use Rattle.sys_system.specs.System.{IsSystem, NoneLeft, System, first_of, next_guest, next_slice}
use Rattle.sys_state.proofs.Places.{both}
use Rattle.sys_state.specs.Slices.{Slice}

same_some : {X : Type 0} (x y : X) → (let o : Option X = Some x in o ≡ Some y) → x ≡ y
same_some x y e = cc

-- the next slice can be taken
none_first : (b : Bool) (n : ℕ) → (if b then Some n else None) ≡ None → b ≡ false
none_first true n e = cc
none_first false n e = refl

passes_none : (p : ℕ → Bool) (xs : List ℕ) (k : ℕ) → position p xs ≡ None → k < length xs → p (slice_index xs k) ≡ false
passes_none p xs k e h =
    let all : length xs ≤ position_or_len p xs = ltb-false (position_or_len p xs) (length xs) (none_first (nat_lt (position_or_len p xs) (length xs)) (position_or_len p xs) e) in
    fails_before_first p xs k 0 (omega (arith, h, all))

turn_is : (b : Bool) (o : Option ℕ) (f : ℕ → Slice) (x : Slice) → (if b then option_map f o else None) ≡ Some x → (b ≡ true) × ((g : ℕ) × ((o ≡ Some g) × (f g ≡ x)))
turn_is true (Some g) f x e = (refl, (g, (refl, same_some (f g) x e)))
turn_is true None f x e = cc
turn_is false o f x e = cc

abbrev has_some : ℕ → Bool
has_some n = nat_lt 0 n

after_is : (from g : ℕ) (left : List ℕ) (o : Option ℕ) → position has_some (drop from left) ≡ o → from ≤ length left → option_map (λ k. from + k) o ≡ Some g → (g < length left) × (has_some (slice_index left g) ≡ true)
after_is from g left None e within is = cc
after_is from g left (Some k) e within is =
    let found = position-Some has_some (drop from left) k 0 e in
    let at : from + k ≡ g = same_some (from + k) g is in
    let size : length (drop from left) ≡ length left - from = length-drop from left in
    (omega (arith, found.0, at, size, within), ap (λ n. has_some (slice_index left n)) (sym at) ∙ ap has_some (sym (get_or-drop from left k 0)) ∙ found.1)

first_is : (a b : Option ℕ) (g : ℕ) (P : Type 0) → (a ≡ Some g → P) → (b ≡ Some g → P) → first_of a b ≡ Some g → P
first_is None b g P f h e = h e
first_is (Some n) b g P f h e = f e

guest_is : (from g : ℕ) (left : List ℕ) → from ≤ length left → next_guest from left ≡ Some g → (g < length left) × (has_some (slice_index left g) ≡ true)
guest_is from g left within e = first_is (option_map (λ k. from + k) (position has_some (drop from left))) (position has_some left) g _
    (λ is. after_is from g left (position has_some (drop from left)) refl within is)
    (λ is. let found = position-Some has_some left g 0 is in (found.0, found.1)) e

pub next_can : (s : System) (x : Slice) → IsSystem s → next_slice s.config.slice s.turns ≡ Some x → CanTake s x × (0 < x.steps)
next_can s x h e =
    let left = s.turns.left in
    let piece : ℕ → Slice = λ g. record { guest = g; steps = min s.config.slice (slice_index left g) } in
    let (running, rest) = turn_is s.turns.is_begun (next_guest s.turns.from left) piece x e in
    let g = rest.0 in
    let is : next_guest s.turns.from left ≡ Some g = rest.1.0 in
    let guest : g ≡ x.guest = ap (λ (y : Slice). y.guest) rest.1.1 in
    let steps : min s.config.slice (slice_index left g) ≡ x.steps = ap (λ (y : Slice). y.steps) rest.1.1 in
    let found = guest_is s.turns.from g left h.from is in
    let some : 0 < slice_index left g = ltb-true 0 (slice_index left g) found.1 in
    let same : slice_index left g ≡ slice_index left x.guest = ap (slice_index left) guest in
    (record { begun = running; there = omega (arith, found.0, guest, h.many, h.beside); left = omega (arith, steps, same) }, omega (arith, steps, some, h.accepted.some_slice))

both_none : (a b : Option ℕ) → first_of a b ≡ None → b ≡ None
both_none None b e = e
both_none (Some n) b e = cc

no_turn : (b : Bool) (o : Option ℕ) (f : ℕ → Slice) → b ≡ true → (if b then option_map f o else None) ≡ None → o ≡ None
no_turn true (Some g) f running e = cc
no_turn true None f running e = refl
no_turn false o f running e = absurd (true≢false (sym running))

pub none_next : (s : System) → s.turns.is_begun ≡ true → next_slice s.config.slice s.turns ≡ None → NoneLeft s.turns.left
none_next s running e i =
    let left = s.turns.left in
    let piece : ℕ → Slice = λ g. record { guest = g; steps = min s.config.slice (slice_index left g) } in
    let none : position has_some left ≡ None = both_none (option_map (λ k. s.turns.from + k) (position has_some (drop s.turns.from left))) (position has_some left) (no_turn s.turns.is_begun (next_guest s.turns.from left) piece running e) in
    both (nat_lt i (length left))
    (λ inside. let zero_left : slice_index left i ≤ 0 = ltb-false 0 (slice_index left i) (passes_none has_some left i none (ltb-true i (length left) inside)) in omega (arith, zero_left))
    (λ outside. get_or_past left i 0 (ltb-false i (length left) outside))
