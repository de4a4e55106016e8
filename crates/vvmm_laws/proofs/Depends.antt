-- What an object's device gets depends on the inputs of those objects alone from which it is reached, and on its own.
use Rattle.std.proofs.Common.{◌≡◌, ◌≢◌, ◌<◌, ◌==◌, ℕ, zero, suc, List, [], ◌∷◌, ◌++◌, length, map, filter, Bool, true, false, refl, sym, ap, ◌∙◌, Option, Some, None, option_map, slice_get, slice_index_or, true≢false, ◌⊎◌, inl, inr, arith}
use Rattle.std.specs.Prelude.{bytes_eq}
use Rattle.std.proofs.lemmas.Bool.{and_parts, cases_order, eq-eqb, eqb-true, false≢true}
use Rattle.sys_flow.specs.Reach.{IsReached, IsGuestAt, IsPrinterAt, IsTerminalAt, IsTheAudit, IsVolumeAt, ObjectPlace, all_objects}
use Rattle.vvmm_laws.proofs.Closed.{closed_sets_are_apart}
use Rattle.vvmm_laws.proofs.Reached.{Decides, apart_closed, apart_from, by_number, decided, get_front, get_within, is_apart}
use Rattle.vvmm_laws.specs.Reach.{AgreeAt, AgreeOn, DependsOnlyOnReached, DifferIn, DifferOnlyAt, SameDevice, SameDrive, SameOn, UnnamedIsApart, events_without, is_far_event, is_far_place, is_of_another, line_of_audit, line_of_guest, line_of_printer, line_of_terminal}
use Rattle.sys_objects.specs.Condition.{IsConfig}
use Rattle.sys_objects.specs.Rules.{guest_object, objects_of, printer_object, terminal_object, volume_object}
use Rattle.sys_objects.specs.declared.records.Config.{Config}
use Rattle.sys_objects.specs.declared.records.Terminal.{Terminal}
use Rattle.sys_objects.specs.declared.records.VolumeRow.{VolumeRow}
use Rattle.sys_objects.specs.declared.rules.Object.{Object as Named}
use Rattle.sys_purge.proofs.EventBytes.{known}
use Rattle.sys_purge.proofs.Judged.{get_map}
use Rattle.sys_purge.proofs.Kept.{both}
use Rattle.sys_state.specs.Bytes.{drive_blocks, line_bytes}
use Rattle.sys_state.specs.Events.{is_named}
use Rattle.sys_state.specs.Places.{place_of}
use Rattle.sys_state.specs.Run.{Input}
use Rattle.sys_script.specs.declared.event.Event.{Event}

-- what can't differ is equal
abbrev Decided : Type 0 → Type 0
Decided A = A ⊎ (A → ⊥)

number_decided : (m n : ℕ) → Decided (m ≡ n)
number_decided m n = both (m == n) (λ e. inl (eqb-true m n e)) (λ e. inr (λ s. true≢false (sym (eq-eqb m n s) ∙ e)))

one_decided : {X : Type 0} (x y : X) (xs ys : List X) → Decided (x ≡ y) → Decided (xs ≡ ys) → Decided (x ∷ xs ≡ y ∷ ys)
one_decided x y xs ys (inl a) (inl b) = inl (λ i. a i ∷ b i)
one_decided x y xs ys (inl a) (inr b) = inr (λ e. let s : xs ≡ ys = cc in b s)
one_decided x y xs ys (inr a) d = inr (λ e. let s : x ≡ y = cc in a s)

list_decided : {X : Type 0} → ((x y : X) → Decided (x ≡ y)) → (xs ys : List X) → Decided (xs ≡ ys)
list_decided d [] [] = inl refl
list_decided {X} d [] (y ∷ ys) = inr (λ e. let h : ⊥ = cc in h)
list_decided {X} d (x ∷ xs) [] = inr (λ e. let h : ⊥ = cc in h)
list_decided d (x ∷ xs) (y ∷ ys) = one_decided x y xs ys (d x y) (list_decided d xs ys)

by_decision : (A : Type 0) → Decided A → ((A → ⊥) → ⊥) → A
by_decision A (inl a) k = a
by_decision A (inr n) k = absurd (k n)

line_stays : (x y : Input) (o : Option ℕ) → ((SameOn o x y → ⊥) → ⊥) → SameOn o x y
line_stays x y None k = tt
line_stays x y (Some line) k = by_decision (line_bytes x line ≡ line_bytes y line) (list_decided number_decided (line_bytes x line) (line_bytes y line)) k

drive_stays : (x y : Input) (o : Option VolumeRow) → ((SameDrive o x y → ⊥) → ⊥) → SameDrive o x y
drive_stays x y None k = tt
drive_stays x y (Some v) k = by_decision (drive_blocks x v.drive ≡ drive_blocks y v.drive) (list_decided (list_decided number_decided) (drive_blocks x v.drive) (drive_blocks y v.drive)) k

device_stays : (x y : Input) (b : ObjectPlace) → ((SameDevice b x y → ⊥) → ⊥) → SameDevice b x y
device_stays x y (IsTerminalAt t) k = line_stays x y (line_of_terminal (slice_get x.config.terminals t)) k
device_stays x y (IsVolumeAt v) k = drive_stays x y (slice_get x.config.volumes v) k
device_stays x y (IsPrinterAt p) k = line_stays x y (line_of_printer (slice_get x.config.printers p)) k
device_stays x y (IsGuestAt g) k = line_stays x y (line_of_guest (slice_get x.config.guests g)) k
device_stays x y IsTheAudit k = line_stays x y (line_of_audit x.config.audit) k

same_bytes : (a b : List ℕ) → bytes_eq a b ≡ true → a ≡ b
same_bytes [] [] h = refl
same_bytes [] (y ∷ b) h = absurd (false≢true h)
same_bytes (x ∷ a) [] h = absurd (false≢true h)
same_bytes (x ∷ a) (y ∷ b) h = let p = and_parts (x == y) (bytes_eq a b) h in let one = eqb-true x y p.0 in let rest = same_bytes a b p.1 in λ i. one i ∷ rest i

-- the first that passes is the only one
place_only : {X : Type 0} (p : X → Bool) (xs : List X) (k : ℕ) (x : X) → slice_get xs k ≡ Some x → p x ≡ true → ((j : ℕ) (y : X) → slice_get xs j ≡ Some y → p y ≡ true → j ≡ k) → place_of p xs ≡ Some k
place_only p [] k x at e only = cc
place_only p (y ∷ ys) zero x at e only = let s : y ≡ x = cc in let t : p y ≡ true = ap p s ∙ e in rw t refl
place_only p (y ∷ ys) (suc k) x at e only = both (p y)
    (λ t. absurd (omega (arith, only 0 y refl t)))
    (λ t. rw t (ap (option_map suc) (place_only p ys k x at e (λ j z at_z h. let s = only (suc j) z at_z h in omega (arith, s)))))

index_is : {X : Type 0} (xs : List X) (k : ℕ) (x d : X) → slice_get xs k ≡ Some x → slice_index_or xs k d ≡ x
index_is [] k x d at = cc
index_is (y ∷ ys) zero x d at = cc
index_is (y ∷ ys) (suc k) x d at = index_is ys k x d at

module _ (c : Config) (is : IsConfig c) where
  abbrev ts : List Named
  ts = map terminal_object c.terminals

  abbrev vs : List Named
  vs = map volume_object c.volumes

  abbrev qs : List Named
  qs = map printer_object c.printers

  abbrev gs : List Named
  gs = map guest_object c.guests

  named_at : (t : ℕ) (x : Terminal) → slice_get c.terminals t ≡ Some x → slice_get (objects_of c) t ≡ Some (terminal_object x)
  named_at t x at =
      let here : slice_get ts t ≡ Some (terminal_object x) = get_map terminal_object c.terminals t ∙ ap (option_map terminal_object) at in
      get_front ((ts ++ vs) ++ qs) gs t (terminal_object x) (get_front (ts ++ vs) qs t (terminal_object x) (get_front ts vs t (terminal_object x) here))

  names_apart : (j k : ℕ) (x y : Terminal) → slice_get c.terminals j ≡ Some x → slice_get c.terminals k ≡ Some y → j < k → x.name ≡ y.name → ⊥
  names_apart j k x y at_x at_y before e =
      let d : Named = terminal_object x in
      let left : slice_index_or (objects_of c) j d ≡ terminal_object x = index_is (objects_of c) j (terminal_object x) d (named_at j x at_x) in
      let right : slice_index_or (objects_of c) k d ≡ terminal_object y = index_is (objects_of c) k (terminal_object y) d (named_at k y at_y) in
      is.names j k d before (get_within (objects_of c) k (terminal_object y) (named_at k y at_y)) (ap (λ (o : Named). o.name) left ∙ e ∙ sym (ap (λ (o : Named). o.name) right))

  one_name : (j k : ℕ) (x y : Terminal) → slice_get c.terminals j ≡ Some x → slice_get c.terminals k ≡ Some y → x.name ≡ y.name → j ≡ k
  one_name j k x y at_x at_y e = by_order (cases_order j k)
    where
      by_order : (j ≡ k) ⊎ ((j < k) ⊎ (k < j)) → j ≡ k
      by_order (inl s) = s
      by_order (inr (inl before)) = absurd (names_apart j k x y at_x at_y before e)
      by_order (inr (inr later)) = absurd (names_apart k j y x at_y at_x later (sym e))

  -- an event of a terminal of the set is one of another terminal than this
  module _ (far : ObjectPlace → Bool) (t : ℕ) (near : far (IsTerminalAt t) ≡ false) where
    own_event : (x : Terminal) → slice_get c.terminals t ≡ Some x → (e : Event) → bytes_eq x.name e.terminal ≡ true → is_far_event c far e ≡ false
    own_event x at e same =
        let name : x.name ≡ e.terminal = same_bytes x.name e.terminal same in
        let place : place_of (is_named e.terminal) c.terminals ≡ Some t =
        place_only (is_named e.terminal) c.terminals t x at same (λ j y at_y h. one_name j t y x at_y at (same_bytes y.name e.terminal h ∙ sym name)) in
        ap (is_far_place far) place ∙ near

    other_event : (o : Option Terminal) → slice_get c.terminals t ≡ o → (e : Event) → is_far_event c far e ≡ true → is_of_another o e ≡ true
    other_event None at e f = refl
    other_event (Some x) at e f = both (bytes_eq x.name e.terminal)
        (λ same. absurd (true≢false (sym f ∙ own_event x at e same)))
        (λ same. rw same refl)

    same_events : (es fs : List Event) → events_without c (IsTerminalAt t) es ≡ events_without c (IsTerminalAt t) fs → filter (is_far_event c far) es ≡ filter (is_far_event c far) fs
    same_events es fs same =
        let own : Event → Bool = is_of_another (slice_get c.terminals t) in
        let weaker = other_event (slice_get c.terminals t) refl in
        sym (known (is_far_event c far) own es weaker) ∙ ap (filter (is_far_event c far)) same ∙ known (is_far_event c far) own fs weaker

-- at the places of a set that lacks one
equal_agree : {X : Type 0} (far : ℕ → Bool) (xs ys : List X) → xs ≡ ys → AgreeAt far xs ys
equal_agree far xs ys e = (ap length e, λ k f. ap (λ zs. slice_get zs k) e)

but_agree : {X : Type 0} (far : ℕ → Bool) (j : ℕ) → far j ≡ false → (xs ys : List X) → DifferOnlyAt j xs ys → AgreeAt far xs ys
but_agree far j near xs ys h = (h.0, λ k f. h.1 k (λ same. true≢false (sym f ∙ ap far same ∙ near)))

module _ (x y : Input) (is : IsConfig x.config) (far : ObjectPlace → Bool) where
  agree_on : (a : ObjectPlace) → far a ≡ false → DifferIn a x y → AgreeOn far x y
  agree_on (IsTerminalAt t) near d = record {
    config = d.config;
    rounds = d.rounds;
    events = same_events x.config is far t near x.events y.events d.events;
    images = equal_agree (λ g. far (IsGuestAt g)) x.images y.images d.images;
    volumes = equal_agree (λ v. far (IsVolumeAt v)) x.volumes y.volumes d.volumes;
  }
  agree_on (IsVolumeAt v) near d = record {
    config = d.config;
    rounds = d.rounds;
    events = ap (filter (is_far_event x.config far)) d.events;
    images = equal_agree (λ g. far (IsGuestAt g)) x.images y.images d.images;
    volumes = but_agree (λ w. far (IsVolumeAt w)) v near x.volumes y.volumes d.volumes;
  }
  agree_on (IsPrinterAt p) near d = record {
    config = d.config;
    rounds = d.rounds;
    events = ap (filter (is_far_event x.config far)) d.events;
    images = equal_agree (λ g. far (IsGuestAt g)) x.images y.images d.images;
    volumes = equal_agree (λ v. far (IsVolumeAt v)) x.volumes y.volumes d.volumes;
  }
  agree_on (IsGuestAt g) near d = record {
    config = d.config;
    rounds = d.rounds;
    events = ap (filter (is_far_event x.config far)) d.events;
    images = but_agree (λ h. far (IsGuestAt h)) g near x.images y.images d.images;
    volumes = equal_agree (λ v. far (IsVolumeAt v)) x.volumes y.volumes d.volumes;
  }
  agree_on IsTheAudit near d = record {
    config = d.config;
    rounds = d.rounds;
    events = ap (filter (is_far_event x.config far)) d.events;
    images = equal_agree (λ g. far (IsGuestAt g)) x.images y.images d.images;
    volumes = equal_agree (λ v. far (IsVolumeAt v)) x.volumes y.volumes d.volumes;
  }

-- the object itself isn't of the set, and what isn't reached is
itself_near : (c : Config) (a : ℕ) (f : ℕ → Bool) → is_apart c a f a ≡ false
itself_near c a f = let same = eq-eqb a a refl in both (f a) (λ e. rw e refl) (λ e. rw (e, same) refl)

unreached_far : (c : Config) (a : ℕ) (f : ℕ → Bool) → Decides (IsReached c a) (length (all_objects c)) f → (b : ℕ) (to : ObjectPlace) → slice_get (all_objects c) b ≡ Some to → a ≢ b → (IsReached c a b → ⊥) → is_apart c a f b ≡ true
unreached_far c a f decides b to at other not_reached = both (f b)
    (λ e. absurd (not_reached ((decides b (get_within (all_objects c) b to at)).0 e)))
    (λ e. both (b == a) (λ s. absurd (other (sym (eqb-true b a s)))) (λ s. rw (e, s) refl))

pub depends_only_on_reached : DependsOnlyOnReached
depends_only_on_reached x y a b from to is at_from at_to other not_reached differ =
    let c : Config = x.config in
    device_stays x y to (λ wrong. decided (IsReached c a) (length (all_objects c)) (λ f decides.
    let far : ObjectPlace → Bool = apart_from c a f in
    let near : far from ≡ false = by_number c a f a from at_from ∙ itself_near c a f in
    let away : far to ≡ true = by_number c a f b to at_to ∙ unreached_far c a f decides b to at_to other not_reached in
    wrong (closed_sets_are_apart x y far to is (apart_closed c a f is decides) (agree_on x y is far from near differ) away)))

pub unnamed_is_apart : UnnamedIsApart
unnamed_is_apart x y rows a b from to is rows_are at_from at_to other unnamed differ =
    depends_only_on_reached x y a b from to is at_from at_to other (λ reached. true≢false (sym (rows_are.complete a b reached) ∙ unnamed)) differ
