-- What is reached from an object and the object itself are all that isn't of a closed set.
use Rattle.std.proofs.Common.{◌≡◌, ◌<◌, ◌+◌, ◌==◌, ◌||◌, ℕ, zero, suc, List, [], ◌∷◌, ◌++◌, length, Bool, true, false, not, refl, sym, ap, ◌∙◌, subst, Option, Some, None, slice_get, if◌then◌else◌, true≢false, ◌⊎◌, inl, inr, arith}
use Rattle.std.proofs.lemmas.Bool.{and_parts, cases_order, eq-eqb, eqb-true, false≢true}
use Rattle.sys_flow.specs.Reach.{IsReached, IsGuestAt, IsPrinterAt, IsTerminalAt, IsTheAudit, IsVolumeAt, ObjectPlace, all_objects, audit_object, has_edge, is_edge, is_place, leads, numbered_from}
use Rattle.vvmm_laws.specs.Reach.{IsClosed}
use Rattle.sys_objects.specs.Condition.{IsConfig, MayHave}
use Rattle.sys_objects.specs.Rules.{flows_into, may_print}
use Rattle.sys_objects.specs.declared.records.Audit.{Audit}
use Rattle.sys_objects.specs.declared.records.Config.{Config}
use Rattle.sys_objects.specs.declared.records.GuestRow.{GuestRow}
use Rattle.sys_objects.specs.declared.records.PrinterRow.{PrinterRow}
use Rattle.sys_objects.specs.declared.records.Terminal.{Terminal}
use Rattle.sys_objects.specs.declared.records.VolumeRow.{VolumeRow}
use Rattle.sys_purge.proofs.Fits.{all_get}
use Rattle.sys_purge.proofs.Kept.{both}

-- Of numbers below a bound, it isn't so that no test decides a property of them.
abbrev pub Decides : (ℕ → Type 0) → ℕ → (ℕ → Bool) → Type 0
Decides P n f = (i : ℕ) → i < n → (f i ≡ true → P i) × (f i ≡ false → P i → ⊥)

abbrev with_one : (ℕ → Bool) → ℕ → Bool → ℕ → Bool
with_one f n v i = if i == n then v else f i

decides_more : (P : ℕ → Type 0) (n : ℕ) (f : ℕ → Bool) → Decides P n f → (v : Bool) → (v ≡ true → P n) → (v ≡ false → P n → ⊥) → Decides P (suc n) (with_one f n v)
decides_more P n f d v has lacks i within = both (i == n)
    (λ e.
    let same : i ≡ n = eqb-true i n e in
    let value : with_one f n v i ≡ v = rw e refl in
    ((λ t. subst P (sym same) (has (sym value ∙ t))), (λ t p. lacks (sym value ∙ t) (subst P same p))))
    (λ e.
    let other : i < n = below i n within e in
    let value : with_one f n v i ≡ f i = rw e refl in
    let known = d i other in
    ((λ t. known.0 (sym value ∙ t)), (λ t p. known.1 (sym value ∙ t) p)))
  where
    below : (i n : ℕ) → i < suc n → (i == n) ≡ false → i < n
    below i n within e = by_order i n within e (cases_order i n)
      where
        by_order : (i n : ℕ) → i < suc n → (i == n) ≡ false → (i ≡ n) ⊎ ((i < n) ⊎ (n < i)) → i < n
        by_order i n within e (inl s) = absurd (true≢false (sym (eq-eqb i n s) ∙ e))
        by_order i n within e (inr (inl s)) = s
        by_order i n within e (inr (inr s)) = absurd (omega (arith, s, within))

pub decided : (P : ℕ → Type 0) (n : ℕ) → ((f : ℕ → Bool) → Decides P n f → ⊥) → ⊥
decided P zero k = k (λ i. false) (λ i within. absurd (omega (arith, within)))
decided P (suc n) k = decided P n (λ f d.
    let lacks : P n → ⊥ = λ p. k (with_one f n true) (decides_more P n f d true (λ t. p) (λ t q. true≢false t)) in
    k (with_one f n false) (decides_more P n f d false (λ t. absurd (false≢true t)) (λ t p. lacks p)))

-- lists by places
pub get_within : {X : Type 0} (xs : List X) (k : ℕ) (x : X) → slice_get xs k ≡ Some x → k < length xs
get_within [] k x at = cc
get_within (y ∷ ys) zero x at = omega arith
get_within (y ∷ ys) (suc k) x at = let rest = get_within ys k x at in omega (arith, rest)

pub get_front : {X : Type 0} (xs ys : List X) (k : ℕ) (x : X) → slice_get xs k ≡ Some x → slice_get (xs ++ ys) k ≡ Some x
get_front [] ys k x at = cc
get_front (z ∷ zs) ys zero x at = at
get_front (z ∷ zs) ys (suc k) x at = get_front zs ys k x at

pub get_after : {X : Type 0} (xs ys : List X) (k : ℕ) → slice_get (xs ++ ys) (length xs + k) ≡ slice_get ys k
get_after [] ys k = let e : 0 + k ≡ k = omega arith in ap (slice_get ys) e
get_after (z ∷ zs) ys k = let e : suc (length zs) + k ≡ suc (length zs + k) = omega arith in ap (slice_get (z ∷ zs ++ ys)) e ∙ get_after zs ys k

-- an element comes before or after
abbrev Later : {X : Type 0} → List X → List X → ℕ → X → Type 0
Later xs ys k x = (j : ℕ) × (k ≡ length xs + j) × (slice_get ys j ≡ Some x)

one_later : {X : Type 0} (z : X) (zs ys : List X) (k : ℕ) (x : X) → (slice_get zs k ≡ Some x) ⊎ Later zs ys k x → (slice_get zs k ≡ Some x) ⊎ Later (z ∷ zs) ys (suc k) x
one_later z zs ys k x (inl at) = inl at
one_later z zs ys k x (inr b) = inr (b.0, omega (arith, b.1), b.2)

where_is : {X : Type 0} (xs ys : List X) (k : ℕ) (x : X) → slice_get (xs ++ ys) k ≡ Some x → (slice_get xs k ≡ Some x) ⊎ Later xs ys k x
where_is [] ys k x at = inr (k, omega arith, at)
where_is (z ∷ zs) ys zero x at = inl at
where_is (z ∷ zs) ys (suc k) x at = one_later z zs ys k x (where_is zs ys k x at)

get_numbered : {A : Type 0} (object : ℕ → ObjectPlace) (i : ℕ) (xs : List A) (k j : ℕ) (x : A) → i + k ≡ j → slice_get xs k ≡ Some x → slice_get (numbered_from object i xs) k ≡ Some (object j)
get_numbered object i [] k j x e at = cc
get_numbered object i (y ∷ ys) zero j x e at = let same : i ≡ j = omega (arith, e) in ap (λ (n : ℕ). Some (object n)) same
get_numbered object i (y ∷ ys) (suc k) j x e at = get_numbered object (suc i) ys k j x (omega (arith, e)) at

-- what is at a number
abbrev Numbered : {A : Type 0} → (ℕ → ObjectPlace) → List A → ℕ → ℕ → ObjectPlace → Type 0
Numbered {A} object xs k j p = (x : A) × (slice_get xs k ≡ Some x) × (object j ≡ p)

numbered_is : {A : Type 0} (object : ℕ → ObjectPlace) (i : ℕ) (xs : List A) (k j : ℕ) (p : ObjectPlace) → i + k ≡ j → slice_get (numbered_from object i xs) k ≡ Some p → Numbered object xs k j p
numbered_is object i [] k j p e at = cc
numbered_is object i (y ∷ ys) zero j p e at = let same : i ≡ j = omega (arith, e) in let is : object i ≡ p = cc in (y, refl, ap object (sym same) ∙ is)
numbered_is object i (y ∷ ys) (suc k) j p e at = numbered_is object (suc i) ys k j p (omega (arith, e)) at

-- one edge more
pub leads_more : (c : Config) (a : ℕ) (via : List ℕ) (i j : ℕ) → leads c a via i ≡ true → has_edge c i j ≡ true → leads c a (via ++ i ∷ []) j ≡ true
leads_more c a [] i j h e = rw (h, e) refl
leads_more c a (v ∷ via) i j h e =
    let p = and_parts (has_edge c a v) (leads c v via i) h in
    let rest = leads_more c v via i j p.1 e in
    rw (p.0, rest) refl

module _ (c : Config) (a : ℕ) (f : ℕ → Bool) where
  abbrev to_terminals : List ObjectPlace
  to_terminals = numbered_from IsTerminalAt 0 c.terminals

  abbrev to_volumes : List ObjectPlace
  to_volumes = to_terminals ++ numbered_from IsVolumeAt 0 c.volumes

  abbrev to_printers : List ObjectPlace
  to_printers = to_volumes ++ numbered_from IsPrinterAt 0 c.printers

  abbrev to_guests : List ObjectPlace
  to_guests = to_printers ++ numbered_from IsGuestAt 0 c.guests

  -- what is neither reached nor the object itself
  abbrev pub is_apart : ℕ → Bool
  is_apart i = not (f i || i == a)

  abbrev if_there : {X : Type 0} → Option X → Bool → Bool
  if_there None b = true
  if_there (Some x) b = b

  abbrev if_audited : Option Audit → Bool → Bool
  if_audited None b = false
  if_audited (Some x) b = b

  abbrev pub apart_from : ObjectPlace → Bool
  apart_from (IsTerminalAt t) = if_there (slice_get c.terminals t) (is_apart t)
  apart_from (IsVolumeAt v) = if_there (slice_get c.volumes v) (is_apart (length to_terminals + v))
  apart_from (IsPrinterAt p) = if_there (slice_get c.printers p) (is_apart (length to_volumes + p))
  apart_from (IsGuestAt g) = if_there (slice_get c.guests g) (is_apart (length to_printers + g))
  apart_from IsTheAudit = if_audited c.audit (is_apart (length to_guests + 0))

  -- the objects by their numbers
  terminal_number : (t : ℕ) (x : Terminal) → slice_get c.terminals t ≡ Some x → slice_get (all_objects c) t ≡ Some (IsTerminalAt t)
  terminal_number t x at =
      let here : slice_get to_terminals t ≡ Some (IsTerminalAt t) = get_numbered IsTerminalAt 0 c.terminals t t x (omega arith) at in
      get_front to_guests (audit_object c.audit) t (IsTerminalAt t) (get_front to_printers (numbered_from IsGuestAt 0 c.guests) t (IsTerminalAt t)
      (get_front to_volumes (numbered_from IsPrinterAt 0 c.printers) t (IsTerminalAt t) (get_front to_terminals (numbered_from IsVolumeAt 0 c.volumes) t (IsTerminalAt t) here)))

  volume_number : (v : ℕ) (x : VolumeRow) → slice_get c.volumes v ≡ Some x → slice_get (all_objects c) (length to_terminals + v) ≡ Some (IsVolumeAt v)
  volume_number v x at =
      let own : slice_get (numbered_from IsVolumeAt 0 c.volumes) v ≡ Some (IsVolumeAt v) = get_numbered IsVolumeAt 0 c.volumes v v x (omega arith) at in
      let here = get_after to_terminals (numbered_from IsVolumeAt 0 c.volumes) v ∙ own in
      get_front to_guests (audit_object c.audit) (length to_terminals + v) (IsVolumeAt v) (get_front to_printers (numbered_from IsGuestAt 0 c.guests) (length to_terminals + v) (IsVolumeAt v)
      (get_front to_volumes (numbered_from IsPrinterAt 0 c.printers) (length to_terminals + v) (IsVolumeAt v) here))

  printer_number : (p : ℕ) (x : PrinterRow) → slice_get c.printers p ≡ Some x → slice_get (all_objects c) (length to_volumes + p) ≡ Some (IsPrinterAt p)
  printer_number p x at =
      let own : slice_get (numbered_from IsPrinterAt 0 c.printers) p ≡ Some (IsPrinterAt p) = get_numbered IsPrinterAt 0 c.printers p p x (omega arith) at in
      let here = get_after to_volumes (numbered_from IsPrinterAt 0 c.printers) p ∙ own in
      get_front to_guests (audit_object c.audit) (length to_volumes + p) (IsPrinterAt p) (get_front to_printers (numbered_from IsGuestAt 0 c.guests) (length to_volumes + p) (IsPrinterAt p) here)

  guest_number : (g : ℕ) (x : GuestRow) → slice_get c.guests g ≡ Some x → slice_get (all_objects c) (length to_printers + g) ≡ Some (IsGuestAt g)
  guest_number g x at =
      let own : slice_get (numbered_from IsGuestAt 0 c.guests) g ≡ Some (IsGuestAt g) = get_numbered IsGuestAt 0 c.guests g g x (omega arith) at in
      let here = get_after to_printers (numbered_from IsGuestAt 0 c.guests) g ∙ own in
      get_front to_guests (audit_object c.audit) (length to_printers + g) (IsGuestAt g) here

  audit_number : (x : Audit) → c.audit ≡ Some x → slice_get (all_objects c) (length to_guests + 0) ≡ Some IsTheAudit
  audit_number x at = get_after to_guests (audit_object c.audit) 0 ∙ ap (λ (o : Option Audit). slice_get (audit_object o) 0) at

  -- an object that exists is of the set by its number
  module _ (i : ℕ) (p : ObjectPlace) where
    in_terminals : slice_get to_terminals i ≡ Some p → apart_from p ≡ is_apart i
    in_terminals at =
        let is = numbered_is IsTerminalAt 0 c.terminals i i p (omega arith) at in
        let there = is.1 in
        ap apart_from (sym is.2) ∙ rw there refl

    in_volumes : (j : ℕ) → i ≡ length to_terminals + j → slice_get (numbered_from IsVolumeAt 0 c.volumes) j ≡ Some p → apart_from p ≡ is_apart i
    in_volumes j e at =
        let is = numbered_is IsVolumeAt 0 c.volumes j j p (omega arith) at in
        let there = is.1 in
        ap apart_from (sym is.2) ∙ rw there (ap is_apart (sym e))

    in_printers : (j : ℕ) → i ≡ length to_volumes + j → slice_get (numbered_from IsPrinterAt 0 c.printers) j ≡ Some p → apart_from p ≡ is_apart i
    in_printers j e at =
        let is = numbered_is IsPrinterAt 0 c.printers j j p (omega arith) at in
        let there = is.1 in
        ap apart_from (sym is.2) ∙ rw there (ap is_apart (sym e))

    in_guests : (j : ℕ) → i ≡ length to_printers + j → slice_get (numbered_from IsGuestAt 0 c.guests) j ≡ Some p → apart_from p ≡ is_apart i
    in_guests j e at =
        let is = numbered_is IsGuestAt 0 c.guests j j p (omega arith) at in
        let there = is.1 in
        ap apart_from (sym is.2) ∙ rw there (ap is_apart (sym e))

    in_audit : (o : Option Audit) → c.audit ≡ o → (j : ℕ) → i ≡ length to_guests + j → slice_get (audit_object o) j ≡ Some p → apart_from p ≡ is_apart i
    in_audit None o j e at = cc
    in_audit (Some x) o zero e at =
        let is : IsTheAudit ≡ p = cc in
        ap apart_from (sym is) ∙ rw o (ap is_apart (sym e))
    in_audit (Some x) o (suc j) e at = cc

    of_volumes : (slice_get to_terminals i ≡ Some p) ⊎ Later to_terminals (numbered_from IsVolumeAt 0 c.volumes) i p → apart_from p ≡ is_apart i
    of_volumes (inl at) = in_terminals at
    of_volumes (inr b) = in_volumes b.0 b.1 b.2

    of_printers : (slice_get to_volumes i ≡ Some p) ⊎ Later to_volumes (numbered_from IsPrinterAt 0 c.printers) i p → apart_from p ≡ is_apart i
    of_printers (inl at) = of_volumes (where_is to_terminals (numbered_from IsVolumeAt 0 c.volumes) i p at)
    of_printers (inr b) = in_printers b.0 b.1 b.2

    of_guests : (slice_get to_printers i ≡ Some p) ⊎ Later to_printers (numbered_from IsGuestAt 0 c.guests) i p → apart_from p ≡ is_apart i
    of_guests (inl at) = of_printers (where_is to_volumes (numbered_from IsPrinterAt 0 c.printers) i p at)
    of_guests (inr b) = in_guests b.0 b.1 b.2

    of_all : (slice_get to_guests i ≡ Some p) ⊎ Later to_guests (audit_object c.audit) i p → apart_from p ≡ is_apart i
    of_all (inl at) = of_guests (where_is to_printers (numbered_from IsGuestAt 0 c.guests) i p at)
    of_all (inr b) = in_audit c.audit refl b.0 b.1 b.2

    pub by_number : slice_get (all_objects c) i ≡ Some p → apart_from p ≡ is_apart i
    by_number at = of_all (where_is to_guests (audit_object c.audit) i p at)

  -- the set is closed
  module _ (is : IsConfig c) (decides : Decides (IsReached c a) (length (all_objects c)) f) where
    reached_on : (i j : ℕ) (p q : ObjectPlace) → slice_get (all_objects c) i ≡ Some p → slice_get (all_objects c) j ≡ Some q → is_edge c p q ≡ true → f i ≡ true → IsReached c a j
    reached_on i j p q at_i at_j e r =
        let to_i : IsReached c a i = (decides i (get_within (all_objects c) i p at_i)).0 r in
        let edge : has_edge c i j ≡ true = rw (at_i, at_j) e in
        record { via = to_i.via ++ i ∷ []; lead = leads_more c a to_i.via i j to_i.lead edge }

    reached_first : (i j : ℕ) (p q : ObjectPlace) → slice_get (all_objects c) i ≡ Some p → slice_get (all_objects c) j ≡ Some q → is_edge c p q ≡ true → i ≡ a → IsReached c a j
    reached_first i j p q at_i at_j e s =
        let edge : has_edge c i j ≡ true = rw (at_i, at_j) e in
        record { via = []; lead = subst (λ (n : ℕ). has_edge c n j ≡ true) s edge }

    reached_so : (j : ℕ) (q : ObjectPlace) → slice_get (all_objects c) j ≡ Some q → IsReached c a j → is_apart j ≡ false
    reached_so j q at r = both (f j) (λ e. rw e refl) (λ e. absurd ((decides j (get_within (all_objects c) j q at)).1 e r))

    near_on : (i j : ℕ) (p q : ObjectPlace) → slice_get (all_objects c) i ≡ Some p → slice_get (all_objects c) j ≡ Some q → is_edge c p q ≡ true → is_apart j ≡ true → is_apart i ≡ true
    near_on i j p q at_i at_j e apart = both (f i)
        (λ r. absurd (true≢false (sym apart ∙ reached_so j q at_j (reached_on i j p q at_i at_j e r))))
        (λ r. both (i == a)
        (λ s. absurd (true≢false (sym apart ∙ reached_so j q at_j (reached_first i j p q at_i at_j e (eqb-true i a s)))))
        (λ s. rw (r, s) refl))

    terminal_guest : (t g : ℕ) (o : Option Terminal) (u : Option GuestRow) → slice_get c.terminals t ≡ o → slice_get c.guests g ≡ u → is_edge c (IsTerminalAt t) (IsGuestAt g) ≡ true → apart_from (IsGuestAt g) ≡ true → apart_from (IsTerminalAt t) ≡ true
    terminal_guest t g None u at_o at_u e h = rw at_o refl
    terminal_guest t g (Some x) None at_o at_u e h = absurd (false≢true (rw (at_o, at_u) at e))
    terminal_guest t g (Some x) (Some y) at_o at_u e h =
        let there : is_apart (length to_printers + g) ≡ true = rw at_u at h in
        rw at_o (near_on t (length to_printers + g) (IsTerminalAt t) (IsGuestAt g) (terminal_number t x at_o) (guest_number g y at_u) e there)

    terminal_audit : (t : ℕ) (o : Option Terminal) (u : Option Audit) → slice_get c.terminals t ≡ o → c.audit ≡ u → apart_from IsTheAudit ≡ true → apart_from (IsTerminalAt t) ≡ true
    terminal_audit t None u at_o at_u h = rw at_o refl
    terminal_audit t (Some x) None at_o at_u h = absurd (false≢true (rw at_u at h))
    terminal_audit t (Some x) (Some y) at_o at_u h =
        let there : is_apart (length to_guests + 0) ≡ true = rw at_u at h in
        rw at_o (near_on t (length to_guests + 0) (IsTerminalAt t) IsTheAudit (terminal_number t x at_o) (audit_number y at_u) refl there)

    guest_terminal : (g t : ℕ) (u : Option GuestRow) (o : Option Terminal) → slice_get c.guests g ≡ u → slice_get c.terminals t ≡ o → is_edge c (IsGuestAt g) (IsTerminalAt t) ≡ true → apart_from (IsTerminalAt t) ≡ true → apart_from (IsGuestAt g) ≡ true
    guest_terminal g t None o at_u at_o e h = rw at_u refl
    guest_terminal g t (Some x) None at_u at_o e h = absurd (false≢true (rw (at_u, at_o) at e))
    guest_terminal g t (Some x) (Some y) at_u at_o e h =
        let there : is_apart t ≡ true = rw at_o at h in
        rw at_u (near_on (length to_printers + g) t (IsGuestAt g) (IsTerminalAt t) (guest_number g x at_u) (terminal_number t y at_o) e there)

    place_is : (p : ℕ) (o : Option ℕ) → is_place p o ≡ true → o ≡ Some p
    place_is p None e = absurd (false≢true e)
    place_is p (Some n) e = ap Some (eqb-true n p e)

    no_printer : (g p : ℕ) (x : GuestRow) → slice_get c.guests g ≡ Some x → is_place p x.printer ≡ true → slice_get c.printers p ≡ None → ⊥
    no_printer g p x at e none =
        let may : may_print c.printers x.class x.printer ≡ true = (all_get (MayHave c) c.guests g x is.held at).printer in
        let own : x.printer ≡ Some p = place_is p x.printer e in
        let flow : flows_into x.class (slice_get c.printers p) ≡ true = rw own at may in
        false≢true (rw none at flow)

    guest_printer : (g p : ℕ) (u : Option GuestRow) (o : Option PrinterRow) → slice_get c.guests g ≡ u → slice_get c.printers p ≡ o → is_edge c (IsGuestAt g) (IsPrinterAt p) ≡ true → apart_from (IsPrinterAt p) ≡ true → apart_from (IsGuestAt g) ≡ true
    guest_printer g p None o at_u at_o e h = rw at_u refl
    guest_printer g p (Some x) None at_u at_o e h = absurd (no_printer g p x at_u (rw at_u at e) at_o)
    guest_printer g p (Some x) (Some y) at_u at_o e h =
        let there : is_apart (length to_volumes + p) ≡ true = rw at_o at h in
        rw at_u (near_on (length to_printers + g) (length to_volumes + p) (IsGuestAt g) (IsPrinterAt p) (guest_number g x at_u) (printer_number p y at_o) e there)

    volume_guest : (v g : ℕ) (o : Option VolumeRow) (u : Option GuestRow) → slice_get c.volumes v ≡ o → slice_get c.guests g ≡ u → is_edge c (IsVolumeAt v) (IsGuestAt g) ≡ true → apart_from (IsGuestAt g) ≡ true → apart_from (IsVolumeAt v) ≡ true
    volume_guest v g None u at_o at_u e h = rw at_o refl
    volume_guest v g (Some x) None at_o at_u e h = absurd (false≢true (rw (at_o, at_u) at e))
    volume_guest v g (Some x) (Some y) at_o at_u e h =
        let there : is_apart (length to_printers + g) ≡ true = rw at_u at h in
        rw at_o (near_on (length to_terminals + v) (length to_printers + g) (IsVolumeAt v) (IsGuestAt g) (volume_number v x at_o) (guest_number g y at_u) e there)

    guest_volume : (g v : ℕ) (u : Option GuestRow) (o : Option VolumeRow) → slice_get c.guests g ≡ u → slice_get c.volumes v ≡ o → is_edge c (IsGuestAt g) (IsVolumeAt v) ≡ true → apart_from (IsVolumeAt v) ≡ true → apart_from (IsGuestAt g) ≡ true
    guest_volume g v None o at_u at_o e h = rw at_u refl
    guest_volume g v (Some x) None at_u at_o e h = absurd (false≢true (rw (at_u, at_o) at e))
    guest_volume g v (Some x) (Some y) at_u at_o e h =
        let there : is_apart (length to_terminals + v) ≡ true = rw at_o at h in
        rw at_u (near_on (length to_printers + g) (length to_terminals + v) (IsGuestAt g) (IsVolumeAt v) (guest_number g x at_u) (volume_number v y at_o) e there)

    pub apart_closed : IsClosed c apart_from
    apart_closed (IsTerminalAt t) (IsGuestAt g) e h = terminal_guest t g (slice_get c.terminals t) (slice_get c.guests g) refl refl e h
    apart_closed (IsTerminalAt t) IsTheAudit e h = terminal_audit t (slice_get c.terminals t) c.audit refl refl h
    apart_closed (IsGuestAt g) (IsTerminalAt t) e h = guest_terminal g t (slice_get c.guests g) (slice_get c.terminals t) refl refl e h
    apart_closed (IsGuestAt g) (IsPrinterAt p) e h = guest_printer g p (slice_get c.guests g) (slice_get c.printers p) refl refl e h
    apart_closed (IsVolumeAt v) (IsGuestAt g) e h = volume_guest v g (slice_get c.volumes v) (slice_get c.guests g) refl refl e h
    apart_closed (IsGuestAt g) (IsVolumeAt v) e h = guest_volume g v (slice_get c.guests g) (slice_get c.volumes v) refl refl e h
    apart_closed p q e h = absurd (false≢true e)
