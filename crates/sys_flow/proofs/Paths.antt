-- Lists of edges whose inner objects are among the first.
use Rattle.std.proofs.Common.{◌≡◌, ◌<◌, ◌≤◌, ◌+◌, ◌∙◌, ℕ, List, [], ◌∷◌, ◌++◌, length, Bool, true, false, ◌&&◌, ◌||◌, Option, Some, None, refl, sym, subst, arith, ◌⊎◌, inl, inr}
use Rattle.std.specs.List.{slice_get}
use Rattle.std.proofs.lemmas.Bool.{cases_lt}
use Rattle.std.proofs.lemmas.Option.{slice_get_within}
use Rattle.sys_flow.specs.Reach.{ObjectPlace, IsReached, all_objects, edge_between, has_edge, leads}
use Rattle.sys_objects.specs.declared.records.Config.{Config}

pub both_true : (x y : Bool) → (x && y) ≡ true → (x ≡ true) × (y ≡ true)
both_true true y h = (refl, h)
both_true false y h = absurd (cc)

-- an edge leads from an object to an object
some_from : (c : Config) (x y : Option ObjectPlace) → edge_between c x y ≡ true → ((o : ObjectPlace) × (x ≡ Some o)) × ((o : ObjectPlace) × (y ≡ Some o))
some_from c (Some x) (Some y) h = ((x, refl), (y, refl))
some_from c (Some x) None h = absurd (cc)
some_from c None y h = absurd (cc)

pub edge_within : (c : Config) (a b : ℕ) → has_edge c a b ≡ true → (a < length (all_objects c)) × (b < length (all_objects c))
edge_within c a b h =
    let ends = some_from c (slice_get (all_objects c) a) (slice_get (all_objects c) b) h in
    (slice_get_within (all_objects c) a ends.0.0 ends.0.1, slice_get_within (all_objects c) b ends.1.0 ends.1.1)

pub no_edge_to : (c : Config) (a b : ℕ) → length (all_objects c) ≤ b → has_edge c a b ≡ false
no_edge_to c a b h = by_cases (has_edge c a b) refl where
  by_cases : (x : Bool) → has_edge c a b ≡ x → x ≡ false
  by_cases true e = absurd (omega (arith, (edge_within c a b e).1))
  by_cases false e = refl

pub no_edge_from : (c : Config) (a b : ℕ) → length (all_objects c) ≤ a → has_edge c a b ≡ false
no_edge_from c a b h = by_cases (has_edge c a b) refl where
  by_cases : (x : Bool) → has_edge c a b ≡ x → x ≡ false
  by_cases true e = absurd (omega (arith, (edge_within c a b e).0))
  by_cases false e = refl

abbrev pub AreBelow : ℕ → List ℕ → Type 0
AreBelow k [] = Unit {0}
AreBelow k (x ∷ xs) = (x < k) × AreBelow k xs

-- a list of edges through objects below k leads from a to b
pub record Through (c : Config) (k a b : ℕ) : Type 0 where
  pub via : List ℕ
  pub below : AreBelow k via
  pub lead : leads c a via b ≡ true

-- a relation that is true of these and no others
pub record IsThrough (c : Config) (k : ℕ) (has : ℕ → ℕ → Bool) : Type 0 where
  pub sound : (a b : ℕ) → has a b ≡ true → Through c k a b
  pub complete : (a b : ℕ) → Through c k a b → has a b ≡ true

pub leads-append : (c : Config) (a : ℕ) (v : List ℕ) (x : ℕ) (w : List ℕ) (b : ℕ) → leads c a v x ≡ true → leads c x w b ≡ true → leads c a (v ++ x ∷ w) b ≡ true
leads-append c a [] x w b h j = rw (h, j) refl
leads-append c a (y ∷ v) x w b h j =
    let parts = both_true (has_edge c a y) (leads c y v x) h in
    rw (parts.0) (leads-append c y v x w b parts.1 j)

below_append : (k : ℕ) (v w : List ℕ) → AreBelow k v → AreBelow k w → AreBelow k (v ++ w)
below_append k [] w h j = j
below_append k (x ∷ v) w h j = (h.0, below_append k v w h.1 j)

below_more : (k : ℕ) (v : List ℕ) → AreBelow k v → AreBelow (k + 1) v
below_more k [] h = tt
below_more k (x ∷ v) h = (omega (arith, h.0), below_more k v h.1)

-- before the first pass: the edges
pub edges_first : (c : Config) (has : ℕ → ℕ → Bool) → ((a b : ℕ) → has a b ≡ has_edge c a b) → IsThrough c 0 has
edges_first c has is = record { sound = λ a b h. record { via = []; below = tt; lead = sym (is a b) ∙ h }; complete = λ a b t. is a b ∙ direct a b t.via t.below t.lead } where
  direct : (a b : ℕ) (via : List ℕ) → AreBelow 0 via → leads c a via b ≡ true → has_edge c a b ≡ true
  direct a b [] h j = j
  direct a b (x ∷ via) h j = absurd (omega (arith, h.0))

-- a pass at k
module _ (c : Config) (k : ℕ) (has next : ℕ → ℕ → Bool) (is : IsThrough c k has) (passed : (a b : ℕ) → next a b ≡ (has a b || (has a k && has k b))) where
  wider : (a b : ℕ) → Through c k a b → Through c (k + 1) a b
  wider a b t = record { via = t.via; below = below_more k t.via t.below; lead = t.lead }

  joined : (a b : ℕ) → Through c k a k → Through c k k b → Through c (k + 1) a b
  joined a b t u = record {
    via = t.via ++ k ∷ u.via;
    below = below_append (k + 1) t.via (k ∷ u.via) (below_more k t.via t.below) (omega arith, below_more k u.via u.below);
    lead = leads-append c a t.via k u.via b t.lead u.lead;
  }

  sound_by : (a b : ℕ) (x y z : Bool) → has a b ≡ x → has a k ≡ y → has k b ≡ z → (x || (y && z)) ≡ true → Through c (k + 1) a b
  sound_by a b true y z hx hy hz h = wider a b (is.sound a b hx)
  sound_by a b false true true hx hy hz h = joined a b (is.sound a k hy) (is.sound k b hz)
  sound_by a b false true false hx hy hz h = absurd (cc)
  sound_by a b false false z hx hy hz h = absurd (cc)

  -- the way goes through k, or it doesn't
  abbrev Goes : ℕ → ℕ → Type 0
  Goes a b = (has a b ≡ true) ⊎ ((has a k ≡ true) × (has k b ≡ true))

  extended : (a x b : ℕ) → has_edge c a x ≡ true → x < k → has x b ≡ true → has a b ≡ true
  extended a x b e h j =
      let t = is.sound x b j in
      is.complete a b (record { via = x ∷ t.via; below = (h, t.below); lead = rw e t.lead })

  direct : (a b : ℕ) → has_edge c a b ≡ true → has a b ≡ true
  direct a b e = is.complete a b (record { via = []; below = tt; lead = e })

  goes_on : (a x b : ℕ) → has_edge c a x ≡ true → x < k → Goes x b → Goes a b
  goes_on a x b e h (inl j) = inl (extended a x b e h j)
  goes_on a x b e h (inr j) = inr (extended a x k e h j.0, j.1)

  goes_by : (a b : ℕ) → has_edge c a k ≡ true → Goes k b → Goes a b
  goes_by a b e (inl j) = inr (direct a k e, j)
  goes_by a b e (inr j) = inr (direct a k e, j.1)

  goes : (a b : ℕ) (via : List ℕ) → AreBelow (k + 1) via → leads c a via b ≡ true → Goes a b
  goes a b [] h j = inl (direct a b j)
  goes a b (x ∷ via) h j =
      let parts = both_true (has_edge c a x) (leads c x via b) j in
      let rest = goes x b via h.1 parts.1 in
      elim (under x h.0) [ inl l ↦ goes_on a x b parts.0 l rest | inr l ↦ goes_by a b (subst (λ (y : ℕ). has_edge c a y ≡ true) l parts.0) (subst (λ (y : ℕ). Goes y b) l rest) ]
    where
      under : (x : ℕ) → x < k + 1 → (x < k) ⊎ (x ≡ k)
      under x h = elim (cases_lt x k) [ inl l ↦ inl l | inr l ↦ inr (omega arith) ]

  complete_by : (a b : ℕ) (x y z : Bool) → has a b ≡ x → has a k ≡ y → has k b ≡ z → Goes a b → (x || (y && z)) ≡ true
  complete_by a b true y z hx hy hz g = refl
  complete_by a b false true true hx hy hz g = refl
  complete_by a b false true false hx hy hz (inl g) = absurd (cc)
  complete_by a b false true false hx hy hz (inr g) = absurd (cc (g.1))
  complete_by a b false false z hx hy hz (inl g) = absurd (cc)
  complete_by a b false false z hx hy hz (inr g) = absurd (cc (g.0))

  pub pass_on : IsThrough c (k + 1) next
  pass_on = record {
    sound = λ a b h. sound_by a b _ _ _ refl refl refl (sym (passed a b) ∙ h);
    complete = λ a b t. passed a b ∙ complete_by a b _ _ _ refl refl refl (goes a b t.via t.below t.lead);
  }

-- after the last pass
all_below : (c : Config) (a : ℕ) (via : List ℕ) (b : ℕ) → leads c a via b ≡ true → AreBelow (length (all_objects c)) via
all_below c a [] b h = tt
all_below c a (x ∷ via) b h =
    let parts = both_true (has_edge c a x) (leads c x via b) h in
    ((edge_within c a x parts.0).1, all_below c x via b parts.1)

module _ (c : Config) (has : ℕ → ℕ → Bool) (n : ℕ) (whole : n ≡ length (all_objects c)) (is : IsThrough c n has) where
  pub sound_last : (a b : ℕ) → has a b ≡ true → IsReached c a b
  sound_last a b h = let t = is.sound a b h in record { via = t.via; lead = t.lead }

  pub complete_last : (a b : ℕ) → IsReached c a b → has a b ≡ true
  complete_last a b r = is.complete a b (record { via = r.via; below = rw whole (all_below c a r.via b r.lead); lead = r.lead })
