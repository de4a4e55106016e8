-- The contexts that have one of a guest's process slots. Shadow process tables of several processes
-- are kept side by side, so that a context that comes back finds its own again (Hall and Robinson,
-- "Virtualizing the VAX architecture", ISCA 1991). Profile: there are four, and the least recently
-- used one gives way.
use Rattle.std.specs.Prelude.{◌≡◌, ◌≢◌, ℕ, ◌<◌, ◌≤◌, Bool, ◌==◌, ◌&&◌, not, List, ◌∷◌, [], ◌++◌, length, map, filter, find, take, Option, All, Any, AllPairs}
use Rattle.std.specs.Bool.{beq}
use Rattle.std.specs.Option.{option_map}
use Rattle.vm_slots.specs.declared.context.Context.{Context}

-- the contexts that are held, the most recent first, each with its slot
abbrev pub Held : Type 0
Held = List (Context × ℕ)

abbrev pub is_same : Context → Context → Bool
is_same c d = beq c.mapped d.mapped && c.p0br == d.p0br && c.p0lr == d.p0lr && c.p1br == d.p1br && c.p1lr == d.p1lr

-- at most four contexts, no two alike, in slots from 0 to 3, no two alike
pub record AreSlots (held : Held) : Type 0 where
  pub few : length held ≤ 4
  pub contexts : AllPairs (λ h k. h.0 ≢ k.0) held
  pub slots : AllPairs (λ h k. h.1 ≢ k.1) held
  pub small : All (λ h. h.1 < 4) held

-- the slot of a context, if it is held
abbrev pub slot_of : Context → Held → Option ℕ
slot_of c held = option_map (λ h. h.1) (find (λ h. is_same c h.0) held)

-- the other contexts, in their order
abbrev pub without : Context → Held → Held
without c held = filter (λ h. not (is_same c h.0)) held

-- the others that stay when a context moves to the front: the three most recent
abbrev pub others_held : Context → Held → Held
others_held c held = take 3 (without c held)

-- the least slot from 0 to 3 that none of the held contexts has
pub record IsLeastFree (slot : ℕ) (held : Held) : Type 0 where
  pub small : slot < 4
  pub free : All (λ h. h.1 ≢ slot) held
  pub least : (s : ℕ) → s < slot → Any (λ h. h.1 ≡ s) held

-- the last context goes from the list, the others stay, and its slot is free
abbrev pub LastGoes : Held → Held → ℕ → Type 0
LastGoes held stay slot = (last : Context) × (held ≡ stay ++ (last, slot) ∷ [])

abbrev pub contexts_of : Held → List Context
contexts_of held = map (λ h. h.0) held

-- a context is put at the front of a list of contexts, or moves there, and a fifth drops the last
abbrev pub brought_forward : Context → List Context → List Context
brought_forward c contexts = c ∷ take 3 (filter (λ d. not (is_same c d)) contexts)
