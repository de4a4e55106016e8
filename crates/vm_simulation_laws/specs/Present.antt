-- When the shadow page tables have what a state of first touches has as present: the contexts of the slots are its first ones.
-- Each present page has a real entry, a process page in the slot of its context. Then the machine misses no present page
-- (profile).
use Rattle.std.specs.Prelude.{◌≡◌, ℕ, ◌+◌, ◌^◌, ◌<◌, ◌==◌, ◌||◌, Bool, true, false, if◌then◌else◌, List, [], ◌∷◌, ◌++◌, is_some}
use Rattle.vax_table.specs.Interaction.{IsIn}
use Rattle.vm_shadow.specs.Layout.{IsCovered, entry_number}
use Rattle.vm_shadow.specs.Shadowed.{Shadowed, read_at}
use Rattle.vm_shadow.specs.StandsFor.{own_number}
use Rattle.vm_slots.specs.Held.{Held}
use Rattle.vm_state.specs.Step.{Touched}
use Rattle.vm_state.specs.Touches.{Present, Process, Touching, found_all, is_system, lacked_all}

-- the page has a real entry, which is filled, in a slot
pub record HasEntry (s : Shadowed) (slot page : ℕ) : Type 0 where
  pub small : page < 2 ^ 23
  pub covered : IsCovered page
  pub filled : is_some (read_at s (entry_number slot page)) ≡ true

-- pages of the system, or of a process
abbrev pub HaveEntries : Shadowed → (system : Bool) → (slot : ℕ) → List ℕ → Type 0
HaveEntries s system slot pages = (page : ℕ) → IsIn page pages → (is_system page ≡ system) × HasEntry s slot page

-- contexts of which no page is present
abbrev pub HaveNone : List Process → Type 0
HaveNone [] = Unit {0}
HaveNone (p ∷ ps) = (p.pages ≡ []) × HaveNone ps

-- The contexts that have slots come first, in their order, and each one's present pages have entries in its slot. Of a
-- context after them none is present.
abbrev pub HaveSlots : Shadowed → Held → List Process → Type 0
HaveSlots s [] ps = HaveNone ps
HaveSlots s (h ∷ hs) [] = ⊥
HaveSlots s (h ∷ hs) (p ∷ ps) = (p.context ≡ h.0) × HaveEntries s false h.1 p.pages × HaveSlots s hs ps

-- What is present has entries: a system page in slot 0, whose entry is that of each slot, and the pages of a context in its slot.
pub record HasPresent (s : Shadowed) (p : Present) : Type 0 where
  pub system : HaveEntries s true 0 p.system
  pub processes : HaveSlots s s.held p.processes

-- whether a page is filled, in the slot in use
abbrev pub is_filled : Shadowed → ℕ → Bool
is_filled s page = is_some (read_at s (own_number s page))

-- how many pages of a list aren't, each counted once
abbrev pub unfilled_of : (ℕ → Bool) → List ℕ → ℕ
unfilled_of filled [] = 0
unfilled_of filled (page ∷ pages) = if filled page then unfilled_of filled pages else 1 + unfilled_of (λ p. p == page || filled p) pages

-- the pages that an instruction touches, and how many of them the machine may miss yet
abbrev pub pages_of : Touched → List ℕ
pages_of x = x.found ++ x.lacking

abbrev pub to_miss : Shadowed → Touched → ℕ
to_miss s x = unfilled_of (is_filled s) (pages_of x)

-- first touches after an instruction's accesses
abbrev pub after_touches : Touched → Touching → Touching
after_touches x t = lacked_all x.lacking (found_all x.found t)
