-- Cutting a text. Blanks are space (32) and tab (9).
use Rattle.std.specs.Prelude.{ℕ, ◌==◌, ◌||◌, List, [], ◌∷◌, Bool, Option, Some, None, option_map, if◌then◌else◌}

infixl 10 ◌>>=◌
abbrev pub ◌>>=◌ : {A B : Type 0} → Option A → (A → Option B) → Option B
(Some x) >>= f = f x
None >>= f = None

abbrev pub is_blank : ℕ → Bool
is_blank b = b == 32 || b == 9

-- a text in two
pub record Cut : Type 0 where
  pub before : List ℕ
  pub later : List ℕ

-- what comes before the first byte that passes a test, and after it; None where none passes
abbrev pub cut : (ℕ → Bool) → List ℕ → Option Cut
cut test [] = None
cut test (b ∷ bs) = if test b then Some (record { before = []; later = bs }) else option_map (λ c. record { before = b ∷ c.before; later = c.later }) (cut test bs)

-- a text cut at the first byte that is this one
abbrev pub cut_at : ℕ → List ℕ → Option Cut
cut_at mark text = cut (λ b. b == mark) text

-- what comes before it, or all where there is none
abbrev pub before_mark : ℕ → List ℕ → List ℕ
before_mark mark text = elim (cut_at mark text) [ None ↦ text | Some c ↦ c.before ]

-- without the blanks at its front
abbrev pub without_front : List ℕ → List ℕ
without_front [] = []
without_front (b ∷ bs) = if is_blank b then without_front bs else b ∷ bs

-- a byte before what is left of a text
abbrev pub unless_blank : ℕ → List ℕ → List ℕ
unless_blank b [] = if is_blank b then [] else b ∷ []
unless_blank b (c ∷ cs) = b ∷ c ∷ cs

-- without the blanks at its back
abbrev pub without_back : List ℕ → List ℕ
without_back [] = []
without_back (b ∷ bs) = unless_blank b (without_back bs)

-- without the blanks at both ends
abbrev pub trimmed : List ℕ → List ℕ
trimmed text = without_back (without_front text)
