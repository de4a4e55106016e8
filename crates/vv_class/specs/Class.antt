-- Access classes, and which flows into which. Secrecy is after Bell and LaPadula ("Secure computer system", 1976), integrity
-- after Biba ("Integrity considerations for secure computer systems", 1977), both as in the VAX VMM security kernel (Karger and
-- others, IEEE TSE 17(11), 1991).
use Rattle.std.specs.Prelude.{◌≡◌, ℕ, ◌<◌, ◌≤◌, ◌^◌, Bool, true, nat_le, not, ◌&&◌, ◌||◌, min, max}
use Rattle.std.specs.List.{list_all, range_with_len}
use Rattle.vv_base.specs.Bits.{is_set}
use Rattle.vv_class.specs.declared.class.AccessClass.{AccessClass}

-- levels are 0 to 255, and categories 0 to 63
pub record IsClass (c : AccessClass) : Type 0 where
  pub secrecy : c.secrecy < 256
  pub secrecy_cats : c.secrecy_cats < 2 ^ 64
  pub integrity : c.integrity < 256
  pub integrity_cats : c.integrity_cats < 2 ^ 64

-- each category of the one set is one of the other
abbrev pub IsSubset : ℕ → ℕ → Type 0
IsSubset a b = (k : ℕ) → k < 64 → is_set a k ≡ true → is_set b k ≡ true

-- secrecy only rises, and integrity only falls
pub record Flows (a b : AccessClass) : Type 0 where
  pub secrecy : a.secrecy ≤ b.secrecy
  pub secrecy_cats : IsSubset a.secrecy_cats b.secrecy_cats
  pub integrity : b.integrity ≤ a.integrity
  pub integrity_cats : IsSubset b.integrity_cats a.integrity_cats

-- `IsSubset` and `Flows` as tests that compute
unfoldable pub is_subset : ℕ → ℕ → Bool
is_subset a b = list_all (λ k. not (is_set a k) || is_set b k) (range_with_len 0 64)

abbrev pub is_within : ℕ → ℕ → ℕ → ℕ → Bool
is_within level cats most of = nat_le level most && is_subset cats of

unfoldable pub does_flow : AccessClass → AccessClass → Bool
does_flow a b = is_within a.secrecy a.secrecy_cats b.secrecy b.secrecy_cats && is_within b.integrity b.integrity_cats a.integrity a.integrity_cats

-- the higher secrecy level and all secrecy categories of both, the lower integrity level and the
-- integrity categories that both have
pub record IsJoin (a b c : AccessClass) : Type 0 where
  pub secrecy : c.secrecy ≡ max a.secrecy b.secrecy
  pub secrecy_cats : (k : ℕ) → k < 64 → is_set c.secrecy_cats k ≡ (is_set a.secrecy_cats k || is_set b.secrecy_cats k)
  pub integrity : c.integrity ≡ min a.integrity b.integrity
  pub integrity_cats : (k : ℕ) → k < 64 → is_set c.integrity_cats k ≡ (is_set a.integrity_cats k && is_set b.integrity_cats k)

-- both flow into the class, and it into each class into which both flow
pub record IsLeastUpperBound (a b c : AccessClass) : Type 0 where
  pub left : Flows a c
  pub right : Flows b c
  pub least : (d : AccessClass) → Flows a d → Flows b d → Flows c d
