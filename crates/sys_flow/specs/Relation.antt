-- What is reached from what, as rows of bits: bit b of row a is set where object b is reached from object a.
use Rattle.vv_base.specs.Bits.{is_set}
use Rattle.std.specs.Prelude.{ℕ, ◌≡◌, Bool, true, List, length, slice_index}
use Rattle.sys_flow.specs.Reach.{IsReached, all_objects}
use Rattle.sys_objects.specs.declared.records.Config.{Config}

abbrev pub reads : List ℕ → ℕ → ℕ → Bool
reads rows a b = is_set (slice_index rows a) b

-- a row for each object, with the objects that are reached from it and no others
pub record IsReach (c : Config) (rows : List ℕ) : Type 0 where
  pub objects : length rows ≡ length (all_objects c)
  pub sound : (a b : ℕ) → reads rows a b ≡ true → IsReached c a b
  pub complete : (a b : ℕ) → IsReached c a b → reads rows a b ≡ true
