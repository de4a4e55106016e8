-- A round as the one machine makes it: the guests' turns cut into slices, in any order.
use Rattle.std.specs.Prelude.{ℕ, ◌≡◌, suc, ◌+◌, List, [], ◌∷◌, ◌++◌, Option, None, Some, if◌then◌else◌, ◌==◌}
use Rattle.std.specs.List.{slice_get}
use Rattle.sys_objects.specs.declared.records.GuestRow.{GuestRow}
use Rattle.sys_objects.specs.declared.records.Terminal.{Terminal}
use Rattle.sys_state.specs.Places.{changed}
use Rattle.sys_state.specs.Consoles.{console_of, on_console}
use Rattle.sys_state.specs.Guests.{alone}
use Rattle.sys_state.specs.State.{Put, Went}
use Rattle.vm_state.specs.State.{Guest}

-- the guest at a place takes a number of steps
pub record Slice : Type 0 where
  pub guest : ℕ
  pub steps : ℕ

abbrev pub slice_puts : Option ℕ → ℕ → Option Guest → List Put
slice_puts console n None = []
slice_puts console n (Some g) = on_console console (alone n g).shown

abbrev pub sliced : List Terminal → List (Option ℕ) → Slice → List Guest → Went (List Guest)
sliced ks os x gs = record { now = changed (λ g. (alone x.steps g).guest) gs x.guest; puts = slice_puts (console_of ks os x.guest) x.steps (slice_get gs x.guest) }

abbrev pub slices : List Terminal → List (Option ℕ) → List Slice → List Guest → Went (List Guest)
slices ks os [] gs = record { now = gs; puts = [] }
slices ks os (x ∷ xs) gs =
    let first = sliced ks os x gs in
    let rest = slices ks os xs first.now in
    record { now = rest.now; puts = first.puts ++ rest.puts }

-- how many steps the guest at a place takes in all of them
abbrev pub total : List Slice → ℕ → ℕ
total [] i = 0
total (x ∷ xs) i = if i == x.guest then x.steps + total xs i else total xs i

-- from the i-th place on, each guest takes its quantum
abbrev pub AreQuanta : List Slice → ℕ → List GuestRow → Type 0
AreQuanta xs i [] = Unit {0}
AreQuanta xs i (row ∷ rows) = (total xs i ≡ row.quantum) × AreQuanta xs (suc i) rows
