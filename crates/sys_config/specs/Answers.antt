-- The entries of a list.
use Rattle.std.specs.Prelude.{ℕ, List, [], ◌∷◌, ◌++◌, length, Option, Result, Ok, option_and_then}
use Rattle.toml.specs.Data.{Data, Items, no_items, item, Members, as_table}
use Rattle.sys_objects.specs.declared.errors.ConfigFault.{ConfigFault}
use Rattle.sys_objects.specs.Faults.{◌>>=◌, by_rule}

abbrev pub entry_from_table : {A : Type 0} → (Members → Option A) → Data → Option A
entry_from_table read d = option_and_then read (as_table d)

-- each entry in its order, after those that were read; the rule fails at the first that can't be read
abbrev pub entries_from : {A : Type 0} → ℕ → (Members → Option A) → List A → Items → Result (List A) ConfigFault
entries_from rule read done no_items = Ok done
entries_from rule read done (item d ds) = by_rule rule (length done) (entry_from_table read d) >>= (λ x. entries_from rule read (done ++ x ∷ []) ds)
