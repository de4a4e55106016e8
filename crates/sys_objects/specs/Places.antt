-- Objects by their places in a configuration's lists.
use Rattle.std.specs.Prelude.{ℕ, Bool, false, ◌==◌, Option, None, Some}

-- whether it is place k
abbrev pub is_at : ℕ → Option ℕ → Bool
is_at k None = false
is_at k (Some n) = n == k
