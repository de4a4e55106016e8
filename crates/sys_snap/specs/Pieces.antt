-- Pieces of a record for which the code has functions of its own.
use Rattle.std.specs.Prelude.{ℕ, ◌-◌, List, ◌++◌, length, replicate}
use Rattle.vv_base.specs.Bytes.{word_bytes}

-- how many bytes wait, and 256 places of which those that no byte has are 0
abbrev pub waiting_bytes : List ℕ → List ℕ
waiting_bytes waiting = word_bytes (length waiting) ++ (waiting ++ replicate (256 - length waiting) 0)
