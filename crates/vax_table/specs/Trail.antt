-- The trail: a sum by which runs of plain instructions are compared.
use Rattle.std.specs.Prelude.{ℕ, ◌+◌, ◌*◌, List, take, sum}

-- what one plain instruction adds: its address, 3 times its opcode byte, and R0 to R14 after it
abbrev pub term : ℕ → ℕ → List ℕ → ℕ
term pc opcode registers = pc + 3 * opcode + sum (take 15 registers)
