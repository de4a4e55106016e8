-- What a step left beside its result, in the words of interactions: registers, operands, a plan or a place.
use Rattle.std.specs.Prelude.{ℕ, List, Result, Ok, Err}
use Rattle.vax_table.specs.Operand.{place}
use Rattle.vax_table.specs.Interaction.{Trouble}
use Rattle.vax_table.specs.Troubles.{trouble_of}
use Rattle.vax_table.specs.declared.evaluation.Place.{Place}
use Rattle.vax_table.specs.declared.evaluation.Trouble.{Trouble as Told}
use Rattle.vax_table.specs.declared.evaluation.Operands.{Operands}
use Rattle.vax_operand.specs.declared.values.Values.{Values}

abbrev pub left : {A : Type 0} → Result (Unit {0}) Told → A → Result A Trouble
left (Ok u) x = Ok x
left (Err t) x = Err (trouble_of t)

-- operands, and the registers after them
abbrev pub operands_with_registers : Values → List ℕ → Operands
operands_with_registers v r = record { values = v.values; dests = v.dests; r = r }

-- an address, and the registers
abbrev pub place_or_trouble : Result ℕ Told → List ℕ → Result Place Trouble
place_or_trouble (Ok at) r = Ok (place at r)
place_or_trouble (Err t) r = Err (trouble_of t)
