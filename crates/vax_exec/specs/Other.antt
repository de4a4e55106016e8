-- The planned operations that neither compute nor branch by the codes alone.
use Rattle.std.specs.Prelude.{Bool, false}
use Rattle.vax_table.specs.Plan.{is_planned}
use Rattle.vax_table.specs.declared.meaning.Operation.{Operation}
use Rattle.vax_table.specs.declared.meaning.Operation.TheVariants.{Compute, Branch}

abbrev pub is_other : Operation → Bool
is_other (Compute op w inputs target) = false
is_other (Branch condition) = false
is_other operation = is_planned operation
