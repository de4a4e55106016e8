-- The code's troubles, in the words of interactions.
use Rattle.std.specs.Prelude.{Bool, true, false, Result, Ok, Err}
use Rattle.vax_arch.specs.declared.mode.Intent.{Intent}
use Rattle.vax_arch.specs.declared.mode.Intent.TheVariants.{Read, Write}
use Rattle.vax_table.specs.declared.act.Refusal.TheVariants as refusals
use Rattle.vax_table.specs.declared.evaluation.Trouble.{Trouble as Told}
use Rattle.vax_table.specs.declared.evaluation.Trouble.TheVariants.{NotValid, Denied, ReservedOperand}
use Rattle.vax_table.specs.Interaction.{Trouble, At, Test, Absent, Refusing}

abbrev pub intent_of : Bool → Intent
intent_of true = Write
intent_of false = Read

abbrev pub trouble_of : Told → Trouble
trouble_of (NotValid va write) = At Absent (intent_of write) va
trouble_of (Denied va write) = At Refusing (intent_of write) va
trouble_of ReservedOperand = Test refusals.ReservedOperand

abbrev pub with_trouble : {A : Type 0} → Result A Told → Result A Trouble
with_trouble (Ok x) = Ok x
with_trouble (Err t) = Err (trouble_of t)
