-- What was found, with its operands and its plan.
use Rattle.std.specs.Prelude.{ℕ, Bool, true, false, Result, Ok, Err}
use Rattle.vax_hw.specs.declared.world.Exit.{Exit}
use Rattle.vax_hw.specs.declared.world.Exit.TheVariants.{Emulate, Modify}
use Rattle.vax_kept.specs.Fetched.{fault_exit}
use Rattle.vax_kept.specs.declared.kept.Kept.{Kept}
use Rattle.vax_table.specs.Effects.{Effect, effect}
use Rattle.vax_table.specs.Whole.{Act as Meaning, Meant, Plain, Probes, Traps, meant, trap_of}
use Rattle.vax_table.specs.declared.effect.Plan.{Plan}
use Rattle.vax_table.specs.declared.meaning.Operation.{Operation}
use Rattle.vax_table.specs.declared.meaning.Operation.TheVariants.{MoveStatus, Probe}
use Rattle.vax_table.specs.declared.evaluation.Operands.{Operands}
use Rattle.vax_operand.specs.Left.{operands_with_registers}
use Rattle.vax_operand.specs.declared.values.Values.{Values}
use Rattle.vax_cpu.specs.declared.perform.Act.{Act}
use Rattle.vax_cpu.specs.declared.perform.Act.TheVariants as acts
use Rattle.vax_cpu.specs.declared.perform.Found.{Found}
use Rattle.vax_cpu.specs.declared.stop.Stop.{Stop}
use Rattle.vax_cpu.specs.declared.stop.Stop.TheVariants as stops

-- MOVPSL and PROBE
abbrev pub is_of_status : Operation → Bool
is_of_status MoveStatus = true
is_of_status (Probe intent) = true
is_of_status operation = false

-- what the code's stops stop the machine with; a trap has the operands that there are then
abbrev pub stop_exit : Operands → Stop → Exit
stop_exit o (stops.Fault f) = fault_exit f
stop_exit o (stops.Modify va) = Modify va
stop_exit o (stops.Emulate op) = Emulate (trap_of op o)

-- operands are their values, with the plan's registers after them
abbrev pub meaning_of : Values → Plan → Act → Meaning
meaning_of v p acts.Plain = Plain (effect p)
meaning_of v p (acts.Traps op) = Traps (trap_of op (operands_with_registers v p.r))
meaning_of v p (acts.Probes intent) = Probes intent (operands_with_registers v p.r)

-- the outcome of a kept instruction, with its operands and its plan
abbrev pub acts_of : Kept → Values → Plan → Result Act Stop → Result Meant Exit
acts_of k v p (Ok a) = Ok (meant k.prepared.decoded.opcode (meaning_of v p a))
acts_of k v p (Err s) = Err (stop_exit (operands_with_registers v p.r) s)

abbrev pub found : Values → Plan → Result Found Stop → Result Meant Exit
found v p (Ok f) = Ok (meant f.opcode (meaning_of v p f.act))
found v p (Err s) = Err (stop_exit (operands_with_registers v p.r) s)

-- what the code's plan is then
abbrev pub settled_as : {A : Type 0} → Values → Plan → Result A Stop → Result Effect Exit
settled_as v p (Ok u) = Ok (effect p)
settled_as v p (Err s) = Err (stop_exit (operands_with_registers v p.r) s)

-- what the code's opcode and plan are then
abbrev pub attempted : Values → Plan → Result ℕ Stop → Result (ℕ × Effect) Exit
attempted v p (Ok opcode) = Ok (opcode, effect p)
attempted v p (Err s) = Err (stop_exit (operands_with_registers v p.r) s)
