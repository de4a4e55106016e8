-- What an instruction comes to, by the operation that the code has for it, is what the instruction set says.
use Rattle.std.proofs.Common.{◌≡◌, ℕ, ◌||◌, Bool, true, false, if◌then◌else◌, List, Err, refl, ap, sym, ◌∙◌}
use Rattle.std.specs.Prelude.{slice_index}
use Rattle.vax_table.specs.Acted.{acted, acted_by, is_always_done, meaning_by}
use Rattle.vax_table.specs.AllOperands.{operands_of}
use Rattle.vax_table.specs.Effects.{Effect}
use Rattle.vax_table.specs.Fetch.{fetched}
use Rattle.vax_table.specs.InstructionSet.{Meaning, Sensitive, Privileged, opcode_meaning}
use Rattle.vax_table.specs.Interaction.{Done, Refuse, ◌>>=◌, Space, by_result, outcome}
use Rattle.vax_table.specs.Operations.{operation_of}
use Rattle.vax_table.specs.Plan.{performed_with, plan_of}
use Rattle.vax_table.specs.Spelling.{Instruction}
use Rattle.vax_table.specs.Whole.{Plain, comes_to, instruction, meant, trapping}
use Rattle.vax_table.specs.declared.act.Refusal.TheVariants as refusals
use Rattle.vax_table.specs.declared.act.Sens.{Sens}
use Rattle.vax_table.specs.declared.meaning.Operation.{Operation}
use Rattle.vax_table.specs.declared.meaning.Operation.TheVariants as does
use Rattle.vax_table.proofs.Plans.{same_after}
use Rattle.vax_table.proofs.Scripts.{outcome-bind}
use Rattle.vax_table.proofs.Targets.{meaning_is}

sensitive_is : (kernel : Bool) (psl : ℕ) (always : Bool) (op : Sens) (d : Instruction) (r : List ℕ) →
    (if always || kernel then trapping op d r else Refuse refusals.Instruction) ≡ comes_to kernel psl (if always then Sensitive op else Privileged op) d r
sensitive_is kernel psl true op d r = refl
sensitive_is kernel psl false op d r = refl

by_operation : (kernel : Bool) (psl : ℕ) (what : Operation) (d : Instruction) (r : List ℕ) → operation_of d.opcode ≡ what → acted_by kernel psl what d r ≡ comes_to kernel psl (meaning_by what) d r
unfolding plan_of
by_operation kernel psl (does.Sensitive op) d r e = sensitive_is kernel psl (is_always_done op) op d r
by_operation kernel psl (does.Probe intent) d r e = refl
by_operation kernel psl what d r e = ap (λ (x : Operation). (operands_of d r >>= λ o. performed_with psl x o) >>= λ (z : Effect). Done (meant d.opcode (Plain z))) e

acted_is : (kernel : Bool) (psl : ℕ) (d : Instruction) (r : List ℕ) → comes_to kernel psl (opcode_meaning d.opcode) d r ≡ acted kernel psl d r
unfolding acted
acted_is kernel psl d r =
    ap (λ (x : Meaning). comes_to kernel psl x d r) (sym (meaning_is d.opcode)) ∙ sym (by_operation kernel psl (operation_of d.opcode) d r refl)

-- the instruction at PC is fetched, and then acted
pub instruction_is : (kernel : Bool) (psl : ℕ) (r : List ℕ) → instruction kernel psl r ≡ fetched (slice_index r 15) >>= λ d. acted kernel psl d r
unfolding instruction
instruction_is kernel psl r = same_after (fetched (slice_index r 15)) _ _ (λ d. acted_is kernel psl d r)

pub instruction_binds : (s : Space) (kernel : Bool) (psl : ℕ) (r : List ℕ) → outcome s (instruction kernel psl r) ≡ by_result (outcome s (fetched (slice_index r 15))) (λ d. outcome s (acted kernel psl d r)) Err
instruction_binds s kernel psl r = ap (outcome s) (instruction_is kernel psl r) ∙ outcome-bind s (fetched (slice_index r 15)) (λ d. acted kernel psl d r)
