-- What an instruction that completes is found to be.
use Rattle.std.proofs.Common.{◌≡◌, ℕ, ◌||◌, Bool, true, false, List, [], length, Option, Some, None, Result, Ok, Err, refl, ap, sym, subst}
use Rattle.std.specs.List.{range_with_len}
use Rattle.std.specs.Prelude.{map, replicate, slice_index}
use Rattle.vax_arch.specs.declared.mode.Intent.{Intent}
use Rattle.vax_table.specs.Claims.{Holds, claims}
use Rattle.vax_table.specs.Fetch.{fetched}
use Rattle.vax_table.specs.AllOperands.{operands_of, trap_operands}
use Rattle.vax_table.specs.Operations.{operation_of}
use Rattle.vax_table.specs.Plan.{plan_of}
use Rattle.vax_table.specs.Interaction.{Interaction, Trouble, outcome}
use Rattle.vax_table.specs.Spelling.{Instruction}
use Rattle.vax_table.specs.Tries.{Completes, first_clear, tried_by, unless_clear}
use Rattle.vax_table.specs.Whole.{Act, Meant, Plain, Probes, Traps, instruction, is_kernel_mode, meant, trapping}
use Rattle.vax_table.specs.Acted.{acted, acted_by, plain_meaning, probing, is_always_done}
use Rattle.vax_table.specs.declared.act.Sens.{Sens}
use Rattle.vax_table.specs.declared.act.Sens.TheVariants.{Prober, Probew}
use Rattle.vax_table.specs.declared.meaning.Operation.{Operation}
use Rattle.vax_table.specs.declared.meaning.Operation.TheVariants as does
use Rattle.vax_table.proofs.Acted.{instruction_is}
use Rattle.vax_table.proofs.Claims.{holds-bind, holds_always, holds_made}
use Rattle.vax_table.proofs.Targets.{of_each_opcode}
use Rattle.vax_table.proofs.Tests.{if_both}
use Rattle.vax_table.proofs.Widths.{OperandsAreWide, operands_wide}
use Rattle.vm_simulation_laws.specs.Loaded.{guest_try}
use Rattle.vm_state.specs.State.{Guest, mode_of_state}
use Rattle.vm_state.specs.Step.{instruction_of}
use Rattle.vm_state.specs.Translation.{is_clear, space_of}

-- a sensitive instruction but PROBE
abbrev pub IsNoProbe : Sens → Type 0
IsNoProbe Prober = ⊥
IsNoProbe Probew = ⊥
IsNoProbe op = Unit {0}

-- what an operation is, if it is sensitive
abbrev is_no_probe : Operation → Bool
is_no_probe (does.Sensitive Prober) = false
is_no_probe (does.Sensitive Probew) = false
is_no_probe operation = true

-- all 256 at once, by computation
no_probes : map (λ n. is_no_probe (operation_of n)) (range_with_len 0 256) ≡ replicate 256 true
unfolding operation_of
no_probes = refl

-- PROBE isn't among the sensitive ones
no_probe : (n : ℕ) → is_no_probe (operation_of n) ≡ true
no_probe n = of_each_opcode is_no_probe no_probes refl n

is_none : (op : Sens) → is_no_probe (does.Sensitive op) ≡ true → IsNoProbe op
is_none Prober e = cc
is_none Probew e = cc
is_none op e = tt

-- A sensitive instruction is no PROBE; and after PROBE's operands there are as many registers as before.
abbrev pub ActIsProper : ℕ → Act → Type 0
ActIsProper n (Plain e) = Unit {0}
ActIsProper n (Traps t) = IsNoProbe t.op
ActIsProper n (Probes i o) = length o.r ≡ n

abbrev MeantIsProper : ℕ → List ℕ → Meant → Type 0
MeantIsProper n cs m = ActIsProper n m.act

abbrev Anything : {A : Type 0} → List ℕ → A → Type 0
Anything cs a = Unit {0}

any_end : {A : Type 0} (cs : List ℕ) (m : Interaction A) → Holds Anything cs m
any_end cs m = holds_always Anything cs m (λ ds a. tt)

trap_holds : (n : ℕ) (op : Sens) (d : Instruction) (r cs : List ℕ) → IsNoProbe op → Holds (MeantIsProper n) cs (trapping op d r)
trap_holds n op d r cs k = holds-bind Anything (MeantIsProper n) cs (trap_operands d r) _ (any_end cs (trap_operands d r)) (λ ds o h. k)

plain_holds : (n psl : ℕ) (d : Instruction) (r cs : List ℕ) → Holds (MeantIsProper n) cs (plain_meaning psl d r)
plain_holds n psl d r cs = holds-bind Anything (MeantIsProper n) cs (plan_of psl d r) _ (any_end cs (plan_of psl d r)) (λ ds e h. tt)

probe_holds : (i : Intent) (d : Instruction) (r cs : List ℕ) → Holds (MeantIsProper (length r)) cs (probing i d r)
probe_holds i d r cs = holds-bind (OperandsAreWide (length r)) (MeantIsProper (length r)) cs (operands_of d r) _ (operands_wide d r cs) (λ ds o h. h)

by_operation : (is_kernel_mode : Bool) (psl : ℕ) (operation : Operation) (d : Instruction) (r cs : List ℕ) → is_no_probe operation ≡ true → Holds (MeantIsProper (length r)) cs (acted_by is_kernel_mode psl operation d r)
by_operation is_kernel_mode psl (does.Sensitive op) d r cs k = if_both (Holds (MeantIsProper (length r)) cs) (is_always_done op || is_kernel_mode) _ _ (λ t. trap_holds (length r) op d r cs (is_none op k)) (λ t. tt)
by_operation is_kernel_mode psl (does.Probe i) d r cs k = probe_holds i d r cs
by_operation is_kernel_mode psl operation d r cs k = plain_holds (length r) psl d r cs

acted_holds : (is_kernel_mode : Bool) (psl : ℕ) (d : Instruction) (r cs : List ℕ) → Holds (MeantIsProper (length r)) cs (acted is_kernel_mode psl d r)
unfolding acted
acted_holds is_kernel_mode psl d r cs = by_operation is_kernel_mode psl (operation_of d.opcode) d r cs (no_probe d.opcode)

whole_holds : (is_kernel_mode : Bool) (psl : ℕ) (r : List ℕ) → Holds (MeantIsProper (length r)) [] (instruction is_kernel_mode psl r)
whole_holds is_kernel_mode psl r =
    subst (Holds (MeantIsProper (length r)) []) (sym (instruction_is is_kernel_mode psl r)) (holds-bind Anything (MeantIsProper (length r)) [] (fetched (slice_index r 15)) _ (any_end [] (fetched (slice_index r 15)))
    (λ cs d h. acted_holds is_kernel_mode psl d r cs))

-- what completes is the outcome
ok_unless : {A : Type 0} (x : Option ℕ) (a b : A) → unless_clear a x ≡ Completes b → a ≡ b
ok_unless None a b e = cc
ok_unless (Some va) a b e = cc

ok_by : {A : Type 0} (clear : ℕ → Bool) (claimed : List ℕ) (r : Result A Trouble) (b : A) → tried_by clear claimed r ≡ Completes b → r ≡ Ok b
ok_by clear claimed (Ok a) b e = ap Ok (ok_unless (first_clear clear claimed) a b e)
ok_by clear claimed (Err t) b e = cc

pub proper_act : (g : Guest) (opcode : ℕ) (act : Act) → guest_try g ≡ Completes (meant opcode act) → ActIsProper (length g.state.r) act
proper_act g opcode act e =
    let m = instruction_of g.state in
    holds_made (MeantIsProper (length g.state.r)) (space_of g) [] m (meant opcode act) (whole_holds (is_kernel_mode (mode_of_state g.state)) g.state.psl g.state.r)
    (ok_by (is_clear g) (claims (space_of g) m) (outcome (space_of g) m) (meant opcode act) e)
