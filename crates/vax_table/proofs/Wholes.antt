-- What an instruction, whole, claims is what it stores.
use Rattle.std.proofs.Common.{◌≡◌, ℕ, suc, zero, ◌||◌, Bool, true, List, [], ◌∷◌, ◌++◌, length, Ok, refl, sym, subst}
use Rattle.std.specs.Prelude.{slice_index}
use Rattle.vv_base.specs.Width.{size_of}
use Rattle.vax_arch.specs.declared.mode.Intent.{Intent}
use Rattle.vax_table.specs.Claims.{AreAmong, Holds, addresses, claims}
use Rattle.vax_table.specs.Effects.{Effect}
use Rattle.vax_table.specs.Fetch.{by_decoding, decided, fetched}
use Rattle.vax_table.specs.AllOperands.{forms_in, operands_of, trap_operands}
use Rattle.vax_table.specs.Operations.{operation_of}
use Rattle.vax_table.specs.Plan.{plan_of}
use Rattle.vax_table.specs.PlanLaws.{StoresAreClaimed, bytes_of_stores}
use Rattle.vax_table.specs.Reading.{Decoding, Whole, Short, Unknown, Reserved, decoded_at}
use Rattle.vax_table.specs.Rows.{row_of}
use Rattle.vax_table.specs.Interaction.{Interaction, Space, outcome}
use Rattle.vax_table.specs.Spelling.{Instruction}
use Rattle.vax_table.specs.Whole.{Act, Meant, Plain, Probes, Traps, instruction, meant, trapping}
use Rattle.vax_table.specs.Acted.{acted, acted_by, plain_meaning, probing, is_always_done}
use Rattle.vax_table.specs.declared.act.Sens.{Sens}
use Rattle.vax_table.specs.declared.effect.Store.{Store}
use Rattle.vax_table.specs.declared.evaluation.Operands.{Operands}
use Rattle.vax_table.specs.declared.meaning.Operation.{Operation}
use Rattle.vax_table.specs.declared.meaning.Operation.TheVariants as does
use Rattle.vax_table.proofs.Acted.{instruction_is}
use Rattle.vax_table.proofs.Among.{among_back, among_front}
use Rattle.vax_table.proofs.Claims.{holds-bind, holds_always, holds_made}
use Rattle.vax_table.proofs.Plans.{Sound, plans_sound}
use Rattle.vax_table.proofs.OperandClaims.{AreClaimed, are_few, operands_claimed}
use Rattle.vax_table.proofs.Targets.{gets_none, is_fit, none_claimed, operations_fit}
use Rattle.vax_table.proofs.Tests.{if_both}

-- nothing is said of it
abbrev pub Anything : {A : Type 0} → List ℕ → A → Type 0
Anything cs a = Unit {0}

any_end : {A : Type 0} (cs : List ℕ) (m : Interaction A) → Holds Anything cs m
any_end cs m = holds_always Anything cs m (λ ds a. tt)

-- what a plain instruction claims is what it stores, and PROBE claims nothing
abbrev pub ActClaims : List ℕ → Act → Type 0
ActClaims cs (Plain e) = cs ≡ bytes_of_stores e.writes
ActClaims cs (Traps t) = Unit {0}
ActClaims cs (Probes intent o) = cs ≡ []

abbrev pub MeantClaims : List ℕ → Meant → Type 0
MeantClaims cs m = ActClaims cs m.act

trap_holds : (op : Sens) (d : Instruction) (r : List ℕ) → Holds MeantClaims [] (trapping op d r)
trap_holds op d r = holds-bind Anything MeantClaims [] (trap_operands d r) _ (any_end [] (trap_operands d r)) (λ ds o h. tt)

plain_holds : (psl : ℕ) (d : Instruction) (r : List ℕ) → Holds MeantClaims [] (plain_meaning psl d r)
plain_holds psl d r = holds-bind (Sound 20 (length r)) MeantClaims [] (plan_of psl d r) _ (plans_sound psl d r) (λ ds e h. h.claimed)

probe_gets : (intent : Intent) (opcode : ℕ) → operation_of opcode ≡ does.Probe intent → gets_none (forms_in (row_of opcode)) ≡ true
unfolding is_fit
probe_gets intent opcode e = subst (λ (x : Operation). is_fit x (forms_in (row_of opcode)) ≡ true) e (operations_fit opcode)

probe_holds : (intent : Intent) (d : Instruction) (r : List ℕ) → operation_of d.opcode ≡ does.Probe intent → Holds MeantClaims [] (probing intent d r)
probe_holds intent d r e =
    let fs = forms_in (row_of d.opcode) in
    holds-bind (λ cs o. are_few fs ≡ true → AreClaimed fs cs o) MeantClaims [] (operands_of d r) _ (operands_claimed d r) (λ ds o h. none_claimed fs ds o h (probe_gets intent d.opcode e))

by_operation : (is_kernel : Bool) (psl : ℕ) (operation : Operation) (d : Instruction) (r : List ℕ) → operation_of d.opcode ≡ operation → Holds MeantClaims [] (acted_by is_kernel psl operation d r)
by_operation is_kernel psl (does.Sensitive op) d r e = if_both (Holds MeantClaims []) (is_always_done op || is_kernel) _ _ (λ t. trap_holds op d r) (λ t. tt)
by_operation is_kernel psl (does.Probe intent) d r e = probe_holds intent d r e
by_operation is_kernel psl operation d r e = plain_holds psl d r

acted_holds : (is_kernel : Bool) (psl : ℕ) (d : Instruction) (r : List ℕ) → Holds MeantClaims [] (acted is_kernel psl d r)
unfolding acted
acted_holds is_kernel psl d r = by_operation is_kernel psl (operation_of d.opcode) d r refl

-- fetching claims nothing
abbrev FetchClaims : List ℕ → Instruction → Type 0
FetchClaims cs d = cs ≡ []

answer_holds : (more : List ℕ → Interaction Instruction) (at : ℕ) (bytes : List ℕ) (a : Decoding) → ((bs : List ℕ) → Holds FetchClaims [] (more bs)) → Holds FetchClaims [] (by_decoding more at bytes a)
answer_holds more at bytes (Whole d rest) h = refl
answer_holds more at bytes Short h = λ b. h (bytes ++ b ∷ [])
answer_holds more at bytes Unknown h = tt
answer_holds more at bytes Reserved h = tt

decided_holds : (looks at : ℕ) (bytes : List ℕ) → Holds FetchClaims [] (decided looks at bytes)
unfolding decided
decided_holds zero at bytes = tt
decided_holds (suc looks) at bytes = answer_holds (decided looks at) at bytes (decoded_at bytes) (λ bs. decided_holds looks at bs)

fetched_holds : (at : ℕ) → Holds FetchClaims [] (fetched at)
unfolding fetched
fetched_holds at = decided_holds 22 at []

pub whole_holds : (is_kernel : Bool) (psl : ℕ) (r : List ℕ) → Holds MeantClaims [] (instruction is_kernel psl r)
whole_holds is_kernel psl r =
    subst (Holds MeantClaims []) (sym (instruction_is is_kernel psl r)) (holds-bind FetchClaims MeantClaims [] (fetched (slice_index r 15)) _ (fetched_holds (slice_index r 15))
    (λ cs d e. subst (λ (zs : List ℕ). Holds MeantClaims zs (acted is_kernel psl d r)) (sym e) (acted_holds is_kernel psl d r)))

pub exactly_claimed : (is_kernel : Bool) (psl : ℕ) (r : List ℕ) (s : Space) (opcode : ℕ) (e : Effect) →
    outcome s (instruction is_kernel psl r) ≡ Ok (meant opcode (Plain e)) → claims s (instruction is_kernel psl r) ≡ bytes_of_stores e.writes
exactly_claimed is_kernel psl r s opcode e h = holds_made MeantClaims s [] (instruction is_kernel psl r) (meant opcode (Plain e)) (whole_holds is_kernel psl r) h

-- a PROBE claims nothing
pub probes_claim_none : (is_kernel : Bool) (psl : ℕ) (r : List ℕ) (s : Space) (opcode : ℕ) (intent : Intent) (o : Operands) →
    outcome s (instruction is_kernel psl r) ≡ Ok (meant opcode (Probes intent o)) → claims s (instruction is_kernel psl r) ≡ []
probes_claim_none is_kernel psl r s opcode intent o h = holds_made MeantClaims s [] (instruction is_kernel psl r) (meant opcode (Probes intent o)) (whole_holds is_kernel psl r) h

more_claimed : (cs ds : List ℕ) (xs : List Store) → AreAmong cs ds → StoresAreClaimed cs xs → StoresAreClaimed ds xs
more_claimed cs ds [] g h = tt
more_claimed cs ds (x ∷ xs) g h = (λ y i. g y (h.0 y i), more_claimed cs ds xs g h.1)

-- each byte of each store is among the bytes of the stores
own_bytes : (xs : List Store) → StoresAreClaimed (bytes_of_stores xs) xs
own_bytes [] = tt
own_bytes (x ∷ xs) =
    let here = addresses (size_of x.width) x.va in
    (among_front here (bytes_of_stores xs), more_claimed (bytes_of_stores xs) (here ++ bytes_of_stores xs) xs (among_back here (bytes_of_stores xs)) (own_bytes xs))

pub all_claimed : (cs : List ℕ) (xs : List Store) → cs ≡ bytes_of_stores xs → StoresAreClaimed cs xs
all_claimed cs xs e = subst (λ (zs : List ℕ). StoresAreClaimed zs xs) (sym e) (own_bytes xs)

pub stores_claimed : (is_kernel : Bool) (psl : ℕ) (r : List ℕ) (s : Space) (opcode : ℕ) (e : Effect) →
    outcome s (instruction is_kernel psl r) ≡ Ok (meant opcode (Plain e)) → StoresAreClaimed (claims s (instruction is_kernel psl r)) e.writes
stores_claimed is_kernel psl r s opcode e h = all_claimed (claims s (instruction is_kernel psl r)) e.writes (exactly_claimed is_kernel psl r s opcode e h)
