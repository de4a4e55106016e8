-- MOVPSL and PROBE in normal form, at an address where they are fetched.
use Rattle.std.proofs.Common.{◌≡◌, ℕ, ◌+◌, ◌*◌, ◌/◌, ◌%◌, ◌^◌, Bool, not, List, length, Some, None, Result, Ok, refl, ap, sym, ◌∙◌, arith, slice_index}
use Rattle.vax_hw.specs.Machine.{Machine, psw_of, seen_psl}
use Rattle.vax_hw.specs.Real.{in_kernel, machine_step, real_probe}
use Rattle.vax_table.specs.Arithmetic.{bit_of}
use Rattle.vax_table.specs.Effects.{Effect, long_of}
use Rattle.vax_table.specs.Fetch.{fetched}
use Rattle.vax_table.specs.Interaction.{Done, Trouble, outcome}
use Rattle.vax_table.specs.AllOperands.{operands_of, past_own_bytes}
use Rattle.vax_table.specs.Operations.{operation_of}
use Rattle.vax_table.specs.Plan.{plan_of}
use Rattle.vax_table.specs.Spelling.{Instruction}
use Rattle.vax_table.specs.Whole.{Act, Meant, Plain, Probes, instruction, meant}
use Rattle.vax_table.specs.Acted.{acted, acted_by}
use Rattle.vax_table.specs.declared.evaluation.Operands.{Operands}
use Rattle.vax_table.specs.declared.meaning.Operation.{Operation}
use Rattle.vax_table.specs.declared.meaning.Operation.TheVariants.{MoveStatus}
use Rattle.vax_kept.specs.Fetched.{exits}
use Rattle.vax_normal.specs.Normal.{number_by, quietly}
use Rattle.vax_table.proofs.Acted.{instruction_is}
use Rattle.vax_normal.proofs.Touching.{found_on}
use Rattle.vax_paged.specs.Paged.{paged}
use Rattle.vax_normal.specs.ProbeTest.{IsProbeTest, operands_had}
use Rattle.vax_normal.specs.declared.rarer_shape.ProbeTest.{ProbeTest}
use Rattle.vax_cpu.specs.Completed.{by_judgement, completed_but_registers, settled, settled_meaning, with_opcode, with_registers}
use Rattle.vax_cpu.proofs.One.{attempt_retires, ok_is}

-- an instruction that was found, where it is fetched
whole_found : (m : Machine) (r : List ℕ) (d : Instruction) (x : Meant) → Ok d ≡ exits (outcome (paged m.memory m.world) (fetched (slice_index r 15))) →
    outcome (paged m.memory m.world) (acted (in_kernel m.world) (seen_psl m.world) d r) ≡ Ok x → outcome (paged m.memory m.world) (instruction (in_kernel m.world) (seen_psl m.world) r) ≡ Ok x
whole_found m r d x fetch acts =
    let t = paged m.memory m.world in
    ap (outcome t) (instruction_is (in_kernel m.world) (seen_psl m.world) r)
    ∙ found_on t (fetched (slice_index r 15)) (λ z. acted (in_kernel m.world) (seen_psl m.world) z r) d x (ok_is d (outcome t (fetched (slice_index r 15))) fetch) acts

-- by what it was found to be, it retires
found_retires : (m after : Machine) (r : List ℕ) (d : Instruction) (a : Act) (e : Effect) → Ok d ≡ exits (outcome (paged m.memory m.world) (fetched (slice_index r 15))) →
    outcome (paged m.memory m.world) (acted (in_kernel m.world) (seen_psl m.world) d r) ≡ Ok (meant d.opcode a) → settled m.memory m.world a ≡ Ok e → after ≡ completed_but_registers (slice_index r 15) d.opcode e m →
    machine_step (with_registers r m) ≡ Ok (record { machine = with_registers e.r after; trap = e.trap })
found_retires m after r d a e fetch acts settles is =
    let whole = whole_found m r d (meant d.opcode a) fetch acts in
    attempt_retires m after r d.opcode e (sym (ap (λ (z : Result Meant Trouble). settled_meaning m.memory m.world (exits z)) whole ∙ ap (with_opcode d.opcode) settles)) is

pub status_steps : (m after : Machine) (r q : List ℕ) (d : Instruction) (psw : ℕ) → operation_of d.opcode ≡ MoveStatus → Ok d ≡ exits (outcome (paged m.memory m.world) (fetched (slice_index r 15))) →
    outcome (paged m.memory m.world) (plan_of (seen_psl m.world) d r) ≡ Ok (quietly q psw) → after ≡ completed_but_registers (slice_index r 15) d.opcode (quietly q psw) m →
    machine_step (with_registers r m) ≡ Ok (record { machine = with_registers q after; trap = None })
unfolding acted
status_steps m after r q d psw op fetch plans is =
    let t = paged m.memory m.world in
    let found : Meant = meant d.opcode (Plain (quietly q psw)) in
    let acts : outcome t (acted (in_kernel m.world) (seen_psl m.world) d r) ≡ Ok found =
    ap (λ (x : Operation). outcome t (acted_by (in_kernel m.world) (seen_psl m.world) x d r)) op
    ∙ found_on t (plan_of (seen_psl m.world) d r) (λ x. Done (meant d.opcode (Plain x))) (quietly q psw) found plans refl in
    found_retires m after r d (Plain (quietly q psw)) (quietly q psw) fetch acts refl is

pub seen_status : (m : Machine) → seen_psl m.world % 2 ^ 8 ≡ psw_of m.world
seen_status m = omega arith

pub probe_steps : (m after : Machine) (r : List ℕ) (d : Instruction) (n : ProbeTest) (b : Bool) (psw : ℕ) → IsProbeTest n d → length r ≡ 16 → Ok d ≡ exits (outcome (paged m.memory m.world) (fetched (slice_index r 15))) →
    Some b ≡ real_probe m.memory m.world n.intent (number_by n.mode r) (number_by n.bytes r) (number_by n.base r) → psw ≡ psw_of m.world / 16 * 16 + 4 * bit_of (not b) + psw_of m.world % 2 →
    after ≡ completed_but_registers (slice_index r 15) d.opcode (quietly (past_own_bytes n.length r) psw) m → machine_step (with_registers r m) ≡ Ok (record { machine = with_registers (past_own_bytes n.length r) after; trap = None })
unfolding acted
probe_steps m after r d n b psw (op, tests) sixteen fetch judges codes is =
    let t = paged m.memory m.world in
    let o : Operands = operands_had (outcome t (operands_of d r)) in
    let had = tests t r sixteen in
    let mode : long_of o 0 ≡ number_by n.mode r = had.1.0 in
    let bytes : long_of o 1 ≡ number_by n.bytes r = had.1.1 in
    let base : long_of o 2 ≡ number_by n.base r = had.1.2 in
    let goes : o.r ≡ past_own_bytes n.length r = had.1.3 in
    let found : Meant = meant d.opcode (Probes n.intent o) in
    let acts : outcome t (acted (in_kernel m.world) (seen_psl m.world) d r) ≡ Ok found =
    ap (λ (x : Operation). outcome t (acted_by (in_kernel m.world) (seen_psl m.world) x d r)) op
    ∙ found_on t (operands_of d r) (λ x. Done (meant d.opcode (Probes n.intent x))) o found had.0 refl in
    let judged : real_probe m.memory m.world n.intent (long_of o 0) (long_of o 1) (long_of o 2) ≡ Some b = rw (mode, bytes, base) (sym judges) in
    let settles : settled m.memory m.world (Probes n.intent o) ≡ Ok (quietly (past_own_bytes n.length r) psw) =
    ap (by_judgement n.intent o (psw_of m.world)) judged
    ∙ ap (λ (q : List ℕ). Ok (quietly q (psw_of m.world / 16 * 16 + 4 * bit_of (not b) + psw_of m.world % 2))) goes ∙ ap (λ (k : ℕ). Ok (quietly (past_own_bytes n.length r) k)) (sym codes) in
    found_retires m after r d (Probes n.intent o) (quietly (past_own_bytes n.length r) psw) fetch acts settles is
