-- One instruction, by what was found.
use Rattle.std.proofs.Common.{◌≡◌, ℕ, suc, ◌%◌, ◌^◌, Bool, true, List, [], length, Option, Some, None, Result, Ok, Err, refl, ap, sym, ◌∙◌, subst, arith, slice_index}
use Rattle.vax_arch.specs.declared.mode.Intent.{Intent}
use Rattle.vax_hw.specs.Machine.{Machine, is_real_bit_clear, machine_space, psw_of, retire, seen_psl}
use Rattle.vax_hw.specs.Real.{going_on, in_kernel, machine_step, misses_after, real, real_probe, retired_by_probe, retired_by_try}
use Rattle.vax_hw.specs.declared.world.Exit.{Exit}
use Rattle.vax_hw.specs.declared.world.Exit.TheVariants.{Arithmetic}
use Rattle.vv_base.specs.declared.width.Width.TheVariants.{Quad}
use Rattle.vax_table.specs.Arithmetic.{alu_of}
use Rattle.vax_table.specs.declared.answer.AluOp.TheVariants.{Move}
use Rattle.vax_table.specs.Claims.{claims}
use Rattle.vax_table.specs.Effects.{Effect, long_of}
use Rattle.vax_table.specs.PlanLaws.{bytes_of_stores}
use Rattle.vax_table.specs.declared.effect.Store.{Store}
use Rattle.vax_table.specs.declared.evaluation.Operands.{Operands}
use Rattle.vax_table.specs.Fetch.{fetched}
use Rattle.vax_normal.specs.InMemory.{finished, found_in_memory, stored}
use Rattle.vax_normal.specs.Normal.{IsNormal, done_at_once, quietly}
use Rattle.vax_normal.specs.QuadMove.{quad_finished, quad_moved}
use Rattle.vax_normal.specs.declared.in_memory.Found.{Found}
use Rattle.vax_normal.specs.declared.shape.InMemory.{InMemory}
use Rattle.vax_normal.specs.declared.shape.Normal.{Normal}
use Rattle.vax_normal.specs.declared.shape.QuadMove.{QuadMove}
use Rattle.vax_table.specs.Interaction.{AsFar, Done, Space, Trouble, outcome}
use Rattle.vax_table.specs.Spelling.{Instruction}
use Rattle.vax_table.specs.Operations.{operation_of}
use Rattle.vax_table.specs.Plan.{is_planned, plan_of, planned}
use Rattle.vax_table.specs.declared.meaning.Operation.{Operation}
use Rattle.vax_table.specs.declared.meaning.Operation.TheVariants as does
use Rattle.vax_table.proofs.Acted.{instruction_is}
use Rattle.vax_table.proofs.Plans.{plans_planned}
use Rattle.vax_table.proofs.Scripts.{outcome_far}
use Rattle.vax_table.specs.Tries.{first_clear, tried, tried_by, unless_clear}
use Rattle.vax_table.specs.Whole.{Act, Meant, Plain, Probes, Traps, instruction, meant}
use Rattle.vax_table.specs.Acted.{acted, acted_by, plain_meaning}
use Rattle.vax_table.proofs.Tries.{tries_stores}
use Rattle.vax_cpu.specs.Completed.{by_judgement, completed, completed_but_registers, completed_by, retired_by, retired_from, settled, settled_meaning, unless_modified, with_opcode, with_registers}
use Rattle.vax_kept.specs.Fetched.{exits}
use Rattle.vax_paged.specs.Known.{AreKnown, known_space}
use Rattle.vax_paged.specs.Paged.{is_clear_for, paged}
use Rattle.vax_paged.specs.declared.known.Known.{Known}
use Rattle.vax_hw.specs.declared.world.World.{World}
use Rattle.vax_paged.proofs.Knowing.{known_below}
use Rattle.vax_normal.proofs.Touching.{found_on}
use Rattle.vax_cpu.proofs.Quiet.{found_claims}

on_act : (m : Machine) (opcode : ℕ) (a : Act) → outcome (machine_space m) (instruction (in_kernel m.world) (seen_psl m.world) m.world.r) ≡ Ok (meant opcode a) →
    retired_by_try m (tried (machine_space m) (is_real_bit_clear m) (instruction (in_kernel m.world) (seen_psl m.world) m.world.r)) ≡ completed m opcode a
on_act m opcode (Plain e) h = ap (retired_by_try m) (tries_stores (in_kernel m.world) (seen_psl m.world) m.world.r (machine_space m) (is_real_bit_clear m) opcode e h)
on_act m opcode (Traps t) h =
    let none : claims (machine_space m) (instruction (in_kernel m.world) (seen_psl m.world) m.world.r) ≡ [] = found_claims (in_kernel m.world) (seen_psl m.world) m.world.r (machine_space m) (meant opcode (Traps t)) h in
    ap (λ (r : Result Meant Trouble). retired_by_try m (tried_by (is_real_bit_clear m) (claims (machine_space m) (instruction (in_kernel m.world) (seen_psl m.world) m.world.r)) r)) h
    ∙ ap (λ (vas : List ℕ). retired_by_try m (unless_clear (meant opcode (Traps t)) (first_clear (is_real_bit_clear m) vas))) none
on_act m opcode (Probes i o) h =
    let none : claims (machine_space m) (instruction (in_kernel m.world) (seen_psl m.world) m.world.r) ≡ [] = found_claims (in_kernel m.world) (seen_psl m.world) m.world.r (machine_space m) (meant opcode (Probes i o)) h in
    ap (λ (r : Result Meant Trouble). retired_by_try m (tried_by (is_real_bit_clear m) (claims (machine_space m) (instruction (in_kernel m.world) (seen_psl m.world) m.world.r)) r)) h
    ∙ ap (λ (vas : List ℕ). retired_by_try m (unless_clear (meant opcode (Probes i o)) (first_clear (is_real_bit_clear m) vas))) none

on_outcome : (m : Machine) (r : Result Meant Trouble) → outcome (machine_space m) (instruction (in_kernel m.world) (seen_psl m.world) m.world.r) ≡ r →
    retired_by_try m (tried (machine_space m) (is_real_bit_clear m) (instruction (in_kernel m.world) (seen_psl m.world) m.world.r)) ≡ completed_by m (exits r)
on_outcome m (Ok x) h = on_act m x.opcode x.act h
on_outcome m (Err t) h = ap (λ (r : Result Meant Trouble). retired_by_try m (tried_by (is_real_bit_clear m) (claims (machine_space m) (instruction (in_kernel m.world) (seen_psl m.world) m.world.r)) r)) h

pub one_ended : (m : Machine) → machine_step m ≡ completed_by m (exits (outcome (paged m.memory m.world) (instruction (in_kernel m.world) (seen_psl m.world) m.world.r)))
unfolding machine_step
one_ended m = on_outcome m _ refl

by_clear : (m : Machine) (opcode : ℕ) (e : Effect) (x : Option ℕ) → retired_by_try m (unless_clear (meant opcode (Plain e)) x) ≡ retired_by m opcode (unless_modified e x)
by_clear m opcode e None = refl
by_clear m opcode e (Some va) = refl

by_probe : (m : Machine) (opcode : ℕ) (i : Intent) (o : Operands) (x : Option Bool) → retired_by_probe m opcode i o x ≡ retired_by m opcode (by_judgement i o (psw_of m.world) x)
by_probe m opcode i o (Some is_accessible) = refl
by_probe m opcode i o None = refl

completed_settled : (m : Machine) (opcode : ℕ) (a : Act) → completed m opcode a ≡ retired_by m opcode (settled m.memory m.world a)
completed_settled m opcode (Plain e) = by_clear m opcode e (first_clear (is_clear_for m.memory m.world) (bytes_of_stores e.writes))
completed_settled m opcode (Traps t) = refl
completed_settled m opcode (Probes i o) = by_probe m opcode i o (real_probe m.memory m.world i (long_of o 0) (long_of o 1) (long_of o 2))

with_opcode_retired : (m : Machine) (opcode : ℕ) (x : Result Effect Exit) → retired_by m opcode x ≡ retired_from m (with_opcode opcode x)
with_opcode_retired m opcode (Ok e) = refl
with_opcode_retired m opcode (Err x) = refl

meaning_retired : (m : Machine) (x : Result Meant Exit) → completed_by m x ≡ retired_from m (settled_meaning m.memory m.world x)
meaning_retired m (Ok meant) = completed_settled m meant.opcode meant.act ∙ with_opcode_retired m meant.opcode (settled m.memory m.world meant.act)
meaning_retired m (Err e) = refl

by_attempt : (m : Machine) (r : List ℕ) →
    machine_step (with_registers r m) ≡ retired_from (with_registers r m) (settled_meaning m.memory m.world (exits (outcome (paged m.memory m.world) (instruction (in_kernel m.world) (seen_psl m.world) r))))
by_attempt m r = one_ended (with_registers r m) ∙ meaning_retired (with_registers r m) _

-- an instruction that retires by an effect
pub attempt_retires : (m after : Machine) (r : List ℕ) (opcode : ℕ) (x : Effect) →
    Ok (opcode, x) ≡ settled_meaning m.memory m.world (exits (outcome (paged m.memory m.world) (instruction (in_kernel m.world) (seen_psl m.world) r))) →
    after ≡ completed_but_registers (slice_index r 15) opcode x m → machine_step (with_registers r m) ≡ Ok (record { machine = with_registers x.r after; trap = x.trap })
unfolding retire
attempt_retires m after r opcode x h e = by_attempt m r ∙ ap (retired_from (with_registers r m)) (sym h) ∙ rw e refl

-- and one that doesn't retire
pub attempt_stops : (m : Machine) (r : List ℕ) (e : Exit) →
    Err e ≡ settled_meaning m.memory m.world (exits (outcome (paged m.memory m.world) (instruction (in_kernel m.world) (seen_psl m.world) r))) → machine_step (with_registers r m) ≡ Err e
attempt_stops m r e h = by_attempt m r ∙ ap (retired_from (with_registers r m)) (sym h)

-- a run, by its first instruction
pub runs_on : (n : ℕ) (m after : Machine) → machine_step m ≡ Ok (record { machine = after; trap = None }) → real (suc n) m ≡ real n after
runs_on n m after h = ap (going_on (real n) m) h

pub runs_to_trap : (n kind : ℕ) (m after : Machine) → machine_step m ≡ Ok (record { machine = after; trap = Some kind }) → real (suc n) m ≡ (after, Arithmetic kind)
runs_to_trap n kind m after h = ap (going_on (real n) m) h

pub runs_to_stop : (n : ℕ) (m : Machine) (e : Exit) → machine_step m ≡ Err e → real (suc n) m ≡ (record m { misses = misses_after m.misses e }, e)
runs_to_stop n m e h = ap (going_on (real n) m) h

-- An instruction whose outcome is a plan over known pages, whose stores are all modified, retires by it.

pub ok_is : {A : Type 0} (x : A) (r : Result A Trouble) → (let y : Result A Exit = Ok x in y ≡ exits r) → r ≡ Ok x
ok_is x (Ok y) h = let same : y ≡ x = cc in ap (λ z. Ok z) same
ok_is x (Err t) h = cc

as_far : {A : Type 0} (s t : Space) (x : A) (r q : Result A Trouble) → r ≡ Ok x → AsFar s t r q → q ≡ Ok x
as_far s t x r q is far = subst (λ (z : Result _ Trouble). AsFar s t z q) is far

plain_acts : (kernel : Bool) (psl : ℕ) (op : Operation) (d : Instruction) (r : List ℕ) → is_planned op ≡ true → acted_by kernel psl op d r ≡ plain_meaning psl d r
plain_acts kernel psl (does.Sensitive op) d r h = cc
plain_acts kernel psl (does.Probe intent) d r h = cc
plain_acts kernel psl op d r h = refl

-- a plan is what the instruction is found to be
plan_found : (s : Space) (kernel : Bool) (psl : ℕ) (d : Instruction) (r : List ℕ) (e : Effect) → is_planned (operation_of d.opcode) ≡ true →
    outcome s (planned d r (psl % 2 ^ 8)) ≡ Ok e → outcome s (acted kernel psl d r) ≡ Ok (meant d.opcode (Plain e))
unfolding acted
plan_found s kernel psl d r e plain h =
    ap (outcome s) (plain_acts kernel psl (operation_of d.opcode) d r plain)
    ∙ found_on s (plan_of psl d r) (λ x. Done (meant d.opcode (Plain x))) e (meant d.opcode (Plain e)) (ap (outcome s) (plans_planned psl d r plain) ∙ h) refl

-- an instruction that was found over known pages
pub known_found : (memory : List ℕ) (w : World) (ks : List Known) (kernel : Bool) (psl : ℕ) (r : List ℕ) (d : Instruction) (m : Meant) → AreKnown memory w ks →
    Ok d ≡ exits (outcome (paged memory w) (fetched (slice_index r 15))) → Ok m ≡ exits (outcome (known_space memory ks) (acted kernel psl d r)) →
    Ok m ≡ exits (outcome (paged memory w) (instruction kernel psl r))
known_found memory w ks kernel psl r d m all fetch acts =
    let s = known_space memory ks in
    let t = paged memory w in
    let act : outcome t (acted kernel psl d r) ≡ Ok m =
    as_far s t m (outcome s (acted kernel psl d r)) (outcome t (acted kernel psl d r)) (ok_is m (outcome s (acted kernel psl d r)) acts) (outcome_far s t (known_below memory w ks all) (acted kernel psl d r)) in
    let whole : outcome t (instruction kernel psl r) ≡ Ok m =
    ap (outcome t) (instruction_is kernel psl r)
    ∙ found_on t (fetched (slice_index r 15)) (λ x. acted kernel psl x r) d m (ok_is d (outcome t (fetched (slice_index r 15))) fetch) act in
    sym (ap (λ (z : Result Meant Trouble). exits z) whole)

-- the same of MOVPSL and PROBE, by what they are
pub status_found : (memory : List ℕ) (w : World) (ks : List Known) (kernel : Bool) (psl : ℕ) (r : List ℕ) (d : Instruction) (m : Meant) (op : Operation) → AreKnown memory w ks → op ≡ operation_of d.opcode →
    Ok d ≡ exits (outcome (paged memory w) (fetched (slice_index r 15))) → Ok m ≡ exits (outcome (known_space memory ks) (acted_by kernel psl op d r)) →
    Ok m ≡ exits (outcome (paged memory w) (instruction kernel psl r))
unfolding acted
status_found memory w ks kernel psl r d m op all same fetch acts =
    known_found memory w ks kernel psl r d m all fetch (acts ∙ ap (λ x. exits (outcome (known_space memory ks) (acted_by kernel psl x d r))) same)

pub known_settled : (memory : List ℕ) (w : World) (ks : List Known) (kernel : Bool) (psl : ℕ) (r : List ℕ) (d : Instruction) (e : Effect) → AreKnown memory w ks → is_planned (operation_of d.opcode) ≡ true →
    Ok d ≡ exits (outcome (paged memory w) (fetched (slice_index r 15))) → Ok e ≡ outcome (known_space memory ks) (planned d r (psl % 2 ^ 8)) →
    None ≡ first_clear (is_clear_for memory w) (bytes_of_stores e.writes) → Ok (d.opcode, e) ≡ settled_meaning memory w (exits (outcome (paged memory w) (instruction kernel psl r)))
known_settled memory w ks kernel psl r d e all plain fetch plans clear =
    let found : Meant = meant d.opcode (Plain e) in
    let acts : outcome (known_space memory ks) (acted kernel psl d r) ≡ Ok found = plan_found (known_space memory ks) kernel psl d r e plain (sym plans) in
    let whole : Ok found ≡ exits (outcome (paged memory w) (instruction kernel psl r)) = known_found memory w ks kernel psl r d found all fetch (sym (ap (λ (z : Result Meant Trouble). exits z) acts)) in
    sym (ap (settled_meaning memory w) (sym whole) ∙ ap (λ (z : Option ℕ). with_opcode d.opcode (unless_modified e z)) (sym clear))

seen_low : (w : World) → seen_psl w % 2 ^ 8 ≡ psw_of w
seen_low w = omega arith

-- an instruction whose effect over known pages is this, and whose stores are all modified
pub found_steps : (m after : Machine) (ks : List Known) (r : List ℕ) (d : Instruction) (e : Effect) → AreKnown m.memory m.world ks → is_planned (operation_of d.opcode) ≡ true →
    Ok d ≡ exits (outcome (paged m.memory m.world) (fetched (slice_index r 15))) → outcome (known_space m.memory ks) (planned d r (psw_of m.world)) ≡ Ok e → None ≡ first_clear (is_clear_for m.memory m.world) (bytes_of_stores e.writes) →
    after ≡ completed_but_registers (slice_index r 15) d.opcode e m → machine_step (with_registers r m) ≡ Ok (record { machine = with_registers e.r after; trap = e.trap })
found_steps m after ks r d e all plain fetch plans clear is =
    let s : Space = known_space m.memory ks in
    let here : outcome s (planned d r (seen_psl m.world % 2 ^ 8)) ≡ Ok e = ap (λ (k : ℕ). outcome s (planned d r k)) (seen_low m.world) ∙ plans in
    attempt_retires m after r d.opcode e (known_settled m.memory m.world ks (in_kernel m.world) (seen_psl m.world) r d e all plain fetch (sym here) clear) is

-- what was found of an instruction in normal form in memory, with the registers after it
pub effect_found : (n : InMemory) (r q : List ℕ) (x : Found) (ws : List Store) → q ≡ finished n x.value r → stored n.writes r n.width x.value ≡ ws →
    (let e : Effect = record { r = q; psw = x.psw; writes = ws; trap = None } in found_in_memory n r x ≡ e)
effect_found n r q x ws e f =
    ap (λ (ys : List Store). let z : Effect = record { r = finished n x.value r; psw = x.psw; writes = ys; trap = None } in z) f
    ∙ ap (λ (xs : List ℕ). let z : Effect = record { r = xs; psw = x.psw; writes = ws; trap = None } in z) (sym e)

-- what was found of CLRQ or MOVQ in normal form, with the registers and the status word after it
pub quad_found : (n : QuadMove) (r q : List ℕ) (x psw codes : ℕ) (ws : List Store) → q ≡ quad_finished n x r → codes ≡ (alu_of Move x 0 Quad psw).psw → stored n.writes r Quad x ≡ ws →
    (let e : Effect = record { r = q; psw = codes; writes = ws; trap = None } in quad_moved n x r psw ≡ e)
unfolding quad_moved
quad_found n r q x psw codes ws e g f =
    ap (λ (ys : List Store). let z : Effect = record { r = quad_finished n x r; psw = (alu_of Move x 0 Quad psw).psw; writes = ys; trap = None } in z) f
    ∙ ap (λ (m : ℕ). let z : Effect = record { r = quad_finished n x r; psw = m; writes = ws; trap = None } in z) (sym g)
    ∙ ap (λ (xs : List ℕ). let z : Effect = record { r = xs; psw = codes; writes = ws; trap = None } in z) (sym e)

-- an instruction in normal form, in a page that is known
pub at_once_steps : (m after : Machine) (ks : List Known) (r q : List ℕ) (psw : ℕ) (n : Normal) (d : Instruction) → AreKnown m.memory m.world ks → is_planned (operation_of d.opcode) ≡ true →
    Ok d ≡ exits (outcome (paged m.memory m.world) (fetched (slice_index r 15))) → IsNormal n d → length r ≡ 16 → done_at_once n r (psw_of m.world) ≡ quietly q psw →
    after ≡ completed_but_registers (slice_index r 15) d.opcode (quietly q psw) m → machine_step (with_registers r m) ≡ Ok (record { machine = with_registers q after; trap = None })
at_once_steps m after ks r q psw n d all plain fetch normal sixteen done e =
    let plans : outcome (known_space m.memory ks) (planned d r (psw_of m.world)) ≡ Ok (quietly q psw) = normal (known_space m.memory ks) r (psw_of m.world) sixteen ∙ ap (λ (x : Effect). Ok x) done in
    found_steps m after ks r d (quietly q psw) all plain fetch plans refl e
