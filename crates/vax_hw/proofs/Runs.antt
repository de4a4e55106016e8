-- Runs of the real machine, one after another.
use Rattle.std.proofs.Common.{◌≡◌, ℕ, zero, suc, ◌+◌, Option, Some, None, Result, Ok, Err, refl, ap, ◌∙◌, sym, arith}
use Rattle.vax_table.specs.Effects.{long_of}
use Rattle.vax_table.specs.Interaction.{Absent, Refusing, Past, Trouble, At, Test}
use Rattle.vax_table.specs.Tries.{Clear, Completes, Stopped, Tried, tried}
use Rattle.vax_table.specs.Whole.{Act, Meant, Plain, Probes, Traps, instruction}
use Rattle.vax_arch.specs.declared.mode.Intent.{Intent}
use Rattle.vax_table.specs.declared.evaluation.Operands.{Operands}
use Rattle.std.specs.Prelude.{Bool}
use Rattle.vax_hw.specs.Machine.{Machine, is_real_bit_clear, machine_space, seen_psl}
use Rattle.vax_hw.specs.Real.{Retired, unless_trapped, retired_by_try, exit_of, going_on, in_kernel, carried_out, misses_after, machine_step, retired_by_probe, real, real_probe}
use Rattle.vax_hw.specs.RealLaws.{RunsGoOn, continued}
use Rattle.vax_hw.specs.declared.world.Exit.{Exit}

-- an instruction that doesn't retire ends the run, whatever is left
abbrev Ends : Result Retired Exit → Type 0
Ends (Ok after) = Unit {0}
Ends (Err e) = (more : ℕ) (m : Machine) → continued more m e ≡ (m, e)

trouble_ends : (t : Trouble) → Ends (Err (exit_of t))
trouble_ends (At Absent i va) = λ more m. refl
trouble_ends (At Refusing i va) = λ more m. refl
trouble_ends (At Past i va) = λ more m. refl
trouble_ends (Test r) = λ more m. refl

probe_ends : (m : Machine) (opcode : ℕ) (i : Intent) (o : Operands) (judged : Option Bool) → Ends (retired_by_probe m opcode i o judged)
probe_ends m opcode i o (Some is_accessible) = tt
probe_ends m opcode i o None = λ more n. refl

act_ends : (m : Machine) (opcode : ℕ) (a : Act) → Ends (carried_out m opcode a)
act_ends m opcode (Plain e) = tt
act_ends m opcode (Traps t) = λ more n. refl
act_ends m opcode (Probes i o) = probe_ends m opcode i o (real_probe m.memory m.world i (long_of o 0) (long_of o 1) (long_of o 2))

try_ends : (m : Machine) (t : Tried Meant) → Ends (retired_by_try m t)
try_ends m (Completes meant) = act_ends m meant.opcode meant.act
try_ends m (Clear va) = λ more n. refl
try_ends m (Stopped trouble) = trouble_ends trouble

one_ends : (m : Machine) → Ends (machine_step m)
unfolding machine_step
one_ends m = try_ends m (tried (machine_space m) (is_real_bit_clear m) (instruction (in_kernel m.world) (seen_psl m.world) m.world.r))

-- after a trap
trap_goes_on : (n more : ℕ) (m : Machine) (trap : Option ℕ) → real (n + more) m ≡ continued more (real n m).0 (real n m).1 →
    unless_trapped (real (n + more)) m trap ≡ continued more (unless_trapped (real n) m trap).0 (unless_trapped (real n) m trap).1
trap_goes_on n more m None e = e
trap_goes_on n more m (Some kind) e = refl

step_goes_on : (n more : ℕ) (m : Machine) (r : Result Retired Exit) → Ends r → ((after : Machine) → real (n + more) after ≡ continued more (real n after).0 (real n after).1) →
    going_on (real (n + more)) m r ≡ continued more (going_on (real n) m r).0 (going_on (real n) m r).1
step_goes_on n more m (Ok after) h next = trap_goes_on n more after.machine after.trap (next after.machine)
step_goes_on n more m (Err e) h next = sym (h more (record m { misses = misses_after m.misses e }))

pub goes_on : RunsGoOn
goes_on zero more m = let same : 0 + more ≡ more = omega arith in ap (λ (k : ℕ). real k m) same
goes_on (suc n) more m =
    let same : suc n + more ≡ suc (n + more) = omega arith in
    ap (λ (k : ℕ). real k m) same ∙ step_goes_on n more m (machine_step m) (one_ends m) (λ after. goes_on n more after)
