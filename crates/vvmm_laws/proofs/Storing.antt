-- An instruction that retires changes memory only at places that it reads.
use Rattle.std.proofs.Common.{◌≡◌, ◌≢◌, ℕ, zero, suc, ◌+◌, ◌/◌, ◌%◌, ◌^◌, Bool, inl, inr, List, [], ◌∷◌, Option, Some, None, Result, Ok, Err, refl, ◌∙◌, sym, subst}
use Rattle.std.specs.Prelude.{slice_index, slice_set}
use Rattle.std.proofs.lemmas.List.{get_or-set_other}
use Rattle.vv_base.specs.Width.{size_of}
use Rattle.vax_arch.specs.Fields.{current_of}
use Rattle.vax_arch.specs.declared.mode.Intent.{Intent}
use Rattle.vax_arch.specs.declared.mode.Intent.TheVariants.{Read, Write}
use Rattle.vax_hw.specs.Machine.{Machine, is_real_bit_clear, machine_space, machine_tables, machine_write_place, place_for, psw_of, retire}
use Rattle.vax_hw.specs.Real.{Retired, carried_out, machine_step, real_probe, retired_by_probe, retired_by_try, retired_with}
use Rattle.vax_hw.specs.RealTables.{byte_by, place_or_end}
use Rattle.vax_hw.specs.declared.world.Exit.{Exit}
use Rattle.vvmm_laws.specs.Machine.{ChangesWhatItReads}
use Rattle.vvmm_laws.specs.Reads.{place_if, places_judged, places_read, places_walked, read_for_all, world_instruction}
use Rattle.vax_table.specs.Claims.{addresses, claims}
use Rattle.vax_table.specs.Effects.{Effect, long_of}
use Rattle.vax_table.specs.Plan.{probed}
use Rattle.vax_table.specs.PlanLaws.{bytes_of_stores}
use Rattle.vax_table.specs.Interaction.{Cause, IsIn, Trouble, outcome, reached}
use Rattle.vax_table.specs.Stores.{all_stored, bytes_stored}
use Rattle.vax_table.specs.Tries.{first_clear, tried_by, unless_clear}
use Rattle.vax_table.specs.Whole.{Act, Meant, Plain, Probes, Traps}
use Rattle.vax_table.specs.declared.effect.Store.{Store}
use Rattle.vax_table.specs.declared.evaluation.Operands.{Operands}
use Rattle.vax_table.proofs.Among.{among_back, among_front}
use Rattle.vax_table.proofs.Answered.{claims_answered}
use Rattle.vvmm_laws.proofs.Agreeing.{claims_reached}
use Rattle.vvmm_laws.proofs.Reading.{one_among, stored_claimed}
use Rattle.vvmm_laws.proofs.Walked.{place_read}

bytes_elsewhere : (p : ℕ → ℕ) (k a v : ℕ) (memory : List ℕ) (place : ℕ) → ((va : ℕ) → IsIn va (addresses k a) → place ≢ p va) → slice_index (bytes_stored p k a v memory) place ≡ slice_index memory place
bytes_elsewhere p zero a v memory place h = refl
bytes_elsewhere p (suc k) a v memory place h =
    bytes_elsewhere p k (a + 1) (v / 256) (slice_set memory (p (a % 2 ^ 32)) (v % 256)) place (λ va g. h va (inr g))
    ∙ get_or-set_other memory (p (a % 2 ^ 32)) place (v % 256) 0 (h (a % 2 ^ 32) (inl refl))

stored_elsewhere : (p : ℕ → ℕ) (xs : List Store) (memory : List ℕ) (place : ℕ) → ((va : ℕ) → IsIn va (bytes_of_stores xs) → place ≢ p va) → slice_index (all_stored p xs memory) place ≡ slice_index memory place
stored_elsewhere p [] memory place h = refl
stored_elsewhere p (x ∷ xs) memory place h =
    let here = addresses (size_of x.width) x.va in
    stored_elsewhere p xs (bytes_stored p (size_of x.width) x.va x.value memory) place (λ va g. h va (among_back here (bytes_of_stores xs) va g))
    ∙ bytes_elsewhere p (size_of x.width) x.va x.value memory place (λ va g. h va (among_front here (bytes_of_stores xs) va g))

-- what is claimed for writing is stored at a place that is read
written_place : (memory : List ℕ) (b : ℕ) (x y : Result ℕ Cause) → byte_by memory x ≡ Ok b → ((place : ℕ) → x ≡ Ok place → y ≡ Ok place) → IsIn (place_or_end memory x) (place_if y)
written_place memory b (Ok place) y e reads = subst (λ (z : Result ℕ Cause). IsIn place (place_if z)) (sym (reads place refl)) (inl refl)
written_place memory b (Err cause) y e reads = absurd (cc)

claimed_read : (m : Machine) (x : Meant) → outcome (machine_space m) (world_instruction m.world) ≡ Ok x → (va : ℕ) → IsIn va (claims (machine_space m) (world_instruction m.world)) → IsIn (machine_write_place m va) (places_read m)
unfolding places_read
claimed_read m x is va claim =
    let script = world_instruction m.world in
    let t = machine_tables m.world in
    let answer = claims_answered (machine_space m) script x is va claim in
    let own = written_place m.memory answer.0 (place_for m Write va) (place_for m Read va) answer.1 (λ place e. place_read m.memory t (current_of m.world.psl.0) Write va place e) in
    let here = among_back (places_walked m.memory t va) (place_if (place_for m Read va)) (machine_write_place m va) own in
    let asked = one_among m va (reached (machine_space m) script) (claims_reached (machine_space m) script x is va claim) (machine_write_place m va) here in
    among_front (read_for_all m (reached (machine_space m) script)) (places_judged m (outcome (machine_space m) script)) (machine_write_place m va) asked

-- Memory elsewhere is kept.

abbrev KeepsElsewhere : Machine → Result Retired Exit → Type 0
KeepsElsewhere m (Ok x) = (place : ℕ) → (IsIn place (places_read m) → ⊥) → slice_index x.machine.memory place ≡ slice_index m.memory place
KeepsElsewhere m (Err e) = Unit {0}

effect_keeps : (m : Machine) (opcode : ℕ) (e : Effect) → ((va : ℕ) → IsIn va (bytes_of_stores e.writes) → IsIn (machine_write_place m va) (places_read m)) → KeepsElsewhere m (retired_with m opcode e)
unfolding retire
effect_keeps m opcode e h place out =
    stored_elsewhere (machine_write_place m) e.writes m.memory place (λ va g same. out (subst (λ (q : ℕ). IsIn q (places_read m)) (sym same) (h va g)))

probe_keeps : (m : Machine) (opcode : ℕ) (o : Operands) (i : Intent) (judged : Option Bool) → KeepsElsewhere m (retired_by_probe m opcode i o judged)
probe_keeps m opcode o i (Some is_accessible) = effect_keeps m opcode (probed is_accessible o (psw_of m.world)) (λ va h. absurd h)
probe_keeps m opcode o i None = tt

act_keeps : (m : Machine) (opcode : ℕ) (act : Act) → ((e : Effect) → act ≡ Plain e → (va : ℕ) → IsIn va (bytes_of_stores e.writes) → IsIn (machine_write_place m va) (places_read m)) → KeepsElsewhere m (carried_out m opcode act)
act_keeps m opcode (Plain e) h = effect_keeps m opcode e (h e refl)
act_keeps m opcode (Traps t) h = tt
act_keeps m opcode (Probes i o) h = probe_keeps m opcode o i (real_probe m.memory m.world i (long_of o 0) (long_of o 1) (long_of o 2))

marked_keeps : (m : Machine) (x : Meant) (marked : Option ℕ) → KeepsElsewhere m (carried_out m x.opcode x.act) → KeepsElsewhere m (retired_by_try m (unless_clear x marked))
marked_keeps m x None h = h
marked_keeps m x (Some va) h = tt

tried_keeps : (m : Machine) (r : Result Meant Trouble) → outcome (machine_space m) (world_instruction m.world) ≡ r → (claimed : List ℕ) → KeepsElsewhere m (retired_by_try m (tried_by (is_real_bit_clear m) claimed r))
tried_keeps m (Ok x) is claimed =
    marked_keeps m x (first_clear (is_real_bit_clear m) claimed) (act_keeps m x.opcode x.act (λ e plain va h. claimed_read m x is va (stored_claimed m x e is plain va h)))
tried_keeps m (Err trouble) is claimed = tt

one_keeps : (m : Machine) → KeepsElsewhere m (machine_step m)
unfolding machine_step
one_keeps m = tried_keeps m (outcome (machine_space m) (world_instruction m.world)) refl (claims (machine_space m) (world_instruction m.world))

pub keeps_elsewhere : ChangesWhatItReads
keeps_elsewhere m x e = subst (KeepsElsewhere m) e (one_keeps m)
