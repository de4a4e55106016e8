-- One instruction on two machines, of which the second has the bytes of the first at the places that it reads.
use Rattle.std.proofs.Common.{◌≡◌, ℕ, zero, suc, ◌+◌, ◌/◌, ◌%◌, ◌^◌, Bool, inl, inr, List, [], ◌∷◌, ◌++◌, Option, Some, None, Result, Ok, Err, refl, ap, ◌∙◌, sym, subst}
use Rattle.std.specs.Prelude.{slice_index, slice_set}
use Rattle.vv_base.specs.Width.{size_of}
use Rattle.vax_arch.specs.Fields.{current_of}
use Rattle.vax_arch.specs.declared.mode.Intent.{Intent}
use Rattle.vax_arch.specs.declared.mode.Intent.TheVariants as intents
use Rattle.vax_hw.specs.Machine.{Machine, is_real_bit_clear, machine_space, machine_tables, machine_write_place, place_for, psw_of, retire, seen_psl}
use Rattle.vax_hw.specs.Real.{retired_by_try, in_kernel, carried_out, machine_step, retired_by_probe, retired_with, real_probe}
use Rattle.vax_hw.specs.RealTables.{access_judged, both_judged, place_in, place_or_end}
use Rattle.vax_hw.specs.declared.world.World.{World}
use Rattle.vvmm_laws.specs.Machine.{AreAlike, DependsOnWhatItReads, HasTheSame}
use Rattle.vvmm_laws.specs.Reads.{judged_for, place_if, places_judged, places_read, places_walked, read_for, read_for_all, world_instruction}
use Rattle.vax_table.specs.Claims.{AreAmong, addresses, claims}
use Rattle.vax_table.specs.Effects.{Effect, long_of}
use Rattle.vax_table.specs.Plan.{probed}
use Rattle.vax_table.specs.PlanLaws.{bytes_of_stores}
use Rattle.vax_table.specs.Probing.{last_of, probe_mode}
use Rattle.vax_table.specs.Interaction.{IsIn, Trouble, outcome, reached}
use Rattle.vax_table.specs.Stores.{all_stored, bytes_stored}
use Rattle.vax_table.specs.Trail.{term}
use Rattle.vax_table.specs.Tries.{Tried, first_clear, tried, tried_by, unless_clear}
use Rattle.vax_table.specs.Whole.{Act, Meant, Plain, Probes, Traps, meant}
use Rattle.vax_table.specs.declared.effect.Store.{Store}
use Rattle.vax_table.specs.declared.evaluation.Operands.{Operands}
use Rattle.vax_table.proofs.Among.{among_back, among_front}
use Rattle.vax_table.proofs.Answered.{claims_answered}
use Rattle.vax_table.proofs.Wholes.{exactly_claimed}
use Rattle.vvmm_laws.proofs.Agreeing.{claims_reached, tried_same}
use Rattle.vvmm_laws.proofs.Walked.{byte_same, judged_same, mark_same, narrowed, place_is, place_same}

-- Each address that is asked for.

pub one_among : (m : Machine) (va : ℕ) (vas : List ℕ) → IsIn va vas → AreAmong (read_for m va) (read_for_all m vas)
one_among m va [] h = absurd h
one_among m va (x ∷ vas) (inl e) = subst (λ (y : ℕ). AreAmong (read_for m va) (read_for m y ++ read_for_all m vas)) e (among_front (read_for m va) (read_for_all m vas))
one_among m va (x ∷ vas) (inr h) = λ place g. among_back (read_for m x) (read_for_all m vas) place (one_among m va vas h place g)

-- the other machine's memory, and the first one's registers and tables
abbrev pub over : Machine → List ℕ → Machine
over m memory = record m { memory = memory }

-- what is the same at an address
pub record SameAt (m : Machine) (memory : List ℕ) (va : ℕ) : Type 0 where
  pub byte : (i : Intent) → machine_space (over m memory) i va ≡ machine_space m i va
  pub mark : is_real_bit_clear (over m memory) va ≡ is_real_bit_clear m va
  pub place : place_for (over m memory) intents.Write va ≡ place_for m intents.Write va

same_for : (m : Machine) (memory : List ℕ) (va : ℕ) → HasTheSame (read_for m va) m.memory memory → SameAt m memory va
same_for m memory va h =
    let t = machine_tables m.world in
    let mode = current_of m.world.psl.0 in
    let walked = places_walked m.memory t va in
    let walk = narrowed walked (read_for m va) m.memory memory (among_front walked (place_if (place_in m.memory t mode intents.Read va))) h in
    record {
      byte = λ i. byte_same m.memory memory t mode i va h;
      mark = mark_same m.memory memory t va walk;
      place = place_same m.memory memory t mode intents.Write va walk;
    }

all_same : (m : Machine) (memory : List ℕ) (vas : List ℕ) → HasTheSame (read_for_all m vas) m.memory memory → (va : ℕ) → IsIn va vas → SameAt m memory va
all_same m memory vas h va g = same_for m memory va (narrowed (read_for m va) (read_for_all m vas) m.memory memory (one_among m va vas g) h)

-- Stores.

bytes_same : (p q : ℕ → ℕ) (k a v : ℕ) (memory : List ℕ) → ((va : ℕ) → IsIn va (addresses k a) → q va ≡ p va) → bytes_stored q k a v memory ≡ bytes_stored p k a v memory
bytes_same p q zero a v memory h = refl
bytes_same p q (suc k) a v memory h =
    ap (λ (place : ℕ). bytes_stored q k (a + 1) (v / 256) (slice_set memory place (v % 256))) (h (a % 2 ^ 32) (inl refl))
    ∙ bytes_same p q k (a + 1) (v / 256) (slice_set memory (p (a % 2 ^ 32)) (v % 256)) (λ va g. h va (inr g))

stores_same : (p q : ℕ → ℕ) (xs : List Store) (memory : List ℕ) → ((va : ℕ) → IsIn va (bytes_of_stores xs) → q va ≡ p va) → all_stored q xs memory ≡ all_stored p xs memory
stores_same p q [] memory h = refl
stores_same p q (x ∷ xs) memory h =
    let here = addresses (size_of x.width) x.va in
    ap (all_stored q xs) (bytes_same p q (size_of x.width) x.va x.value memory (λ va g. h va (among_front here (bytes_of_stores xs) va g)))
    ∙ stores_same p q xs (bytes_stored p (size_of x.width) x.va x.value memory) (λ va g. h va (among_back here (bytes_of_stores xs) va g))

-- The outcome of the instruction. The other machine has the first one's registers and tables.

abbrev pub like : Machine → Machine → Machine
like m other = record other { world = m.world }

retired_alike : (m other : Machine) (opcode : ℕ) (e : Effect) → ((va : ℕ) → IsIn va (bytes_of_stores e.writes) → machine_write_place (like m other) va ≡ machine_write_place m va) →
    AreAlike m (like m other) (retired_with m opcode e) (retired_with (like m other) opcode e)
unfolding retire
retired_alike m other opcode e places = record {
  stores = e.writes;
  term = term (slice_index m.world.r 15) opcode e.r;
  first = refl;
  second = ap (λ (memory : List ℕ). record (retire opcode e (like m other)) { memory = memory }) (stores_same (machine_write_place m) (machine_write_place (like m other)) e.writes other.memory places);
  trap = refl;
}

probe_alike : (m other : Machine) (opcode : ℕ) (i : Intent) (o : Operands) (is_judged : Option Bool) → AreAlike m (like m other) (retired_by_probe m opcode i o is_judged) (retired_by_probe (like m other) opcode i o is_judged)
probe_alike m other opcode i o (Some is_accessible) = retired_alike m other opcode (probed is_accessible o (psw_of m.world)) (λ va h. absurd h)
probe_alike m other opcode i o None = refl

judges_same : (m other : Machine) (i : Intent) (o : Operands) → HasTheSame (judged_for m (Probes i o)) m.memory other.memory →
    real_probe other.memory m.world i (long_of o 0) (long_of o 1) (long_of o 2) ≡ real_probe m.memory m.world i (long_of o 0) (long_of o 1) (long_of o 2)
judges_same m other i o h =
    let t = machine_tables m.world in
    let mode = probe_mode m.world.psl.0 (long_of o 0) in
    let base = long_of o 2 in
    let last = last_of (long_of o 2) (long_of o 1 % 2 ^ 16) in
    let first : access_judged other.memory t mode i base ≡ access_judged m.memory t mode i base =
    judged_same m.memory other.memory t mode i base (narrowed (places_walked m.memory t base) (judged_for m (Probes i o)) m.memory other.memory (among_front (places_walked m.memory t base) (places_walked m.memory t last)) h) in
    let second : access_judged other.memory t mode i last ≡ access_judged m.memory t mode i last =
    judged_same m.memory other.memory t mode i last (narrowed (places_walked m.memory t last) (judged_for m (Probes i o)) m.memory other.memory (among_back (places_walked m.memory t base) (places_walked m.memory t last)) h) in
    ap (λ (x : Option Bool). both_judged x (access_judged other.memory t mode i last)) first ∙ ap (λ (x : Option Bool). both_judged (access_judged m.memory t mode i base) x) second

act_alike : (m other : Machine) (opcode : ℕ) (act : Act) → HasTheSame (judged_for m act) m.memory other.memory →
    ((e : Effect) → act ≡ Plain e → (va : ℕ) → IsIn va (bytes_of_stores e.writes) → machine_write_place (like m other) va ≡ machine_write_place m va) →
    AreAlike m (like m other) (carried_out m opcode act) (carried_out (like m other) opcode act)
act_alike m other opcode (Plain e) h places = retired_alike m other opcode e (places e refl)
act_alike m other opcode (Traps t) h places = refl
act_alike m other opcode (Probes i o) h places =
    subst (λ (x : Option Bool). AreAlike m (like m other) (carried_out m opcode (Probes i o)) (retired_by_probe (like m other) opcode i o x)) (sym (judges_same m other i o h))
    (probe_alike m other opcode i o (real_probe m.memory m.world i (long_of o 0) (long_of o 1) (long_of o 2)))

-- what a plain instruction stores it claimed
pub stored_claimed : (m : Machine) (x : Meant) (e : Effect) → outcome (machine_space m) (world_instruction m.world) ≡ Ok x → x.act ≡ Plain e → AreAmong (bytes_of_stores e.writes) (claims (machine_space m) (world_instruction m.world))
stored_claimed m x e is plain va h =
    let script = world_instruction m.world in
    let plainly : outcome (machine_space m) script ≡ Ok (meant x.opcode (Plain e)) = is ∙ ap (λ act. Ok (meant x.opcode act)) plain in
    let claimed : claims (machine_space m) script ≡ bytes_of_stores e.writes = exactly_claimed (in_kernel m.world) (seen_psl m.world) m.world.r (machine_space m) x.opcode e plainly in
    subst (IsIn va) (sym claimed) h

plain_places : (m other : Machine) (x : Meant) → outcome (machine_space m) (world_instruction m.world) ≡ Ok x → ((va : ℕ) → IsIn va (reached (machine_space m) (world_instruction m.world)) → SameAt m other.memory va) →
    (e : Effect) → x.act ≡ Plain e → (va : ℕ) → IsIn va (bytes_of_stores e.writes) → machine_write_place (like m other) va ≡ machine_write_place m va
plain_places m other x is same e plain va h =
    let script = world_instruction m.world in
    let claim = stored_claimed m x e is plain va h in
    let answer = claims_answered (machine_space m) script x is va claim in
    ap (place_or_end other.memory) (same va (claims_reached (machine_space m) script x is va claim)).place ∙ place_is m.memory other.memory answer.0 (place_for m intents.Write va) answer.1

-- by the first clear modify bit, and by the outcome
marked_alike : (m other : Machine) (x : Meant) (marked : Option ℕ) → AreAlike m (like m other) (carried_out m x.opcode x.act) (carried_out (like m other) x.opcode x.act) →
    AreAlike m (like m other) (retired_by_try m (unless_clear x marked)) (retired_by_try (like m other) (unless_clear x marked))
marked_alike m other x None alike = alike
marked_alike m other x (Some va) alike = refl

tried_alike : (m other : Machine) (r : Result Meant Trouble) → outcome (machine_space m) (world_instruction m.world) ≡ r → HasTheSame (places_judged m r) m.memory other.memory →
    ((va : ℕ) → IsIn va (reached (machine_space m) (world_instruction m.world)) → SameAt m other.memory va) → (claimed : List ℕ) →
    AreAlike m (like m other) (retired_by_try m (tried_by (is_real_bit_clear m) claimed r)) (retired_by_try (like m other) (tried_by (is_real_bit_clear m) claimed r))
tried_alike m other (Ok x) is h same claimed = marked_alike m other x (first_clear (is_real_bit_clear m) claimed) (act_alike m other x.opcode x.act h (plain_places m other x is same))
tried_alike m other (Err trouble) is h same claimed = refl

pub each_same : (m other : Machine) → HasTheSame (places_read m) m.memory other.memory → (va : ℕ) → IsIn va (reached (machine_space m) (world_instruction m.world)) → SameAt m other.memory va
unfolding places_read
each_same m other h =
    let vas = reached (machine_space m) (world_instruction m.world) in
    let judges = places_judged m (outcome (machine_space m) (world_instruction m.world)) in
    all_same m other.memory vas (narrowed (read_for_all m vas) (read_for_all m vas ++ judges) m.memory other.memory (among_front (read_for_all m vas) judges) h)

pub judges_there : (m other : Machine) → HasTheSame (places_read m) m.memory other.memory → HasTheSame (places_judged m (outcome (machine_space m) (world_instruction m.world))) m.memory other.memory
unfolding places_read
judges_there m other h =
    let asked = read_for_all m (reached (machine_space m) (world_instruction m.world)) in
    let judges = places_judged m (outcome (machine_space m) (world_instruction m.world)) in
    narrowed judges (asked ++ judges) m.memory other.memory (among_back asked judges) h

whole_alike : (m other : Machine) → HasTheSame (places_read m) m.memory other.memory → AreAlike m (like m other) (machine_step m) (machine_step (like m other))
unfolding machine_step
whole_alike m other h =
    let script = world_instruction m.world in
    let same : (va : ℕ) → IsIn va (reached (machine_space m) script) → SameAt m other.memory va = each_same m other h in
    let alike : tried (machine_space (like m other)) (is_real_bit_clear (like m other)) script ≡ tried (machine_space m) (is_real_bit_clear m) script =
    tried_same (machine_space m) (machine_space (like m other)) (is_real_bit_clear m) (is_real_bit_clear (like m other)) script (λ i va g. (same va g).byte i) (λ va g. (same va g).mark) in
    subst (λ (t : Tried Meant). AreAlike m (like m other) (retired_by_try m (tried (machine_space m) (is_real_bit_clear m) script)) (retired_by_try (like m other) t)) (sym alike)
    (tried_alike m other (outcome (machine_space m) script) refl (judges_there m other h) same (claims (machine_space m) script))

pub depends : DependsOnWhatItReads
depends m other same =
    subst (λ (w : World). AreAlike m (record other { world = w }) (machine_step m) (machine_step (record other { world = w }))) (sym same.world) (whole_alike m other same.bytes)
