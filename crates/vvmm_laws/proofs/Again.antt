-- The second machine's instruction reads the same places.
use Rattle.std.proofs.Common.{◌≡◌, ℕ, ◌%◌, ◌^◌, List, [], ◌∷◌, ◌++◌, Result, Ok, Err, refl, ap, ◌∙◌, sym, subst}
use Rattle.vax_arch.specs.Fields.{current_of}
use Rattle.vax_arch.specs.Walk.{Tables, page_of}
use Rattle.vax_arch.specs.declared.mode.Intent.TheVariants.{Read}
use Rattle.vax_hw.specs.Machine.{Machine, machine_space, machine_tables, place_for}
use Rattle.vax_hw.specs.declared.world.World.{World}
use Rattle.vvmm_laws.specs.Machine.{HasTheSame, ReadsAtTheSamePlaces}
use Rattle.vvmm_laws.specs.Reads.{all_four, found_by, judged_for, mapping_of, place_if, places_judged, places_read, places_walked, read_for, read_for_all, world_instruction}
use Rattle.vax_table.specs.Effects.{long_of}
use Rattle.vax_table.specs.Probing.{last_of}
use Rattle.vax_table.specs.Interaction.{Trouble, outcome, reached}
use Rattle.vax_table.specs.Whole.{Act, Meant, Plain, Probes, Traps}
use Rattle.vax_table.proofs.Among.{among_back, among_front}
use Rattle.vvmm_laws.proofs.Agreeing.{outcome_same, reached_same}
use Rattle.vvmm_laws.proofs.Reading.{each_same, judges_there, like}
use Rattle.vvmm_laws.proofs.Walked.{narrowed, place_same, walk_looks}

walk_again : (memory other : List ℕ) (t : Tables) (va : ℕ) → HasTheSame (places_walked memory t va) memory other → places_walked other t va ≡ places_walked memory t va
walk_again memory other t va h = ap (λ look. all_four (mapping_of t (page_of va) ++ found_by look)) (walk_looks memory other t va h)

one_again : (m other : Machine) (va : ℕ) → HasTheSame (read_for m va) m.memory other.memory → read_for (like m other) va ≡ read_for m va
one_again m other va h =
    let t = machine_tables m.world in
    let walk = narrowed (places_walked m.memory t va) (read_for m va) m.memory other.memory (among_front (places_walked m.memory t va) (place_if (place_for m Read va))) h in
    ap (λ places. places ++ place_if (place_for (like m other) Read va)) (walk_again m.memory other.memory t va walk)
    ∙ ap (λ place. places_walked m.memory t va ++ place_if place) (place_same m.memory other.memory t (current_of m.world.psl.0) Read va walk)

all_again : (m other : Machine) (vas : List ℕ) → HasTheSame (read_for_all m vas) m.memory other.memory → read_for_all (like m other) vas ≡ read_for_all m vas
all_again m other [] h = refl
all_again m other (va ∷ vas) h =
    let here = read_for m va in
    let rest = read_for_all m vas in
    ap (λ places. places ++ read_for_all (like m other) vas) (one_again m other va (narrowed here (here ++ rest) m.memory other.memory (among_front here rest) h))
    ∙ ap (λ places. here ++ places) (all_again m other vas (narrowed rest (here ++ rest) m.memory other.memory (among_back here rest) h))

act_again : (m other : Machine) (act : Act) → HasTheSame (judged_for m act) m.memory other.memory → judged_for (like m other) act ≡ judged_for m act
act_again m other (Plain e) h = refl
act_again m other (Traps t) h = refl
act_again m other (Probes i o) h =
    let t = machine_tables m.world in
    let last = last_of (long_of o 2) (long_of o 1 % 2 ^ 16) in
    let first = places_walked m.memory t (long_of o 2) in
    let second = places_walked m.memory t last in
    ap (λ places. places ++ places_walked other.memory t last) (walk_again m.memory other.memory t (long_of o 2) (narrowed first (first ++ second) m.memory other.memory (among_front first second) h))
    ∙ ap (λ places. first ++ places) (walk_again m.memory other.memory t last (narrowed second (first ++ second) m.memory other.memory (among_back first second) h))

judged_again : (m other : Machine) (r : Result Meant Trouble) → HasTheSame (places_judged m r) m.memory other.memory → places_judged (like m other) r ≡ places_judged m r
judged_again m other (Ok x) h = act_again m other x.act h
judged_again m other (Err trouble) h = refl

whole_again : (m other : Machine) → HasTheSame (places_read m) m.memory other.memory → places_read (like m other) ≡ places_read m
unfolding places_read
whole_again m other h =
    let s = machine_space m in
    let t = machine_space (like m other) in
    let script = world_instruction m.world in
    let asked = read_for_all m (reached s script) in
    let judges = places_judged m (outcome s script) in
    let reaches : reached t script ≡ reached s script = reached_same s t script (λ i va g. (each_same m other h va g).byte i) in
    let comes : outcome t script ≡ outcome s script = outcome_same s t script (λ i va g. (each_same m other h va g).byte i) in
    ap (λ vas. read_for_all (like m other) vas ++ places_judged (like m other) (outcome t script)) reaches
    ∙ ap (λ places. places ++ places_judged (like m other) (outcome t script)) (all_again m other (reached s script) (narrowed asked (asked ++ judges) m.memory other.memory (among_front asked judges) h))
    ∙ ap (λ r. asked ++ places_judged (like m other) r) comes
    ∙ ap (λ places. asked ++ places) (judged_again m other (outcome s script) (judges_there m other h))

pub reads_again : ReadsAtTheSamePlaces
reads_again m other same = subst (λ (w : World). places_read (record other { world = w }) ≡ places_read m) (sym same.world) (whole_again m other same.bytes)
