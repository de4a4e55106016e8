-- What the bytes fetched so far decide.
use Rattle.std.proofs.Common.{ℕ, zero, suc, ◌≡◌, ◌<◌, ◌+◌, ◌-◌, ◌%◌, ◌^◌, arith, List, [], ◌∷◌, ◌++◌, length, Result, Ok, Err, ap, ◌∙◌, sym}
use Rattle.vax_arch.specs.declared.mode.Intent.TheVariants.{Read}
use Rattle.vax_decode.specs.Decoding.{IsWhole, IsAnswer}
use Rattle.vax_decode.specs.declared.outcome.Decode.TheVariants.{Fault}
use Rattle.vax_decode.specs.declared.outcome.DecodeFault.{DecodeFault}
use Rattle.vax_decode.specs.declared.outcome.DecodeFault.TheVariants.{Opcode, Addressing}
use Rattle.vax_hw.specs.Real.{exit_of}
use Rattle.vax_hw.specs.declared.world.Exit.{Exit}
use Rattle.vax_hw.specs.declared.world.Exit.TheVariants.{Refused}
use Rattle.vax_kept.specs.Fetched.{exits, refusal_of}
use Rattle.vax_table.specs.declared.act.Refusal.{Refusal}
use Rattle.vax_table.specs.declared.act.Refusal.TheVariants as refusals
use Rattle.vax_table.specs.Fetch.{by_decoding, decided}
use Rattle.vax_table.specs.Reading.{Decoding, Whole, Short, Unknown, Reserved, decoded_at}
use Rattle.vax_table.specs.Interaction.{Interaction, Space, Done, Refuse, Trouble, outcome, by_result, number_at, with_byte}
use Rattle.vax_table.specs.Spelling.{Instruction, view}
use Rattle.vax_table.specs.declared.decoded.Decoded.{Decoded}

whole_by : (more : List ℕ → Interaction Instruction) (at : ℕ) (bytes : List ℕ) (d : Decoded) (a : Decoding) → IsWhole d a → by_decoding more at bytes a ≡ Done (view d)
whole_by more at bytes d (Whole e rest) h = ap Done h
whole_by more at bytes d Short h = absurd h
whole_by more at bytes d Unknown h = absurd h
whole_by more at bytes d Reserved h = absurd h

-- a whole instruction ends the looking
pub whole : (s : Space) (n at : ℕ) (bytes told : List ℕ) (r : Result Instruction Trouble) (d : Decoded) → 0 < n → told ≡ bytes → IsWhole d (decoded_at told) → outcome s (decided n at bytes) ≡ r → Ok (view d) ≡ exits r
unfolding decided
whole s zero at bytes told r d some same h e = absurd (omega arith)
whole s (suc n) at bytes told r d some same h e =
    let here : by_decoding (decided n at) at bytes (decoded_at bytes) ≡ Done (view d) = ap (λ x. by_decoding (decided n at) at bytes (decoded_at x)) (sym same) ∙ whole_by (decided n at) at bytes d (decoded_at told) h in
    ap (λ x. exits (outcome s x)) (sym here) ∙ ap exits e

fault_by : (more : List ℕ → Interaction Instruction) (at : ℕ) (bytes : List ℕ) (f : DecodeFault) (a : Decoding) → IsAnswer (Fault f) a → by_decoding more at bytes a ≡ Refuse (refusal_of f)
fault_by more at bytes Opcode a h = ap (by_decoding more at bytes) h
fault_by more at bytes Addressing a h = ap (by_decoding more at bytes) h

refused : Refusal → Result Instruction Exit
refused k = Err (Refused k)

-- a fault ends it too
pub fault : (s : Space) (n at : ℕ) (refusal : Refusal) (bytes told : List ℕ) (r : Result Instruction Trouble) (f : DecodeFault) → 0 < n → told ≡ bytes → IsAnswer (Fault f) (decoded_at told) → refusal ≡ refusal_of f → outcome s (decided n at bytes) ≡ r → Err (Refused refusal) ≡ exits r
unfolding decided refused
fault s zero at refusal bytes told r f some same h first e = absurd (omega arith)
fault s (suc n) at refusal bytes told r f some same h first e =
    let here : by_decoding (decided n at) at bytes (decoded_at bytes) ≡ Refuse (refusal_of f) = ap (λ x. by_decoding (decided n at) at bytes (decoded_at x)) (sym same) ∙ fault_by (decided n at) at bytes f (decoded_at told) h in
    ap refused first ∙ ap (λ x. exits (outcome s x)) (sym here) ∙ ap exits e

-- and so do looks that are used up
pub no_more : (s : Space) (n at : ℕ) (bytes : List ℕ) (r : Result Instruction Trouble) → n ≡ 0 → outcome s (decided n at bytes) ≡ r → Err (Refused refusals.Instruction) ≡ exits r
unfolding decided
no_more s zero at bytes r none e = ap exits e
no_more s (suc n) at bytes r none e = absurd (omega arith)

wraps : (a : ℕ) → (a % 2 ^ 32) % 2 ^ 32 ≡ a % 2 ^ 32
wraps a = grind arith

wrapped : (s : Space) (place at : ℕ) → place ≡ at % 2 ^ 32 → number_at s Read 1 place ≡ number_at s Read 1 at
wrapped s place at e = let same : place % 2 ^ 32 ≡ at % 2 ^ 32 = ap (λ x. x % 2 ^ 32) e ∙ wraps at in ap (λ x. with_byte Read x (s Read x) (Ok 0)) same

-- where more bytes are needed, one is fetched
short : (s : Space) (n at place : ℕ) (bytes told : List ℕ) → told ≡ bytes → decoded_at told ≡ Short → place ≡ (at + length bytes) % 2 ^ 32 → outcome s (decided (suc n) at bytes) ≡ by_result (number_at s Read 1 place) (λ b. outcome s (decided n at (bytes ++ b ∷ []))) Err
unfolding decided
short s n at place bytes told same h e =
    ap (λ x. outcome s (by_decoding (decided n at) at bytes x)) (ap decoded_at (sym same) ∙ h) ∙ ap (λ x. by_result x (λ b. outcome s (decided n at (bytes ++ b ∷ []))) Err) (sym (wrapped s place (at + length bytes) e))

goes_on : (b : ℕ) (x : Result ℕ Trouble) (f : ℕ → Result Instruction Trouble) → Ok b ≡ exits x → by_result x f Err ≡ f b
goes_on b (Ok c) f h = let same : c ≡ b = cc in ap f same
goes_on b (Err t) f h = cc

stops : (e : Exit) (x : Result ℕ Trouble) (f : ℕ → Result Instruction Trouble) → Err e ≡ exits x → Err e ≡ exits (by_result x f Err)
stops e (Ok c) f h = cc
stops e (Err t) f h = let same : e ≡ exit_of t = cc in let stop : Exit → Result Instruction Exit = λ x. Err x in ap stop same

-- one byte more
pub next : (s : Space) (n at place b : ℕ) (bytes told new : List ℕ) (r : Result Instruction Trouble) → 0 < n → told ≡ bytes → decoded_at told ≡ Short → place ≡ (at + length bytes) % 2 ^ 32 → Ok b ≡ exits (number_at s Read 1 place) → new ≡ bytes ++ b ∷ [] → outcome s (decided n at bytes) ≡ r → outcome s (decided (n - 1) at new) ≡ r
next s zero at place b bytes told new r some same h e byte more is = absurd (omega arith)
next s (suc n) at place b bytes told new r some same h e byte more is =
    let one : suc n - 1 ≡ n = omega arith in
    ap (λ k. outcome s (decided k at new)) one ∙ ap (λ x. outcome s (decided n at x)) more ∙ sym (goes_on b (number_at s Read 1 place) (λ c. outcome s (decided n at (bytes ++ c ∷ []))) byte) ∙ sym (short s n at place bytes told same h e) ∙ is

-- a byte that has trouble
pub stopped : (s : Space) (n at place : ℕ) (bytes told : List ℕ) (x : Exit) (r : Result Instruction Trouble) → 0 < n → told ≡ bytes → decoded_at told ≡ Short → place ≡ (at + length bytes) % 2 ^ 32 → Err x ≡ exits (number_at s Read 1 place) → outcome s (decided n at bytes) ≡ r → Err x ≡ exits r
stopped s zero at place bytes told x r some same h e byte is = absurd (omega arith)
stopped s (suc n) at place bytes told x r some same h e byte is =
    stops x (number_at s Read 1 place) (λ c. outcome s (decided n at (bytes ++ c ∷ []))) byte ∙ ap exits (sym (short s n at place bytes told same h e) ∙ is)
