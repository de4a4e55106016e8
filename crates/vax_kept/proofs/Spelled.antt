-- Kept bytes that are at an address spell the instruction there.
use Rattle.std.proofs.Common.{◌≡◌, ◌⊎◌, inl, inr, ℕ, zero, suc, ◌+◌, ◌%◌, ◌^◌, ◌*◌, ◌<◌, ◌≤◌, arith, List, [], ◌∷◌, ◌++◌, length, take, drop, Result, Ok, Err, refl, ap, sym, ◌∙◌, subst, append_assoc, append-nil, length-append}
use Rattle.std.specs.Prelude.{slice_index}
use Rattle.std.proofs.Math.Seq.{take-append_seam}
use Rattle.std.proofs.lemmas.List.{get_or-drop, get_or-take, length-take}
use Rattle.vax_arch.specs.declared.mode.Intent.TheVariants.{Read}
use Rattle.vax_decode.proofs.RoundTrip.{some_left}
use Rattle.vax_hw.specs.RealTables.{byte_by}
use Rattle.vax_hw.specs.declared.world.World.{World}
use Rattle.vax_table.specs.Fetch.{by_decoding, decided, fetched}
use Rattle.vax_table.specs.Reading.{Decoding, Whole, Short, Unknown, Reserved, IsAnswerFor, decoded_at}
use Rattle.vax_table.specs.Interaction.{Cause, Space, Trouble, by_result, number_at, outcome, with_byte}
use Rattle.vax_table.specs.Spelling.{AreBytes, Instruction, IsWellFormed, Spells}
use Rattle.vax_table.specs.Spelling as spells
use Rattle.vax_table.proofs.Bytes.{AreBytes-from_index}
use Rattle.vax_table.proofs.Instructions.{reading_exact, spelled_again}
use Rattle.vax_table.proofs.Lengths.{spellings_short}
use Rattle.vax_table.proofs.OneSpelling.{rest_same}
use Rattle.vax_paged.specs.Paged.{paged, placed}
use Rattle.vax_paged.proofs.InPage.{next_place}

wants_by : (a : Decoding) (b tail : List ℕ) (d : Instruction) → 0 < length tail → Spells (b ++ tail) d → IsAnswerFor b a → a ≡ Short
wants_by (Whole e rest) b tail d some p t =
    let same = rest_same t.0 (b ++ tail) (rest ++ tail) [] e d t.2 p (sym (append-nil (b ++ tail) ∙ (ap (λ (ys : List ℕ). ys ++ tail) t.1 ∙ append_assoc t.0 rest tail))) in
    absurd (some_left rest tail some same.1)
wants_by Short b tail d some p t = refl
wants_by Unknown b tail d some p t = absurd (t.0.begin tail d p)
wants_by Reserved b tail d some p t = absurd (t.0.begin tail d p)

-- the front of a spelling needs more
wants : (b tail : List ℕ) (d : Instruction) → AreBytes b → 0 < length tail → Spells (b ++ tail) d → decoded_at b ≡ Short
wants b tail d are some p = wants_by (decoded_at b) b tail d some p (reading_exact.tells b are)

one_read : (s : Space) (a b : ℕ) → s Read (a % 2 ^ 32) ≡ Ok b → number_at s Read 1 a ≡ Ok b
one_read s a b e =
    let same : b + 256 * 0 ≡ b = omega arith in
    ap (λ (x : Result ℕ Cause). with_byte Read (a % 2 ^ 32) x (Ok 0)) e ∙ ap (λ (n : ℕ). Ok n) same

one_more : (xs : List ℕ) (b : ℕ) → AreBytes xs → b < 256 → AreBytes (xs ++ b ∷ [])
one_more [] b are small = (small, tt)
one_more (x ∷ xs) b are small = (are.0, one_more xs b are.1 small)

-- Some bytes of a spelling are fetched, and the space has the others.
goes_on : (s : Space) (at n : ℕ) (rest done : List ℕ) (d : Instruction) → length rest < n → AreBytes done → AreBytes rest → Spells (done ++ rest) d →
    ((i : ℕ) → i < length rest → s Read ((at + (length done + i)) % 2 ^ 32) ≡ Ok (slice_index rest i)) → outcome s (decided n at done) ≡ Ok d
unfolding decided
goes_on s at zero rest done d few a are p h = absurd (omega arith)
goes_on s at (suc n) [] done d few a are p h =
    let all : Spells done d = subst (λ (xs : List ℕ). Spells xs d) (append-nil done) p in
    let whole : decoded_at done ≡ Whole d [] = ap decoded_at (sym (append-nil done)) ∙ spelled_again done [] d all in
    ap (λ (x : Decoding). outcome s (by_decoding (decided n at) at done x)) whole
goes_on s at (suc n) (b ∷ rest) done d few a are p h =
    let here : at + (length done + 0) ≡ at + length done = omega arith in
    let more : List ℕ → Result Instruction Trouble = λ xs. outcome s (decided n at xs) in
    ap (λ (x : Decoding). outcome s (by_decoding (decided n at) at done x)) (wants done (b ∷ rest) d a (omega arith) p)
    ∙ ap (λ (r : Result ℕ Trouble). by_result r (λ c. more (done ++ c ∷ [])) Err)
    (one_read s (at + length done) b (subst (λ (k : ℕ). s Read (k % 2 ^ 32) ≡ Ok b) here (h 0 (omega arith))))
    ∙ goes_on s at n rest (done ++ b ∷ []) d (omega arith) (one_more done b a are.0) are.1
    (subst (λ (xs : List ℕ). Spells xs d) (sym (append_assoc done (b ∷ []) rest)) p)
    (λ i low.
    let on : at + (length done + suc i) ≡ at + (length (done ++ b ∷ []) + i) = omega (arith, length-append done (b ∷ [])) in
    subst (λ (k : ℕ). s Read (k % 2 ^ 32) ≡ Ok (slice_index rest i)) on (h (suc i) (omega arith)))

-- what a space has at an address spells the instruction there
spelled_there : (s : Space) (at : ℕ) (front : List ℕ) (d : Instruction) → AreBytes front → Spells front d →
    ((i : ℕ) → i < length front → s Read ((at + i) % 2 ^ 32) ≡ Ok (slice_index front i)) → outcome s (fetched at) ≡ Ok d
unfolding fetched
spelled_there s at front d are p h =
    let short = spellings_short front d p in
    goes_on s at 22 front [] d (omega arith) tt are p
    (λ i low.
    let same : at + i ≡ at + (0 + i) = omega arith in
    subst (λ (k : ℕ). s Read (k % 2 ^ 32) ≡ Ok (slice_index front i)) same (h i low))

later_place : (memory : List ℕ) (w : World) (va p i : ℕ) → va % 512 + i < 512 → placed memory w Read va ≡ Ok p → placed memory w Read (va + i) ≡ Ok (p + i)
later_place memory w va p zero h e = let a : va + 0 ≡ va = omega arith in let b : p ≡ p + 0 = omega arith in ap (placed memory w Read) a ∙ e ∙ ap (λ (n : ℕ). Ok n) b
later_place memory w va p (suc i) h e =
    let a : va + suc i ≡ va + i + 1 = omega arith in
    let b : p + i + 1 ≡ p + suc i = omega arith in
    ap (placed memory w Read) a ∙ next_place memory w Read (va + i) (p + i) (omega arith) (later_place memory w va p i (omega arith) e) ∙ ap (λ (n : ℕ). Ok n) b

-- a byte of the page of an address that has a place
byte_there : (memory : List ℕ) (w : World) (va p i b : ℕ) → va < 2 ^ 32 → va % 512 + i < 512 → placed memory w Read va ≡ Ok p → slice_index memory (p + i) ≡ b → paged memory w Read ((va + i) % 2 ^ 32) ≡ Ok b
byte_there memory w va p i b small h e stands =
    let same : (va + i) % 2 ^ 32 ≡ va + i = omega arith in
    ap (paged memory w Read) same
    ∙ ap (byte_by memory) (later_place memory w va p i h e)
    ∙ ap (λ (n : ℕ). Ok n) stands

taken_small : (n : ℕ) (bytes : List ℕ) → ((i : ℕ) → slice_index bytes i < 256) → (i : ℕ) → slice_index (take n bytes) i < 256
taken_small zero bytes are i = omega arith
taken_small (suc n) [] are i = omega arith
taken_small (suc n) (b ∷ bytes) are zero = are 0
taken_small (suc n) (b ∷ bytes) are (suc i) = taken_small n bytes (λ k. are (suc k)) i

-- the spelling that reading found
spelling_of : (front : List ℕ) (d : Instruction) → AreBytes front → decoded_at front ≡ Whole d [] → Spells front d
spelling_of front d are e =
    let t : IsAnswerFor front (Whole d []) = subst (λ (a : Decoding). IsAnswerFor front a) e (reading_exact.tells front are) in
    subst (λ (xs : List ℕ). Spells xs d) (sym (t.1 ∙ append-nil t.0)) t.2

-- kept bytes that a space has at an address spell the instruction there
kept_in : (s : Space) (pc n : ℕ) (bytes : List ℕ) (d : Instruction) → n ≤ length bytes → ((i : ℕ) → i < n → s Read ((pc + i) % 2 ^ 32) ≡ Ok (slice_index bytes i)) →
    ((i : ℕ) → slice_index bytes i < 256) → decoded_at (take n bytes) ≡ Whole d [] → outcome s (fetched pc) ≡ Ok d
kept_in s pc n bytes d few has are spelled =
    let size : length (take n bytes) ≡ n = omega (arith, length-take n bytes) in
    let bytes_are : AreBytes (take n bytes) = AreBytes-from_index (take n bytes) (taken_small n bytes are) in
    spelled_there s pc (take n bytes) d bytes_are (spelling_of (take n bytes) d bytes_are spelled)
    (λ i low.
    let here : i < n = omega (arith, size, low) in
    has i here ∙ ap (λ (b : ℕ). Ok b) (sym (get_or-take n bytes i 0 here)))

pub kept_there : (memory : List ℕ) (w : World) (pc p n : ℕ) (bytes : List ℕ) (d : Instruction) → pc < 2 ^ 32 → pc % 512 + n ≤ 512 → n ≤ length bytes → placed memory w Read pc ≡ Ok p →
    ((i : ℕ) → i < n → slice_index memory (p + i) ≡ slice_index bytes i) → ((i : ℕ) → slice_index bytes i < 256) → decoded_at (take n bytes) ≡ Whole d [] → outcome (paged memory w) (fetched pc) ≡ Ok d
kept_there memory w pc p n bytes d small h few e stand are spelled =
    kept_in (paged memory w) pc n bytes d few (λ i low. byte_there memory w pc p i (slice_index bytes i) small (omega arith) e (stand i low)) are spelled

-- a number is below another one, or so much above it
below_or_from : (i n : ℕ) → (i < n) ⊎ ((k : ℕ) × (n + k ≡ i))
below_or_from i zero = inr (i, omega arith)
below_or_from zero (suc n) = inl (omega arith)
below_or_from (suc i) (suc n) = elim (below_or_from i n) [ inl low ↦ inl (omega arith) | inr more ↦ inr (more.0, omega (arith, more.1)) ]

-- the same of an instruction over its page's end, whose first bytes lie in one page and the others in the next
pub kept_over : (memory : List ℕ) (w : World) (pc p q first n : ℕ) (bytes : List ℕ) (d : Instruction) → pc < 2 ^ 32 → pc % 512 + first ≡ 512 → n ≤ 24 → n ≤ length bytes →
    placed memory w Read pc ≡ Ok p → placed memory w Read ((pc + first) % 2 ^ 32) ≡ Ok q →
    ((i : ℕ) → i < first → slice_index memory (p + i) ≡ slice_index bytes i) → ((i : ℕ) → first + i < n → slice_index memory (q + i) ≡ slice_index bytes (first + i)) →
    ((i : ℕ) → slice_index bytes i < 256) → decoded_at (take n bytes) ≡ Whole d [] → outcome (paged memory w) (fetched pc) ≡ Ok d
kept_over memory w pc p q first n bytes d small page short few e f low high are spelled =
    kept_in (paged memory w) pc n bytes d few (λ i below. byte i below (below_or_from i first)) are spelled
  where
    byte : (i : ℕ) → i < n → (i < first) ⊎ ((k : ℕ) × (first + k ≡ i)) → paged memory w Read ((pc + i) % 2 ^ 32) ≡ Ok (slice_index bytes i)
    byte i below (inl here) = byte_there memory w pc p i (slice_index bytes i) small (omega arith) e (low i here)
    byte i below (inr above) =
        let k : ℕ = above.0 in
        let is : first + k ≡ i = above.1 in
        let next : ((pc + first) % 2 ^ 32 + k) % 2 ^ 32 ≡ (pc + i) % 2 ^ 32 = omega (arith, is) in
        let start : (pc + first) % 2 ^ 32 % 512 ≡ 0 = omega (arith, page) in
        let all : paged memory w Read (((pc + first) % 2 ^ 32 + k) % 2 ^ 32) ≡ Ok (slice_index bytes (first + k)) =
        byte_there memory w ((pc + first) % 2 ^ 32) q k (slice_index bytes (first + k)) (omega arith) (omega (arith, start, is)) f (high k (omega (arith, is))) in
        sym (ap (paged memory w Read) next) ∙ all ∙ ap (λ (m : ℕ). Ok (slice_index bytes m)) is

-- bytes of a memory that are the same as some are so one by one
pub stands : (n p : ℕ) (memory front : List ℕ) → take n (drop p memory) ≡ front → (i : ℕ) → i < n → slice_index memory (p + i) ≡ slice_index front i
stands n p memory front e i h = sym (get_or-drop p memory i 0) ∙ sym (get_or-take n (drop p memory) i 0 h) ∙ ap (λ (xs : List ℕ). slice_index xs i) e

pub kept_formed : (n : ℕ) (bytes : List ℕ) (d : Instruction) → ((i : ℕ) → slice_index bytes i < 256) → decoded_at (take n bytes) ≡ Whole d [] → IsWellFormed d
kept_formed n bytes d are spelled = (take n bytes, spelling_of (take n bytes) d (AreBytes-from_index (take n bytes) (taken_small n bytes are)) spelled)

-- an instruction has as many bytes as spell it
pub spelled_length : (front : List ℕ) (d : Instruction) → Spells front d → d.length ≡ length front
spelled_length front d (spells.wait e f) = ap (λ (x : Instruction). x.length) f ∙ sym (ap (length {A = ℕ}) e)
spelled_length front d (spells.of_row e opcode rest specs small other row operands is f) = ap (λ (x : Instruction). x.length) f

-- the front of some bytes that reading found
pub spelled_front : (bytes told front rest : List ℕ) (d : Instruction) → bytes ≡ told → told ≡ front ++ rest → Spells front d → decoded_at (take d.length bytes) ≡ Whole d []
spelled_front bytes told front rest d same is p =
    let all : take d.length bytes ≡ front =
    ap (λ (xs : List ℕ). take d.length xs) (same ∙ is) ∙ ap (λ (n : ℕ). take n (front ++ rest)) (spelled_length front d p) ∙ take-append_seam front rest in
    ap decoded_at (all ∙ sym (append-nil front)) ∙ spelled_again front [] d p
