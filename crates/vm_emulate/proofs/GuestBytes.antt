-- Bytes and longwords of a guest, read.
use Rattle.std.proofs.Common.{◌≡◌, ℕ, ◌+◌, ◌*◌, ◌/◌, ◌%◌, ◌^◌, ◌-◌, ◌<◌, ◌≤◌, List, [], ◌∷◌, length, get_or, Option, Ok, Err, refl, ap, ◌∙◌, sym, subst, arith}
use Rattle.std.proofs.lemmas.Nat.{le_bytes_4}
use Rattle.std.specs.Int.{to_le_bytes, w32}
use Rattle.vm_shadow.proofs.Storing.{four_at, four_small, long_from}
use Rattle.vv_base.specs.Bytes.{long_at}
use Rattle.vax_arch.specs.WalkLaws.{AreAligned}
use Rattle.vax_arch.specs.declared.mode.Intent.TheVariants.{Read}
use Rattle.vax_table.specs.Interaction.{Cause, Space, cause_of, number_at, with_byte}
use Rattle.vax_table.specs.Interaction as interaction
use Rattle.vm_emulate.specs.Readings.{AnswersReading, IsByte, unread}
use Rattle.vm_emulate.specs.declared.reading.Unread.{Unread}
use Rattle.vm_emulate.specs.declared.reading.Unread.TheVariants as reasons
use Rattle.vm_exception.proofs.Homes.{FindsInside, finds_inside}
use Rattle.vm_exception.proofs.Pages.{beside}
use Rattle.vm_state.specs.Sensed.{fault_of}
use Rattle.vm_state.specs.State.{Guest, mode_of_state}
use Rattle.vm_state.specs.Translation.{space_of, walk_of, walked_byte, walked_place}
use Rattle.vm_state.specs.declared.walk.MemFault.{MemFault}
use Rattle.vm_state.specs.declared.walk.Walk.{Walk}
use Rattle.vm_state.specs.declared.walk.Walk.TheVariants as walks

-- a byte of a longword
abbrev four_of : List ℕ → ℕ → List ℕ
four_of memory at = get_or memory at 0 ∷ get_or memory (at + 1) 0 ∷ get_or memory (at + 2) 0 ∷ get_or memory (at + 3) 0 ∷ []

pub byte_of_long : (memory : List ℕ) (place : ℕ) → ((p : ℕ) → get_or memory p 0 < 256) → get_or (to_le_bytes w32 (long_at memory (place - place % 4))) (place % 4) 0 ≡ get_or memory place 0
byte_of_long memory place bytes =
    let q = place - place % 4 in
    let four = four_of memory q in
    let l : to_le_bytes w32 (long_at memory q) ≡ four = le_bytes_4 four (long_at memory q) refl (four_small memory q bytes) (long_from (get_or memory q 0) (get_or memory (q + 1) 0) (get_or memory (q + 2) 0) (get_or memory (q + 3) 0)) in
    ap (λ x. get_or x (place % 4) 0) l ∙ four_at memory q (place % 4) (omega arith) ∙ ap (λ x. get_or memory x 0) (omega arith)

-- where a walk finds a byte
pub found_inside : (g : Guest) (va pa : ℕ) (entry table : Option ℕ) → AreAligned g.state.tables → walks.Frame pa entry table ≡ walk_of g va (mode_of_state g.state) Read → pa < length g.memory
found_inside g va pa entry table a e = (subst (FindsInside (length g.memory)) (sym e) (finds_inside g va (mode_of_state g.state) Read a)).0

pub found_byte : (g : Guest) (va pa byte : ℕ) (entry table : Option ℕ) → walks.Frame pa entry table ≡ walk_of g va (mode_of_state g.state) Read → byte ≡ get_or g.memory pa 0 → IsByte g va (Ok byte)
found_byte g va pa byte entry table e b = ap (walked_byte g.memory) (sym e) ∙ ap Ok (sym b)

pub faulty_byte : (g : Guest) (va : ℕ) (f : MemFault) → walks.Fault f ≡ walk_of g va (mode_of_state g.state) Read → IsByte g va (Err (reasons.Faulty f))
faulty_byte g va f e = ((cause_of f.not_valid, ap (walked_byte g.memory) (sym e)), ap fault_of (sym e))

pub past_byte : (g : Guest) (va : ℕ) → walks.Beyond ≡ walk_of g va (mode_of_state g.state) Read → IsByte g va (Err reasons.PastMemory)
past_byte g va e = ((interaction.Past, ap (walked_byte g.memory) (sym e)), ap fault_of (sym e))

-- A longword in one page, by the walk of its first byte.

number_of : (s : Space) (va b0 b1 b2 b3 : ℕ) → s Read (va % 2 ^ 32) ≡ Ok b0 → s Read ((va + 1) % 2 ^ 32) ≡ Ok b1 → s Read ((va + 1 + 1) % 2 ^ 32) ≡ Ok b2 → s Read ((va + 1 + 1 + 1) % 2 ^ 32) ≡ Ok b3 → number_at s Read 4 va ≡ Ok (b0 + 256 * (b1 + 256 * (b2 + 256 * (b3 + 256 * 0))))
number_of s va b0 b1 b2 b3 e0 e1 e2 e3 = λ i. with_byte Read (va % 2 ^ 32) (e0 i) (with_byte Read ((va + 1) % 2 ^ 32) (e1 i) (with_byte Read ((va + 1 + 1) % 2 ^ 32) (e2 i) (with_byte Read ((va + 1 + 1 + 1) % 2 ^ 32) (e3 i) (Ok 0))))

-- a place has its address's byte of the page
pub offset_kept : (g : Guest) (va pa : ℕ) (entry table : Option ℕ) → walks.Frame pa entry table ≡ walk_of g va (mode_of_state g.state) Read → pa % 512 ≡ va % 512
offset_kept g va pa entry table e =
    let p : pa / 512 * 512 + va % 512 ≡ pa = ap (walked_place g.memory) (beside g va va (mode_of_state g.state) Read pa entry table refl e ∙ sym e) in
    omega (arith, p)

-- a byte beside one that is found
byte_beside : (g : Guest) (va pa : ℕ) (entry table : Option ℕ) (k at : ℕ) → va < 2 ^ 32 → va % 512 ≤ 508 → k < 4 → at ≡ va + k → walks.Frame pa entry table ≡ walk_of g va (mode_of_state g.state) Read → space_of g Read (at % 2 ^ 32) ≡ Ok (get_or g.memory (pa + k) 0)
byte_beside g va pa entry table k at small page few is e =
    let here : at % 2 ^ 32 ≡ va + k = omega (arith, small, page, few, is) in
    let same : (va + k) / 512 ≡ va / 512 = omega (arith, page, few) in
    let place : pa / 512 * 512 + (va + k) % 512 ≡ pa + k = omega (arith, page, few, offset_kept g va pa entry table e) in
    ap (space_of g Read) here ∙ ap (walked_byte g.memory) (sym (beside g (va + k) va (mode_of_state g.state) Read pa entry table same e)) ∙ ap (λ p. Ok (get_or g.memory p 0)) place

pub found_long : (g : Guest) (va pa v : ℕ) (entry table : Option ℕ) → va < 2 ^ 32 → va % 512 ≤ 508 → walks.Frame pa entry table ≡ walk_of g va (mode_of_state g.state) Read → v ≡ long_at g.memory pa → AnswersReading g (number_at (space_of g) Read 4 va) (Ok v)
found_long g va pa v entry table small page e is =
    let b0 = get_or g.memory (pa + 0) 0 in let b1 = get_or g.memory (pa + 1) 0 in let b2 = get_or g.memory (pa + 2) 0 in let b3 = get_or g.memory (pa + 3) 0 in
    let n : number_at (space_of g) Read 4 va ≡ Ok (b0 + 256 * (b1 + 256 * (b2 + 256 * (b3 + 256 * 0)))) = number_of (space_of g) va b0 b1 b2 b3
    (byte_beside g va pa entry table 0 va small page (omega arith) (omega arith) e)
    (byte_beside g va pa entry table 1 (va + 1) small page (omega arith) (omega arith) e)
    (byte_beside g va pa entry table 2 (va + 1 + 1) small page (omega arith) (omega arith) e)
    (byte_beside g va pa entry table 3 (va + 1 + 1 + 1) small page (omega arith) (omega arith) e) in
    let long : long_at g.memory pa ≡ b0 + 256 * (b1 + 256 * (b2 + 256 * (b3 + 256 * 0))) = ap (λ p. get_or g.memory p 0 + 256 * b1 + 65536 * b2 + 16777216 * b3) (omega arith) ∙ sum b0 b1 b2 b3 in
    subst (λ x. AnswersReading g x (Ok v)) (sym n) (is ∙ long)
  where
    sum : (b0 b1 b2 b3 : ℕ) → b0 + 256 * b1 + 65536 * b2 + 16777216 * b3 ≡ b0 + 256 * (b1 + 256 * (b2 + 256 * (b3 + 256 * 0)))
    sum b0 b1 b2 b3 = omega arith

-- the first byte's trouble is the longword's
first_trouble : (g : Guest) (va : ℕ) (w : Walk) (c : Cause) (u : Unread) → va < 2 ^ 32 → w ≡ walk_of g va (mode_of_state g.state) Read → walked_byte g.memory w ≡ Err c → fault_of w ≡ unread u → AnswersReading g (number_at (space_of g) Read 4 va) (Err u)
first_trouble g va w c u small e byte fault =
    let here : va % 2 ^ 32 ≡ va = omega (arith, small) in
    let back : walk_of g (va % 2 ^ 32) (mode_of_state g.state) Read ≡ w = ap (λ x. walk_of g x (mode_of_state g.state) Read) here ∙ sym e in
    let b : space_of g Read (va % 2 ^ 32) ≡ Err c = ap (walked_byte g.memory) back ∙ byte in
    let n : number_at (space_of g) Read 4 va ≡ Err (interaction.At c Read (va % 2 ^ 32)) = ap (λ x. with_byte Read (va % 2 ^ 32) x (number_at (space_of g) Read 3 (va + 1))) b in
    subst (λ x. AnswersReading g x (Err u)) (sym n) (ap fault_of back ∙ fault)

pub faulty_long : (g : Guest) (va : ℕ) (f : MemFault) → va < 2 ^ 32 → walks.Fault f ≡ walk_of g va (mode_of_state g.state) Read → AnswersReading g (number_at (space_of g) Read 4 va) (Err (reasons.Faulty f))
faulty_long g va f small e = first_trouble g va (walks.Fault f) (cause_of f.not_valid) (reasons.Faulty f) small e refl refl

pub past_long : (g : Guest) (va : ℕ) → va < 2 ^ 32 → walks.Beyond ≡ walk_of g va (mode_of_state g.state) Read → AnswersReading g (number_at (space_of g) Read 4 va) (Err reasons.PastMemory)
past_long g va small e = first_trouble g va walks.Beyond interaction.Past reasons.PastMemory small e refl refl
