-- The lines of a dump, part by part.
use Rattle.std.proofs.Common.{ℕ, suc, ◌≡◌, ◌<◌, ◌≤◌, ◌+◌, ◌-◌, ◌*◌, ◌/◌, List, [], ◌∷◌, ◌++◌, length, take, drop, get_or, refl, sym, ◌∙◌, ap, subst, arith, append_assoc, append-nil, add-one, Bool, true, false, if◌then◌else◌, Result, is_err}
use Rattle.std.proofs.Math.Seq.{drop-cons, drop-length, take-length}
use Rattle.std.proofs.Math.ListN.{drop_of_length-le}
use Rattle.std.proofs.lemmas.List.{drop-drop, drop-take, get_or-drop, get_or-take, length-drop, length-take-le, take-take}
use Rattle.std.proofs.lemmas.Grind.{common_steps}
use Rattle.vv_base.specs.Bytes.{long_at, long_bytes, overwritten}
use Rattle.vm_state.specs.Partition.{part}
use Rattle.sys_guests.proofs.Images.{one_long}
use Rattle.vv_io.specs.Lines.{PutsOn, Seen}
use Rattle.sys_devices.proofs.OneLine.{nothing_shown, put_once}
use Rattle.sys_devices.specs.ShownSince.{ShownSinceOn}
use Rattle.sys_state.specs.Dump.{if_shown, is_shown, register_line, register_lines, row_line, row_lines, text_of_lines}

-- lines after lines
pub text_joined : (xs ys : List (List ℕ)) → text_of_lines (xs ++ ys) ≡ text_of_lines xs ++ text_of_lines ys
text_joined [] ys = refl
text_joined (x ∷ xs) ys = ap (λ (t : List ℕ). (x ++ 13 ∷ 10 ∷ []) ++ t) (text_joined xs ys) ∙ sym (append_assoc (x ++ 13 ∷ 10 ∷ []) (text_of_lines xs) (text_of_lines ys))

-- the first line
pub text_first : (line : List ℕ) (lines : List (List ℕ)) → text_of_lines (line ∷ lines) ≡ text_of_lines (line ∷ []) ++ text_of_lines lines
text_first line lines = text_joined (line ∷ []) lines

-- the next register
pub next_register : (r : List ℕ) (n : ℕ) → n < length r → text_of_lines (register_lines n (drop n r)) ≡ text_of_lines (register_line n (get_or r n 0) ∷ []) ++ text_of_lines (register_lines (n + 1) (drop (n + 1) r))
next_register r n h =
    ap (λ (xs : List ℕ). text_of_lines (register_lines n xs)) (drop-cons r n 0 h) ∙ text_first (register_line n (get_or r n 0)) (register_lines (n + 1) (drop (suc n) r))
    ∙ ap (λ (k : ℕ). text_of_lines (register_line n (get_or r n 0) ∷ []) ++ text_of_lines (register_lines (n + 1) (drop k r))) (sym (add-one n))

pub next_register_of : (r : List ℕ) (n : ℕ) (line : List ℕ) → n < length r → line ≡ register_line n (get_or r n 0) → text_of_lines (register_lines n (drop n r)) ≡ text_of_lines (line ∷ []) ++ text_of_lines (register_lines (n + 1) (drop (n + 1) r))
next_register_of r n line h is = next_register r n h ∙ ap (λ (xs : List ℕ). text_of_lines (xs ∷ []) ++ text_of_lines (register_lines (n + 1) (drop (n + 1) r))) (sym is)

-- after the last register
pub no_register : (r : List ℕ) (n : ℕ) → n ≡ length r → text_of_lines (register_lines n (drop n r)) ≡ []
no_register r n h = ap (λ (k : ℕ). text_of_lines (register_lines n (drop k r))) h ∙ ap (λ (xs : List ℕ). text_of_lines (register_lines n xs)) (drop-length r)

first_shown : (b : Bool) (line : List ℕ) (more : List (List ℕ)) → (if b then line ∷ more else more) ≡ (if b then line ∷ [] else []) ++ more
first_shown true line more = refl
first_shown false line more = refl

-- the next row
pub next_row : (k at : ℕ) (memory : List ℕ) → text_of_lines (row_lines (suc k) at memory) ≡ text_of_lines (if_shown at (take 16 (drop at memory)) []) ++ text_of_lines (row_lines k (at + 16) memory)
next_row k at memory =
    let row = take 16 (drop at memory) in
    ap text_of_lines (first_shown (is_shown row) (row_line at row) (row_lines k (at + 16) memory)) ∙ text_joined (if_shown at row []) (row_lines k (at + 16) memory)

pub next_row_of : (n i : ℕ) (memory row : List ℕ) → i < n → row ≡ take 16 (drop (16 * i) memory) →
    text_of_lines (row_lines (n - i) (16 * i) memory) ≡ text_of_lines (if_shown (16 * i) row []) ++ text_of_lines (row_lines (n - (i + 1)) (16 * (i + 1)) memory)
next_row_of n i memory row h is =
    let count : n - i ≡ suc (n - (i + 1)) = omega arith in
    let place : 16 * i + 16 ≡ 16 * (i + 1) = omega arith in
    ap (λ (k : ℕ). text_of_lines (row_lines k (16 * i) memory)) count ∙ next_row (n - (i + 1)) (16 * i) memory
    ∙ ap (λ (k : ℕ). text_of_lines (if_shown (16 * i) (take 16 (drop (16 * i) memory)) []) ++ text_of_lines (row_lines (n - (i + 1)) k memory)) place
    ∙ ap (λ (xs : List ℕ). text_of_lines (if_shown (16 * i) xs []) ++ text_of_lines (row_lines (n - (i + 1)) (16 * (i + 1)) memory)) (sym is)

-- after the last row
pub no_row : (n i : ℕ) (memory : List ℕ) → n ≤ i → text_of_lines (row_lines (n - i) (16 * i) memory) ≡ []
no_row n i memory h = let none : n - i ≡ 0 = omega arith in ap (λ (k : ℕ). text_of_lines (row_lines k (16 * i) memory)) none

-- a row of a part of the memory
pub row_in : (memory : List ℕ) (base size at : ℕ) → at + 16 ≤ size → take 16 (drop (base + at) memory) ≡ take 16 (drop at (part memory base size))
row_in memory base size at h =
    let whole : at + (size - at) ≡ size = omega arith in
    let enough : 16 ≤ size - at = omega arith in
    sym (
    ap (λ (k : ℕ). take 16 (drop at (take k (drop base memory)))) (sym whole) ∙ ap (λ (xs : List ℕ). take 16 xs) (drop-take at (size - at) (drop base memory))
    ∙ take-take 16 (size - at) (drop at (drop base memory)) enough ∙ ap (λ (xs : List ℕ). take 16 xs) (drop-drop at base memory)
    )

-- how many rows a part has
pub rows_in : (memory : List ℕ) (base pages : ℕ) → base + 512 * pages ≤ length memory → length (part memory base (512 * pages)) / 16 ≡ 32 * pages
rows_in memory base pages h =
    let enough : 512 * pages ≤ length (drop base memory) = omega (arith, length-drop base memory) in
    let size : length (part memory base (512 * pages)) ≡ 512 * pages = length-take-le (512 * pages) (drop base memory) enough in
    ap (λ (k : ℕ). k / 16) size ∙ omega arith

-- the bytes from a place on are the memory's
byte_in : (memory : List ℕ) (at size i : ℕ) → i < size → get_or memory (at + i) 0 ≡ get_or (take size (drop at memory)) i 0
byte_in memory at size i h = sym (get_or-take size (drop at memory) i 0 h ∙ get_or-drop at memory i 0)

byte_after : (memory : List ℕ) (at size i k : ℕ) → i + k < size → get_or memory ((at + i) + k) 0 ≡ get_or (take size (drop at memory)) (i + k) 0
byte_after memory at size i k h =
    let place : (at + i) + k ≡ at + (i + k) = omega arith in
    ap (λ (n : ℕ). get_or memory n 0) place ∙ byte_in memory at size (i + k) h

long_in : (memory : List ℕ) (at size n : ℕ) → n + 4 ≤ size → long_at memory (at + n) ≡ long_at (take size (drop at memory)) n
long_in memory at size n h =
    let a = byte_in memory at size n (omega arith) in
    let b = byte_after memory at size n 1 (omega arith) in
    let c = byte_after memory at size n 2 (omega arith) in
    let d = byte_after memory at size n 3 (omega arith) in
    λ i. a i + 256 * b i + 65536 * c i + 16777216 * d i

front_below : (xs : List ℕ) (size : ℕ) → ((i : ℕ) → get_or xs i 0 < 256) → (i : ℕ) → get_or (take size xs) i 0 < 256
front_below xs size h i = grind (arith, common_steps, h)

bytes_below : (memory : List ℕ) (at size : ℕ) → ((i : ℕ) → get_or memory i 0 < 256) → (i : ℕ) → get_or (take size (drop at memory)) i 0 < 256
bytes_below memory at size h = front_below (drop at memory) size (λ i. subst (λ b. b < 256) (sym (get_or-drop at memory i 0)) (h (at + i)))

-- a row has 16 bytes
row_size : (memory : List ℕ) (at : ℕ) → at + 16 ≤ length memory → length (take 16 (drop at memory)) ≡ 16
row_size memory at h = let enough : 16 ≤ length (drop at memory) = omega (arith, length-drop at memory) in length-take-le 16 (drop at memory) enough

-- one longword more of a row is read
pub row_long : (memory : List ℕ) (at n : ℕ) (cleared row after : List ℕ) (long : ℕ) → at + 16 ≤ length memory → n < 4 → ((i : ℕ) → get_or memory i 0 < 256)
    → row ≡ overwritten cleared 0 (take (4 * n) (take 16 (drop at memory)))
    → long ≡ long_at memory (at + 4 * n)
    → after ≡ overwritten row (4 * n) (long_bytes long)
    → after ≡ overwritten cleared 0 (take (4 * (n + 1)) (take 16 (drop at memory)))
row_long memory at n cleared row after long inside few bytes before is written =
    let xs = take 16 (drop at memory) in
    let size : length xs ≡ 16 = row_size memory at inside in
    let within : 4 * n + 4 ≤ length xs = omega arith in
    let fits : 4 * n + 4 ≤ 16 = omega arith in
    let next : 4 * n + 4 ≡ 4 * (n + 1) = omega arith in
    let from : 4 * n ≡ 0 + 4 * n = omega arith in
    let none : 0 ≤ length cleared = omega arith in
    written ∙ ap (λ (ys : List ℕ). overwritten ys (4 * n) (long_bytes long)) before
    ∙ ap (λ (k : ℕ). overwritten (overwritten cleared 0 (take (4 * n) xs)) k (long_bytes long)) from
    ∙ one_long xs cleared 0 (4 * n) long none (bytes_below memory at 16 bytes) within (is ∙ long_in memory at 16 (4 * n) fits)
    ∙ ap (λ (k : ℕ). overwritten cleared 0 (take k xs)) next

-- all of it is
pub row_whole : (memory : List ℕ) (at n : ℕ) (cleared row : List ℕ) → at + 16 ≤ length memory → 4 ≤ n → n ≤ 4 → length cleared ≡ 16 → row ≡ overwritten cleared 0 (take (4 * n) (take 16 (drop at memory))) → row ≡ take 16 (drop at memory)
row_whole memory at n cleared row inside many few room is =
    let xs = take 16 (drop at memory) in
    let size : length xs ≡ 16 = row_size memory at inside in
    let all : 4 * n ≡ length xs = omega arith in
    let past : length cleared ≤ 0 + length xs = omega arith in
    is ∙ ap (λ (k : ℕ). overwritten cleared 0 (take k xs)) all ∙ ap (λ (ys : List ℕ). overwritten cleared 0 ys) (take-length xs) ∙ ap (λ (ys : List ℕ). xs ++ ys) (drop_of_length-le cleared past) ∙ append-nil xs

-- a put of a line's text
pub shows_line : {U E : Type 0} (k : ℕ) (before after : List Seen) (bytes line : List ℕ) (r : Result U E) → k < length before → bytes ≡ line ++ 13 ∷ 10 ∷ [] → PutsOn k before after bytes r → ShownSinceOn k (is_err r) before after (text_of_lines (line ∷ []))
shows_line k before after bytes line r there is puts = subst (ShownSinceOn k (is_err r) before after) (is ∙ sym (append-nil (line ++ 13 ∷ 10 ∷ []))) (put_once before k after bytes r there puts)

-- a row that isn't shown leaves a line as it is
pub row_left_out : (k at : ℕ) (lines : List Seen) (row : List ℕ) → k < length lines → is_shown row ≡ false → ShownSinceOn k false lines lines (text_of_lines (if_shown at row []))
row_left_out k at lines row there hidden = subst (λ (b : Bool). ShownSinceOn k false lines lines (text_of_lines (if b then row_line at row ∷ [] else []))) (sym hidden) (nothing_shown lines k there)
