-- The columns and the words of a line.
use Rattle.std.proofs.Common.{ℕ, zero, suc, ◌≡◌, ◌<◌, ◌≤◌, ◌+◌, ◌-◌, List, [], ◌∷◌, ◌++◌, length, take, drop, replicate, refl, sym, ◌∙◌, ap, arith, append_assoc, append-nil}
use Rattle.std.proofs.lemmas.List.{at_drop_more, get_or-take, length-append, length-replicate, length-take-le}
use Rattle.std.specs.Prelude.{slice_index}
use Rattle.sys_trace.specs.TraceLine.{at_left, at_right, changed_word, register_words}
use Rattle.vasm_text.specs.Printing.{register_text}
use Rattle.vv_base.specs.Digits.{hex_text}

-- as many digits as are asked for
pub hex_long : (digits v : ℕ) → length (hex_text digits v) ≡ digits
hex_long zero v = refl
hex_long (suc digits) v = let rest = hex_long digits v in omega (arith, rest)

pub blanks_all : (width : ℕ) (text : List ℕ) → width ≤ length text → text ≡ at_left width text
blanks_all width text all =
    let none : 0 ≡ width - length text = omega (arith, all) in
    sym (append-nil text) ∙ ap (λ n. text ++ replicate n 32) none

pub left_long : (width : ℕ) (text : List ℕ) → length (at_left width text) ≡ length text + (width - length text)
left_long width text = length-append text (replicate (width - length text) 32) ∙ ap (λ n. length text + n) (length-replicate {A = ℕ} (width - length text) 32)

pub right_by : (width : ℕ) (text : List ℕ) → at_left (width - length text) [] ++ text ≡ at_right width text
right_by width text =
    let same : (width - length text) - 0 ≡ width - length text = omega arith in
    ap (λ n. replicate n 32 ++ text) same

pub right_long : (width : ℕ) (text : List ℕ) → length text ≤ width → length (at_right width text) ≡ width
right_long width text fits =
    let all = length-append (replicate (width - length text) 32) text in
    let blanks : length (replicate (width - length text) 32) ≡ width - length text = length-replicate {A = ℕ} (width - length text) 32 in
    omega (arith, all, blanks, fits)

-- registers from one on
pub registers_more : (n v w : ℕ) (vs ws : List ℕ) → n < length vs → n < length ws → v ≡ slice_index vs n → w ≡ slice_index ws n → register_words n (drop n vs) (drop n ws) ≡ changed_word (register_text n) v w ++ register_words (n + 1) (drop (n + 1) vs) (drop (n + 1) ws)
registers_more n v w vs ws inside within is are =
    at_drop_more (λ xs. register_words n xs (drop n ws)) vs n 0 inside
    ∙ at_drop_more (λ ys. register_words n (slice_index vs n ∷ drop (n + 1) vs) ys) ws n 0 within
    ∙ (λ i. changed_word (register_text n) (sym is i) (sym are i) ++ register_words (n + 1) (drop (n + 1) vs) (drop (n + 1) ws))

pub digits_long : (digits v : ℕ) (text bytes : List ℕ) → text ≡ hex_text digits v → bytes ≡ text → length bytes ≡ digits
digits_long digits v text bytes is same = ap length (same ∙ is) ∙ hex_long digits v

-- the blanks that are left
pub size_by : (width : ℕ) (text now : List ℕ) → width ≤ length now → at_left width now ≡ at_left width text → length now ≡ length text + (width - length text)
size_by width text now all same = ap length (blanks_all width now all ∙ same) ∙ left_long width text

pub column_is : (width : ℕ) (text blanks line : List ℕ) → blanks ≡ at_left (width - length text) [] → line ≡ blanks ++ text → line ≡ at_right width text
column_is width text blanks line a b = b ∙ ap (λ bs. bs ++ text) a ∙ right_by width text

-- a head, part by part
pub head_by : (number kind mode pc text l0 l1 l2 l3 l4 l5 : List ℕ) → l0 ≡ number → length l0 ≡ 6 → l1 ≡ l0 ++ (32 ∷ kind) → l2 ≡ at_left 16 l1 → l3 ≡ l2 ++ (32 ∷ mode) → l4 ≡ l3 ++ (32 ∷ pc) → l5 ≡ l4 ++ (32 ∷ text)
    → l5 ≡ number ++ (32 ∷ at_left 9 kind) ++ (32 ∷ mode) ++ (32 ∷ pc) ++ (32 ∷ text)
head_by number kind mode pc text l0 l1 l2 l3 l4 l5 a six b c d e f =
    let one = length-append l0 (32 ∷ kind) in
    let rest : 16 - length (l0 ++ (32 ∷ kind)) ≡ 9 - length kind = omega (arith, one, six) in
    let column : l2 ≡ number ++ (32 ∷ at_left 9 kind) =
    c ∙ ap (at_left 16) b ∙ ap (λ n. (l0 ++ (32 ∷ kind)) ++ replicate n 32) rest ∙ append_assoc l0 (32 ∷ kind) (replicate (9 - length kind) 32) ∙ ap (λ xs. xs ++ (32 ∷ at_left 9 kind)) a in
    f ∙ ap (λ xs. xs ++ (32 ∷ text)) (e ∙ ap (λ xs. xs ++ (32 ∷ pc)) (d ∙ ap (λ xs. xs ++ (32 ∷ mode)) column))

-- the words, one after another
pub words_by : (a b c d l0 l1 l2 l3 l4 : List ℕ) → l0 ≡ [] → l1 ≡ l0 ++ a → l2 ≡ l1 ++ b → l3 ≡ l2 ++ c → l4 ≡ l3 ++ d → l4 ≡ a ++ (b ++ (c ++ d))
words_by a b c d l0 l1 l2 l3 l4 e f g h i =
    i ∙ ap (λ xs. xs ++ d) (h ∙ ap (λ xs. xs ++ c) (g ∙ ap (λ xs. xs ++ b) (f ∙ ap (λ xs. xs ++ a) e))) ∙ append_assoc (a ++ b) c d ∙ append_assoc a b (c ++ d)

-- the next register
pub registers_next : (n : ℕ) (before after line line' start name : List ℕ) → n < 15 → length before ≡ 16 → length after ≡ 16 → name ≡ register_text n → line' ≡ line ++ changed_word name (slice_index before n) (slice_index after n)
    → line ++ register_words n (drop n (take 15 before)) (drop n (take 15 after)) ≡ start ++ register_words 0 (take 15 before) (take 15 after) → line' ++ register_words (n + 1) (drop (n + 1) (take 15 before)) (drop (n + 1) (take 15 after)) ≡ start ++ register_words 0 (take 15 before) (take 15 after)
registers_next n before after line line' start name few long long' named put so =
    let v = slice_index before n in
    let w = slice_index after n in
    let size = length-take-le 15 before (omega (arith, long)) in
    let size' = length-take-le 15 after (omega (arith, long')) in
    let read : v ≡ slice_index (take 15 before) n = sym (get_or-take 15 before n 0 few) in
    let read' : w ≡ slice_index (take 15 after) n = sym (get_or-take 15 after n 0 few) in
    let more = registers_more n v w (take 15 before) (take 15 after) (omega (arith, size, few)) (omega (arith, size', few)) read read' in
    let rest = register_words (n + 1) (drop (n + 1) (take 15 before)) (drop (n + 1) (take 15 after)) in
    ap (λ xs. xs ++ rest) (put ∙ ap (λ m. line ++ changed_word m v w) named) ∙ append_assoc line (changed_word (register_text n) v w) rest ∙ ap (λ xs. line ++ xs) (sym more) ∙ so
